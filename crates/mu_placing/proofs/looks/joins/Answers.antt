use Rattle.std.proofs.Common.{◌≡◌, rules, refl, true, ◌==◌}
use Rattle.mu_model.specs.declared.event.Answer.{Answer}
use Rattle.mu_model.specs.declared.event.Verb.{Verb}
use Rattle.mu_agree.proofs.Within.{puts_within}
use Rattle.mu_placing.proofs.looks.joins.Goals as goal

pub returns-then-event-r : goal.returns-then-event-r
returns-then-event-r c k mine few possible held =
    let is : c.args.event.now.verb ≡ Verb.PutMin c.in-PutMin-Done.p c.in-PutMin-Done.field-1-0 = search rules in
    let done : c.args.event.now.answer ≡ Answer.Done = search rules in
    let own : (c.args.event.now.by == c.args.r) ≡ true = search rules in
    let member = c.is_member.ensures c.args.r mine (puts_within k c.args.r c.in-PutMin-Done.p c.in-PutMin-Done.field-1-0 mine c.args.event.now few possible is) held in
    rw (is, done, own, member) refl
