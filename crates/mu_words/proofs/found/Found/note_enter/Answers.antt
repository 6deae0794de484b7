use Rattle.std.proofs.Common.{◌∙◌, ap, set, sym, subst}
use Rattle.mu_model.specs.declared.event.Verb.{Verb}
use Rattle.mu_words.specs.Founds.{Notes}
use Rattle.mu_words.proofs.Founds.{entered_found, lost_found}
use Rattle.mu_words.proofs.found.Found.note_enter.Goals as goal

pub returns-in-Entered : goal.returns-in-Entered
returns-in-Entered c r w k mine seen was ready =
    let fixed = c.put_at.ensures ∙ ap (λ at. set c.args.self.now.fixed at c.seen_word-seen.result) c.from.ensures in
    let targets = c.put_at-in-Entered.ensures ∙ ap (λ at. set c.args.self.now.targets at c.args.target) c.from-in-Entered.ensures in
    subst (λ a. Notes r (Verb.Enter c.args.p c.args.target) a w c.args.self.now (record c.args.self.now { fixed = c.put_at.new.items; targets = c.put_at-in-Entered.new.items })) (sym c.in-Entered.is)
    (λ k' mine' seen' was' ready'. entered_found k' r c.args.self.now mine' seen' c.args.p w c.seen_word-seen.result c.args.target c.put_at.new.items c.put_at-in-Entered.new.items fixed targets
    (c.seen_word-seen.ensures k' r mine' seen' was' ready'.0 ready'.1) was') k mine seen was ready

pub returns-in_default : goal.returns-in_default
returns-in_default c r w k mine seen was ready =
    let fixed = c.put_at.ensures ∙ ap (λ at. set c.args.self.now.fixed at c.seen_word-seen.result) c.from.ensures in
    lost_found k r c.args.self.now mine seen c.args.p w c.seen_word-seen.result c.args.target c.args.answer.now c.put_at.new.items fixed c.in_default.not-Entered
    (c.seen_word-seen.ensures k r mine seen was ready.0 ready.1) was
