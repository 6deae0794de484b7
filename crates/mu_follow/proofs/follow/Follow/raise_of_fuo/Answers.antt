use Rattle.std.proofs.Common.{◌≡◌, ◌∙◌, ◌<◌, ◌≤◌, List, Some, ap, arith, false, length, refl, subst, true, ℕ}
use Rattle.std.specs.Prelude.{min, nat_lt}
use Rattle.std.proofs.lemmas.Bool.{le-ltb, lt-ltb}
use Rattle.mu_model.specs.declared.config.Config.{Config}
use Rattle.mu_model.specs.declared.event.Event.{Event}
use Rattle.mu_model.specs.declared.event.Verb.{Verb}
use Rattle.mu_model.specs.Contents.{IsConfig}
use Rattle.mu_model.specs.Knowledge.{known}
use Rattle.mu_agree.proofs.Within.{known_few}
use Rattle.mu_knowledge.specs.FilledLog.{IsFilledTo}
use Rattle.mu_follow.specs.Due.{filled_known, own_fuo}
use Rattle.mu_follow.proofs.Due.{filled_known_is}
use Rattle.mu_follow.proofs.follow.Follow.raise_of_fuo.Goals as goal

same_end : (c : Config) (r n end least : ℕ) (mine : List Event) → IsFilledTo c r r mine n → end ≡ length (known c r mine) → least ≡ min n end → least ≡ filled_known c r mine
same_end c r n end least mine to is small = small ∙ ap (λ e. min n e) is ∙ filled_known_is c r n mine to

pub returns-then-self-filled : goal.returns-then-self-filled
returns-then-self-filled c k r mine possible held =
    let good = subst (λ x. IsConfig x) held.config c.requires.config in
    let few = known_few k r mine good possible in
    let own = held.replica in
    let end = c.end.ensures k r mine possible held in
    let same : c.min-filled.result ≡ filled_known k r mine = same_end k r c.filled_to.result c.from.result c.min-filled.result mine (c.filled_to.ensures k r r mine held.own_log) (c.from.ensures ∙ end) c.min-filled.ensures in
    let more : own_fuo r mine < filled_known k r mine = omega (arith, c.if-self-filled.true, same, held.progress.fuo) in
    let above : nat_lt (own_fuo r mine) (filled_known k r mine) ≡ true = lt-ltb (own_fuo r mine) (filled_known k r mine) more in
    let low : c.min-filled.result < 65536 = omega (arith, few, end, c.from.ensures, c.min-filled.ensures) in
    rw above (rw own (ap (λ h. Some (Verb.RaiseFuo r h)) (c.as_position.ensures low ∙ same)))

pub returns-else-self-filled : goal.returns-else-self-filled
returns-else-self-filled c k r mine possible held =
    let end = c.end.ensures k r mine possible held in
    let same : c.min-filled.result ≡ filled_known k r mine = same_end k r c.filled_to.result c.from.result c.min-filled.result mine (c.filled_to.ensures k r r mine held.own_log) (c.from.ensures ∙ end) c.min-filled.ensures in
    let less : filled_known k r mine ≤ own_fuo r mine = omega (arith, c.if-self-filled.false, same, held.progress.fuo) in
    let under : nat_lt (own_fuo r mine) (filled_known k r mine) ≡ false = le-ltb (own_fuo r mine) (filled_known k r mine) less in
    rw under refl
