use Rattle.std.proofs.Common.{◌≡◌, ◌∙◌, ◌<◌, Some, ap, arith, subst, true}
use Rattle.std.specs.Prelude.{min, nat_lt}
use Rattle.std.proofs.lemmas.Bool.{lt-ltb}
use Rattle.mu_model.specs.declared.event.Verb.{Verb}
use Rattle.mu_model.specs.Contents.{IsConfig}
use Rattle.mu_model.specs.Knowledge.{has_entry, known}
use Rattle.mu_model.specs.Regions.{region_head}
use Rattle.mu_agree.proofs.Within.{known_few}
use Rattle.mu_knowledge.proofs.Fetched.{front_fits}
use Rattle.mu_follow.specs.Due.{own_fuo}
use Rattle.mu_follow.proofs.follow.Follow.raise_of_head.Goals as goal

pub returns-then-from-head : goal.returns-then-from-head
returns-then-from-head c k r mine possible held =
    let handed = c.args.self.now.progress.handed in
    let few = known_few k r mine (subst (λ x. IsConfig x) held.config c.requires.config) possible in
    let fits = front_fits (λ v. has_entry k r v mine) (known k r mine) in
    let within = held.progress.handed in
    let own = c.own_head.ensures r mine held.heads in
    let same : c.min-head.result ≡ min handed (own_fuo r mine) = c.min-head.ensures ∙ ap (λ f. min handed f) held.progress.fuo in
    let more : region_head r mine < min handed (own_fuo r mine) = omega (arith, c.if-from-head.true, same, own, c.from.ensures) in
    let above : nat_lt (region_head r mine) (min handed (own_fuo r mine)) ≡ true = lt-ltb (region_head r mine) (min handed (own_fuo r mine)) more in
    rw above (ap (λ h. Some (Verb.RaiseHead h)) (c.as_position.ensures (omega (arith, few, fits, within, same)) ∙ same))
