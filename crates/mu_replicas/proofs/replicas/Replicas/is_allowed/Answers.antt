use Rattle.std.proofs.Common.{Some, ◌≡◌, ◌∙◌, sym, subst, ap, arith, length}
use Rattle.std.specs.List.{slice_get}
use Rattle.std.proofs.lemmas.Bool.{false≢true, ltb-false}
use Rattle.std.proofs.lemmas.Option.{slice_get-get_or}
use Rattle.mu_model.specs.Histories.{part}
use Rattle.mu_model.proofs.Parts.{part_is_possible}
use Rattle.mu_model.proofs.Reasons.{met_where_allowed}
use Rattle.mu_replicas.proofs.replicas.Replicas.is_allowed.Goals as goal

pub returns-in-None : goal.returns-in-None
returns-in-None c past legal held =
    let over = ltb-false _ _ (sym c.in-None.ensures.lookup.0) in (
      λ t. absurd (false≢true t),
      λ may. let low = may.replica in absurd (omega (arith, over, low, c.from.ensures, held.count, ap length c.deref.ensures.value)),
    )

pub returns-in-Some : goal.returns-in-Some
returns-in-Some c past legal held =
    let k = c.args.config.now in
    let by = c.args.by in
    let item = c.in-Some.ensures.lookup in
    let replica = c.in-Some.replica.now in
    let there = slice_get-get_or c.deref.result.now c.from.result replica item.3.0 ∙ ap Some (sym item.1) in
    let at = subst (λ q. slice_get c.args.self.now.replicas.items q ≡ Some replica) c.from.ensures (subst (λ l. slice_get l c.from.result ≡ Some replica) c.deref.ensures.value there) in
    let told = c.is_allowed.ensures by (part by past) (part_is_possible k by past legal) (held.each by replica at) in
    let allowed = met_where_allowed k by (part by past) c.args.verb.now in
    (λ t. allowed.0 (told.0 t), λ may. told.1 (allowed.1 may))
