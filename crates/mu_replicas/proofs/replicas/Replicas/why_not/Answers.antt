use Rattle.std.proofs.Common.{[], ◌∷◌, Some, ◌≡◌, ◌∙◌, refl, sym, subst, ap, arith, length}
use Rattle.std.specs.List.{slice_get}
use Rattle.std.proofs.lemmas.Bool.{ltb-false}
use Rattle.std.proofs.lemmas.Option.{slice_get-get_or}
use Rattle.mu_model.specs.Histories.{part}
use Rattle.mu_model.proofs.Parts.{part_is_possible}
use Rattle.mu_model.specs.declared.reason.Reason.{Reason}
use Rattle.mu_model.specs.Points.{needs}
use Rattle.mu_replicas.proofs.replicas.Replicas.why_not.Goals as goal

pub returns-in-None : goal.returns-in-None
returns-in-None c past legal held =
    let over = ltb-false _ _ (sym c.in-None.ensures.lookup.0) in
    let by = c.args.by in
    let mine = part by past in
    record { before = []; after = Reason.Budget (length mine) ∷ needs c.args.config.now by mine c.args.verb.now; order = refl; met = tt; fails = λ low. omega (arith, over, low, c.from.ensures, held.count, ap length c.deref.ensures.value) }

pub returns-in-Some : goal.returns-in-Some
returns-in-Some c past legal held =
    let item = c.in-Some.ensures.lookup in
    let replica = c.in-Some.replica.now in
    let there = slice_get-get_or c.deref.result.now c.from.result replica item.3.0 ∙ ap Some (sym item.1) in
    let at = subst (λ q. slice_get c.args.self.now.replicas.items q ≡ Some replica) c.from.ensures (subst (λ l. slice_get l c.from.result ≡ Some replica) c.deref.ensures.value there) in
    c.why_not.ensures c.args.by (part c.args.by past) (part_is_possible c.args.config.now c.args.by past legal) (held.each c.args.by replica at)
