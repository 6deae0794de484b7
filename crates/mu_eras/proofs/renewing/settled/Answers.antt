use Rattle.std.proofs.Common.{◌≡◌, ◌∙◌, ◌<◌, Some, ap, arith, length, sym}
use Rattle.std.specs.Coded.{Coded-set, coded_ℕ}
use Rattle.std.specs.List.{slice_get}
use Rattle.std.proofs.Math.Logic.{∥∥₁_elim}
use Rattle.std.proofs.lemmas.Option.{slice_get-get_or}
use Rattle.mu_eras.proofs.Wholes.{settles}
use Rattle.mu_eras.proofs.renewing.settled.Goals as goal

pub returns-then-not-hold_of : goal.returns-then-not-hold_of
returns-then-not-hold_of c =
    let same = ap (λ k. k.replicas) c.config.ensures.config in
    let inside : c.loop-r.r < length c.args.present.now.engine.holds = omega (arith, c.loop-r-test.true, c.config.ensures.replicas, same) in
    let low : c.loop-r.r < c.args.present.now.engine.job.config.replicas = omega (arith, c.loop-r-test.true, same) in
    let stores = c.args.present.now.stores.items in
    let a = c.index.result.now in
    let at : slice_get stores c.from.result ≡ Some a = slice_get-get_or stores c.from.result a (omega (arith, inside, c.from.ensures, c.requires.count)) ∙ ap (λ x. Some x) (sym c.index.ensures) in
    let there : slice_get stores c.loop-r.r ≡ Some a = ap (slice_get stores) (sym c.from.ensures) ∙ at in
    record {
      inside = inside;
      low = low;
      all = ∥∥₁_elim c.requires.stores (Coded-set coded_ℕ _ _) (λ h.
          settles h.0 c.args.present.now.engine c.loop-r.r a c.events.ensures.moment (h.1 c.loop-r.r a there) (c.if-whole.true ∙ ap length c.commands-count.ensures));
    }
