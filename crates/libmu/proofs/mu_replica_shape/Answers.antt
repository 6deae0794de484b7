use Rattle.std.proofs.Common.{refl, subst, sym, ◌≡◌, ℕ}
use Rattle.mu_library.specs.declared.shown.Show.{Show}
use Rattle.mu_library.specs.Replicas.{AsksReplica, Five, OfReplica, Shows, five_of, three}
use Rattle.libmu.proofs.mu_replica_shape.Goals as goal

pub returns : goal.returns
returns c =
    let each : Five = five_of c.show_numbers-shown.result in
    (each, refl, refl, subst (λ (s : ℕ). OfReplica (each ≡ three 0 0 0) (AsksReplica (Shows Show.Shape each)) c.args.replica.now.held c.show_numbers-shown.new.handle.held s) (sym c.from.ensures) c.show_numbers-shown.ensures)
