use Rattle.std.proofs.Common.{subst, sym, ◌≡◌, ℕ}
use Rattle.mu_library.specs.Engines.{Asks, OfHandle}
use Rattle.mu_library.specs.States.{ShowsHold, no_hold}
use Rattle.mu_library.specs.declared.codes.TheConstants.{EMPTY}
use Rattle.mu_library.specs.declared.states.ReplicaHold.{ReplicaHold}
use Rattle.libmu.proofs.engines.mu_engine_hold.Goals as goal

pub returns : goal.returns
returns c =
    let shown : ReplicaHold = c.replica_hold-shown.result in
    (shown, c.of.ensures, subst (λ (s : ℕ). OfHandle (shown ≡ no_hold EMPTY) (Asks (ShowsHold c.args.replica shown)) c.args.engine.now.held c.replica_hold-shown.new.handle.held s) (sym c.from.ensures) c.replica_hold-shown.ensures)
