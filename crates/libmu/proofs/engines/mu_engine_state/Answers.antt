use Rattle.std.proofs.Common.{subst, sym, ◌≡◌, ℕ}
use Rattle.mu_library.specs.Engines.{Asks, OfHandle}
use Rattle.mu_library.specs.States.{ShowsState, no_state}
use Rattle.mu_library.specs.declared.codes.TheConstants.{EMPTY}
use Rattle.mu_library.specs.declared.states.EngineState.{EngineState}
use Rattle.libmu.proofs.engines.mu_engine_state.Goals as goal

pub returns : goal.returns
returns c =
    let shown : EngineState = c.engine_state-shown.result in
    (shown, c.of.ensures, subst (λ (s : ℕ). OfHandle (shown ≡ no_state EMPTY) (Asks (ShowsState shown)) c.args.engine.now.held c.engine_state-shown.new.handle.held s) (sym c.from.ensures) c.engine_state-shown.ensures)
