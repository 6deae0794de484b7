use Rattle.std.proofs.Common.{refl, subst}
use Rattle.mu_engine.specs.Live.{Live}
use Rattle.mu_library.specs.States.{HasState}
use Rattle.mu_library.proofs.OfCalls.{asks_engine}
use Rattle.mu_library.proofs.states.hold_in.Goals as goal

pub returns-in-Engine : goal.returns-in-Engine
returns-in-Engine c =
    let shown = c.hold_of.result in
    asks_engine _ _ _ _ _ c.in-Engine.is (refl, subst (λ (live : Live). HasState c.args.replica shown live) c.present.ensures c.hold_of.ensures)
