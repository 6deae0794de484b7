use Rattle.std.proofs.Common.{subst}
use Rattle.mu_engine.specs.Live.{Live}
use Rattle.mu_library.specs.Engines.{TracesLive}
use Rattle.mu_library.proofs.OfCalls.{asks_engine}
use Rattle.mu_library.proofs.telling.trace_in.Goals as goal

pub returns-in-Engine : goal.returns-in-Engine
returns-in-Engine c =
    asks_engine _ _ _ _ _ c.in-Engine.is (subst (λ (live : Live). TracesLive c.args.out.now c.put_trace.new.out c.put_trace.result.taken live c.put_trace.result.status) c.present.ensures c.put_trace.ensures)
