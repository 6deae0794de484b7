use Rattle.std.proofs.Common.{append-nil, append_assoc, arith}
use Rattle.std.proofs.lemmas.Grind.{common_steps}
use Rattle.mu_model.specs.declared.script.Stop.{Stop}
use Rattle.mu_input.proofs.StopsAndPauses.{stops_of-more}
use Rattle.mu_input.proofs.scripts.push_stops_of.Goals as goal

pub loop-stop-preserved : goal.loop-stop-preserved
loop-stop-preserved c =
    let none : Stop = record { replica = 0; steps = 0 } in
    let more = stops_of-more c.args.replica c.args.stops.now c.loop-stop.stop-index none (omega arith) in
    grind (arith, common_steps, more, append-nil, append_assoc, c.loop-stop.invariant)
