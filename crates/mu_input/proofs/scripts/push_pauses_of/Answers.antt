use Rattle.std.proofs.Common.{append-nil, append_assoc, arith}
use Rattle.std.proofs.lemmas.Grind.{common_steps}
use Rattle.mu_model.specs.declared.script.Pause.{Pause}
use Rattle.mu_input.proofs.StopsAndPauses.{pauses_of-more}
use Rattle.mu_input.proofs.scripts.push_pauses_of.Goals as goal

pub loop-pause-preserved : goal.loop-pause-preserved
loop-pause-preserved c =
    let none : Pause = record { replica = 0; steps = 0; rounds = 0 } in
    let more = pauses_of-more c.args.replica c.args.pauses.now c.loop-pause.pause-index none (omega arith) in
    grind (arith, common_steps, more, append-nil, append_assoc, c.loop-pause.invariant)
