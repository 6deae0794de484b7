use Rattle.std.proofs.Common.{◌∙◌, ap, arith}
use Rattle.std.proofs.lemmas.Bool.{lt-ltb}
use Rattle.mu_cluster.specs.Pauses.{is_sooner}
use Rattle.mu_cluster.proofs.pauses.rounds_at.Goals as goal

pub returns-in_default : goal.returns-in_default
returns-in_default c pauses r was =
    let late = (was.next c.in-Some.pause c.in-Some.is).0 in
    was.left c.args.taken (omega arith) (ap (is_sooner c.args.taken) c.in-Some.is ∙ lt-ltb c.args.taken c.in-Some.pause.steps (omega (arith, late, c.if-pause-taken.false)))
