use Rattle.std.proofs.Common.{arith}
use Rattle.mu_model.specs.Histories.{history}
use Rattle.mu_model.proofs.Budgets.{part_within_budget}
use Rattle.mu_serve.proofs.closing.stops_so_far.Goals as goal

pub overflow_cast-steps_of : goal.overflow_cast-steps_of
overflow_cast-steps_of c =
    let at = c.requires.moment in
    let past = history c.args.events.now in
    let few = part_within_budget c.args.engine.now.job.config c.loop-replica.replica past at.legal in
    omega (arith, few, c.steps_of.ensures, at.config.budget)
