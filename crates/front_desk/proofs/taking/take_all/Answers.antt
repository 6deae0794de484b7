use Rattle.std.proofs.Common.{ap}
use Rattle.front_desk.proofs.Keeping.{takes}
use Rattle.front_desk.proofs.taking.take_all.Goals as goal

pub try_pop_as-requires-clause-rule : goal.try_pop_as-requires-clause-rule
try_pop_as-requires-clause-rule g c = takes _ _ (ap (λ v. v.takes) c.loop.invariant.hand)
