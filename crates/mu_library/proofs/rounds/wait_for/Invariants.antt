use Rattle.mu_library.specs.Waiting.{PlaysRounds}
use Rattle.mu_library.proofs.rounds.wait_for.Given as goal

abbrev pub invariant-loop : goal.invariant-loop
invariant-loop l = PlaysRounds l.counter l.fn.eras l.eras
