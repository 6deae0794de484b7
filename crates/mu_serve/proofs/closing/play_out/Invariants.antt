-- The rounds so far.
use Rattle.mu_serve.specs.Sessions.{IsAfter}
use Rattle.mu_serve.proofs.closing.play_out.Given as goal

abbrev pub invariant-loop : goal.invariant-loop
invariant-loop l = IsAfter l.counter l.initial.engine l.engine
