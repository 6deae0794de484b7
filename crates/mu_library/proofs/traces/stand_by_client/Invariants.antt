-- The commands from this one on decide, with the client of the one before.
use Rattle.std.proofs.Common.{◌≡◌, drop}
use Rattle.mu_library.specs.Engines.{stand_by_client}
use Rattle.mu_library.proofs.traces.stand_by_client.Given as goal

abbrev pub invariant-loop-command : goal.invariant-loop-command
invariant-loop-command l = stand_by_client l.least (drop l.command-index l.commands) ≡ stand_by_client 0 l.commands
