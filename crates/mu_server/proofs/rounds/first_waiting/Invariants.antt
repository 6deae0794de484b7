use Rattle.std.proofs.Common.{◌≡◌, ◌<◌, ℕ, [], None, Some}
use Rattle.std.specs.List.{slice_get}
use Rattle.mu_server.specs.declared.connection.Connection.{Connection}
use Rattle.mu_server.proofs.rounds.first_waiting.Given as goal

abbrev pub invariant-all : goal.invariant-all
invariant-all l = l.first ≡ None → (j : ℕ) (connection : Connection) → j < l.k → slice_get l.connections j ≡ Some connection → connection.waiting.items ≡ []
