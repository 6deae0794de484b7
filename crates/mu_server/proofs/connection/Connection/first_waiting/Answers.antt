use Rattle.std.proofs.Common.{rules}
use Rattle.mu_server.proofs.Lists.{front-drop}
use Rattle.mu_server.proofs.connection.Connection.first_waiting.Goals as goal

pub returns-in-Some : goal.returns-in-Some
returns-in-Some c = front-drop _ _ (search rules) c.in-Some.ensures.lookup
