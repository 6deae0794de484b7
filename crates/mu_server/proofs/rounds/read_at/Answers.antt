use Rattle.std.proofs.Common.{get_or}
use Rattle.std.proofs.lemmas.Option.{slice_get-get_or}
use Rattle.mu_server.proofs.Slots.{serves-at}
use Rattle.mu_server.proofs.rounds.read_at.Goals as goal

pub returns : goal.returns
returns g c = λ life now.
    serves-at _ _ life c.args.connections.now c.args.at (get_or c.args.connections.now c.args.at c.index-connections-at.result) c.read_requests.new.connection
    (slice_get-get_or c.args.connections.now c.args.at c.index-connections-at.result c.requires)
    (c.read_requests.ensures life c.args.at now)
