use Rattle.std.proofs.Common.{get_or}
use Rattle.std.proofs.lemmas.Option.{slice_get-get_or}
use Rattle.mu_server.proofs.Slots.{one-now, serves-at}
use Rattle.mu_server.proofs.rounds.tell_at.Goals as goal

pub returns-in_err-tell_replies : goal.returns-in_err-tell_replies
returns-in_err-tell_replies g c = λ life now.
    serves-at _ _ life c.args.connections.now c.args.at (get_or c.args.connections.now c.args.at c.index-connections-at.result) c.tell_replies.new.connection
    (slice_get-get_or c.args.connections.now c.args.at c.index-connections-at.result c.requires)
    (one-now _ _ life c.args.at _ _ now (λ session holds. c.tell_replies.ensures life c.args.at session now holds))

pub returns : goal.returns
returns g c = λ life now.
    serves-at _ _ life c.args.connections.now c.args.at (get_or c.args.connections.now c.args.at c.index-connections-at.result) c.tell_replies.new.connection
    (slice_get-get_or c.args.connections.now c.args.at c.index-connections-at.result c.requires)
    (one-now _ _ life c.args.at _ _ now (λ session holds. c.tell_replies.ensures life c.args.at session now holds))
