use Rattle.lone_replica.proofs.Adding.{in_turn_held}
use Rattle.lone_replica.proofs.replica.Replica.commits.Goals as goal

pub returns : goal.returns
returns c k own stands =
    let replica = c.args.self.now in
    c.commits.ensures k replica.id own.0 (in_turn_held k replica.id own replica.accesses.shape replica.node replica.due stands.node).beside
