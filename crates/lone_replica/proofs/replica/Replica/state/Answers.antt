use Rattle.lone_replica.proofs.Adding.{in_turn_held}
use Rattle.lone_replica.proofs.replica.Replica.state.Goals as goal

pub returns-clause-steps : goal.returns-clause-steps
returns-clause-steps c k own stands =
    let replica = c.args.self.now in
    c.steps.ensures k replica.id own.0 (in_turn_held k replica.id own replica.accesses.shape replica.node replica.due stands.node).beside

pub returns-clause-leader : goal.returns-clause-leader
returns-clause-leader c k own stands =
    let replica = c.args.self.now in
    c.leader.ensures k replica.id own.0 (in_turn_held k replica.id own replica.accesses.shape replica.node replica.due stands.node).beside
