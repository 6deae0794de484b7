use Rattle.lone_replica.proofs.Standing.{lives_alone}
use Rattle.lone_replica.proofs.replica.Replica.end.Goals as goal

pub returns : goal.returns
returns c k script own same stands none =
    let replica = c.args.self.now in
    c.end.ensures k script replica.id own.0 same stands.parts.good stands.parts.possible (lives_alone k replica.id own replica stands none)
