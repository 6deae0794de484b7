use Rattle.lone_replica.proofs.Standing.{lives_alone}
use Rattle.lone_replica.proofs.replica.Replica.reply_to.Goals as goal

pub returns : goal.returns
returns c k own commands spelled stands none =
    let replica = c.args.self.now in
    c.reply_to.ensures k replica.id own.0 commands stands.parts.good stands.parts.possible spelled (lives_alone k replica.id own replica stands none)
