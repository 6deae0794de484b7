use Rattle.std.proofs.Common.{[], refl}
use Rattle.std.specs.Prelude.{None}
use Rattle.mu_model.specs.declared.script.Script.{Script}
use Rattle.mu_node.proofs.Following.{follows_on}
use Rattle.mu_cluster.proofs.branch.turn_rested.Goals as goal

pub returns-clause-follows : goal.returns-clause-follows
returns-clause-follows c =
    let p = c.args.port.now in
    let q = c.turn.new.port in
    let node = c.args.node.now in
    let script : Script = record { stops = node.stops.items; pauses = [] } in
    follows_on p.config q.config script p.id q.id p.part q.part None None node c.turn.new.self c.turn.result c.turn.ensures.same.config c.turn.ensures.same.id c.requires.follows c.turn.ensures.stands c.turn.ensures.zeal
    (c.turn.ensures.turn script refl) c.turn.ensures.placed c.turn.ensures.made
