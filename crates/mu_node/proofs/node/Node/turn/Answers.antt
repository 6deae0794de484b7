use Rattle.std.proofs.Common.{[], refl, subst}
use Rattle.mu_model.specs.declared.script.Script.{Script}
use Rattle.mu_node.specs.Turns.{TellsEnd}
use Rattle.mu_node.proofs.Leading.{is_going}
use Rattle.mu_node.proofs.Left.{is_left}
use Rattle.mu_node.proofs.node.Node.turn.Goals as goal

pub step-requires : goal.step-requires
step-requires g c =
    let k = g.P.Port.config c.args.port.now in
    let r = g.P.Port.number c.args.port.now in
    let mine = g.P.Port.part c.args.port.now in
    let script : Script = record { stops = c.args.self.now.stops.items; pauses = [] } in
    let possible = c.id-id.ensures.possible in
    let told = c.end.ensures k script r mine refl c.requires.config possible c.requires.stands in
    let none = subst (λ o. TellsEnd k script r mine o) c.in-None.is told in
    let left = is_left k script r mine possible none in
    λ κs lives. (lives, (refl, (c.requires.config, (possible, (left, (c.requires.stands, is_going k script r mine none))))))

pub returns-in-Some-clause-made : goal.returns-in-Some-clause-made
returns-in-Some-clause-made g c at = tt

pub returns-in-Some-clause-going : goal.returns-in-Some-clause-going
returns-in-Some-clause-going g c at = refl
