use Rattle.std.proofs.Common.{[], refl, subst, sym, ◌∙◌}
use Rattle.std.specs.declared.option.Option.{Option}
use Rattle.mu_model.specs.declared.script.End.{End}
use Rattle.mu_model.specs.declared.script.Script.{Script}
use Rattle.mu_node.specs.Turns.{TellsHalt}
use Rattle.mu_node.proofs.Left.{is_unspent}
use Rattle.lone_replica.proofs.Standing.{lives_undue, none_due}
use Rattle.lone_replica.proofs.replica.Replica.next.Goals as goal

pub decide-requires : goal.decide-requires
decide-requires g c =
    let old = c.args.self.now in
    let none = sym c.access_due.ensures ∙ c.in-None.is in
    let script : Script = record { stops = old.node.stops.items; pauses = [] } in
    let parts = c.requires.parts in
    let told = c.halt.ensures g.at.0 script old.id g.at.1.0 refl parts.good parts.possible (lives_undue g.at.0 old.id g.at.1 old.accesses.shape old.node old.due c.requires.node none) in
    let on = subst (λ (o : Option End). TellsHalt g.at.0 script old.id g.at.1.0 o) c.in-None-halt.is told in
    (c.requires, (none_due old.due none, is_unspent g.at.0 script old.id g.at.1.0 parts.possible on))

pub returns-in-Some-halt-clause-halted : goal.returns-in-Some-halt-clause-halted
returns-in-Some-halt-clause-halted g c script same =
    let old = c.args.self.now in
    let none = sym c.access_due.ensures ∙ c.in-None.is in
    let parts = c.requires.parts in
    subst (λ (o : Option End). TellsHalt g.at.0 script old.id g.at.1.0 o) c.in-Some-halt.is
    (c.halt.ensures g.at.0 script old.id g.at.1.0 same parts.good parts.possible (lives_undue g.at.0 old.id g.at.1 old.accesses.shape old.node old.due c.requires.node none))
