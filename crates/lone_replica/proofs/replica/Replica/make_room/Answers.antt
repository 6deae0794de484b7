use Rattle.std.proofs.Common.{refl, subst, sym}
use Rattle.mu_model.specs.Contents.{IsConfig}
use Rattle.lone_replica.specs.declared.replica.Replica.{Replica}
use Rattle.lone_replica.proofs.Adding.{in_turn_held, replica_on}
use Rattle.lone_replica.proofs.replica.Replica.make_room.Goals as goal

pub make_room-requires : goal.make_room-requires
make_room-requires g c =
    let old = c.args.self.now in
    let held = in_turn_held g.at.0 old.id g.at.1 old.accesses.shape old.node old.due c.requires.node in
    record { config = subst IsConfig (sym held.beside.follow.config) c.requires.parts.good }

pub returns-clause-stands : goal.returns-clause-stands
returns-clause-stands g c =
    let old = c.args.self.now in
    let new : Replica = record old { node = c.make_room.new.self } in
    let made = c.make_room.ensures in
    replica_on g.at.0 old.id g.at.1 old new c.requires refl refl refl refl refl made.keeps made.config made.id

pub returns-clause-room : goal.returns-clause-room
returns-clause-room g c =
    let old = c.args.self.now in
    c.in_ok-make_room.ensures.room g.at.0 old.id g.at.1.0 (in_turn_held g.at.0 old.id g.at.1 old.accesses.shape old.node old.due c.requires.node)

pub returns-in_err-make_room-clause-stands : goal.returns-in_err-make_room-clause-stands
returns-in_err-make_room-clause-stands g c =
    let old = c.args.self.now in
    let new : Replica = record old { node = c.make_room.new.self } in
    let made = c.make_room.ensures in
    replica_on g.at.0 old.id g.at.1 old new c.requires refl refl refl refl refl made.keeps made.config made.id
