use Rattle.std.proofs.Common.{ap, arith, map, refl, ◌∙◌}
use Rattle.mu_knowledge.specs.Commits.{pair_of}
use Rattle.mu_follow.proofs.Growing.{follow_same}
use Rattle.mu_follow.proofs.follow.Follow.make_room.Goals as goal

pub returns-in_err-make_room-4-clause-keeps : goal.returns-in_err-make_room-4-clause-keeps
returns-in_err-make_room-4-clause-keeps c r mine held =
    let old = c.args.self.now in
    follow_same old.config r mine old _ held refl refl refl (c.make_room.ensures.keeps r mine held.knowing) (c.make_room-2.ensures.keeps old.config r mine held.rows) (c.make_room-3.ensures.keeps old.config r mine held.words) (c.make_room-4.ensures.keeps old.config r r mine held.own_log) refl
    held.completion held.commits refl refl

pub returns-in_err-make_room-5-clause-keeps : goal.returns-in_err-make_room-5-clause-keeps
returns-in_err-make_room-5-clause-keeps c r mine held =
    let old = c.args.self.now in
    follow_same old.config r mine old _ held refl refl refl (c.make_room.ensures.keeps r mine held.knowing) (c.make_room-2.ensures.keeps old.config r mine held.rows) (c.make_room-3.ensures.keeps old.config r mine held.words) (c.make_room-4.ensures.keeps old.config r r mine held.own_log) refl
    (c.make_room-5.ensures.keeps old.config _ held.completion) held.commits refl refl

pub returns-in_err-reserve_to-clause-keeps : goal.returns-in_err-reserve_to-clause-keeps
returns-in_err-reserve_to-clause-keeps c r mine held =
    let old = c.args.self.now in
    let commits = c.reserve_to.ensures in
    let room = held.commits.room in
    follow_same old.config r mine old _ held refl refl refl (c.make_room.ensures.keeps r mine held.knowing) (c.make_room-2.ensures.keeps old.config r mine held.rows) (c.make_room-3.ensures.keeps old.config r mine held.words) (c.make_room-4.ensures.keeps old.config r r mine held.own_log) refl
    (c.make_room-5.ensures.keeps old.config _ held.completion) (record { are = ap (map pair_of) commits.items ∙ held.commits.are; room = omega (arith, room, commits.grows) }) refl refl

pub returns-clause-keeps : goal.returns-clause-keeps
returns-clause-keeps c r mine held =
    let old = c.args.self.now in
    let commits = c.reserve_to.ensures in
    let room = held.commits.room in
    follow_same old.config r mine old _ held refl refl refl (c.make_room.ensures.keeps r mine held.knowing) (c.make_room-2.ensures.keeps old.config r mine held.rows) (c.make_room-3.ensures.keeps old.config r mine held.words) (c.make_room-4.ensures.keeps old.config r r mine held.own_log) refl
    (c.make_room-5.ensures.keeps old.config _ held.completion) (record { are = ap (map pair_of) commits.items ∙ held.commits.are; room = omega (arith, room, commits.grows) }) refl refl

pub returns-clause-room : goal.returns-clause-room
returns-clause-room c r mine held =
    let old = c.args.self.now in
    let good = c.requires.config in
    record {
      knowing = c.in_ok-make_room.ensures.room r mine held.knowing;
      rows = c.in_ok-make_room-2.ensures.room old.config r mine good held.rows;
      words = c.in_ok-make_room-3.ensures.room old.config r mine held.words;
      own_log = c.in_ok-make_room-4.ensures.room;
      completion = c.in_ok-make_room-5.ensures.room;
      commits = omega (arith, c.in_ok-reserve_to.ensures.room, c.saturating_add.ensures, c.positions_in.ensures.count, good.few);
    }
