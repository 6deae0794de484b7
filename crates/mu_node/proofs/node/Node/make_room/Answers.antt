use Rattle.std.proofs.Common.{◌∙◌, ap, arith, refl, subst, sym}
use Rattle.mu_model.specs.Contents.{row_count}
use Rattle.mu_model.specs.Room.{reserve}
use Rattle.mu_follow.specs.Follow.{StandsForFollow}
use Rattle.mu_follow.specs.Growing.{HasRoomToFollow}
use Rattle.mu_node.proofs.Growing.{lead_roomy}
use Rattle.mu_node.proofs.Midway.{stands_on}
use Rattle.mu_node.proofs.node.Node.make_room.Goals as goal

pub returns-in_err-make_room-clause-keeps : goal.returns-in_err-make_room-clause-keeps
returns-in_err-make_room-clause-keeps c =
    let made = c.make_room.ensures in
    stands_on c.args.self.now _ made.keeps made.config made.handed refl refl (λ mine held. held) refl refl refl refl refl refl refl (omega arith) refl (omega arith) refl refl (omega arith)

pub returns-in_err-make_room-2-clause-keeps : goal.returns-in_err-make_room-2-clause-keeps
returns-in_err-make_room-2-clause-keeps c =
    let made = c.make_room.ensures in
    let lead = c.make_room-2.ensures in
    stands_on c.args.self.now _ made.keeps made.config made.handed lead.others lead.written lead.keeps refl refl refl refl refl refl refl (omega arith) refl (omega arith) refl refl (omega arith)

pub returns-in_err-make_room-3-clause-keeps : goal.returns-in_err-make_room-3-clause-keeps
returns-in_err-make_room-3-clause-keeps c =
    let made = c.make_room.ensures in
    let lead = c.make_room-2.ensures in
    let answers = c.make_room-3.ensures in
    stands_on c.args.self.now _ made.keeps made.config made.handed lead.others lead.written lead.keeps refl refl refl refl refl refl refl (omega arith) refl (omega arith) answers.table answers.replies answers.keeps

pub returns-in_err-make_room_for_lists-clause-keeps : goal.returns-in_err-make_room_for_lists-clause-keeps
returns-in_err-make_room_for_lists-clause-keeps c =
    let made = c.make_room.ensures in
    let lead = c.make_room-2.ensures in
    let answers = c.make_room-3.ensures in
    let lists = c.make_room_for_lists.ensures in
    stands_on c.args.self.now _ made.keeps made.config made.handed lead.others lead.written lead.keeps refl refl refl refl refl refl lists.log lists.log_grows lists.commits lists.commits_grow answers.table answers.replies answers.keeps

pub returns-clause-keeps : goal.returns-clause-keeps
returns-clause-keeps c =
    let made = c.make_room.ensures in
    let lead = c.make_room-2.ensures in
    let answers = c.make_room-3.ensures in
    let lists = c.make_room_for_lists.ensures in
    stands_on c.args.self.now _ made.keeps made.config made.handed lead.others lead.written lead.keeps refl refl refl refl refl refl lists.log lists.log_grows lists.commits lists.commits_grow answers.table answers.replies answers.keeps

pub returns-clause-room : goal.returns-clause-room
returns-clause-room c k r mine held =
    let old = c.args.self.now in
    let is = held.beside.follow.config in
    let rows = ap row_count is in
    let marks = ap reserve is in
    let kept = c.make_room.ensures.config in
    let grown = ap row_count (c.config.ensures ∙ kept) in
    let listed = ap row_count (c.config-2.ensures ∙ kept) in
    let marked = ap reserve (c.config-2.ensures ∙ kept) in
    let lead = lead_roomy k r mine old.lead c.make_room-2.new.self held.lead c.make_room-2.ensures.config c.make_room-2.ensures.id (c.make_room-2.ensures.keeps mine) in
    let long = lead.stands.tables.rows in
    let led = ap row_count lead.config in
    record {
      follow = subst (λ z. HasRoomToFollow z c.make_room.new.self) is (c.in_ok-make_room.ensures.room r mine (subst (λ z. StandsForFollow z r mine old.follow) (sym is) held.beside.follow));
      lead = omega (arith, c.in_ok-make_room-2.ensures.room, long, led);
      answers = omega (arith, c.in_ok-make_room-3.ensures.room, c.rows_with_one.ensures, grown, rows);
      log_room = omega (arith, c.in_ok-make_room_for_lists.ensures.log_room, listed, marked, rows, marks);
      commit_room = omega (arith, c.in_ok-make_room_for_lists.ensures.commit_room, listed, marked, rows, marks);
    }
