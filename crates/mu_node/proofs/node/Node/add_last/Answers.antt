use Rattle.std.proofs.Common.{[], ◌∙◌, ◌∷◌, ap, arith, length, refl, subst, sym}
use Rattle.mu_model.specs.Contents.{IsConfig, row_count}
use Rattle.mu_model.specs.Growing.{with_more}
use Rattle.mu_model.specs.Parts.{IsPossible}
use Rattle.mu_node.specs.declared.node.Node.{Node}
use Rattle.mu_lead.specs.Listing.{late_from}
use Rattle.mu_node.specs.Cycle.{handed_before}
use Rattle.mu_node.specs.Growing.{StandsInTurn}
use Rattle.mu_node.proofs.Growing.{follow_over, handed_kept, known_before, lead_over, node_more, values_there, with_count}
use Rattle.mu_node.proofs.Midway.{decided_over}
use Rattle.mu_node.proofs.node.Node.add_last.Goals as goal

pub add_last-requires : goal.add_last-requires
add_last-requires g c = record {
  was = subst IsConfig (sym c.requires.1.1.1.1.1.0.beside.follow.config) c.requires.0;
  config = subst IsConfig (sym c.requires.1.1.0) c.requires.1.0;
}

pub add_last-requires-2 : goal.add_last-requires-2
add_last-requires-2 g c =
    let growth = g.growth in
    let k = growth.config in
    let r = growth.replica in
    let mine = growth.mine in
    let old = c.args.self.now in
    let held = c.requires.1.1.1.1.1.0 in
    let possible = subst (λ i. IsPossible old.lead.config i mine) (sym held.lead.id) (subst (λ z. IsPossible z r mine) (sym held.lead.config) c.requires.1.1.1.1.0) in
    let follow = follow_over k growth.row r mine c.args.config c.args.copy old.follow c.add_last.new.self c.requires.1.1.0 c.requires.1.1.1.0 c.requires.1.1.1.1.0 c.requires.1.1.1.1.1.1.follow held.beside.follow (c.add_last.ensures.stands growth.row r mine) in
    let known = known_before k growth.row r mine c.known-known.result.now old.lead held.lead (c.known-known.ensures (with_more k (growth.row ∷ [])) r mine (length mine) follow) in
    let long = held.lead.stands.tables.rows in
    let rows = ap row_count held.lead.config in
    let room = c.requires.1.1.1.1.1.1.lead in
    (held.lead.stands, (possible, (known, (c.requires.1.0, omega (arith, long, rows, room)))))

pub returns-clause-stands : goal.returns-clause-stands
returns-clause-stands g c =
    let growth = g.growth in
    let k = growth.config in
    let row = growth.row in
    let r = growth.replica in
    let mine = growth.mine in
    let old = c.args.self.now in
    let held = c.requires.1.1.1.1.1.0 in
    let more = with_more k (row ∷ []) in
    let follow = follow_over k row r mine c.args.config c.args.copy old.follow c.add_last.new.self c.requires.1.1.0 c.requires.1.1.1.0 c.requires.1.1.1.1.0 c.requires.1.1.1.1.1.1.follow held.beside.follow (c.add_last.ensures.stands row r mine) in
    let values = c.known-known.ensures more r mine (length mine) follow in
    let log = c.log.ensures more r mine (length mine) follow in
    let lead = lead_over k row r mine c.args.config c.known-known.result.now c.log.result.now old.lead c.add_last-2.new.self c.requires.1.1.1.0 held.lead log values c.add_last-2.ensures.config c.add_last-2.ensures.id c.add_last-2.ensures.stands in
    let new : Node = record old { lead = c.add_last-2.new.self; follow = c.add_last.new.self } in
    subst (λ z. StandsInTurn z r mine new) (sym c.requires.1.1.1.0)
    (node_more k row r mine old new c.requires.0 (subst IsConfig c.requires.1.1.1.0 c.requires.1.0) c.requires.1.1.1.1.0 held c.requires.1.1.1.1.1.1 follow c.add_last.ensures.handed lead refl refl refl refl refl refl (omega arith) refl (omega arith) refl)

pub returns-clause-between : goal.returns-clause-between
returns-clause-between g c lived =
    let growth = g.growth in
    let k = growth.config in
    let more = growth.row ∷ [] in
    let r = growth.replica in
    let mine = growth.mine in
    let old = c.args.self.now in
    let new : Node = record old { lead = c.add_last-2.new.self; follow = c.add_last.new.self } in
    let same = c.requires.1.1.1.0 in
    let grown = subst IsConfig same c.requires.1.0 in
    let count = c.add_last.ensures.handed ∙ (lived.handed ∙ (sym (handed_kept k more r mine c.requires.0 grown c.requires.1.1.1.1.0) ∙ ap (λ z. handed_before z r mine) (sym same))) in
    with_count c.args.config r new.follow.progress.handed (handed_before c.args.config r mine) mine new count (returns-clause-stands g c)

pub returns-clause-decided : goal.returns-clause-decided
returns-clause-decided g c decision had =
    let growth = g.growth in
    let k = growth.config in
    let row = growth.row in
    let r = growth.replica in
    let mine = growth.mine in
    let old = c.args.self.now in
    let held = c.requires.1.1.1.1.1.0 in
    let more = with_more k (row ∷ []) in
    let same = c.requires.1.1.1.0 in
    let follow = follow_over k row r mine c.args.config c.args.copy old.follow c.add_last.new.self c.requires.1.1.0 same c.requires.1.1.1.1.0 c.requires.1.1.1.1.1.1.follow held.beside.follow (c.add_last.ensures.stands row r mine) in
    let values = c.known-known.ensures more r mine (length mine) follow in
    let log = c.log.ensures more r mine (length mine) follow in
    let lead = c.add_last-2.new.self in
    let new : Node = record old { lead = lead; follow = c.add_last.new.self } in
    let own = same ∙ ap (λ z. with_more z (row ∷ [])) (sym held.lead.config) in
    let there = values_there k row r mine c.args.config c.known-known.result.now c.log.result.now same values log in
    decided_over k row r mine old new decision
    (record {
      good = c.requires.0;
      grown = subst IsConfig same c.requires.1.0;
      possible = c.requires.1.1.1.1.0;
      was = held.beside.follow.config;
      config = c.add_last.ensures.config ∙ (c.requires.1.1.0 ∙ same);
      own = held.beside.id;
      id = refl;
      zeal = refl;
      handed = c.add_last.ensures.handed;
      lead = record {
        stands = held.lead.stands;
        others = c.add_last-2.ensures.others ∙ ap (λ z. record old.lead { config = z; place = lead.place; written = lead.written }) own;
        written = c.add_last-2.ensures.written;
        stays = c.add_last-2.ensures.stays;
        wakes = λ on. c.add_last-2.ensures.wakes row own there on ∙ ap (λ z. late_from z old.lead.id mine old.lead.heads 0) own;
      };
      stands = subst (λ z. StandsInTurn z r mine new) same (returns-clause-stands g c);
    })
    had
