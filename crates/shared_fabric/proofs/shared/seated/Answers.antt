use Rattle.std.proofs.Common.{◌≡◌, ◌≢◌, ◌∙◌, ap, sym, subst, ◌<◌, ◌++◌, [], ◌∷◌, Some, arith, length, List, vec_len, vec_capacity, refl}
use Rattle.std.specs.Prelude.{All}
use Rattle.std.specs.Arc.{arc_value}
use Rattle.std.specs.List.{slice_get}
use Rattle.std.proofs.lemmas.List.Elements.{All-take}
use Rattle.mu_model.specs.declared.config.Config.{Config}
use Rattle.mu_model.specs.Parts.{IsPossible}
use Rattle.mu_words.specs.Founds.{FoundIs}
use Rattle.shared_steps.specs.Rule.{entry_of}
use Rattle.shared_steps.specs.Seats.{Board, Port, Root}
use Rattle.shared_steps.proofs.Entries.{entry_of_empty, entry_of_without}
use Rattle.shared_fabric.specs.declared.rooms.Room.{Room}
use Rattle.shared_fabric.specs.Gathering.{fresh_port}
use Rattle.shared_fabric.specs.Rooms.{IsRoom}
use Rattle.shared_fabric.proofs.Gathers.{fresh_more, last_of, length_fresh}
use Rattle.shared_fabric.proofs.shared.seated.Goals as goal

pub loop-room-init : goal.loop-room-init
loop-room-init c = (omega (arith, c.requires.rooms.0), refl, refl, c.requires.rooms.1, c.requires.ports.0, c.requires.ports.1, λ r _ h. ap (entry_of r) c.requires.fresh ∙ entry_of_empty _ r h)

pub split-seat-requires-clause-found : goal.split-seat-requires-clause-found
split-seat-requires-clause-found c =
    let r = last_of (IsRoom (arc_value c.args.words.now) c.args.config.now) _ _ c.in-Some.room c.in-Some.ensures.items c.loop-room.invariant.3 in
    subst (λ (k : Config). FoundIs k c.loop-room.id c.in-Some.room.found [] []) (sym (ap (λ (b : Board). b.key) c.deref.ensures ∙ c.requires.key)) (r.found c.loop-room.id)

pub invariant_of-push_reserved : goal.invariant_of-push_reserved
invariant_of-push_reserved c =
    let r = (last_of (IsRoom (arc_value c.args.words.now) c.args.config.now) _ _ c.in-Some.room c.in-Some.ensures.items c.loop-room.invariant.3).of in
    let seat = c.split-seat.ensures.seat in
    record {
      of = record {
        table = ap (λ (p : Port). p.table) seat ∙ (c.loop-room.invariant.1 ∙ (c.requires.of.table ∙ sym (ap (λ (b : Board). b.table) r)));
        config = ap (λ (p : Port). p.config) seat ∙ (c.loop-room.invariant.2 ∙ (c.requires.of.config ∙ sym (ap (λ (b : Board). Some b.key) r)));
      };
      possible = subst (λ (p : Port). IsPossible (arc_value c.in-Some.room.words).key p.id p.part) (sym seat) record { past = []; legal = tt; is = refl };
      newest_is = sym (ap (λ (p : Port). slice_get p.part 0) seat);
    }

more_room : (c : goal.After-ports-1) → vec_len c.loop-room.ports < vec_capacity c.loop-room.ports
more_room c =
    let inv = c.loop-room.invariant in
    let len : length c.loop-room.ports.items ≡ c.loop-room.id = ap length inv.4 ∙ length_fresh _ _ c.loop-room.id in
    let cases = c.in-Some.ensures.cases in
    omega (arith, len, cases, inv.0, inv.5)

pub push_reserved-requires : goal.push_reserved-requires
push_reserved-requires c = more_room c

pub loop-room-preserved : goal.loop-room-preserved
loop-room-preserved c =
    let inv = c.loop-room.invariant in
    let cases = c.in-Some.ensures.cases in
    let root = c.split-seat.ensures.root in
    let r = (last_of (IsRoom (arc_value c.args.words.now) c.args.config.now) _ _ c.in-Some.room c.in-Some.ensures.items c.loop-room.invariant.3).of in
    let P : Room → Type 0 = IsRoom (arc_value c.args.words.now) c.args.config.now in
    let port : record { table = c.split-seat.result.table; config = (arc_value c.in-Some.room.words).key; id = c.split-seat.result.id; part = c.split-seat.result.part } ≡ fresh_port c.args.root.now.table c.args.config.now c.loop-room.id =
    (λ i. record { table = (c.split-seat.ensures.seat i).table; config = (ap (λ (b : Board). b.key) r ∙ c.requires.key) i; id = (c.split-seat.ensures.seat i).id; part = (c.split-seat.ensures.seat i).part })
    ∙ (λ i. fresh_port (inv.1 i) c.args.config.now c.loop-room.id) in (
      omega (arith, inv.0, cases),
      ap (λ (x : Root). x.table) root ∙ inv.1,
      ap (λ (x : Root). x.config) root ∙ inv.2,
      subst (λ (l : List Room). All P l) (sym c.in-Some.ensures.rest) (All-take P _ c.loop-room.rooms.items inv.3),
      c.push_reserved.ensures.items ∙ ((λ i. inv.4 i ++ port i ∷ []) ∙ sym (fresh_more _ _ c.loop-room.id)),
      omega (arith, c.push_reserved.ensures.capacity, inv.5),
      λ q above below.
          let ne : q ≢ c.loop-room.id = λ same. absurd (omega arith) in
          ap (λ (x : Root). entry_of q x.entries) root ∙ (entry_of_without c.loop-room.id q c.loop-room.root.entries ne ∙ inv.6 q (omega arith) below),
    )
