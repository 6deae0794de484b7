use Rattle.std.proofs.Common.{◌≡◌, ◌∙◌, ◌<◌, ap, arith, length, refl, subst, sym, vec_capacity, vec_len, ◌++◌, ◌∷◌, []}
use Rattle.std.specs.Arc.{arc_value}
use Rattle.snap_reads.specs.Seats.{Shelf, Writing}
use Rattle.snap_reads.specs.Writers.{IsAt}
use Rattle.snap_reads.proofs.Words.{part_begins, part_stores}
use Rattle.snap_reads.proofs.Writing.{applied, row_length, writes_inside, writes_next, writes_view}
use Rattle.snap_reads.proofs.writer.SnapWriter.apply.Goals as goal

pub loop-k-init : goal.loop-k-init
loop-k-init c = record { board = refl; table = refl; part = part_begins c.self.inside.seat.me []; list = refl; published = refl }

pub store-requires-clause-of : goal.store-requires-clause-of
store-requires-clause-of c =
    let at = c.loop-k.invariant in
    at.table ∙ (c.self.invariant.of ∙ ((λ i. (arc_value ((sym at.board) i)).table) ∙ sym (ap (λ (s : Shelf). s.table) c.deref.ensures)))

pub store-requires-clause-writes : goal.store-requires-clause-writes
store-requires-clause-writes c = writes_view _ _ _ _ c.self.invariant c.loop-k.invariant

pub store-requires-clause-next : goal.store-requires-clause-next
store-requires-clause-next c =
    writes_next _ _ _ _ c.self.invariant c.loop-k.invariant (omega (arith, c.loop-k-test.true, row_length _ _ c.encode-row.ensures.words)) c.row_place-place.result (omega (arith, c.row_place-place.ensures, c.len.ensures))

pub store-requires-clause-inside : goal.store-requires-clause-inside
store-requires-clause-inside c =
    let at = c.loop-k.invariant in
    let capacity = ap (λ (s : Shelf). s.capacity) c.deref.ensures ∙ (λ i. (arc_value (at.board i)).capacity) in
    let asked = c.requires.room in
    let is = c.self.view_is in
    writes_inside _ _ (length c.self.inside.list.items) _ c.loop-k-test.true (omega (arith, c.row_place-place.ensures, c.len.ensures)) (subst (λ (w : Writing). length w.list < w.capacity) (sym is) asked) capacity

pub loop-k-preserved : goal.loop-k-preserved
loop-k-preserved c =
    let at = c.loop-k.invariant in
    record {
      board = at.board;
      table = c.store.ensures.same ∙ at.table;
      part = part_stores _ _ _ _ _ at.part (omega (arith, c.loop-k-test.true, row_length _ _ c.encode-row.ensures.words)) c.store.ensures.stored.after_is;
      list = at.list;
      published = at.published;
    }

pub push_reserved-requires : goal.push_reserved-requires
push_reserved-requires c =
    let its = c.self.invariant in
    let asked : length c.self.inside.list.items < (arc_value c.self.inside.board).capacity = subst (λ (w : Writing). length w.list < w.capacity) (sym c.self.view_is) c.requires.room in
    let same = c.loop-k.invariant.list in
    let free : vec_len c.self.inside.list < vec_capacity c.self.inside.list = omega (arith, asked, its.room) in
    let long : vec_len c.loop-k.self-inside.list ≡ vec_len c.self.inside.list = λ i. vec_len (same i) in
    let held : vec_capacity c.loop-k.self-inside.list ≡ vec_capacity c.self.inside.list = λ i. vec_capacity (same i) in
    omega (arith, free, long, held)

pub invariant_of-self : goal.invariant_of-self
invariant_of-self c = applied _ _ _ _ _ c.self.invariant c.is_command.ensures c.encode-row.ensures.words
    (subst (λ (w : Writing). length w.list < w.capacity) (sym c.self.view_is) c.requires.room)
    (subst (λ k. IsAt c.self.inside k c.encode-row.result.words c.loop-k.self-inside) (omega (arith, c.loop-k-test.false, c.loop-k.auto.k-end)) c.loop-k.invariant)
    refl refl refl c.push_reserved.ensures.items c.push_reserved.ensures.capacity

pub returns : goal.returns
returns c =
    let at = c.loop-k.invariant in
    (λ i. record {
      table = at.table i;
      capacity = (arc_value (at.board i)).capacity;
      published = (at.part i).0.seen;
      list = (c.push_reserved.ensures.items ∙ (λ j. (at.list j).items ++ c.args.command.now ∷ [])) i;
    })
    ∙ ap (λ (w : Writing). record w { list = w.list ++ c.args.command.now ∷ [] }) c.self.view_is
