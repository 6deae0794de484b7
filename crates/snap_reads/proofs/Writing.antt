-- What the writer's calls leave.
use Rattle.std.proofs.Common.{◌≡◌, ℕ, ◌+◌, ◌*◌, ◌<◌, ◌≤◌, true, List, [], ◌∷◌, ◌++◌, length, take, sym, ap, subst, ◌∙◌, arith, append_assoc, append-nil, length-append, take_all, vec_capacity}
use Rattle.std.specs.Arc.{arc_value}
use Rattle.atomic_table.specs.Table.{Me}
use Rattle.kv_store.specs.Commands.{Request}
use Rattle.mu_rows.specs.Rows.{IsCommand, spelled}
use Rattle.snap_reads.specs.declared.rule.View.{View}
use Rattle.snap_reads.specs.declared.writer.SnapWriter.TheInside as writer
use Rattle.snap_reads.specs.Published.{AreCommands, row_place, rows_of, word_count, writer_view}
use Rattle.snap_reads.specs.Writers.{IsAt, IsWriter}
use Rattle.snap_reads.proofs.Rows.{are_joined, rows_joined, rows_length}
use Rattle.snap_reads.proofs.Words.{part_length}

pub row_length : (row : List ℕ) (command : Request) → row ≡ spelled command 0 → length row ≡ 12
row_length row command is = ap length is

pub writes_view : (before after : writer.Inside) (k : ℕ) (row : List ℕ) → IsWriter before → IsAt before k row after → after.seat.me.0.writes ≡ true
writes_view before after k row its at = ap (λ (m : Me (Unit {0}) View). m.0.writes) at.part ∙ ap (λ (m : Me (Unit {0}) View). m.0.writes) its.view

-- the next word stands where the words stored so far end
pub writes_next : (before after : writer.Inside) (k : ℕ) (row : List ℕ) → IsWriter before → IsAt before k row after → k ≤ length row → (place : ℕ) → place ≡ 12 * length before.list.items + 1
    → place + k ≡ row_place (length after.seat.me.0.seen) + length after.seat.me.0.words
writes_next before after k row its at short place is = omega (
  arith,
  is,
  ap length its.list,
  length-append before.seat.me.0.seen its.pending,
  part_length before.seat.me after.seat.me k row at.part short,
  ap (λ (m : Me (Unit {0}) View). length m.0.seen) at.part,
  ap (λ (m : Me (Unit {0}) View). length m.0.words) its.view,
  rows_length its.pending,
)

pub writes_inside : (place k count capacity : ℕ) → k < 12 → place ≡ 12 * count + 1 → count < capacity → {most : ℕ} → most ≡ capacity → place + k < word_count most
writes_inside place k count capacity less is room same = omega (arith, less, is, room, same)

-- the whole row was stored, and its command appended
pub applied : (before mid after : writer.Inside) (command : Request) (row : List ℕ) → IsWriter before → IsCommand command → row ≡ spelled command 0 → length before.list.items < (arc_value before.board).capacity → IsAt before 12 row mid
    → after.board ≡ mid.board → after.seat ≡ mid.seat → after.published ≡ mid.published → after.list.items ≡ mid.list.items ++ command ∷ [] → vec_capacity after.list ≡ vec_capacity mid.list → IsWriter after
applied before mid after command row its is_command is_row room at board seat published items capacity = record {
  pending = its.pending ++ command ∷ [];
  of = (λ i. (seat i).table_id) ∙ (at.table ∙ (its.of ∙ (λ i. (arc_value ((sym whole) i)).table)));
  view = view;
  list = list_is ∙ (ap (λ l. l ++ command ∷ []) its.list ∙ (append_assoc before.seat.me.0.seen its.pending (command ∷ []) ∙ ap (λ (s : List Request). s ++ (its.pending ++ command ∷ [])) (sym seen)));
  count = published ∙ (at.published ∙ (its.count ∙ ap length (sym seen)));
  commands = subst (λ (l : List Request). AreCommands l) (sym list_is) (are_joined before.list.items (command ∷ []) its.commands (is_command, tt));
  within = omega (arith, ap length list_is, length-append before.list.items (command ∷ []), room, same);
  room = omega (arith, same, capacity, held, its.room);
  few = omega (arith, same, its.few);
}
  where
    me : after.seat.me ≡ mid.seat.me
    me i = (seat i).me

    whole : after.board ≡ before.board
    whole = board ∙ at.board

    seen : after.seat.me.0.seen ≡ before.seat.me.0.seen
    seen = ap (λ (m : Me (Unit {0}) View). m.0.seen) (me ∙ at.part)

    same : (arc_value after.board).capacity ≡ (arc_value before.board).capacity
    same i = (arc_value (whole i)).capacity

    held : vec_capacity mid.list ≡ vec_capacity before.list
    held i = vec_capacity (at.list i)

    list_is : after.list.items ≡ before.list.items ++ command ∷ []
    list_is = items ∙ (λ i. (at.list i).items ++ command ∷ [])

    words : rows_of its.pending ++ take 12 row ≡ rows_of (its.pending ++ command ∷ [])
    words = ap (λ l. rows_of its.pending ++ l) (take_all 12 row (omega (arith, ap length is_row)) ∙ (is_row ∙ sym (append-nil (spelled command 0)))) ∙ sym (rows_joined its.pending (command ∷ []))

    view : after.seat.me ≡ (writer_view (arc_value after.board).capacity after.seat.me.0.seen (rows_of (its.pending ++ command ∷ [])), [])
    view =
        me
        ∙ (at.part
        ∙ ((λ i. (record (its.view i).0 { words = (its.view i).0.words ++ take 12 row }, (its.view i).1))
        ∙ (λ i. (writer_view (sym same i) (sym seen i) (words i), []))))
