-- Rows that are loaded or stored word by word.
use Rattle.std.proofs.Common.{◌≡◌, ℕ, suc, ◌+◌, ◌<◌, ◌≤◌, List, [], ◌∷◌, ◌++◌, length, take, refl, sym, ap, subst, ◌∙◌, arith, append_assoc, append-nil, length-append, length-set, length-take-le, take-suc, take_all}
use Rattle.std.specs.Prelude.{slice_index, slice_set}
use Rattle.std.proofs.lemmas.Grind.{take-set_at}
use Rattle.atomic_table.specs.Table.{Me}
use Rattle.snap_reads.specs.declared.rule.View.{View}
use Rattle.snap_reads.specs.Published.{row_place}
use Rattle.snap_reads.specs.Steps.{AwaitsRow, AwaitsWord, Ended, HasPart, HasRow, ShortBegin}

pub part_begins : (me : Me (Unit {0}) View) (row : List ℕ) → HasPart me 0 row me
part_begins me row i = (record me.0 { words = (sym (append-nil me.0.words)) i }, me.1)

pub part_length : (before after : Me (Unit {0}) View) (k : ℕ) (row : List ℕ) → HasPart before k row after → k ≤ length row → length after.0.words ≡ length before.0.words + k
part_length before after k row part short = omega (arith, ap (λ (m : Me (Unit {0}) View). length m.0.words) part, length-append before.0.words (take k row), length-take-le k row short)

pub loaded_length : {capacity : ℕ} (k : ℕ) (row : List ℕ) (before mid : Me (Unit {0}) View) → AwaitsRow capacity before.0 → HasPart before k row mid → length row ≡ 12 → k < 12 → length mid.0.words ≡ k
loaded_length k row before mid it part long less = omega (arith, ap length it.none, part_length before mid k row part (omega (arith, long, less)))

-- a reader that loaded the first words of its next row awaits the one after them
pub awaits : (capacity place k : ℕ) (row : List ℕ) (before mid : Me (Unit {0}) View) → AwaitsRow capacity before.0 → place ≡ row_place (length before.0.seen) → HasPart before k row mid → length row ≡ 12 → k < 12
    → AwaitsWord capacity (place + k) mid.0
awaits capacity place k row before mid it next part long less =
    let seen = ap (λ (m : Me (Unit {0}) View). length m.0.seen) part in
    let words = loaded_length k row before mid it part long less in
    record {
      reads = ap (λ (m : Me (Unit {0}) View). m.0.writes) part ∙ it.reads;
      next = omega (arith, next, seen, words);
      inside = omega (arith, next, it.counted, it.inside, less);
      more = omega (arith, words, less);
      counted = omega (arith, it.counted, seen, ap (λ (m : Me (Unit {0}) View). m.0.upto) part);
    }

-- one word more was loaded
pub part_loads : (before mid after : Me (Unit {0}) View) (k n : ℕ) (row : List ℕ) → HasPart before k row mid → k < length row → after ≡ (record mid.0 { words = mid.0.words ++ n ∷ [] }, mid.1)
    → HasPart before (k + 1) (slice_set row k n) after
part_loads before mid after k n row part less is =
    is
    ∙ ((λ i. (record (part i).0 { words = (part i).0.words ++ n ∷ [] }, (part i).1))
    ∙ (λ i. (record before.0 { words = (append_assoc before.0.words (take k row) (n ∷ []) ∙ ap (λ l. before.0.words ++ l) (sym (take-set_at row k (k + 1) n refl less))) i }, before.1)))

-- one word more was stored
pub part_stores : (before mid after : Me (Unit {0}) View) (k : ℕ) (row : List ℕ) → HasPart before k row mid → k < length row → after ≡ (record mid.0 { words = mid.0.words ++ slice_index row k ∷ [] }, mid.1)
    → HasPart before (k + 1) row after
part_stores before mid after k row part less is =
    let next : suc k ≡ k + 1 = omega arith in
    is
    ∙ ((λ i. (record (part i).0 { words = (part i).0.words ++ slice_index row k ∷ [] }, (part i).1))
    ∙ (λ i. (record before.0 { words = (append_assoc before.0.words (take k row) (slice_index row k ∷ []) ∙ ap (λ l. before.0.words ++ l) (sym (take-suc row k 0 less) ∙ ap (λ j. take j row) next)) i }, before.1)))

-- the last word was loaded
pub row_ends : (before mid after : Me (Unit {0}) View) (row : List ℕ) (n : ℕ) → before.0.words ≡ [] → length row ≡ 12 → HasPart before 11 row mid → Ended mid n after → HasRow before (slice_set row 11 n) after
row_ends before mid after row n none long part e = record {
  command = e.command;
  is_command = e.is_command;
  spells = sym whole ∙ (take-set_at row 11 12 n refl (omega (arith, long)) ∙ (sym words ∙ e.row));
  after_is = e.after_is ∙ (λ i. (record (part i).0 { seen = (part i).0.seen ++ e.command ∷ []; words = [] }, (part i).1));
  told = subst (λ (m : Me (Unit {0}) View). ShortBegin m.0.told (m.0.seen ++ e.command ∷ [])) part e.told;
}
  where
    whole : take 12 (slice_set row 11 n) ≡ slice_set row 11 n
    whole = take_all 12 (slice_set row 11 n) (omega (arith, length-set row 11 n, long))

    words : mid.0.words ++ n ∷ [] ≡ take 11 row ++ n ∷ []
    words = ap (λ (m : Me (Unit {0}) View). m.0.words ++ n ∷ []) part ∙ ap (λ l. (l ++ take 11 row) ++ n ∷ []) none
