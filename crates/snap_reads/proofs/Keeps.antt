-- Each kind of step keeps the rule.
use Rattle.std.proofs.Common.{◌≡◌, ◌≢◌, ◌⊎◌, ℕ, zero, suc, ◌+◌, ◌*◌, ◌<◌, ◌≤◌, ◌-◌, ◌==◌, Bool, true, false, List, [], ◌∷◌, ◌++◌, length, set, Some, None, refl, sym, ap, subst, ◌∙◌, ⊎_elim, arith, append_assoc, append-nil, length-append, length-set, true≢false}
use Rattle.std.specs.Prelude.{slice_index, slice_set, max, replicate}
use Rattle.std.proofs.lemmas.List.{get_or-set_same, get_or-set_other, length-replicate, set-get_or}
use Rattle.std.proofs.lemmas.Bool.Decides.{eqb_tells}
use Rattle.std.proofs.lemmas.Bool.{cases_lt}
use Rattle.std.proofs.lemmas.Grind.{same_number_lists}
use Rattle.std.specs.declared.option.Option.{Option}
use mathlib.Core.Option as opt
use lib.ListN.{get_elem?}
use lib.ListN as lists
use lib.Seq.{get_or-append-add, get_or_at}
use Rattle.atomic_table.specs.Table.{Allows, Joins, Me, Splits, State, keeps, opening}
use Rattle.atomic_table.proofs.Lists.{at_set, at_snoc, set_else}
use Rattle.kv_store.specs.Commands.{Request}
use Rattle.mu_model.specs.Histories.{IsPrefixOf}
use Rattle.mu_model.proofs.Basics.{same_some}
use Rattle.mu_rows.specs.Rows.{IsCommand, spelled}
use Rattle.snap_reads.specs.declared.rule.View.{View}
use Rattle.snap_reads.specs.Published.{AllBegin, AreCommands, Fits, Holds, Stand, fresh_view, informed_view, note_view, row_place, rows_of, spent_view, word_count, writer_view}
use Rattle.snap_reads.specs.Steps.{Counted, Ended, Loaded, Raised, Stored, TakesWord}
use Rattle.snap_reads.proofs.Rows.{all_begin_joined, all_begin_longer, all_within, are_joined, begins_longer, prefix_length, row_at, rows_joined, rows_length, short_begin}

off : (b : Bool) → b ≡ false → b ≡ true → ⊥
off b is_off is_on = true≢false (sym is_on ∙ is_off)

empty_length : (words : List ℕ) → words ≡ [] → length words ≡ 0
empty_length words none = ap length none

-- the views still fit, if one of them is another
fit_all : (limit : ℕ) (words words' : List ℕ) (published published' : List Request) (writer id : ℕ) (views : List View) (w : View)
    → ((j : ℕ) (u : View) → get_elem? views j ≡ opt.some u → Fits limit words published writer j u)
    → Fits limit words' published' writer id w
    → ((j : ℕ) (u : View) → j ≢ id → Fits limit words published writer j u → Fits limit words' published' writer j u)
    → (j : ℕ) (u : View) → get_elem? (set views id w) j ≡ opt.some u → Fits limit words' published' writer j u
fit_all limit words words' published published' writer id views w fits new others j u got = ⊎_elim
    (λ (t : (j ≡ id) × (w ≡ u)). subst (λ (k : ℕ). Fits limit words' published' writer k u) (sym t.0) (subst (λ (v : View). Fits limit words' published' writer id v) t.1 new))
    (λ (t : (j ≢ id) × (get_elem? views j ≡ opt.some u)). others j u t.0 (fits j u t.1))
    (at_set views id j w u got)

-- no word changes, and one view does
same_words : (limit : ℕ) (s : State (Unit {0}) View) (h : Holds limit s) (id i : ℕ) (w : View) → Fits limit s.words h.published h.writer id w
    → Holds limit record { words = slice_set s.words i (slice_index s.words i); homes = s.homes; views = slice_set s.views id w }
same_words limit s h id i w new =
    subst (λ (ws : List ℕ). Holds limit record { words = ws; homes = s.homes; views = slice_set s.views id w }) (sym (set-get_or s.words i 0))
    record {
      published = h.published;
      writer = h.writer;
      commands = h.commands;
      size = h.size;
      count = h.count;
      rows = h.rows;
      room = h.room;
      fits = fit_all limit s.words s.words h.published h.published h.writer id s.views w h.fits new (λ j u ne f. f);
    }

-- a reader loads the count
pub counts : (limit slots id : ℕ) (me : Me (Unit {0}) View) → me.0.writes ≡ false → me.0.words ≡ []
    → Allows (Holds limit) slots id me 0 (λ n. n) (λ n after. Counted me n after)
counts limit slots id me reads none s h some_slots at bound =
    let n = slice_index s.words 0 in
    let mine = h.fits id me.0 at in
    let count = h.count in
    let room = h.room in
    let seen = prefix_length me.0.seen h.published mine.seen in (
      record me.0 { upto = n },
      keeps,
      tt,
      same_words limit s h id 0 (record me.0 { upto = n })
          (record { capacity = mine.capacity; writes = mine.writes; seen = mine.seen; told = mine.told; loaded = omega (arith, count); stand = mine.stand; next = λ _. record { not_whole = omega (arith, empty_length me.0.words none); counted = λ some. absurd (omega (arith, empty_length me.0.words none, some)) } }),
      record {
        after_is = refl;
        seen_within = omega (arith, seen, count);
        told_within = all_within me.0.told h.published n mine.told count;
        within = λ k is. let same = mine.capacity k is in omega (arith, same, room, count);
        told = short_begin me.0.told h.published me.0.seen mine.told mine.seen;
      },
    )

-- the words of a longer row stand, if the next does
stand_longer : (words : List ℕ) (place : ℕ) (row : List ℕ) (n : ℕ) → Stand words place row → slice_index words (place + length row) ≡ n → Stand words place (row ++ n ∷ [])
stand_longer words place row n stand is k less = ⊎_elim
    (λ (t : ((k == length row) ≡ true) × (k ≡ length row)).
    ap (λ j. slice_index words (place + j)) t.1 ∙ (is ∙ (sym (get_or_at row n [] 0 (length row) refl) ∙ ap (slice_index (row ++ n ∷ [])) (sym t.1))))
    (λ (t : ((k == length row) ≡ false) × (k ≢ length row)).
    let ne = t.1 in
    let small : k < length row = omega (arith, length-append row (n ∷ []), ne, less) in
    stand k small ∙ sym (lists.get_or-append row (n ∷ []) 0 k small))
    (eqb_tells k (length row))

-- a reader loads a word of its next row that isn't its last
loads_word : (limit slots id i : ℕ) (me : Me (Unit {0}) View) → me.0.writes ≡ false → i ≡ row_place (length me.0.seen) + length me.0.words → length me.0.words < 11 → length me.0.seen < me.0.upto
    → Allows (Holds limit) slots id me i (λ n. n) (λ n after. Loaded me n after)
loads_word limit slots id i me reads is_i room below s h some_slots at bound =
    let n = slice_index s.words i in
    let mine = h.fits id me.0 at in (
      record me.0 { words = me.0.words ++ n ∷ [] },
      keeps,
      tt,
      same_words limit s h id i (record me.0 { words = me.0.words ++ n ∷ [] })
          (record {
            capacity = mine.capacity;
            writes = mine.writes;
            seen = mine.seen;
            told = mine.told;
            loaded = mine.loaded;
            stand = stand_longer s.words (row_place (length me.0.seen)) me.0.words n mine.stand (ap (slice_index s.words) (sym is_i));
            next = λ _. record { not_whole = omega (arith, length-append me.0.words (n ∷ []), room); counted = λ _. below };
          }),
      record { after_is = refl },
    )

-- the words that stand at the place of the next row are those of the next command
next_row : (words : List ℕ) (seen rest : List Request) (command : Request) (row : List ℕ) → Stand words 1 (rows_of (seen ++ command ∷ rest)) → Stand words (row_place (length seen)) row → length row ≡ 12
    → row ≡ spelled command 0
next_row words seen rest command row rows stand long = same_number_lists row (spelled command 0) long (λ k less. sym (stand k less) ∙ (place k ∙ (rows (12 * length seen + k) (inside k less) ∙ row_at seen rest command k (omega (arith, long, less)))))
  where
    place : (k : ℕ) → slice_index words (row_place (length seen) + k) ≡ slice_index words (1 + (12 * length seen + k))
    place k = ap (slice_index words) (omega arith)

    inside : (k : ℕ) → k < length row → 12 * length seen + k < length (rows_of (seen ++ command ∷ rest))
    inside k less = omega (arith, rows_length (seen ++ command ∷ rest), length-append seen (command ∷ rest), long, less)

-- what was seen goes on, if the published list is longer
goes_on : (seen published : List Request) → IsPrefixOf seen published → length seen < length published → (command : Request) × (rest : List Request) × (published ≡ seen ++ command ∷ rest)
goes_on seen published (([], is)) longer = absurd (omega (arith, ap length is, length-append seen [], longer))
goes_on seen published ((command ∷ rest, is)) longer = (command, rest, is)

command_at : (seen rest : List Request) (command : Request) → AreCommands (seen ++ command ∷ rest) → IsCommand command
command_at [] rest command are = are.0
command_at (x ∷ seen) rest command are = command_at seen rest command are.1

-- a reader loads the last word of its next row
loads_last : (limit slots id i : ℕ) (me : Me (Unit {0}) View) → me.0.writes ≡ false → i ≡ row_place (length me.0.seen) + length me.0.words → length me.0.words ≡ 11 → length me.0.seen < me.0.upto
    → Allows (Holds limit) slots id me i (λ n. n) (λ n after. Ended me n after)
loads_last limit slots id i me reads is_i long below s h some_slots at bound = (
  record me.0 { seen = seen'; words = [] },
  keeps,
  tt,
  same_words limit s h id i (record me.0 { seen = seen'; words = [] })
      (record {
        capacity = mine.capacity;
        writes = λ on. absurd (off me.0.writes reads on);
        seen = begins;
        told = mine.told;
        loaded = mine.loaded;
        stand = λ k less. absurd (omega (arith, less));
        next = λ _. record { not_whole = omega arith; counted = λ some. absurd (omega (arith, some)) };
      }),
  record {
    command = more.0;
    is_command = command_at me.0.seen more.1 more.0 (subst (λ (l : List Request). AreCommands l) more.2 h.commands);
    row = next_row s.words me.0.seen more.1 more.0 (me.0.words ++ n ∷ [])
        (subst (λ (l : List Request). Stand s.words 1 (rows_of l)) more.2 h.rows)
        (stand_longer s.words (row_place (length me.0.seen)) me.0.words n mine.stand (ap (slice_index s.words) (sym is_i)))
        (omega (arith, length-append me.0.words (n ∷ []), long));
    after_is = refl;
    told = short_begin me.0.told h.published seen' mine.told begins;
  },
)
  where
    n : ℕ
    n = slice_index s.words i

    mine : Fits limit s.words h.published h.writer id me.0
    mine = h.fits id me.0 at

    more : (command : Request) × (rest : List Request) × (h.published ≡ me.0.seen ++ command ∷ rest)
    more = goes_on me.0.seen h.published mine.seen (omega (arith, below, mine.loaded))

    seen' : List Request
    seen' = me.0.seen ++ more.0 ∷ []

    begins : IsPrefixOf (me.0.seen ++ more.0 ∷ []) h.published
    begins = (more.1, more.2 ∙ sym (append_assoc me.0.seen (more.0 ∷ []) more.1))

-- a reader loads a word of its next row
pub loads : (limit slots id i : ℕ) (me : Me (Unit {0}) View) → me.0.writes ≡ false → i ≡ row_place (length me.0.seen) + length me.0.words → length me.0.words < 12 → length me.0.seen < me.0.upto
    → Allows (Holds limit) slots id me i (λ n. n) (λ n after. TakesWord me n after)
loads limit slots id i me reads is_i more below s h some_slots at bound = ⊎_elim
    (λ (less : length me.0.words < 11).
    let to = loads_word limit slots id i me reads is_i less below s h some_slots at bound in
    (to.0, to.1, to.2, to.3, record { other = λ _. to.4; last = λ is. absurd (omega (arith, less, is)) }))
    (λ (full : 11 ≤ length me.0.words).
    let to = loads_last limit slots id i me reads is_i (omega (arith, full, more)) below s h some_slots at bound in
    (to.0, to.1, to.2, to.3, record { other = λ less. absurd (omega (arith, full, less)); last = λ _. to.4 }))
    (cases_lt (length me.0.words) 11)

-- the writer stores a word past the count
pub stores : (limit slots id i x : ℕ) (me : Me (Unit {0}) View) → me.0.writes ≡ true → i ≡ row_place (length me.0.seen) + length me.0.words → i < word_count limit
    → Allows (Holds limit) slots id me i (λ _. x) (λ _ after. Stored me x after)
stores limit slots id i x me on is_i inside s h some_slots at bound = (
  record me.0 { words = me.0.words ++ x ∷ [] },
  keeps,
  tt,
  record {
    published = h.published;
    writer = h.writer;
    commands = h.commands;
    size = length-set s.words i x ∙ h.size;
    count = get_or-set_other s.words i 0 x 0 (λ e. absurd (omega (arith, e, is_i))) ∙ h.count;
    rows = λ k less. get_or-set_other s.words i (1 + k) x 0 (λ e. absurd (omega (arith, e, is_i, len, less, rows_length h.published))) ∙ h.rows k less;
    room = h.room;
    fits = fit_all limit s.words (slice_set s.words i x) h.published h.published h.writer id s.views (record me.0 { words = me.0.words ++ x ∷ [] }) h.fits new others;
  },
  record { after_is = refl },
)
  where
    mine : Fits limit s.words h.published h.writer id me.0
    mine = h.fits id me.0 at

    its : (id ≡ h.writer) × (me.0.seen ≡ h.published)
    its = mine.writes on

    len : length me.0.seen ≡ length h.published
    len = ap length its.1

    before : Stand (slice_set s.words i x) (row_place (length me.0.seen)) me.0.words
    before k less = get_or-set_other s.words i (row_place (length me.0.seen) + k) x 0 (λ e. absurd (omega (arith, e, is_i, less))) ∙ mine.stand k less

    new : Fits limit (slice_set s.words i x) h.published h.writer id (record me.0 { words = me.0.words ++ x ∷ [] })
    new = record {
      capacity = mine.capacity;
      writes = mine.writes;
      seen = mine.seen;
      told = mine.told;
      loaded = mine.loaded;
      stand = stand_longer (slice_set s.words i x) (row_place (length me.0.seen)) me.0.words x before (ap (slice_index (slice_set s.words i x)) (sym is_i) ∙ get_or-set_same s.words i x 0 (omega (arith, h.size, inside)));
      next = λ reads. absurd (off me.0.writes reads on);
    }

    others : (j : ℕ) (u : View) → j ≢ id → Fits limit s.words h.published h.writer j u → Fits limit (slice_set s.words i x) h.published h.writer j u
    others j u ne f = record { capacity = f.capacity; writes = f.writes; seen = f.seen; told = f.told; loaded = f.loaded; stand = stand; next = f.next }
      where
        reads : (b : Bool) → u.writes ≡ b → u.writes ≡ false
        reads true is_on = absurd (ne ((f.writes is_on).0 ∙ sym its.0))
        reads false is_off = is_off

        stand : Stand (slice_set s.words i x) (row_place (length u.seen)) u.words
        stand k less =
            let next = f.next (reads u.writes refl) in
            let counted = next.counted (omega (arith, less)) in
            let whole = next.not_whole in
            let loaded = f.loaded in
            get_or-set_other s.words i (row_place (length u.seen) + k) x 0 (λ e. absurd (omega (arith, e, is_i, len, less, counted, whole, loaded))) ∙ f.stand k less

-- the writer publishes all that it stored, which are the rows of commands
pub raises : (limit slots id k : ℕ) (list : List Request) (me : Me (Unit {0}) View) → me.0.writes ≡ true → me.0.words ≡ rows_of list → AreCommands list → k ≡ length me.0.seen + length list → k ≤ limit
    → Allows (Holds limit) slots id me 0 (λ n. max n k) (λ n after. Raised list me after)
raises limit slots id k list me on is_rows are is_k room s h some_slots at bound = (
  record me.0 { seen = me.0.seen ++ list; words = [] },
  keeps,
  tt,
  record {
    published = h.published ++ list;
    writer = h.writer;
    commands = are_joined h.published list h.commands are;
    size = length-set s.words 0 m ∙ h.size;
    count = get_or-set_same s.words 0 m 0 (omega (arith, h.size)) ∙ omega (arith, is_k, h.count, len, length-append h.published list);
    rows = rows;
    room = omega (arith, is_k, room, len, length-append h.published list);
    fits = fit_all limit s.words (slice_set s.words 0 (max (slice_index s.words 0) k)) h.published (h.published ++ list) h.writer id s.views (record me.0 { seen = me.0.seen ++ list; words = [] }) h.fits new others;
  },
  record { after_is = refl },
)
  where
    m : ℕ
    m = max (slice_index s.words 0) k

    mine : Fits limit s.words h.published h.writer id me.0
    mine = h.fits id me.0 at

    its : (id ≡ h.writer) × (me.0.seen ≡ h.published)
    its = mine.writes on

    len : length me.0.seen ≡ length h.published
    len = ap length its.1

    -- what stands after the count stays
    stays : (place : ℕ) (these : List ℕ) → Stand s.words (suc place) these → Stand (slice_set s.words 0 (max (slice_index s.words 0) k)) (suc place) these
    stays place these stand j less = get_or-set_other s.words 0 (suc place + j) (max (slice_index s.words 0) k) 0 (λ e. absurd (omega (arith, e))) ∙ stand j less

    rows : Stand (slice_set s.words 0 (max (slice_index s.words 0) k)) 1 (rows_of (h.published ++ list))
    rows j less = get_or-set_other s.words 0 (1 + j) (max (slice_index s.words 0) k) 0 (λ e. absurd (omega (arith, e))) ∙ (by_cases (cases_lt j (length (rows_of h.published))) ∙ sym (ap (λ l. slice_index l j) (rows_joined h.published list)))
      where
        by_cases : (j < length (rows_of h.published)) ⊎ (length (rows_of h.published) ≤ j) → slice_index s.words (1 + j) ≡ slice_index (rows_of h.published ++ rows_of list) j
        by_cases = ⊎_elim
            (λ small. h.rows j small ∙ sym (lists.get_or-append (rows_of h.published) (rows_of list) 0 j small))
            (λ (large : length (rows_of h.published) ≤ j).
            let d = j - length (rows_of h.published) in
            let is : length (rows_of h.published) + d ≡ j = omega arith in
            let inside : d < length (rows_of list) = omega (arith, ap length (rows_joined h.published list), length-append (rows_of h.published) (rows_of list), less) in
            let there : row_place (length me.0.seen) + d ≡ 1 + j = omega (arith, len, rows_length h.published, is) in
            let stand : slice_index s.words (row_place (length me.0.seen) + d) ≡ slice_index (rows_of list) d = subst (λ (l : List ℕ). Stand s.words (row_place (length me.0.seen)) l) is_rows mine.stand d inside in
            ap (slice_index s.words) (sym there) ∙ (stand ∙ (sym (get_or-append-add (rows_of h.published) (rows_of list) d 0) ∙ ap (slice_index (rows_of h.published ++ rows_of list)) is)))

    new : Fits limit (slice_set s.words 0 (max (slice_index s.words 0) k)) (h.published ++ list) h.writer id (record me.0 { seen = me.0.seen ++ list; words = [] })
    new = record {
      capacity = mine.capacity;
      writes = λ _. (its.0, ap (λ l. l ++ list) its.1);
      seen = ([], ap (λ l. l ++ list) (sym its.1) ∙ sym (append-nil (me.0.seen ++ list)));
      told = all_begin_longer me.0.told h.published list mine.told;
      loaded = omega (arith, mine.loaded, length-append h.published list);
      stand = λ j less. absurd (omega (arith, less));
      next = λ reads. absurd (off me.0.writes reads on);
    }

    others : (j : ℕ) (u : View) → j ≢ id → Fits limit s.words h.published h.writer j u → Fits limit (slice_set s.words 0 (max (slice_index s.words 0) k)) (h.published ++ list) h.writer j u
    others j u ne f = record {
      capacity = f.capacity;
      writes = λ is_on. absurd (ne ((f.writes is_on).0 ∙ sym its.0));
      seen = begins_longer u.seen h.published list f.seen;
      told = all_begin_longer u.told h.published list f.told;
      loaded = omega (arith, f.loaded, length-append h.published list);
      stand = stays (12 * length u.seen) u.words f.stand;
      next = f.next;
    }

-- a view that reads, and has seen nothing and loaded nothing
fresh_fits : (limit : ℕ) (words : List ℕ) (published : List Request) (writer id : ℕ) (v : View) → v.writes ≡ false → v.seen ≡ [] → v.words ≡ [] → v.upto ≡ 0 → ((k : ℕ) → v.capacity ≡ Some k → k ≡ limit) → AllBegin v.told published
    → Fits limit words published writer id v
fresh_fits limit words published writer id v reads nothing none upto capacity told = record {
  capacity = capacity;
  writes = λ on. absurd (off v.writes reads on);
  seen = (published, ap (λ l. l ++ published) (sym nothing));
  told = told;
  loaded = omega (arith, upto);
  stand = λ k less. absurd (omega (arith, less, empty_length v.words none));
  next = λ _. record { not_whole = omega (arith, empty_length v.words none); counted = λ some. absurd (omega (arith, some, empty_length v.words none)) };
}

-- a seat is cut off, and the first stays as it is
splits : (limit id : ℕ) (v w : View) → ((words : List ℕ) (published : List Request) (writer j : ℕ) → Fits limit words published writer id v → Fits limit words published writer j w)
    → Splits (Holds limit) id v v w
splits limit id v w new s h at = record {
  published = h.published;
  writer = h.writer;
  commands = h.commands;
  size = h.size;
  count = h.count;
  rows = h.rows;
  room = h.room;
  fits = λ j u got. ⊎_elim
      (λ (old : get_elem? (set s.views id v) j ≡ opt.some u). fit_all limit s.words s.words h.published h.published h.writer id s.views v h.fits (h.fits id v at) (λ i x ne f. f) j u old)
      (λ (is : w ≡ u). subst (λ (x : View). Fits limit s.words h.published h.writer j x) is (new s.words h.published h.writer j (h.fits id v at)))
      (at_snoc (set s.views id v) w u j got);
}

pub begins : (limit id : ℕ) (v : View) → Splits (Holds limit) id v v (fresh_view v)
begins limit id v = splits limit id v (fresh_view v) (λ words published writer j f. fresh_fits limit words published writer j (fresh_view v) refl refl refl refl f.capacity tt)

pub tells : (limit id : ℕ) (v : View) → Splits (Holds limit) id v v (note_view v)
tells limit id v = splits limit id v (note_view v) (λ words published writer j f. fresh_fits limit words published writer j (note_view v) refl refl refl refl f.capacity (f.seen, tt))

-- a seat takes in what another was told of
pub learns : (limit id other : ℕ) (v w : View) → Joins (Holds limit) id v other w (informed_view v w) spent_view
learns limit id other v w s h at apart got = record {
  published = h.published;
  writer = h.writer;
  commands = h.commands;
  size = h.size;
  count = h.count;
  rows = h.rows;
  room = h.room;
  fits = fit_all limit s.words s.words h.published h.published h.writer other (set s.views id (informed_view v w)) spent_view first (fresh_fits limit s.words h.published h.writer other spent_view refl refl refl refl (λ k is. absurd (true≢false (ap (λ o. has o) (sym is)))) tt) (λ j u ne f. f);
}
  where
    has : Option ℕ → Bool
    has None = false
    has (Some k) = true

    mine : Fits limit s.words h.published h.writer id v
    mine = h.fits id v at

    its : Fits limit s.words h.published h.writer other w
    its = h.fits other w (sym (apart_at) ∙ got)
      where
        apart_at : get_elem? (set s.views id (informed_view v w)) other ≡ get_elem? s.views other
        apart_at = set_else s.views id other (informed_view v w) apart

    new : Fits limit s.words h.published h.writer id (informed_view v w)
    new = record {
      capacity = mine.capacity;
      writes = mine.writes;
      seen = mine.seen;
      told = all_begin_joined w.told v.told h.published its.told mine.told;
      loaded = mine.loaded;
      stand = mine.stand;
      next = λ reads. record { not_whole = (mine.next reads).not_whole; counted = (mine.next reads).counted };
    }

    first : (j : ℕ) (u : View) → get_elem? (set s.views id (informed_view v w)) j ≡ opt.some u → Fits limit s.words h.published h.writer j u
    first = fit_all limit s.words s.words h.published h.published h.writer id s.views (informed_view v w) h.fits new (λ j u ne f. f)

-- all words are 0 before the first step
pub opens : (limit : ℕ) (words : List ℕ) → words ≡ replicate (word_count limit) 0 → Holds limit (opening words [] (writer_view limit [] []))
opens limit words zeros = record {
  published = [];
  writer = 0;
  commands = tt;
  size = ap length zeros ∙ length-replicate (word_count limit) 0;
  count = ap (λ l. slice_index l 0) zeros;
  rows = λ k less. absurd (omega (arith, less));
  room = omega arith;
  fits = fits;
}
  where
    writer : View
    writer = writer_view limit [] []

    fits : (id : ℕ) (v : View) → get_elem? (writer_view limit [] [] ∷ []) id ≡ opt.some v → Fits limit words [] 0 id v
    fits zero v is = subst (λ (u : View). Fits limit words [] 0 0 u) (opt.some-injective writer v is) record {
      capacity = λ k same. same_some k limit (sym same);
      writes = λ _. (refl, refl);
      seen = ([], refl);
      told = tt;
      loaded = omega arith;
      stand = λ k less. absurd (omega (arith, less));
      next = λ reads. absurd (true≢false reads);
    }
    fits (suc id) v is = absurd (opt.some-ne-none v (sym is))
