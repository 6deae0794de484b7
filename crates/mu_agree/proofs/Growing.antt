-- What a legal list comes to is the same with more rows at the end.
use Rattle.std.proofs.Common.{◌≡◌, ℕ, zero, suc, ◌+◌, ◌/◌, ◌%◌, ◌^◌, ◌<◌, ◌≤◌, ◌⊎◌, inl, inr, Bool, true, false, ◌&&◌, ◌||◌, not, ◌==◌, List, [], ◌∷◌, ◌++◌, length, length-append, refl, sym, ◌∙◌, ap, arith, Some, None, subst, eqb-true, true≢false}
use Rattle.std.specs.declared.option.Option.{Option}
use Rattle.std.specs.Prelude.{if◌then◌else◌, nat_lt, is_none, is_some, slice_index}
use Rattle.std.specs.List.{slice_get}
use Rattle.std.proofs.lemmas.List.{reverse-append}
use Rattle.std.proofs.lemmas.Option.{slice_get_within}
use Rattle.std.proofs.lemmas.Bool.{and_from, and_parts, cases_eq, cases_lt, false_from_ne_true, lt-ltb, ne_eqb, not-false, not-true, or_cases}
use Rattle.mu_model.specs.declared.config.Config.{Config}
use Rattle.mu_model.specs.declared.config.Row.{Row}
use Rattle.mu_model.specs.declared.event.Answer.{Answer}
use Rattle.mu_model.specs.declared.event.Event.{Event}
use Rattle.mu_model.specs.declared.event.Target.{Target}
use Rattle.mu_model.specs.declared.event.Verb.{Verb}
use Rattle.mu_model.specs.Allowed.{Needs}
use Rattle.mu_model.specs.Answers.{answer_of}
use Rattle.mu_model.specs.Contents.{IsConfig, StandsForEntry, begins_batch, client_of, command_count, config_word, holds_all, includes, is_batch, is_mark, marked, number_of, numbers_in, rest_of, row_count, rows_before, rows_from, rows_in, rows_of, session, word_of}
use Rattle.mu_model.specs.Histories.{all_below, has, history, part}
use Rattle.mu_model.specs.Knowledge.{applied, commits, committed, fills, front, grown, has_entry, has_row, has_word, is_filled, is_read, is_written, known, learnt_by, wrote, wrote_batch}
use Rattle.mu_model.specs.Leaderships.{begins_leadership, is_member, proposal_number}
use Rattle.mu_model.specs.Legal.{IsLegalHistory}
use Rattle.mu_model.specs.Parts.{IsPossible}
use Rattle.mu_model.specs.Picks.{first_value, highest_accepted, is_mark_offer, is_offer, joined_since_first_put, last_look, may_pick_at, may_propose, pick}
use Rattle.mu_model.specs.Room.{has_room, head_read, is_mark_candidate, lacks_room, last_head, reserve}
use Rattle.mu_model.specs.Scores.{is_failed}
use Rattle.mu_model.proofs.Basics.{and_false, false_and}
use Rattle.mu_model.proofs.Lists.{get_front, get_push_here, item_below}
use Rattle.mu_model.proofs.Putting.{IsNew, MayEnter, MayPutSlot, head_applied, head_points, head_reached, put_facts, put_points, raise_facts, raise_points}
use Rattle.mu_model.proofs.Parts.{filter-append, part_is_possible}
use Rattle.mu_agree.specs.Growing.{AnswersStay, AppliedStays, CommitsStay, GrownIsConfig, KnownStays, LaterRowsFollow, LegalStays}
use Rattle.mu_model.specs.Growing.{with_more}
use Rattle.mu_agree.proofs.Knowing.{known_stays}
use Rattle.mu_agree.proofs.Prefixes.{known_agree}
use Rattle.mu_agree.proofs.Landings.{has_of_part}
use Rattle.mu_agree.proofs.Offers.{first_is}
use Rattle.mu_agree.proofs.Possible.{part_entries_stand_law}
use Rattle.mu_agree.proofs.Sessions.{batch_within, fits_stands, mark_no_batch, row_within}
use Rattle.mu_agree.proofs.Sound.{all_sound, offered_tried, put_sound, some_fails}

-- numbers that pass two tests alike
pub all_same : (n : ℕ) (f g : ℕ → Bool) → ((k : ℕ) → k < n → f k ≡ g k) → all_below n f ≡ all_below n g
all_same zero f g e = refl
all_same (suc n) f g e = ap (λ b. b && all_below n f) (e n (omega arith)) ∙ ap (λ b. g n && b) (all_same n f g (λ k l. e k (omega arith)))

-- two tests of which neither passes
both_fail : (s t : Bool) → (s ≡ true → ⊥) → (t ≡ true → ⊥) → s ≡ t
both_fail true t a b = absurd (a refl)
both_fail false true a b = absurd (b refl)
both_fail false false a b = refl

-- the rows that were there
pub more_rows : (c : Config) (more : List Row) → row_count c ≤ row_count (with_more c more)
more_rows c more = let e = length-append c.rows more in omega (arith, e)

pub word_kept : (c : Config) (more : List Row) (j k : ℕ) → j < row_count c → config_word (with_more c more) j k ≡ config_word c j k
word_kept c more j k l = let x = item_below c.rows j l in ap (λ o. word_of o k) (get_front c.rows more j x.0 x.1 ∙ sym x.1)

pub rest_kept : (c : Config) (more : List Row) (j : ℕ) → j < row_count c → rest_of (with_more c more) j ≡ rest_of c j
rest_kept c more j l = ap (λ w. w / 2 ^ 56) (word_kept c more j 0 l)

pub client_kept : (c : Config) (more : List Row) (j : ℕ) → j < row_count c → client_of (with_more c more) j ≡ client_of c j
client_kept c more j l = ap (λ w. w / 2 ^ 8 % 2 ^ 8) (word_kept c more j 0 l)

pub number_kept : (c : Config) (more : List Row) (j : ℕ) → j < row_count c → number_of (with_more c more) j ≡ number_of c j
number_kept c more j l = ap (λ w. w / 2 ^ 16 % 2 ^ 16) (word_kept c more j 0 l)

pub begins_kept : (c : Config) (more : List Row) (j : ℕ) → j < row_count c → begins_batch (with_more c more) j ≡ begins_batch c j
begins_kept c more zero l = refl
begins_kept c more (suc j) l = ap (λ w. w == 0) (rest_kept c more j (omega arith))

pub before_kept : (c : Config) (more : List Row) (client j : ℕ) → j ≤ row_count c → rows_before (with_more c more) client j ≡ rows_before c client j
before_kept c more client zero l = refl
before_kept c more client (suc j) l = rw (client_kept c more j (omega (arith, l)), before_kept c more client j (omega (arith, l))) refl

-- the row that was added
pub last_word : (c : Config) (row : Row) (k : ℕ) → config_word (with_more c (row ∷ [])) (row_count c) k ≡ slice_index row.words k
last_word c row k = ap (λ o. word_of o k) (get_push_here c.rows (row_count c) row refl)

pub last_client : (c : Config) (row : Row) → client_of (with_more c (row ∷ [])) (row_count c) ≡ slice_index row.words 0 / 2 ^ 8 % 2 ^ 8
last_client c row = ap (λ w. w / 2 ^ 8 % 2 ^ 8) (last_word c row 0)

-- a row was there, or is the one that was added
there_or_last : (c : Config) (row : Row) (j : ℕ) → j < row_count (with_more c (row ∷ [])) → (j < row_count c) ⊎ (j ≡ row_count c)
there_or_last c row j l = elim (cases_lt j (row_count c)) [
  | inl low ↦ inl low
  | inr high ↦ inr (let e = length-append c.rows (row ∷ []) in omega (arith, e, l, high))
]

pub grown_is_config_law : GrownIsConfig
grown_is_config_law c row g few rest number = record {
  versions = g.versions;
  plain = g.plain;
  widths = g.widths;
  replicas = g.replicas;
  ring = g.ring;
  budget = g.budget;
  few = (let e = length-append c.rows (row ∷ []) in omega (arith, e, few));
  rests = λ j l. elim (there_or_last c row j l) [
    | inl low ↦ subst (λ n. n < c.width) (sym (rest_kept c (row ∷ []) j low)) (g.rests j low)
    | inr last ↦ subst (λ n. n < c.width) (sym (no_rest j last)) (let w = g.widths.0 in omega (arith, w))
  ];
  numbers = λ j l. elim (there_or_last c row j l) [
    | inl low ↦
        number_kept c (row ∷ []) j low ∙ g.numbers j low
        ∙ ap (λ n. n + 1) (sym (before_kept c (row ∷ []) (client_of c j) j (omega (arith, low))) ∙ ap (λ w. rows_before (with_more c (row ∷ [])) w j) (sym (client_kept c (row ∷ []) j low)))
    | inr last ↦ subst (λ i. number_of (with_more c (row ∷ [])) i ≡ rows_before (with_more c (row ∷ [])) (client_of (with_more c (row ∷ [])) i) i + 1) (sym last) next
  ];
  batches = λ j k l more. elim (there_or_last c row j l) [
    | inl low ↦ (let b = g.batches j k low (sym (rest_kept c (row ∷ []) j low) ∙ more) in (
      (let all = more_rows c (row ∷ []) in let next = b.0 in omega (arith, all, next)),
      client_kept c (row ∷ []) (j + 1) b.0 ∙ b.1 ∙ sym (client_kept c (row ∷ []) j low),
      rest_kept c (row ∷ []) (j + 1) b.0 ∙ b.2,
    ))
    | inr last ↦ (let none : 0 ≡ suc k = sym (no_rest j last) ∙ more in absurd (omega (arith, none)))
  ];
}
  where
    no_rest : (j : ℕ) → j ≡ row_count c → rest_of (with_more c (row ∷ [])) j ≡ 0
    no_rest j last = ap (rest_of (with_more c (row ∷ []))) last ∙ (ap (λ w. w / 2 ^ 56) (last_word c row 0) ∙ rest)

    next : number_of (with_more c (row ∷ [])) (row_count c) ≡ rows_before (with_more c (row ∷ [])) (client_of (with_more c (row ∷ [])) (row_count c)) (row_count c) + 1
    next =
        ap (λ w. w / 2 ^ 16 % 2 ^ 16) (last_word c row 0) ∙ number
        ∙ ap (λ n. n + 1) (sym (before_kept c (row ∷ []) (slice_index row.words 0 / 2 ^ 8 % 2 ^ 8) (row_count c) (omega arith)) ∙ ap (λ w. rows_before (with_more c (row ∷ [])) w (row_count c)) (sym (last_client c row)))

-- the batches and the marks that were there
pub row_batch_kept : (c : Config) (more : List Row) (v : ℕ) → v % 4096 < row_count c → is_batch (with_more c more) v ≡ is_batch c v
row_batch_kept c more v l =
    let m = more_rows c more in
    let a = lt-ltb (v % 4096) (row_count (with_more c more)) (omega (arith, l, m)) in
    let b = lt-ltb (v % 4096) (row_count c) l in
    ap (λ t. nat_lt (v / 4096) c.replicas && (t && begins_batch (with_more c more) (v % 4096))) (a ∙ sym b)
    ∙ ap (λ t. nat_lt (v / 4096) c.replicas && (nat_lt (v % 4096) (row_count c) && t)) (begins_kept c more (v % 4096) l)

pub entry_kept : (c : Config) (more : List Row) (v : ℕ) → IsConfig c → IsConfig (with_more c more) → StandsForEntry c v → is_batch (with_more c more) v ≡ is_batch c v
entry_kept c more v g h (inl b) = row_batch_kept c more v (row_within c v b)
entry_kept c more v g h (inr m) = both_fail (is_batch (with_more c more) v) (is_batch c v) (mark_no_batch (with_more c more) m.0 v h m.1) (mark_no_batch c m.0 v g m.1)

pub marked_kept : (c : Config) (more : List Row) (q : ℕ) (vs : List ℕ) → marked (with_more c more) q vs ≡ marked c q vs
marked_kept c more q [] = refl
marked_kept c more q (v ∷ vs) = ap (λ t. is_mark c q v || t) (marked_kept c more q vs)

-- the steps find the same
pub answer_kept : (c : Config) (more : List Row) (r : ℕ) (past : List Event) (verb : Verb) → answer_of (with_more c more) r past verb ≡ answer_of c r past verb
answer_kept c more r past (Verb.Look p i) = refl
answer_kept c more r past verb = refl

-- what is known
learnt_kept : (c : Config) (more : List Row) (r : ℕ) (past : List Event) (n by : ℕ) (v : Verb) (a : Answer) (now : List Event) → learnt_by (with_more c more) r past n by v a now ≡ learnt_by c r past n by v a now
learnt_kept c more r past n by (Verb.PutSlot p i b v) Answer.Done now = refl
learnt_kept c more r past n by v a now = refl

committed_kept : (c : Config) (more : List Row) (r n by : ℕ) (v : Verb) (a : Answer) (now : List Event) → committed (with_more c more) r n by v a now ≡ committed c r n by v a now
committed_kept c more r n by (Verb.PutSlot p i b v) Answer.Done now = refl
committed_kept c more r n by v a now = refl

pub known_kept : (c : Config) (more : List Row) (r : ℕ) (past : List Event) → known (with_more c more) r past ≡ known c r past
known_kept c more r [] = refl
known_kept c more r (e ∷ past) =
    ap (λ vs. grown vs (learnt_by (with_more c more) r past (length vs) e.by e.verb e.answer (e ∷ past))) (known_kept c more r past)
    ∙ ap (grown (known c r past)) (learnt_kept c more r past (length (known c r past)) e.by e.verb e.answer (e ∷ past))

pub commits_kept : (c : Config) (more : List Row) (r : ℕ) (past : List Event) → commits (with_more c more) r past ≡ commits c r past
commits_kept c more r [] = refl
commits_kept c more r (e ∷ past) =
    ap (λ vs. grown (commits (with_more c more) r past) (committed (with_more c more) r (length vs) e.by e.verb e.answer (e ∷ past))) (known_kept c more r past)
    ∙ ap (λ xs. grown xs (committed (with_more c more) r (length (known c r past)) e.by e.verb e.answer (e ∷ past))) (commits_kept c more r past)
    ∙ ap (grown (commits c r past)) (committed_kept c more r (length (known c r past)) e.by e.verb e.answer (e ∷ past))

-- what is filled
fills_kept : (c : Config) (more : List Row) (r p j : ℕ) (past : List Event) (by : ℕ) (v : Verb) (a : Answer) (now : List Event) → fills (with_more c more) r p j past by v a now ≡ fills c r p j past by v a now
fills_kept c more r p j past by (Verb.PutSlot q i b v) Answer.Done now = rw (known_kept c more r past, known_kept c more r now) refl
fills_kept c more r p j past by (Verb.Look q i) (Answer.Entry b v) now = rw (known_kept c more r past, known_kept c more r now) refl
fills_kept c more r p j past by v a now = refl

pub filled_kept : (c : Config) (more : List Row) (r p : ℕ) (past : List Event) (j : ℕ) → is_filled (with_more c more) r p past j ≡ is_filled c r p past j
filled_kept c more r p [] j = refl
filled_kept c more r p (e ∷ past) j =
    ap (λ t. t || is_filled (with_more c more) r p past j) (fills_kept c more r p j past e.by e.verb e.answer (e ∷ past))
    ∙ ap (λ t. fills c r p j past e.by e.verb e.answer (e ∷ past) || t) (filled_kept c more r p past j)

-- each of the values stands for an entry
abbrev pub AllStand : Config → List ℕ → Type 0
AllStand c vs = (i v : ℕ) → slice_get vs i ≡ Some v → StandsForEntry c v

-- which entries a replica has
pub has_kept : (c : Config) (more : List Row) (r v : ℕ) (past : List Event) → IsConfig c → IsConfig (with_more c more) → StandsForEntry c v → has_entry (with_more c more) r v past ≡ has_entry c r v past
has_kept c more r v past g h s =
    ap (λ t. not t || all_below (rest_of (with_more c more) (v % 4096) + 1) (λ t. has_row r (v + t) past)) (entry_kept c more v g h s)
    ∙ by_test (is_batch c v) refl
  where
    by_test : (t : Bool) → is_batch c v ≡ t → (not t || all_below (rest_of (with_more c more) (v % 4096) + 1) (λ t. has_row r (v + t) past)) ≡ (not t || all_below (rest_of c (v % 4096) + 1) (λ t. has_row r (v + t) past))
    by_test true b = ap (λ n. all_below (n + 1) (λ t. has_row r (v + t) past)) (rest_kept c more (v % 4096) (row_within c v b))
    by_test false b = refl

front_same : (f g : ℕ → Bool) (vs : List ℕ) → ((i v : ℕ) → slice_get vs i ≡ Some v → f v ≡ g v) → front f vs ≡ front g vs
front_same f g [] e = refl
front_same f g (v ∷ vs) e =
    ap (λ t. if t then v ∷ front f vs else []) (e 0 v refl)
    ∙ ap (λ l. if g v then v ∷ l else []) (front_same f g vs (λ i w k. e (suc i) w k))

pub applied_kept : (c : Config) (more : List Row) (r : ℕ) (past : List Event) → IsConfig c → IsConfig (with_more c more) → AllStand c (known c r past) → applied (with_more c more) r past ≡ applied c r past
applied_kept c more r past g h s =
    ap (λ vs. front (λ v. has_entry (with_more c more) r v past) vs) (known_kept c more r past)
    ∙ front_same (λ v. has_entry (with_more c more) r v past) (λ v. has_entry c r v past) (known c r past) (λ i v k. has_kept c more r v past g h (s i v k))

-- how many commands of a client these entries hold
pub numbers_kept : (c : Config) (more : List Row) (client n j : ℕ) → j + n ≤ row_count c → numbers_in (with_more c more) client (rows_from n j) ≡ numbers_in c client (rows_from n j)
numbers_kept c more client zero j l = refl
numbers_kept c more client (suc n) j l =
    rw (client_kept c more j (omega arith), number_kept c more j (omega arith), numbers_kept c more client n (j + 1) (omega arith)) refl

pub entry_numbers_kept : (c : Config) (more : List Row) (client v : ℕ) → IsConfig c → IsConfig (with_more c more) → StandsForEntry c v → numbers_in (with_more c more) client (rows_of (with_more c more) v) ≡ numbers_in c client (rows_of c v)
entry_numbers_kept c more client v g h s =
    ap (λ t. numbers_in (with_more c more) client (if t then rows_from (rest_of (with_more c more) (v % 4096) + 1) (v % 4096) else [])) (entry_kept c more v g h s)
    ∙ by_test (is_batch c v) refl
  where
    by_test : (t : Bool) → is_batch c v ≡ t → numbers_in (with_more c more) client (if t then rows_from (rest_of (with_more c more) (v % 4096) + 1) (v % 4096) else []) ≡ numbers_in c client (if t then rows_from (rest_of c (v % 4096) + 1) (v % 4096) else [])
    by_test true b =
        let low = row_within c v b in
        let in_rows = batch_within c g (rest_of c (v % 4096)) (v % 4096) low refl in
        ap (λ n. numbers_in (with_more c more) client (rows_from (n + 1) (v % 4096))) (rest_kept c more (v % 4096) low)
        ∙ numbers_kept c more client (rest_of c (v % 4096) + 1) (v % 4096) (omega (arith, in_rows))
    by_test false b = refl

pub session_kept : (c : Config) (more : List Row) (client : ℕ) (vs : List ℕ) → IsConfig c → IsConfig (with_more c more) → AllStand c vs → session (with_more c more) client vs ≡ session c client vs
session_kept c more client [] g h s = refl
session_kept c more client (v ∷ vs) g h s =
    ap (λ l. l ++ session (with_more c more) client vs) (entry_numbers_kept c more client v g h (s 0 v refl))
    ∙ ap (λ l. numbers_in c client (rows_of c v) ++ l) (session_kept c more client vs g h (λ i w k. s (suc i) w k))

-- the rows of these entries
pub rows_of_kept : (c : Config) (more : List Row) (v : ℕ) → IsConfig c → IsConfig (with_more c more) → StandsForEntry c v → rows_of (with_more c more) v ≡ rows_of c v
rows_of_kept c more v g h s = ap (λ t. if t then rows_from (rest_of (with_more c more) (v % 4096) + 1) (v % 4096) else []) (entry_kept c more v g h s) ∙ by_test (is_batch c v) refl
  where
    by_test : (t : Bool) → is_batch c v ≡ t → (if t then rows_from (rest_of (with_more c more) (v % 4096) + 1) (v % 4096) else []) ≡ (if t then rows_from (rest_of c (v % 4096) + 1) (v % 4096) else [])
    by_test true b = ap (λ n. rows_from (n + 1) (v % 4096)) (rest_kept c more (v % 4096) (row_within c v b))
    by_test false b = refl

pub rows_in_kept : (c : Config) (more : List Row) (vs : List ℕ) → IsConfig c → IsConfig (with_more c more) → AllStand c vs → rows_in (with_more c more) vs ≡ rows_in c vs
rows_in_kept c more [] g h s = refl
rows_in_kept c more (v ∷ vs) g h s =
    ap (λ l. l ++ rows_in (with_more c more) vs) (rows_of_kept c more v g h (s 0 v refl))
    ∙ ap (λ l. rows_of c v ++ l) (rows_in_kept c more vs g h (λ i w k. s (suc i) w k))

-- a test that fails below a number fails below a greater one
pub all_fails : (n m : ℕ) (f g : ℕ → Bool) → n ≤ m → ((k : ℕ) → k < n → f k ≡ g k) → all_below n f ≡ false → all_below m g ≡ false
all_fails n zero f g l e a = absurd (let z : n ≡ 0 = omega arith in true≢false (sym (ap (λ k. all_below k f) z) ∙ a))
all_fails n (suc m) f g l e a = elim (cases_eq n (suc m)) [
  | inl same ↦ sym (all_same (suc m) f g (λ k low. e k (omega (arith, low, same)))) ∙ ap (λ k. all_below k f) (sym same) ∙ a
  | inr other ↦ and_false (g m) (all_below m g) (all_fails n m f g (omega (arith, l, other)) e a)
]

-- which batches and marks may be offered
pub offer_kept : (c : Config) (more : List Row) (r v : ℕ) (past : List Event) → IsConfig c → IsConfig (with_more c more) → AllStand c (known c r past) → StandsForEntry c v → is_offer (with_more c more) r past v ≡ is_offer c r past v
offer_kept c more r v past g h s e =
    ap (λ t. t && ((v / 4096 == r) && (wrote_batch (with_more c more) r (v % 4096) past && (number_of (with_more c more) (v % 4096) == command_count (with_more c more) (client_of (with_more c more) (v % 4096)) (known (with_more c more) r past) + 1)))) (entry_kept c more v g h e)
    ∙ by_test (is_batch c v) refl
  where
    by_test : (t : Bool) → is_batch c v ≡ t
        → (t && ((v / 4096 == r) && (wrote_batch (with_more c more) r (v % 4096) past && (number_of (with_more c more) (v % 4096) == command_count (with_more c more) (client_of (with_more c more) (v % 4096)) (known (with_more c more) r past) + 1))))
        ≡ (t && ((v / 4096 == r) && (wrote_batch c r (v % 4096) past && (number_of c (v % 4096) == command_count c (client_of c (v % 4096)) (known c r past) + 1))))
    by_test true b =
        let low = row_within c v b in
        rw (known_kept c more r past, rest_kept c more (v % 4096) low, number_kept c more (v % 4096) low, client_kept c more (v % 4096) low, session_kept c more (client_of c (v % 4096)) (known c r past) g h s) refl
    by_test false b = refl

lacks_kept : (c : Config) (more : List Row) (limit : ℕ) (o : Option ℕ) → lacks_room (with_more c more) limit o ≡ lacks_room c limit o
lacks_kept c more limit None = refl
lacks_kept c more limit (Some h) = refl

pub candidate_kept : (c : Config) (more : List Row) (r q limit : ℕ) (past : List Event) → is_mark_candidate (with_more c more) r q limit past ≡ is_mark_candidate c r q limit past
candidate_kept c more r q limit [] = refl
candidate_kept c more r q limit (e ∷ past) =
    ap (λ t. if begins_leadership r e then false else ((lacks_room (with_more c more) limit (head_read r q e.by e.verb e.answer) && is_failed r q (e ∷ past)) || t)) (candidate_kept c more r q limit past)
    ∙ ap (λ t. if begins_leadership r e then false else ((t && is_failed r q (e ∷ past)) || is_mark_candidate c r q limit past)) (lacks_kept c more limit (head_read r q e.by e.verb e.answer))

pub mark_offer_kept : (c : Config) (more : List Row) (r v : ℕ) (past : List Event) → is_mark_offer (with_more c more) r past v ≡ is_mark_offer c r past v
mark_offer_kept c more r v past =
    ap (λ t. (v / 4096 == r) && not t)
    (all_same c.replicas
    (λ q. not (is_mark c q v && (not (q == r) && (not (marked (with_more c more) q (known (with_more c more) r past)) && is_mark_candidate (with_more c more) r q (length (known (with_more c more) r past) + reserve c) past))))
    (λ q. not (is_mark c q v && (not (q == r) && (not (marked c q (known c r past)) && is_mark_candidate c r q (length (known c r past) + reserve c) past))))
    (λ q l. rw (known_kept c more r past, marked_kept c more q (known c r past), candidate_kept c more r q (length (known c r past) + reserve c) past) refl))

pub pick_kept : (c : Config) (more : List Row) (r v : ℕ) (past : List Event) (o : Option (ℕ × ℕ)) → IsConfig c → IsConfig (with_more c more) → AllStand c (known c r past) → StandsForEntry c v → pick (with_more c more) r past v o ≡ pick c r past v o
pick_kept c more r v past (Some x) g h s e = refl
pick_kept c more r v past None g h s e =
    ap (λ t. t || is_mark_offer (with_more c more) r past v) (offer_kept c more r v past g h s e)
    ∙ ap (λ t. is_offer c r past v || t) (mark_offer_kept c more r v past)

-- which entries may be put
pub room_kept : (c : Config) (more : List Row) (r : ℕ) (past : List Event) (i free : ℕ) → has_room (with_more c more) r past i free ≡ has_room c r past i free
room_kept c more r past i free =
    all_same c.replicas
    (λ q. marked (with_more c more) q (known (with_more c more) r past) || nat_lt (i + free) (last_head r q past + c.ring))
    (λ q. marked c q (known c r past) || nat_lt (i + free) (last_head r q past + c.ring))
    (λ q l. rw (known_kept c more r past, marked_kept c more q (known c r past)) refl)

pub propose_kept : (c : Config) (more : List Row) (r v i : ℕ) (past : List Event) (o : Option ℕ) → IsConfig c → IsConfig (with_more c more) → AllStand c (known c r past) → StandsForEntry c v → may_propose (with_more c more) r past i v o ≡ may_propose c r past i v o
propose_kept c more r v i past (Some x) g h s e = refl
propose_kept c more r v i past None g h s e = rw (pick_kept c more r v past (highest_accepted r i past c.replicas) g h s e) refl

pub new_kept : (c : Config) (more : List Row) (r i v : ℕ) (past : List Event) → IsConfig c → IsConfig (with_more c more) → AllStand c (known c r past) → StandsForEntry c v → IsNew c r past i v → IsNew (with_more c more) r past i v
new_kept c more r i v past g h s e n = record {
  next = n.next ∙ ap length (sym (known_kept c more r past));
  room = room_kept c more r past i 0 ∙ n.room;
  reserve_kept = λ fresh. room_kept c more r past i (reserve c) ∙ n.reserve_kept (ap (λ t. t && is_none (highest_accepted r i past c.replicas)) (sym (entry_kept c more v g h e)) ∙ fresh);
  none_past = n.none_past;
  value = propose_kept c more r v i past (first_value r i past) g h s e ∙ n.value;
}

put_kept : (c : Config) (more : List Row) (r p i b v : ℕ) (past : List Event) → IsConfig c → IsConfig (with_more c more) → AllStand c (known c r past) → StandsForEntry c v → MayPutSlot c r past p i b v → MayPutSlot (with_more c more) r past p i b v
put_kept c more r p i b v past g h s e m = record {
  within_ring = m.within_ring;
  not_over = m.not_over;
  carried = m.carried;
  member = m.member;
  numbered = m.numbered;
  entered = m.entered;
  looked = m.looked;
  caught_up = λ j l. rw (known_kept c more r past) (m.caught_up j l);
  value = elim m.value [ inl k ↦ inl (ap (λ vs. slice_get vs i) (known_kept c more r past) ∙ k) | inr n ↦ inr (new_kept c more r i v past g h s e n) ];
}

-- what a verb needs
enter_kept : (c : Config) (more : List Row) (r : ℕ) (past : List Event) (p : ℕ) (t : Target) → MayEnter c r past p t → MayEnter (with_more c more) r past p t
enter_kept c more r past p Target.None m = m
enter_kept c more r past p Target.Min m = m
enter_kept c more r past p (Target.Place s) m = m

-- of a verb that puts an entry, that this is one
abbrev PutsEntry : Config → Verb → Type 0
PutsEntry c (Verb.PutSlot p i b v) = StandsForEntry c v
PutsEntry c _ = Unit {0}

needs_kept : (c : Config) (more : List Row) (r : ℕ) (past : List Event) (verb : Verb) → IsConfig c → IsConfig (with_more c more) → AllStand c (known c r past) → PutsEntry c verb → Needs c r past verb → Needs (with_more c more) r past verb
needs_kept c more r past (Verb.Enter p t) g h s e n = (n.0, enter_kept c more r past p t n.1)
needs_kept c more r past (Verb.Look p i) g h s e n = (n.0, ((let l = n.1.0 in let m = more_rows c more in omega (arith, l, m)), n.1.1))
needs_kept c more r past (Verb.PutSlot p i b v) g h s e n = put_points (with_more c more) r past p i b v n.0 (let l = n.1.0 in let m = more_rows c more in omega (arith, l, m)) (put_kept c more r p i b v past g h s e (put_facts c r past p i b v n))
needs_kept c more r past (Verb.RaiseFuo p u) g h s e n =
    raise_points (with_more c more) r past p u n.0 (subst (λ vs. u ≤ length vs) (sym (known_kept c more r past)) n.1.0)
    (all_same u (is_filled (with_more c more) r p past) (is_filled c r p past) (λ j l. filled_kept c more r p past j) ∙ raise_facts c r past p u n)
needs_kept c more r past (Verb.WriteRow j k x) g h s e n = ((let l = n.0 in let m = more_rows c more in omega (arith, l, m)), (n.1.0, (n.1.1.0 ∙ sym (word_kept c more j k n.0), n.1.1.1)))
needs_kept c more r past (Verb.ReadRow v k) g h s e n = (n.0, ((let l = n.1.0 in let m = more_rows c more in omega (arith, l, m)), n.1.1))
needs_kept c more r past (Verb.RaiseHead u) g h s e n = head_points (with_more c more) r past u (subst (λ vs. u ≤ length vs) (sym (applied_kept c more r past g h s)) (head_applied c r past u n)) (head_reached c r past u n)
needs_kept c more r past verb g h s e n = n

puts_entry : (c : Config) (r : ℕ) (past : List Event) (verb : Verb) → IsLegalHistory c past → Needs c r (part r past) verb → PutsEntry c verb
puts_entry c r past (Verb.PutSlot p i b v) h n = let s = put_sound c r p i b v past h (all_sound c past h) (put_facts c r (part r past) p i b v n) in fits_stands c v s.values past s.fits
puts_entry c r past verb h n = tt

pub legal_kept : (c : Config) (more : List Row) (past : List Event) → IsConfig c → IsConfig (with_more c more) → IsLegalHistory c past → IsLegalHistory (with_more c more) past
legal_kept c more [] g h legal = legal
legal_kept c more (e ∷ past) g h legal =
    let a = legal.1.allowed in (
      legal_kept c more past g h legal.0,
      record {
        allowed = record {
          budget = a.budget;
          replica = a.replica;
          may = needs_kept c more e.by (part e.by past) e.verb g h
              (λ i v k. part_entries_stand_law c e.by i v (part e.by past) (part_is_possible c e.by past legal.0) k)
              (puts_entry c e.by past e.verb legal.0 a.may) a.may;
        };
        answer = legal.1.answer ∙ sym (answer_kept c more e.by past e.verb);
      },
    )

pub answers_stay_law : AnswersStay
answers_stay_law c more r past verb = answer_kept c more r past verb

pub known_stays_law : KnownStays
known_stays_law c more r past = known_kept c more r past

pub commits_stay_law : CommitsStay
commits_stay_law c more r past = commits_kept c more r past

pub legal_stays_law : LegalStays
legal_stays_law c more events g h legal = legal_kept c more (history events) g h legal

pub applied_stays_law : AppliedStays
applied_stays_law c more r mine g h p = applied_kept c more r mine g h (λ i v k. part_entries_stand_law c r i v mine p k)

-- a new value, if no look showed an entry, stands for an entry also before it may be put
free_stands : (c : Config) (r v : ℕ) (mine : List Event) → (is_offer c r mine v || is_mark_offer c r mine v) ≡ true → StandsForEntry c v
free_stands c r v mine k = elim (or_cases (is_offer c r mine v) (is_mark_offer c r mine v) k) [
  | inl m ↦ inl (and_parts (is_batch c v) ((v / 4096 == r) && (wrote_batch c r (v % 4096) mine && (number_of c (v % 4096) == command_count c (client_of c (v % 4096)) (known c r mine) + 1))) m).0
  | inr m ↦ (let test : (ℕ → Bool) = λ q. not (is_mark c q v && (not (q == r) && (not (marked c q (known c r mine)) && is_mark_candidate c r q (length (known c r mine) + reserve c) mine))) in
      let x = and_parts (v / 4096 == r) (not (all_below c.replicas test)) m in
      let f = some_fails c.replicas test (not-true (all_below c.replicas test) x.1) in
      let whole = not-false (is_mark c f.who v && (not (f.who == r) && (not (marked c f.who (known c r mine)) && is_mark_candidate c r f.who (length (known c r mine) + reserve c) mine))) f.fails in
      inr (f.who, (and_parts (is_mark c f.who v) (not (f.who == r) && (not (marked c f.who (known c r mine)) && is_mark_candidate c r f.who (length (known c r mine) + reserve c) mine)) whole).0))
]

is_none_none : (o : Option (ℕ × ℕ)) → is_none o ≡ true → o ≡ None
is_none_none None h = refl
is_none_none (Some x) h = absurd (true≢false (sym h))

pub new_stands : (c : Config) (r i b v : ℕ) (mine : List Event) → IsPossible c r mine → proposal_number r mine ≡ Some b → IsNew c r mine i v → is_none (highest_accepted r i mine c.replicas) ≡ true → StandsForEntry c v
new_stands c r i b v mine p numbered n none = go (first_value r i mine) refl n.value
  where
    go : (o : Option ℕ) → first_value r i mine ≡ o → may_propose c r mine i v o ≡ true → StandsForEntry c v
    go (Some f) e k =
        let x = and_parts (v == f) (not (joined_since_first_put r i mine)) k in
        let same : f ≡ v = sym (eqb-true v f x.0) in
        let put : first_value r i (part r p.past) ≡ Some v = ap (first_value r i) p.is ∙ e ∙ ap Some same in
        let s = all_sound c p.past p.legal i v (offered_tried i b v p.past (first_is c r i p.past p.legal b (ap (proposal_number r) p.is ∙ numbered) ∙ put)) in
        fits_stands c v s.values p.past s.fits
    go None e k = free_stands c r v mine (subst (λ o. pick c r mine v o ≡ true) (is_none_none (highest_accepted r i mine c.replicas) none) (and_parts (all_below c.replicas (λ q. not (is_member r q mine) || is_some (last_look r q i mine))) (may_pick_at c r mine i v) k).1)

-- so it may be put also when rows were added
pub new_more : (c : Config) (more : List Row) (r i v : ℕ) (past : List Event) → IsConfig c → IsConfig (with_more c more) → AllStand c (known c r past) → (is_none (highest_accepted r i past c.replicas) ≡ true → StandsForEntry c v) → IsNew c r past i v → IsNew (with_more c more) r past i v
new_more c more r i v past g h s stands n = record {
  next = n.next ∙ ap length (sym (known_kept c more r past));
  room = room_kept c more r past i 0 ∙ n.room;
  reserve_kept = λ fresh.
      let x = and_parts (is_batch (with_more c more) v) (is_none (highest_accepted r i past c.replicas)) fresh in
      room_kept c more r past i (reserve c) ∙ n.reserve_kept (and_from (is_batch c v) (is_none (highest_accepted r i past c.replicas)) (sym (entry_kept c more v g h (stands x.1)) ∙ x.0) x.1);
  none_past = n.none_past;
  value = same (first_value r i past) ∙ n.value;
}
  where
    picked : (o : Option (ℕ × ℕ)) → highest_accepted r i past c.replicas ≡ o → pick (with_more c more) r past v o ≡ pick c r past v o
    picked (Some x) e = refl
    picked None e = pick_kept c more r v past None g h s (stands (ap is_none e))

    same : (o : Option ℕ) → may_propose (with_more c more) r past i v o ≡ may_propose c r past i v o
    same (Some x) = refl
    same None = ap (λ t. all_below c.replicas (λ q. not (is_member r q past) || is_some (last_look r q i past)) && t) (picked (highest_accepted r i past c.replicas) refl)

-- values that lack a command lack one also when rows were added
pub lacks_more : (c : Config) (more : List Row) (vs : List ℕ) → IsConfig c → IsConfig (with_more c more) → AllStand c vs → holds_all c vs ≡ false → holds_all (with_more c more) vs ≡ false
lacks_more c more vs g h s lacks = all_fails (row_count c) (row_count (with_more c more)) (λ j. includes j (rows_in c vs)) (λ j. includes j (rows_in (with_more c more) vs)) (more_rows c more) (λ j l. ap (includes j) (sym (rows_in_kept c more vs g h s))) lacks

-- a possible part writes only rows that are there
unwritten : (c : Config) (r j k : ℕ) (past : List Event) → IsLegalHistory c past → row_count c ≤ j → wrote r j k past ≡ false
unwritten c r j k [] h l = refl
unwritten c r j k (e ∷ past) h l = rw (by_verb e.verb h.1.allowed.may) (unwritten c r j k past h.0 l)
  where
    by_verb : (v : Verb) → Needs c e.by (part e.by past) v → is_written r j k e.by v ≡ false
    by_verb (Verb.WriteRow row word x) n = and_false (e.by == r) ((row == j) && (word == k)) (false_and (row == j) (word == k) (ne_eqb row j (λ same. let low = n.0 in omega (arith, low, l, same))))
    by_verb v n = refl

pub no_row_written : (c : Config) (r j k : ℕ) (mine : List Event) → IsPossible c r mine → row_count c ≤ j → wrote r j k mine ≡ false
no_row_written c r j k mine p l = false_from_ne_true (wrote r j k mine) (λ is. true≢false (sym (has_of_part (λ e. is_written r j k e.by e.verb) r p.past (subst (λ z. wrote r j k z ≡ true) (sym p.is) is)) ∙ unwritten c r j k p.past p.legal l))

-- and reads only such
unread : (c : Config) (r v k : ℕ) (past : List Event) → IsLegalHistory c past → row_count c ≤ v % 4096 → has (λ e. is_read r v k e.by e.verb) past ≡ false
unread c r v k [] h l = refl
unread c r v k (e ∷ past) h l = rw (by_verb e.verb h.1.allowed.may) (unread c r v k past h.0 l)
  where
    by_verb : (verb : Verb) → Needs c e.by (part e.by past) verb → is_read r v k e.by verb ≡ false
    by_verb (Verb.ReadRow w word) n = and_false (e.by == r) ((w == v) && (word == k)) (false_and (w == v) (word == k) (ne_eqb w v (λ same. let low = n.1.0 in let rows = ap (λ x. x % 4096) same in omega (arith, low, l, rows))))
    by_verb verb n = refl

pub no_word_there : (c : Config) (r v k : ℕ) (mine : List Event) → IsPossible c r mine → row_count c ≤ v % 4096 → has_word r v k mine ≡ false
no_word_there c r v k mine p l =
    ap (λ t. t || has (λ e. is_read r v k e.by e.verb) mine) (and_false (v / 4096 == r) (wrote r (v % 4096) k mine) (no_row_written c r (v % 4096) k mine p l))
    ∙ false_from_ne_true (has (λ e. is_read r v k e.by e.verb) mine) (λ is. true≢false (sym (has_of_part (λ e. is_read r v k e.by e.verb) r p.past (subst (λ z. has (λ e. is_read r v k e.by e.verb) z ≡ true) (sym p.is) is)) ∙ unread c r v k p.past p.legal l))

-- a batch of a row that came later is not among what was known before
pub later_rows_follow_law : LaterRowsFollow
later_rows_follow_law c more older newer r s i k v w g h legal now at there batch new = elim (cases_lt i k) [
  | inl before ↦ before
  | inr late ↦ absurd (known_before late)
]
  where
    mine : List Event
    mine = part r (history older)

    whole : part r (history (older ++ newer)) ≡ part r (history newer) ++ mine
    whole = ap (part r) (reverse-append older newer) ∙ filter-append (λ e. e.by == r) (history newer) (history older)

    known_before : k ≤ i → ⊥
    known_before low =
        let within = slice_get_within (known c r mine) i v at in
        let item = item_below (known c r mine) k (omega (arith, low, within)) in
        let stays = known_stays (with_more c more) r (part r (history newer)) mine in
        let was : slice_get (known (with_more c more) r mine) k ≡ Some item.0 = ap (λ l. slice_get l k) (known_kept c more r mine) ∙ item.1 in
        let here : slice_get (known (with_more c more) r (part r (history (older ++ newer)))) k ≡ Some item.0 =
        ap (λ l. slice_get (known (with_more c more) r l) k) whole ∙ (ap (λ l. slice_get l k) stays.1 ∙ get_front (known (with_more c more) r mine) stays.0 k item.0 was) in
        let same : item.0 ≡ w = known_agree (with_more c more) r s (history (older ++ newer)) now k item.0 w here there in
        elim (subst (StandsForEntry c) same (part_entries_stand_law c r k item.0 mine (part_is_possible c r (history older) legal) item.1)) [
          | inl own ↦ (let low = row_within c w own in omega (arith, low, new))
          | inr mark ↦ mark_no_batch (with_more c more) mark.0 w h mark.1 batch
        ]
