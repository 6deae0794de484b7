-- The counts of a replayer: what closes them, and what an event leaves that closes none.
use Rattle.std.proofs.Common.{◌≡◌, ◌∙◌, ℕ, ◌+◌, ◌*◌, ◌%◌, ◌<◌, ◌≤◌, ◌==◌, ◌&&◌, ◌||◌, ◌⊎◌, inl, inr, Bool, true, false, None, Some, List, [], ◌∷◌, ap, arith, length, refl, sym}
use Rattle.std.specs.Prelude.{if◌then◌else◌, not}
use Rattle.std.specs.declared.option.Option.{Option}
use Rattle.std.proofs.lemmas.Bool.{cases_lt, eq-eqb, lt-ltb, ltb-true, true≢false, or_parts}
use Rattle.mu_model.specs.declared.config.Config.{Config}
use Rattle.mu_model.specs.declared.event.Event.{Event}
use Rattle.mu_model.specs.declared.event.Verb.{Verb}
use Rattle.mu_model.specs.Bounds.{cycle}
use Rattle.mu_model.specs.Diligence.{completes_row, completes_row_verb, is_row_of}
use Rattle.mu_model.specs.Knowledge.{applied, greatest_fuo_read, has_row, has_word, known, front, has_entry}
use Rattle.mu_model.specs.Steps.{is_fuo_of, is_fuo_of_verb, is_named, knows_more}
use Rattle.mu_model.specs.Stretches.{is_odd}
use Rattle.mu_model.proofs.Basics.{none_some, or_true, same_number, same_some, true_or}
use Rattle.mu_model.proofs.Scans.{each_all}
use Rattle.mu_knowledge.proofs.Fetched.{read_word}
use Rattle.mu_follow.specs.CatchingUp.{catch_up_due, entry_due, lacked_word_of, or_else, words_had}
use Rattle.mu_follow.specs.Due.{replay_due, row_read, row_under_way}
use Rattle.mu_follow.proofs.Due.{least_below_fails}
use Rattle.mu_follow.proofs.Waiting.{fuo_rises, known_same, front_same}
use Rattle.mu_lead.specs.Beside.{leads_at}
use Rattle.mu_pace.specs.Counters.{HasRoom, IsInTime, fewer, left_after, steps_left}
use Rattle.mu_pace.specs.Watches.{is_replay_due, reading_own, replaying}
use Rattle.mu_agree.specs.Moments.{is_named_turn, AtEachMoment, AtEachStep}
use Rattle.mu_pace.proofs.Cycles.{closed_moments, steps_give, while_allows}
use Rattle.mu_model.specs.Contents.{IsConfig}
use Rattle.mu_model.specs.Parts.{IsPossible}
use Rattle.mu_agree.proofs.Possible.{parts_shorten_law}
use Rattle.mu_node.specs.Due.{or_ahead, CatchesUp, verb_or_beat, listed_due}
use Rattle.mu_lively.proofs.OwnRows.{rows_stay, word_on}
use Rattle.mu_node.specs.Cycle.{handed}
use Rattle.mu_node.proofs.CatchingUp.{made_led}
use Rattle.mu_lively.proofs.Caught.{closes_anew}
use Rattle.mu_node.specs.Journal.{WasMade}
use Rattle.mu_lively.proofs.Named.{led_named, was_named}
use Rattle.mu_lively.proofs.Rounding.{replayed_at}
use Rattle.mu_lead.specs.Journal.{place_after}

own_allows : (c : Config) (r : ℕ) (now : List Event) (allowed : ℕ) → (reading_own c r).allows now ≡ Some allowed → 8 * c.replicas + 88 ≡ allowed
own_allows c r now allowed is = while_allows (λ now. true) (λ now. 8 * c.replicas + 88) now allowed is

pub rows_allow : (c : Config) (r : ℕ) (now : List Event) (allowed : ℕ) → (replaying c r).allows now ≡ Some allowed → 8 * c.replicas + 88 ≡ allowed
rows_allow c r now allowed is = while_allows (is_replay_due c r) (λ now. 8 * c.replicas + 88) now allowed is

-- right after a turn in which r was named both counts have their whole room
own_anew : (c : Config) (r n : ℕ) (past : List Event) → n ≤ 8 * c.replicas + 88 → was_named c r past ≡ true → HasRoom (reading_own c r) n past
own_anew c r n [] low named = absurd (true≢false (sym named))
own_anew c r n (e ∷ past) low named = closes_anew (reading_own c r) n past e (or_true (is_fuo_of r e) (is_named_turn c r past e) named) (λ allowed is. let whole = own_allows c r (e ∷ past) allowed is in omega (arith, low, whole))

pub rows_anew : (c : Config) (r n : ℕ) (past : List Event) → n ≤ 8 * c.replicas + 88 → was_named c r past ≡ true → HasRoom (replaying c r) n past
rows_anew c r n [] low named = absurd (true≢false (sym named))
rows_anew c r n (e ∷ past) low named = closes_anew (replaying c r) n past e (or_true (knows_more c r past e || completes_row c r past e) (is_named_turn c r past e) named) (λ allowed is. let whole = rows_allow c r (e ∷ past) allowed is in omega (arith, low, whole))

-- a read of the own FUO is due at its place, or r was named right before
own_closed : (c : Config) (r : ℕ) (past : List Event) (e : Event) → WasMade c r past e → length past % cycle c ≡ 2 * (2 * c.replicas + 4) → ((reading_own c r).closes past e ≡ true) ⊎ HasRoom (reading_own c r) (cycle c + 1) past
own_closed c r past e held at = go (leads_at (place_after c r past)) refl
  where
    here : (is_odd (length past) ≡ false) × (e.verb ≡ or_ahead held.zeal c r past (replay_due c r past (handed c r past) 0 (leads_at (place_after c r past))))
    here = replayed_at c r 0 past e held (at ∙ omega arith)

    go : (t : Bool) → leads_at (place_after c r past) ≡ t → ((reading_own c r).closes past e ≡ true) ⊎ HasRoom (reading_own c r) (cycle c + 1) past
    go true leading = inr (own_anew c r (cycle c + 1) past (omega arith) (led_named c r past here.0 leading))
    go false other =
        let reads : e.verb ≡ Verb.Fuo r = here.1 ∙ ap (λ t. or_ahead held.zeal c r past (replay_due c r past (handed c r past) 0 t)) other in
        inl (true_or (is_fuo_of r e) (is_named_turn c r past e) (ap (is_fuo_of_verb r) reads ∙ same_number r))

pub own_in_time : (c : Config) (r : ℕ) (past : List Event) → AtEachStep (WasMade c r) past → AtEachMoment (IsInTime (reading_own c r)) past
own_in_time c r past made =
    closed_moments (cycle c) (2 * (2 * c.replicas + 4)) (reading_own c r) past (omega arith) (λ now allowed is. let whole = own_allows c r now allowed is in omega (arith, whole))
    (steps_give (WasMade c r) (λ before e. length before % cycle c ≡ 2 * (2 * c.replicas + 4) → ((reading_own c r).closes before e ≡ true) ⊎ HasRoom (reading_own c r) (cycle c + 1) before) (λ before e held at. own_closed c r before e held at) past made)

-- in a turn of the leader in which r isn't named it beats, or catches up
unnamed_made : (c : Config) (r : ℕ) (past : List Event) (e : Event) → WasMade c r past e → is_named_turn c r past e ≡ false → is_odd (length past) ≡ true → (e.verb ≡ Verb.Beat) ⊎ CatchesUp c r past e.verb
unnamed_made c r past e held unnamed odd =
    let other : is_named c r past ≡ false = sym (ap (λ t. t && is_named c r past) odd) ∙ unnamed in
    elim (made_led held.zeal c r past e.verb (held.made.replication odd)) [
      | inl listed ↦ inl (listed ∙ ap (λ t. verb_or_beat (if t then listed_due c r past else None)) other)
      | inr third ↦ elim third [
        | inl caught ↦ inr caught
        | inr out ↦ absurd (true≢false (sym out.named ∙ other))
      ]
    ]

-- an event that doesn't close the count
pub record IsOpenStep (c : Config) (r : ℕ) (past : List Event) (e : Event) : Type 0 where
  pub learns : knows_more c r past e ≡ false
  pub completes : completes_row c r past e ≡ false
  pub unnamed : is_named_turn c r past e ≡ false

pub open_step : (c : Config) (r : ℕ) (past : List Event) (e : Event) → (replaying c r).closes past e ≡ false → IsOpenStep c r past e
open_step c r past e none =
    let a = or_parts (knows_more c r past e || completes_row c r past e) (is_named_turn c r past e) none in
    let b = or_parts (knows_more c r past e) (completes_row c r past e) a.0 in
    record { learns = b.0; completes = b.1; unnamed = a.1 }

-- such an event leaves what is known and applied
pub still_known : (c : Config) (r : ℕ) (past : List Event) (e : Event) → IsOpenStep c r past e → known c r (e ∷ past) ≡ known c r past
still_known c r past e still = known_same c r past e still.learns

pub still_row : (c : Config) (r u : ℕ) (past : List Event) (e : Event) → IsConfig c → IsPossible c r past → WasMade c r past e → IsOpenStep c r past e → is_row_of c u (known c r past) ≡ true → has_row r u (e ∷ past) ≡ has_row r u past
still_row c r u past e good possible held still of_known = rows_stay c r u past e good possible held.own still.completes of_known

pub still_applied : (c : Config) (r : ℕ) (past : List Event) (e : Event) → IsConfig c → IsPossible c r past → WasMade c r past e → IsOpenStep c r past e → length (applied c r (e ∷ past)) ≡ length (applied c r past)
still_applied c r past e good possible held still =
    ap (λ xs. length (front (λ v. has_entry c r v (e ∷ past)) xs)) (known_same c r past e still.learns)
    ∙ front_same c (λ u. has_row r u past) (λ u. has_row r u (e ∷ past)) (known c r past) (λ u is. still_row c r u past e good possible held still is)

-- an event that leaves what of the rows of known entries r has, and which row is under way, if r
-- lacks it and the event isn't the cycle's own
pub record IsStill (c : Config) (r : ℕ) (past : List Event) (e : Event) : Type 0 where
  pub of_known : (u : ℕ) → is_row_of c u (known c r past) ≡ true → is_row_of c u (known c r (e ∷ past)) ≡ true
  pub rows : (u : ℕ) → is_row_of c u (known c r past) ≡ true → has_row r u (e ∷ past) ≡ has_row r u past
  pub words : (u k : ℕ) → has_word r u k past ≡ true → has_word r u k (e ∷ past) ≡ true
  pub same : length (applied c r (e ∷ past)) ≡ length (applied c r past)
  pub under : is_odd (length past) ≡ true → (u : ℕ) → row_under_way past ≡ Some u → is_row_of c u (known c r past) ≡ true → has_row r u past ≡ false → row_under_way (e ∷ past) ≡ Some u

-- a word that was there or is read
pub word_had : (c : Config) (r row j k : ℕ) (past : List Event) (e : Event) → e.by ≡ r → e.verb ≡ Verb.ReadRow row k → (j ≡ k) ⊎ (has_word r row j past ≡ true) → has_word r row j (e ∷ past) ≡ true
word_had c r row j k past e own reads now =
    sym (read_word r row j row k e past reads (eq-eqb e.by r own))
    ∙ (elim now [
      | inl same ↦ true_or ((row == row) && (j == k)) (has_word r row j past) (rw (same_number row, eq-eqb j k same) refl)
      | inr had ↦ or_true ((row == row) && (j == k)) (has_word r row j past) had
    ])

-- the words before the first that r lacks are there
word_before : (r u j : ℕ) (past : List Event) → j < words_had r past u → j < 12 → has_word r u j past ≡ true
word_before r u j past low few = go (has_word r u j past) (least_below_fails 12 (λ k. not (has_word r u k past)) j low few)
  where
    go : (t : Bool) → not t ≡ false → t ≡ true
    go true is = refl
    go false is = absurd (true≢false is)

-- while a row of a known entry is under way that r lacks, it catches up by the next word of it: so
-- the row stays under way unless it is completed
pub under_caught : (c : Config) (r u : ℕ) (past : List Event) (e : Event) → e.by ≡ r → CatchesUp c r past e.verb → row_under_way past ≡ Some u → is_row_of c u (known c r past) ≡ true → has_row r u past ≡ false → completes_row c r past e ≡ false → row_under_way (e ∷ past) ≡ Some u
under_caught c r u past e own caught under of_known missing none = elim (cases_lt k 11) [
  | inl few ↦ ap (λ v. row_read v (row_under_way past)) reads ∙ ap (λ t. if t then Some u else None) (lt-ltb k 11 few)
  | inr last ↦ (let had : has_row r u (e ∷ past) ≡ true = each_all 12 (λ j. has_word r u j (e ∷ past)) (λ j low. word_had c r u j k past e own reads (elim (cases_lt j k) [ inl before ↦ inr (word_before r u j past before low) | inr rest ↦ inl (omega (arith, low, rest, last, short)) ])) in
      absurd (true≢false (sym (ap (completes_row_verb c r past (e ∷ past)) reads ∙ rw (of_known, missing, had) refl) ∙ none)))
]
  where
    k : ℕ
    k = words_had r past u

    short : k < 12
    short = elim (cases_lt k 12) [
      | inl low ↦ low
      | inr high ↦ absurd (true≢false (sym (each_all 12 (λ j. has_word r u j past) (λ j few. word_before r u j past (omega (arith, few, high)) few)) ∙ missing))
    ]

    due : catch_up_due c r past ≡ Some (Verb.ReadRow u k)
    due = ap (λ row. or_else (lacked_word_of r past row) (entry_due c r past)) under ∙ ap (λ t. or_else (if t then Some (Verb.ReadRow u k) else None) (entry_due c r past)) (lt-ltb k 12 short)

    reads : e.verb ≡ Verb.ReadRow u k
    reads = same_some e.verb (Verb.ReadRow u k) (sym caught.due ∙ due)

-- one that doesn't close the count is
pub still_open : (c : Config) (r : ℕ) (past : List Event) (e : Event) → IsConfig c → IsPossible c r past → WasMade c r past e → IsOpenStep c r past e → IsStill c r past e
still_open c r past e good possible held still = record {
  of_known = λ u is. ap (is_row_of c u) (still_known c r past e still) ∙ is;
  rows = λ u is. still_row c r u past e good possible held still is;
  words = λ u k had. word_on r u k e past had;
  same = still_applied c r past e good possible held still;
  under = λ odd u under of_known missing. elim (unnamed_made c r past e held still.unnamed odd) [
    | inl beats ↦ ap (λ v. row_read v (row_under_way past)) beats ∙ under
    | inr caught ↦ under_caught c r u past e held.own caught under of_known missing still.completes
  ];
}

-- what is due to be replayed stays due
due_stays : (c : Config) (r : ℕ) (past : List Event) (e : Event) → IsConfig c → IsPossible c r past → WasMade c r past e → IsOpenStep c r past e → is_replay_due c r past ≡ true → is_replay_due c r (e ∷ past) ≡ true
due_stays c r past e good possible held still due =
    let low = ltb-true (length (applied c r past)) (greatest_fuo_read r r past) due in
    let same = still_applied c r past e good possible held still in
    let more = fuo_rises r past e in
    lt-ltb (length (applied c r (e ∷ past))) (greatest_fuo_read r r (e ∷ past)) (omega (arith, low, same, more))

-- while the count is open something is due
open_due : (c : Config) (r : ℕ) (past : List Event) (left : ℕ) → IsConfig c → IsPossible c r past → AtEachStep (WasMade c r) past → steps_left (replaying c r) past ≡ Some left → is_replay_due c r past ≡ true
open_due c r [] left good possible made is = go (is_replay_due c r []) is
  where
    go : (t : Bool) → (if t then Some (8 * c.replicas + 88) else None) ≡ Some left → t ≡ true
    go true is = refl
    go false is = absurd (none_some left is)
open_due c r (e ∷ past) left good possible made is = elim (step (is_replay_due c r (e ∷ past)) ((replaying c r).closes past e) (steps_left (replaying c r) past) is) [
  | inl due ↦ due
  | inr still ↦ (let before = (parts_shorten_law c r past e possible).before in due_stays c r past e good before made.1 (open_step c r past e still.0) (open_due c r past still.1.0 good before made.0 still.1.1))
]
  where
    step : (t u : Bool) (o : Option ℕ) → fewer (if t then Some (8 * c.replicas + 88) else None) (left_after u true 0 o) ≡ Some left → (t ≡ true) ⊎ ((u ≡ false) × ((l : ℕ) × (o ≡ Some l)))
    step true u o is = inl refl
    step false u None is = absurd (none_some left is)
    step false true (Some l) is = absurd (none_some left is)
    step false false (Some l) is = inr (refl, (l, refl))

-- if nothing is due there is any room
pub undue_room : (c : Config) (r n : ℕ) (past : List Event) → IsConfig c → IsPossible c r past → AtEachStep (WasMade c r) past → is_replay_due c r past ≡ false → HasRoom (replaying c r) n past
undue_room c r n past good possible made none left is = absurd (true≢false (sym (open_due c r past left good possible made is) ∙ none))
