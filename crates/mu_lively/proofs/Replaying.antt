-- A node that isn't named learns or fetches what lies below its FUO: its places, from the head to the
-- last word of a row.
use Rattle.std.proofs.Common.{◌≡◌, ◌∙◌, ◌≢◌, ℕ, suc, ◌+◌, ◌-◌, ◌*◌, ◌/◌, ◌%◌, ◌<◌, ◌≤◌, ◌==◌, ◌&&◌, ◌||◌, ◌⊎◌, inl, inr, Bool, true, false, None, Some, List, [], ◌∷◌, ap, arith, length, refl, subst, sym}
use Rattle.std.specs.Prelude.{if◌then◌else◌, nat_lt, not}
use Rattle.std.specs.List.{slice_get}
use Rattle.std.proofs.Math.Nat.{div-add-mod, mod-eq_of_lt, mod-lt, mod_self, mul_assoc, suc-mod}
use Rattle.std.proofs.lemmas.Bool.{cases_eq, cases_lt, eq-eqb, eqb-true, le-ltb, lt-ltb, ltb-true, ne_eqb, true≢false}
use Rattle.mu_model.specs.declared.config.Config.{Config}
use Rattle.mu_model.specs.declared.event.Event.{Event}
use Rattle.mu_model.specs.declared.event.Verb.{Verb}
use Rattle.mu_model.specs.Bounds.{cycle}
use Rattle.mu_model.specs.Contents.{rest_of, IsConfig}
use Rattle.mu_model.specs.Diligence.{completes_row, completes_row_verb, is_row_of}
use Rattle.mu_model.specs.Ends.{outrun}
use Rattle.mu_model.specs.Knowledge.{applied, greatest_fuo_read, has_row, has_word, is_known_decided, known}
use Rattle.mu_model.specs.Parts.{IsPossible}
use Rattle.mu_model.specs.Steps.{knows_more}
use Rattle.mu_model.specs.Stretches.{is_odd}
use Rattle.mu_model.proofs.Basics.{or_true, true_or}
use Rattle.mu_model.proofs.Scans.{each_all}
use Rattle.mu_model.specs.Histories.{event_by}
use Rattle.mu_agree.proofs.Possible.{parts_shorten_law}
use Rattle.mu_follow.specs.Due.{first_word_of, look_due, next_word_of, raise_due, replay_due, row_read, row_under_way, rows_had, word_due}
use Rattle.mu_follow.proofs.Waiting.{IsNextRow, look_teaches, next_row, row_of_known}
use Rattle.mu_lead.specs.Beside.{leads_at}
use Rattle.mu_lively.proofs.Named.{led_named}
use Rattle.mu_pace.specs.Counters.{HasRoom, IsInTime}
use Rattle.mu_pace.specs.Rounds.{IsClosedAt}
use Rattle.mu_pace.specs.Watches.{is_replay_due, replaying}
use Rattle.mu_agree.specs.Moments.{is_named_turn, AtEachMoment, AtEachStep}
use Rattle.mu_pace.proofs.Cycles.{closed_moments}
use Rattle.mu_pace.proofs.Rooms.{kinds_of_step}
use Rattle.mu_node.specs.Cycle.{handed, handed_before, hands_on, place_now}
use Rattle.mu_node.specs.Due.{or_ahead}
use Rattle.mu_node.specs.Journal.{WasMade}
use Rattle.mu_lively.proofs.Rounding.{at_place, place_index, replayed_at}
use Rattle.mu_lively.proofs.Open.{IsOpenStep, IsStill, open_step, rows_allow, rows_anew, still_applied, still_known, still_open, undue_room, word_had}
use Rattle.mu_lively.proofs.Caught.{closes_anew}
use Rattle.mu_lead.specs.Journal.{place_after}

-- how many events come before the next last word
abbrev ahead : ℕ → ℕ → ℕ
ahead n x = if nat_lt (4 * n + 36) x then 8 * n + 80 - x else 4 * n + 36 - x

-- there is room for a round more from the next last word on
abbrev IsEased : Config → ℕ → List Event → Type 0
IsEased c r past = HasRoom (replaying c r) (cycle c + 1 + ahead c.replicas (length past % cycle c)) past

-- a row of a known entry is under way that r doesn't have, and this many of its words are read
pub record IsReading (c : Config) (r count : ℕ) (past : List Event) : Type 0 where
  pub row : ℕ
  pub under_way : row_under_way past ≡ Some row
  pub of_known : is_row_of c row (known c r past) ≡ true
  pub missing : has_row r row past ≡ false
  pub words : (k : ℕ) → k < count → has_word r row k past ≡ true

-- what is done at the place x of the round: from the place of heads up to the first word all that is
-- applied was handed on; before the first word some entry isn't applied, and after it one of its
-- rows is read word by word
pub record IsAt (c : Config) (r x : ℕ) (past : List Event) : Type 0 where
  pub handed : (x ≤ 4 * c.replicas + 14) ⊎ (4 * c.replicas + 41 ≤ x) → handed_before c r past ≡ length (applied c r past)
  pub waits : 4 * c.replicas + 13 ≤ x → x ≤ 4 * c.replicas + 14 → length (applied c r past) < length (known c r past)
  pub reads : 4 * c.replicas + 15 ≤ x → x ≤ 4 * c.replicas + 36 → IsReading c r ((x - (4 * c.replicas + 13)) / 2) past

-- there is room, or it is done, or r was outrun
abbrev RoundGoesOn : Config → ℕ → List Event → Type 0
RoundGoesOn c r past = IsEased c r past ⊎ (IsAt c r (length past % cycle c) past ⊎ (outrun c r past ≡ None → ⊥))

-- the next place
abbrev pub IsAfter : Config → ℕ → ℕ → Type 0
IsAfter c x y = (y ≡ x + 1) ⊎ ((x + 1 ≡ 4 * c.replicas + 44) × (y ≡ 0))

pub next_place : (c : Config) (past : List Event) (e : Event) → IsAfter c (length past % cycle c) (length (e ∷ past) % cycle c)
next_place c past e =
    let low = mod-lt (length past) {m = cycle c} (omega arith) in
    let more = suc-mod (length past) (cycle c) in
    elim (cases_lt (suc (length past % cycle c)) (cycle c)) [
      | inl inside ↦ inl (more ∙ (mod-eq_of_lt inside ∙ omega arith))
      | inr over ↦ (let whole : suc (length past % cycle c) ≡ cycle c = omega (arith, low, over) in inr (omega (arith, whole), more ∙ (ap (λ z. z % cycle c) whole ∙ mod_self (cycle c))))
    ]

ahead_low : (c : Config) (x : ℕ) → x < cycle c → ahead c.replicas x + 1 ≤ cycle c
ahead_low c x low = go (nat_lt (4 * c.replicas + 36) x) refl
  where
    go : (t : Bool) → nat_lt (4 * c.replicas + 36) x ≡ t → (if t then 8 * c.replicas + 80 - x else 4 * c.replicas + 36 - x) + 1 ≤ cycle c
    go true over = let far = ltb-true (4 * c.replicas + 36) x over in omega (arith, far)
    go false under = omega (arith, low)

ahead_next : (c : Config) (x y : ℕ) → x < cycle c → x ≢ 4 * c.replicas + 36 → IsAfter c x y → ahead c.replicas y + 1 ≡ ahead c.replicas x
ahead_next c x y low other after = go (cases_lt (4 * c.replicas + 36) x) (cases_lt (4 * c.replicas + 36) y) after
  where
    above : (z : ℕ) → 4 * c.replicas + 36 < z → ahead c.replicas z ≡ 8 * c.replicas + 80 - z
    above z far = ap (λ t. if t then 8 * c.replicas + 80 - z else 4 * c.replicas + 36 - z) (lt-ltb (4 * c.replicas + 36) z far)

    below : (z : ℕ) → z ≤ 4 * c.replicas + 36 → ahead c.replicas z ≡ 4 * c.replicas + 36 - z
    below z near = ap (λ t. if t then 8 * c.replicas + 80 - z else 4 * c.replicas + 36 - z) (le-ltb (4 * c.replicas + 36) z near)

    go : (4 * c.replicas + 36 < x) ⊎ (x ≤ 4 * c.replicas + 36) → (4 * c.replicas + 36 < y) ⊎ (y ≤ 4 * c.replicas + 36) → IsAfter c x y → ahead c.replicas y + 1 ≡ ahead c.replicas x
    go (inl far) (inl far_too) (inl next) = let a = above x far in let b = above y far_too in omega (arith, a, b, next, low)
    go (inl far) (inl far_too) (inr round) = let zero = round.1 in absurd (omega (arith, far_too, zero))
    go (inl far) (inr near) (inl next) = absurd (omega (arith, far, near, next))
    go (inl far) (inr near) (inr round) = let a = above x far in let b = below y near in let whole = round.0 in let zero = round.1 in omega (arith, a, b, whole, zero)
    go (inr near) (inl far) (inl next) = absurd (other (omega (arith, near, far, next)))
    go (inr near) (inl far) (inr round) = let zero = round.1 in absurd (omega (arith, far, zero))
    go (inr near) (inr near_too) (inl next) = let a = below x near in let b = below y near_too in omega (arith, a, b, next, near_too)
    go (inr near) (inr near_too) (inr round) = let whole = round.0 in absurd (omega (arith, near, whole))

-- what closes the count leaves room, and room lasts up to the next last word
closing_eases : (c : Config) (r : ℕ) (past : List Event) (e : Event) → (replaying c r).closes past e ≡ true → IsEased c r (e ∷ past)
closing_eases c r past e closes =
    let few = ahead_low c (length (e ∷ past) % cycle c) (mod-lt (length (e ∷ past)) {m = cycle c} (omega arith)) in
    closes_anew (replaying c r) (cycle c + 1 + ahead c.replicas (length (e ∷ past) % cycle c)) past e closes (λ allowed is. let whole = rows_allow c r (e ∷ past) allowed is in omega (arith, whole, few))

room_lasts : (c : Config) (r : ℕ) (past : List Event) (e : Event) → length past % cycle c ≢ 4 * c.replicas + 36 → IsEased c r past → IsEased c r (e ∷ past)
room_lasts c r past e other eased =
    let low = mod-lt (length past) {m = cycle c} (omega arith) in
    let next = ahead_next c (length past % cycle c) (length (e ∷ past) % cycle c) low other (next_place c past e) in
    let few = ahead_low c (length (e ∷ past) % cycle c) (mod-lt (length (e ∷ past)) {m = cycle c} (omega arith)) in
    kinds_of_step.takes (replaying c r) (cycle c + 1 + ahead c.replicas (length past % cycle c)) (cycle c + 1 + ahead c.replicas (length (e ∷ past) % cycle c)) past e
    (λ allowed is. let whole = rows_allow c r (e ∷ past) allowed is in omega (arith, whole, few)) (omega (arith, next)) eased

any_eases : (c : Config) (r : ℕ) (past : List Event) → ((n : ℕ) → n ≤ 8 * c.replicas + 88 → HasRoom (replaying c r) n past) → IsEased c r past
any_eases c r past room = let few = ahead_low c (length past % cycle c) (mod-lt (length past) {m = cycle c} (omega arith)) in room (cycle c + 1 + ahead c.replicas (length past % cycle c)) (omega (arith, few))

-- if all that is applied is handed on
hands_here : (c : Config) (past : List Event) → length past % cycle c ≡ 4 * c.replicas + 40 → hands_on c past ≡ true
hands_here c past at =
    let here = at_place c (2 * c.replicas + 20) past (at ∙ omega arith) in
    rw (here.0, eq-eqb (place_now c past) (2 * c.replicas + 20) here.1) refl

hands_not : (c : Config) (past : List Event) → length past % cycle c ≢ 4 * c.replicas + 40 → hands_on c past ≡ false
hands_not c past away = go (is_odd (length past)) refl (place_now c past == 2 * c.replicas + 20) refl
  where
    go : (s : Bool) → is_odd (length past) ≡ s → (t : Bool) → (place_now c past == 2 * c.replicas + 20) ≡ t → (not s && t) ≡ false
    go true odd t here = refl
    go false even false here = refl
    go false even true here = absurd (away (place_index c (2 * c.replicas + 20) past even (eqb-true (place_now c past) (2 * c.replicas + 20) here) ∙ omega arith))

-- the places of the round are odd if their indices are
odd_index : (c : Config) (past : List Event) → (length past % cycle c) % 2 ≡ length past % 2
odd_index c past =
    let whole = div-add-mod (length past) (cycle c) in
    let twice = mul_assoc 2 (2 * c.replicas + 22) (length past / cycle c) in
    let same : 2 * (2 * c.replicas + 22) ≡ cycle c = omega arith in
    let parts : cycle c * (length past / cycle c) ≡ 2 * ((2 * c.replicas + 22) * (length past / cycle c)) = ap (λ z. z * (length past / cycle c)) (sym same) ∙ twice in
    omega (arith, whole, parts)

-- what is due for the words of a row but its first
words_due : (c : Config) (r : ℕ) (past : List Event) (count f k : ℕ) (leading : Bool) → f ≡ 3 + k → 1 ≤ k → k < 12 → replay_due c r past count f leading ≡ next_word_of k (row_under_way past)
words_due c r past count f k leading is some low =
    ap (λ t. if t then (if leading then None else look_due c r past f) else if nat_lt f 15 then word_due c r past count (f - 3) else raise_due c r past count f) (le-ltb f 3 (omega (arith, is)))
    ∙ (ap (λ t. if t then word_due c r past count (f - 3) else raise_due c r past count f) (lt-ltb f 15 (omega (arith, is, low)))
    ∙ (ap (λ j. word_due c r past count j) (omega (arith, is)) ∙ ap (λ t. if t then first_word_of c r past (slice_get (known c r past) count) else next_word_of k (row_under_way past)) (ne_eqb k 0 (λ e. omega (arith, e, some)))))

-- the word k of the row under way is read at its place
word_read : (c : Config) (r k row : ℕ) (past : List Event) (e : Event) → WasMade c r past e → length past % cycle c ≡ 4 * c.replicas + 14 + 2 * k → 1 ≤ k → k < 12 → row_under_way past ≡ Some row → e.verb ≡ Verb.ReadRow row k
word_read c r k row past e held at some low under_way =
    let here = replayed_at c r (3 + k) past e held (at ∙ omega arith) in
    here.1 ∙ (ap (or_ahead held.zeal c r past) (words_due c r past (handed c r past) (3 + k) k (leads_at (place_after c r past)) refl some low) ∙ ap (λ o. or_ahead held.zeal c r past (next_word_of k o)) under_way)

-- the last word completes the row
last_completes : (c : Config) (r : ℕ) (past : List Event) (e : Event) → WasMade c r past e → length past % cycle c ≡ 4 * c.replicas + 36 → IsReading c r 11 past → completes_row c r past e ≡ true
last_completes c r past e held at reading =
    let reads = word_read c r 11 reading.row past e held (at ∙ omega arith) (omega arith) (omega arith) reading.under_way in
    let had : has_row r reading.row (e ∷ past) ≡ true = each_all 12 (λ j. has_word r reading.row j (e ∷ past)) (λ j low. word_had c r reading.row j 11 past e held.own reads (elim (cases_lt j 11) [ inl few ↦ inr (reading.words j few) | inr last ↦ inl (omega (arith, low, last)) ])) in
    ap (completes_row_verb c r past (e ∷ past)) reads ∙ rw (reading.of_known, reading.missing, had) refl

-- at the place of the first word a row of the first entry that isn't applied is begun
first_read : (c : Config) (r : ℕ) (past : List Event) (e : Event) → WasMade c r past e → IsStill c r past e → length past % cycle c ≡ 4 * c.replicas + 14 → handed_before c r past ≡ length (applied c r past)
    → length (applied c r past) < length (known c r past) → IsReading c r 1 (e ∷ past)
first_read c r past e held still at count low =
    let next : IsNextRow c r past = next_row c r past low in
    let row = next.row in
    let u : ℕ = next.value + rows_had c r past next.value in
    let here = replayed_at c r 3 past e held (at ∙ omega arith) in
    let total : handed c r past ≡ length (applied c r past) = ap (λ t. if t then length (applied c r past) else handed_before c r past) (hands_not c past (λ other. omega (arith, at, other))) ∙ count in
    let due : word_due c r past (handed c r past) 0 ≡ Some (Verb.ReadRow u 0) =
    ap (λ n. first_word_of c r past (slice_get (known c r past) n)) total
    ∙ (ap (first_word_of c r past) next.at
    ∙ (ap (λ t. if t then (if nat_lt (rows_had c r past next.value) (rest_of c (next.value % 4096) + 1) then Some (Verb.ReadRow u 0) else None) else None) row.batch
    ∙ ap (λ t. if t then Some (Verb.ReadRow u 0) else None) (lt-ltb (rows_had c r past next.value) (rest_of c (next.value % 4096) + 1) row.within))) in
    let reads : e.verb ≡ Verb.ReadRow u 0 = here.1 ∙ ap (or_ahead held.zeal c r past) due in
    let within = row.within in
    let of_known = row_of_known c (length (applied c r past)) next.value u (known c r past) next.at row.batch (omega arith) (omega (arith, within)) in
    record {
      row = u;
      under_way = ap (λ v. row_read v (row_under_way past)) reads;
      of_known = still.of_known u of_known;
      missing = still.rows u of_known ∙ row.missing;
      words = λ j few. word_had c r u j 0 past e held.own reads (inl (omega (arith, few)));
    }

two_parts : (x : ℕ) → (x % 2 ≡ 1 → ⊥) → x % 2 ≡ 0
two_parts x other = elim (cases_eq (x % 2) 0) [ inl none ↦ none | inr some ↦ (let low = mod-lt x {m = 2} (omega arith) in absurd (other (omega (arith, low, some)))) ]

-- at the next places it is read on
reads_on : (c : Config) (r x y : ℕ) (past : List Event) (e : Event) → WasMade c r past e → IsStill c r past e → length past % cycle c ≡ x → y ≡ x + 1 → 4 * c.replicas + 15 ≤ x → x ≤ 4 * c.replicas + 35
    → IsReading c r ((x - (4 * c.replicas + 13)) / 2) past → IsReading c r ((y - (4 * c.replicas + 13)) / 2) (e ∷ past)
reads_on c r x y past e held still at next low high old = go (cases_eq (x % 2) 1)
  where
    index : x % 2 ≡ length past % 2
    index = ap (λ z. z % 2) (sym at) ∙ odd_index c past

    go : (x % 2 ≡ 1) ⊎ (x % 2 ≡ 1 → ⊥) → IsReading c r ((y - (4 * c.replicas + 13)) / 2) (e ∷ past)
    go (inl odd) =
        let same : (y - (4 * c.replicas + 13)) / 2 ≡ (x - (4 * c.replicas + 13)) / 2 = omega (arith, odd, next, low) in
        subst (λ n. IsReading c r n (e ∷ past)) (sym same) (record {
          row = old.row;
          under_way = still.under (eq-eqb (length past % 2) 1 (sym index ∙ odd)) old.row old.under_way old.of_known old.missing;
          of_known = still.of_known old.row old.of_known;
          missing = still.rows old.row old.of_known ∙ old.missing;
          words = λ j few. still.words old.row j (old.words j few);
        })
    go (inr other) =
        let none = two_parts x other in
        let k : ℕ = (x - (4 * c.replicas + 14)) / 2 in
        let whole : x ≡ 4 * c.replicas + 14 + 2 * k = omega (arith, none, low) in
        let reads = word_read c r k old.row past e held (at ∙ whole) (omega (arith, whole, low)) (omega (arith, whole, high)) old.under_way in
        let few : (x - (4 * c.replicas + 13)) / 2 ≡ k = omega (arith, whole) in
        let more : (y - (4 * c.replicas + 13)) / 2 ≡ k + 1 = omega (arith, whole, next) in
        subst (λ n. IsReading c r n (e ∷ past)) (sym more) (record {
          row = old.row;
          under_way = ap (λ v. row_read v (row_under_way past)) reads ∙ ap (λ t. if t then Some old.row else None) (lt-ltb k 11 (omega (arith, whole, high)));
          of_known = still.of_known old.row old.of_known;
          missing = still.rows old.row old.of_known ∙ old.missing;
          words = λ j few_j. word_had c r old.row j k past e held.own reads (elim (cases_lt j k) [ inl before ↦ inr (old.words j (omega (arith, before, few))) | inr last ↦ inl (omega (arith, few_j, last)) ]);
        })

-- what r knows isn't applied yet, or there is room, or r was outrun, after the look at the next
-- position
looks_next : (c : Config) (r : ℕ) (past : List Event) (e : Event) → IsConfig c → AtEachStep (WasMade c r) past → WasMade c r past e → IsOpenStep c r past e → IsPossible c r (e ∷ past) → length past % cycle c ≡ 4 * c.replicas + 12
    → (length (applied c r (e ∷ past)) < length (known c r (e ∷ past))) ⊎ (IsEased c r (e ∷ past) ⊎ (outrun c r (e ∷ past) ≡ None → ⊥))
looks_next c r past e good made held still possible at = elim (cases_lt (length (applied c r past)) (length (known c r past))) [
  | inl low ↦ (let same = still_applied c r past e good (parts_shorten_law c r past e possible).before held still in let long = ap length (still_known c r past e still) in inl (omega (arith, low, same, long)))
  | inr high ↦ inr (by_due (is_replay_due c r past) refl high)
]
  where
    here : (is_odd (length past) ≡ false) × (e.verb ≡ or_ahead held.zeal c r past (replay_due c r past (handed c r past) 2 (leads_at (place_after c r past))))
    here = replayed_at c r 2 past e held (at ∙ omega arith)

    eased : ((n : ℕ) → n ≤ 8 * c.replicas + 88 → HasRoom (replaying c r) n past) → IsEased c r (e ∷ past)
    eased room = room_lasts c r past e (λ last. omega (arith, at, last)) (any_eases c r past room)

    teaches : length (known c r past) < greatest_fuo_read r r past → (t : Bool) → leads_at (place_after c r past) ≡ t → IsEased c r (e ∷ past) ⊎ (outrun c r (e ∷ past) ≡ None → ⊥)
    teaches below true leading = inl (eased (λ n few. rows_anew c r n past few (led_named c r past here.0 leading)))
    teaches below false other =
        let decided : is_known_decided r past r (length (known c r past)) ≡ true = true_or (nat_lt (length (known c r past)) (greatest_fuo_read r r past)) _ (lt-ltb (length (known c r past)) (greatest_fuo_read r r past) below) in
        let looks : e.verb ≡ Verb.Look r (length (known c r past)) =
        here.1 ∙ (ap (λ t. or_ahead held.zeal c r past (replay_due c r past (handed c r past) 2 t)) other ∙ ap (λ t. or_ahead held.zeal c r past (if t then Some (Verb.Look r (length (known c r past))) else None)) decided) in
        let same : e ≡ event_by r (Verb.Look r (length (known c r past))) e.answer = ap (λ b. event_by b e.verb e.answer) held.own ∙ ap (λ v. event_by r v e.answer) looks in
        let found = subst (λ z. (knows_more c r past z ≡ true) ⊎ (outrun c r (z ∷ past) ≡ None → ⊥)) (sym same) (look_teaches c r past e.answer below (subst (λ z. IsPossible c r (z ∷ past)) same possible)) in
        elim found [ inl more ↦ absurd (true≢false (sym more ∙ still.learns)) | inr over ↦ inr over ]

    by_due : (t : Bool) → is_replay_due c r past ≡ t → length (known c r past) ≤ length (applied c r past) → IsEased c r (e ∷ past) ⊎ (outrun c r (e ∷ past) ≡ None → ⊥)
    by_due true due high = let low = ltb-true (length (applied c r past)) (greatest_fuo_read r r past) due in teaches (omega (arith, low, high)) (leads_at (place_after c r past)) refl
    by_due false none high = inl (eased (λ n few. undue_room c r n past good (parts_shorten_law c r past e possible).before made none))

-- what is done at the next place
pub at_next : (c : Config) (r x y : ℕ) (past : List Event) (e : Event) → WasMade c r past e → IsStill c r past e → length past % cycle c ≡ x → IsAfter c x y → x ≢ 4 * c.replicas + 36 → IsAt c r x past
    → (4 * c.replicas + 13 ≤ y → y ≤ 4 * c.replicas + 14 → length (applied c r (e ∷ past)) < length (known c r (e ∷ past))) → IsAt c r y (e ∷ past)
at_next c r x y past e held still at after other old waits = record { handed = handed_on; waits = waits; reads = reading }
  where
    same : length (applied c r (e ∷ past)) ≡ length (applied c r past)
    same = still.same

    handed_on : (y ≤ 4 * c.replicas + 14) ⊎ (4 * c.replicas + 41 ≤ y) → handed_before c r (e ∷ past) ≡ length (applied c r (e ∷ past))
    handed_on side = elim (cases_eq x (4 * c.replicas + 40)) [
      | inl here ↦ ap (λ t. if t then length (applied c r past) else handed_before c r past) (hands_here c past (at ∙ here)) ∙ sym same
      | inr away ↦ ap (λ t. if t then length (applied c r past) else handed_before c r past) (hands_not c past (λ here. away (sym at ∙ here))) ∙ (old.handed (before side after away) ∙ sym same)
    ]
      where
        before : (y ≤ 4 * c.replicas + 14) ⊎ (4 * c.replicas + 41 ≤ y) → IsAfter c x y → x ≢ 4 * c.replicas + 40 → (x ≤ 4 * c.replicas + 14) ⊎ (4 * c.replicas + 41 ≤ x)
        before (inl low) (inl next) away = inl (omega (arith, low, next))
        before (inl low) (inr round) away = let whole = round.0 in inr (omega (arith, whole))
        before (inr high) (inl next) away = inr (let over = far x (4 * c.replicas + 40) (omega (arith, high, next)) away in omega (arith, over))
          where
            far : (x m : ℕ) → m ≤ x → x ≢ m → m + 1 ≤ x
            far x m low away = elim (cases_lt m x) [ inl more ↦ omega (arith, more) | inr less ↦ absurd (away (omega (arith, low, less))) ]
        before (inr high) (inr round) away = let zero = round.1 in absurd (omega (arith, high, zero))

    reading : 4 * c.replicas + 15 ≤ y → y ≤ 4 * c.replicas + 36 → IsReading c r ((y - (4 * c.replicas + 13)) / 2) (e ∷ past)
    reading low high = elim after [
      | inl next ↦ elim (cases_eq x (4 * c.replicas + 14)) [
        | inl first ↦ (let one : (y - (4 * c.replicas + 13)) / 2 ≡ 1 = omega (arith, first, next) in
            subst (λ n. IsReading c r n (e ∷ past)) (sym one) (first_read c r past e held still (at ∙ first) (old.handed (inl (omega (arith, first)))) (old.waits (omega (arith, first)) (omega (arith, first)))))
        | inr later ↦ (let from = later_than x (4 * c.replicas + 14) (omega (arith, low, next)) later in
            reads_on c r x y past e held still at next (omega (arith, from)) (omega (arith, high, next)) (old.reads (omega (arith, from)) (omega (arith, high, next))))
      ]
      | inr round ↦ (let zero = round.1 in absurd (omega (arith, low, zero)))
    ]
      where
        later_than : (x m : ℕ) → m ≤ x → x ≢ m → m + 1 ≤ x
        later_than x m low away = elim (cases_lt m x) [ inl more ↦ omega (arith, more) | inr less ↦ absurd (away (omega (arith, low, less))) ]

-- right after a last word nothing has to be done
pub at_rest : (c : Config) (r x y : ℕ) (now : List Event) → x ≡ 4 * c.replicas + 36 → IsAfter c x y → IsAt c r y now
at_rest c r x y now last after =
    let next : y ≡ 4 * c.replicas + 37 = elim after [ inl more ↦ omega (arith, more, last) | inr round ↦ (let whole = round.0 in absurd (omega (arith, whole, last))) ] in
    record {
      handed = λ side. absurd (elim side [ inl low ↦ omega (arith, low, next) | inr high ↦ omega (arith, high, next) ]);
      waits = λ low high. absurd (omega (arith, high, next));
      reads = λ low high. absurd (omega (arith, high, next));
    }

-- at the last word the row is whole
pub last_whole : (c : Config) (r : ℕ) (past : List Event) (e : Event) → WasMade c r past e → length past % cycle c ≡ 4 * c.replicas + 36 → IsAt c r (length past % cycle c) past → completes_row c r past e ≡ true
last_whole c r past e held last old =
    let eleven : (length past % cycle c - (4 * c.replicas + 13)) / 2 ≡ 11 = omega (arith, last) in
    last_completes c r past e held last (subst (λ n. IsReading c r n past) eleven (old.reads (omega (arith, last)) (omega (arith, last))))

-- one event
goes_on : (c : Config) (r : ℕ) (past : List Event) (e : Event) → IsConfig c → IsPossible c r (e ∷ past) → AtEachStep (WasMade c r) past → WasMade c r past e → RoundGoesOn c r past → RoundGoesOn c r (e ∷ past)
goes_on c r past e good possible made held old = go ((replaying c r).closes past e) refl old
  where
    after : IsAfter c (length past % cycle c) (length (e ∷ past) % cycle c)
    after = next_place c past e

    placed : IsOpenStep c r past e → IsAt c r (length past % cycle c) past → length past % cycle c ≢ 4 * c.replicas + 36 → RoundGoesOn c r (e ∷ past)
    placed still at other = elim (cases_eq (length past % cycle c) (4 * c.replicas + 12)) [
      | inl here ↦ elim (looks_next c r past e good made held still possible here) [
        | inl low ↦ inr (inl (at_next c r (length past % cycle c) (length (e ∷ past) % cycle c) past e held (still_open c r past e good (parts_shorten_law c r past e possible).before held still) refl after other at (λ from to. low)))
        | inr rest ↦ elim rest [ inl eased ↦ inl eased | inr over ↦ inr (inr over) ]
      ]
      | inr away ↦ inr (inl (at_next c r (length past % cycle c) (length (e ∷ past) % cycle c) past e held (still_open c r past e good (parts_shorten_law c r past e possible).before held still) refl after other at (λ from to. waits_on (length past % cycle c) (length (e ∷ past) % cycle c) after away from to at)))
    ]
      where
        waits_on : (x y : ℕ) → IsAfter c x y → x ≢ 4 * c.replicas + 12 → 4 * c.replicas + 13 ≤ y → y ≤ 4 * c.replicas + 14 → IsAt c r x past → length (applied c r (e ∷ past)) < length (known c r (e ∷ past))
        waits_on x y (inl next) away from to at =
            let more : 4 * c.replicas + 13 ≤ x = elim (cases_lt (4 * c.replicas + 12) x) [ inl l ↦ omega (arith, l) | inr l ↦ absurd (away (omega (arith, l, from, next))) ] in
            let low = at.waits more (omega (arith, to, next)) in
            let same = still_applied c r past e good (parts_shorten_law c r past e possible).before held still in let long = ap length (still_known c r past e still) in omega (arith, low, same, long)
        waits_on x y (inr round) away from to at = let zero = round.1 in absurd (omega (arith, from, zero))

    go : (t : Bool) → (replaying c r).closes past e ≡ t → RoundGoesOn c r past → RoundGoesOn c r (e ∷ past)
    go true closes old = inl (closing_eases c r past e closes)
    go false none (inr (inr over)) = absurd (over held.going)
    go false none (inl eased) = elim (cases_eq (length past % cycle c) (4 * c.replicas + 36)) [ inl last ↦ inr (inl (at_rest c r (length past % cycle c) (length (e ∷ past) % cycle c) (e ∷ past) last after)) | inr other ↦ inl (room_lasts c r past e other eased) ]
    go false none (inr (inl at)) =
        let still = open_step c r past e none in
        elim (cases_eq (length past % cycle c) (4 * c.replicas + 36)) [ inl last ↦ absurd (true≢false (sym (last_whole c r past e held last at) ∙ still.completes)) | inr other ↦ placed still at other ]

-- throughout
goes : (c : Config) (r : ℕ) (past : List Event) → IsConfig c → IsPossible c r past → AtEachStep (WasMade c r) past → RoundGoesOn c r past
goes c r [] good possible made = inr (inl (record { handed = λ side. refl; waits = λ low high. absurd (omega (arith, low)); reads = λ low high. absurd (omega (arith, low)) }))
goes c r (e ∷ past) good possible made = goes_on c r past e good possible made.0 made.1 (goes c r past good (parts_shorten_law c r past e possible).before made.0)

-- the last word closes the count, or there is room for a round more
rows_closed : (c : Config) (r : ℕ) (past : List Event) (e : Event) → WasMade c r past e → RoundGoesOn c r past → length past % cycle c ≡ 4 * c.replicas + 36 → ((replaying c r).closes past e ≡ true) ⊎ HasRoom (replaying c r) (cycle c + 1) past
rows_closed c r past e held (inl eased) last = inr (kinds_of_step.less (replaying c r) (cycle c + 1 + ahead c.replicas (length past % cycle c)) (cycle c + 1) past (omega arith) eased)
rows_closed c r past e held (inr (inl at)) last = inl (true_or (knows_more c r past e || completes_row c r past e) (is_named_turn c r past e) (or_true (knows_more c r past e) (completes_row c r past e) (last_whole c r past e held last at)))
rows_closed c r past e held (inr (inr over)) last = absurd (over held.going)

closed_steps : (c : Config) (r : ℕ) (past : List Event) → IsConfig c → IsPossible c r past → AtEachStep (WasMade c r) past → IsClosedAt (cycle c) (4 * c.replicas + 36) (replaying c r) past
closed_steps c r [] good possible made = tt
closed_steps c r (e ∷ past) good possible made =
    let before = (parts_shorten_law c r past e possible).before in
    (closed_steps c r past good before made.0, λ last. rows_closed c r past e made.1 (goes c r past good before made.0) last)

pub rows_in_time : (c : Config) (r : ℕ) (past : List Event) → IsConfig c → IsPossible c r past → AtEachStep (WasMade c r) past → AtEachMoment (IsInTime (replaying c r)) past
rows_in_time c r past good possible made =
    closed_moments (cycle c) (4 * c.replicas + 36) (replaying c r) past (omega arith) (λ now allowed is. let whole = rows_allow c r now allowed is in omega (arith, whole)) (closed_steps c r past good possible made)
