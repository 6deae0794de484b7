-- A node completes a row within two rounds if it knows an entry that it hasn't applied, named or
-- not.
use Rattle.std.proofs.Common.{◌≡◌, ◌∙◌, ◌≢◌, ℕ, suc, zero, ◌+◌, ◌-◌, ◌*◌, ◌/◌, ◌%◌, ◌<◌, ◌≤◌, ◌==◌, ◌&&◌, ◌||◌, ◌⊎◌, inl, inr, Bool, true, false, cond, None, Some, List, [], ◌∷◌, ◌++◌, ap, append_assoc, arith, length, refl, subst, sym}
use Rattle.std.specs.declared.option.Option.{Option}
use Rattle.std.specs.Prelude.{if◌then◌else◌, not}
use Rattle.std.specs.List.{slice_get}
use Rattle.std.proofs.Math.Nat.{add-mul-mod_self_left, div-add-mod, mod-eq_of_lt, mod-lt}
use Rattle.std.proofs.lemmas.Bool.{cases_lt, true≢false}
use Rattle.std.proofs.lemmas.List.{length-append}
use Rattle.mu_model.specs.declared.config.Config.{Config}
use Rattle.mu_model.specs.declared.event.Event.{Event}
use Rattle.mu_model.specs.Bounds.{cycle}
use Rattle.mu_model.specs.Contents.{IsConfig, is_batch, rest_of}
use Rattle.mu_model.specs.Diligence.{completes_row, is_row_of}
use Rattle.mu_model.specs.Histories.{all_below}
use Rattle.mu_model.specs.Knowledge.{applied, front, has_entry, has_row, known}
use Rattle.mu_model.specs.Parts.{IsPossible}
use Rattle.mu_model.specs.Scores.{leader}
use Rattle.mu_model.specs.Stretches.{IsStretch, is_odd, some_step}
use Rattle.mu_agree.proofs.Knowing.{known_stays}
use Rattle.mu_agree.proofs.Possible.{parts_shorten_law}
use Rattle.mu_follow.specs.Due.{row_read, row_under_way}
use Rattle.mu_follow.proofs.Waiting.{row_of_known}
use Rattle.mu_lead.specs.declared.place.Place.{Place}
use Rattle.mu_lead.specs.Standing.{verb_at}
use Rattle.mu_agree.specs.Moments.{AtEachStep}
use Rattle.mu_pace.proofs.Counting.{steps_before}
use Rattle.mu_node.specs.Due.{verb_or_beat, listed_due}
use Rattle.mu_node.specs.Journal.{WasMade}
use Rattle.mu_node.proofs.CatchingUp.{made_led}
use Rattle.mu_lively.proofs.OwnRows.{row_of_more, rows_stay, word_on}
use Rattle.mu_lively.proofs.Open.{IsStill, under_caught}
use Rattle.mu_lively.proofs.Replaying.{IsAfter, IsAt, at_next, at_rest, last_whole, next_place}
use Rattle.mu_lead.specs.Journal.{number_due, place_after, tables_at}
use Rattle.mu_pace.proofs.Pasts.{possible_before, Cut, cut}

-- and what is applied stays if some known entry isn't
same_all : (n : ℕ) (f g : ℕ → Bool) → ((k : ℕ) → k < n → f k ≡ g k) → all_below n f ≡ all_below n g
same_all zero f g same = refl
same_all (suc n) f g same = ap (λ t. t && all_below n f) (same n (omega arith)) ∙ ap (λ t. g n && t) (same_all n f g (λ k low. same k (omega (arith, low))))

front_stays : (test now : ℕ → Bool) (xs ys : List ℕ) → ((i v : ℕ) → slice_get xs i ≡ Some v → now v ≡ test v) → length (front test xs) < length xs → length (front now (xs ++ ys)) ≡ length (front test xs)
front_stays test now [] ys same low = absurd (omega (arith, low))
front_stays test now (x ∷ xs) ys same low = go (test x) (now x) (same 0 x refl) low (λ less. front_stays test now xs ys (λ i v at. same (suc i) v at) less)
  where
    go : (t u : Bool) → u ≡ t → length (cond t (x ∷ front test xs) []) < suc (length xs) → (length (front test xs) < length xs → length (front now (xs ++ ys)) ≡ length (front test xs)) → length (cond u (x ∷ front now (xs ++ ys)) []) ≡ length (cond t (x ∷ front test xs) [])
    go true true is low ih = let rest = ih (omega (arith, low)) in omega (arith, rest)
    go false false is low ih = refl
    go true false is low ih = absurd (true≢false (sym is))
    go false true is low ih = absurd (true≢false is)

entry_stays : (c : Config) (r i v : ℕ) (past : List Event) (e : Event) → ((u : ℕ) → is_row_of c u (known c r past) ≡ true → has_row r u (e ∷ past) ≡ has_row r u past) → slice_get (known c r past) i ≡ Some v → has_entry c r v (e ∷ past) ≡ has_entry c r v past
entry_stays c r i v past e rows at = go (is_batch c v) refl
  where
    go : (t : Bool) → is_batch c v ≡ t → (not t || all_below (rest_of c (v % 4096) + 1) (λ x. has_row r (v + x) (e ∷ past))) ≡ (not t || all_below (rest_of c (v % 4096) + 1) (λ x. has_row r (v + x) past))
    go false other = refl
    go true batch = same_all (rest_of c (v % 4096) + 1) (λ x. has_row r (v + x) (e ∷ past)) (λ x. has_row r (v + x) past) (λ x low. rows (v + x) (row_of_known c i v (v + x) (known c r past) at batch (omega arith) (omega (arith, low))))

-- a leader reads no row in a turn of its own
reads_none : (c : Config) (b : ℕ) (values up written : List ℕ) (place : Place) (old : Option ℕ) → row_read (verb_or_beat (verb_at c b values up written place)) old ≡ old
reads_none c b values up written Place.Rest old = refl
reads_none c b values up written place old = refl

odd_keeps : (c : Config) (r : ℕ) (past : List Event) (e : Event) → WasMade c r past e → completes_row c r past e ≡ false → is_odd (length past) ≡ true → (u : ℕ) → row_under_way past ≡ Some u → is_row_of c u (known c r past) ≡ true → has_row r u past ≡ false → row_under_way (e ∷ past) ≡ Some u
odd_keeps c r past e held completes odd u under of_known missing = elim (made_led held.zeal c r past e.verb (held.made.replication odd)) [
  | inl listed ↦ ap (λ v. row_read v (row_under_way past)) listed ∙ (none (leader c r past == r) ∙ under)
  | inr third ↦ elim third [
    | inl caught ↦ under_caught c r u past e held.own caught under of_known missing completes
    | inr out ↦ ap (λ v. row_read v (row_under_way past)) out.first ∙ under
  ]
]
  where
    none : (t : Bool) → row_read (verb_or_beat (if t then listed_due c r past else None)) (row_under_way past) ≡ row_under_way past
    none true = reads_none c (number_due r past) (known c r past) (tables_at c r past).up (tables_at c r past).written (place_after c r past) (row_under_way past)
    none false = refl

-- so an event that completes no row leaves all as it is for the one that is read
still_fetching : (c : Config) (r : ℕ) (past : List Event) (e : Event) → IsConfig c → IsPossible c r past → WasMade c r past e → completes_row c r past e ≡ false → length (applied c r past) < length (known c r past) → IsStill c r past e
still_fetching c r past e good possible held none low = record {
  of_known = λ u is. subst (λ l. is_row_of c u l ≡ true) (sym more.1) (row_of_more c u (known c r past) more.0 is);
  rows = rows;
  words = λ u k had. word_on r u k e past had;
  same = ap (λ l. length (front (λ v. has_entry c r v (e ∷ past)) l)) more.1 ∙ front_stays (λ v. has_entry c r v past) (λ v. has_entry c r v (e ∷ past)) (known c r past) more.0 (λ i v at. entry_stays c r i v past e rows at) low;
  under = λ odd. odd_keeps c r past e held none odd;
}
  where
    more : (rest : List ℕ) × (known c r (e ∷ past) ≡ known c r past ++ rest)
    more = known_stays c r (e ∷ []) past

    rows : (u : ℕ) → is_row_of c u (known c r past) ≡ true → has_row r u (e ∷ past) ≡ has_row r u past
    rows u of_known = rows_stay c r u past e good possible held.own none of_known

still_low : (c : Config) (r : ℕ) (past : List Event) (e : Event) → IsStill c r past e → length (applied c r past) < length (known c r past) → length (applied c r (e ∷ past)) < length (known c r (e ∷ past))
still_low c r past e still low =
    let more = known_stays c r (e ∷ []) past in
    let same = still.same in
    let long = ap length more.1 ∙ length-append (known c r past) more.0 in
    omega (arith, low, same, long)

-- along a stretch in which no row is completed some known entry isn't applied
low_on : (c : Config) (r : ℕ) (window older : List Event) → IsConfig c → IsPossible c r (window ++ older) → AtEachStep (WasMade c r) (window ++ older) → some_step (completes_row c r) window older ≡ false → length (applied c r older) < length (known c r older)
    → length (applied c r (window ++ older)) < length (known c r (window ++ older))
low_on c r [] older good possible made none low = low
low_on c r (e ∷ window) older good possible made none low = go (completes_row c r (window ++ older) e) refl none (λ fewer. low_on c r window older good (parts_shorten_law c r (window ++ older) e possible).before made.0 fewer low)
  where
    go : (t : Bool) → completes_row c r (window ++ older) e ≡ t → cond t true (some_step (completes_row c r) window older) ≡ false → (some_step (completes_row c r) window older ≡ false → length (applied c r (window ++ older)) < length (known c r (window ++ older)))
        → length (applied c r (e ∷ (window ++ older))) < length (known c r (e ∷ (window ++ older)))
    go true is none ih = absurd (true≢false none)
    go false is none ih = let here = ih none in still_low c r (window ++ older) e (still_fetching c r (window ++ older) e good (parts_shorten_law c r (window ++ older) e possible).before made.1 is here) here

-- d events after a last word
abbrev IsPlace : Config → ℕ → ℕ → Type 0
IsPlace c d x = ((x ≡ 4 * c.replicas + 37 + d) × (d ≤ 6)) ⊎ (x + 7 ≡ d)

place_next : (c : Config) (d x y : ℕ) → d + 1 < cycle c → y < cycle c → IsPlace c d x → IsAfter c x y → IsPlace c (suc d) y
place_next c d x y few low (inl at) (inl next) = let is = at.0 in inl (omega (arith, is, next), omega (arith, is, next, low))
place_next c d x y few low (inl at) (inr round) = let is = at.0 in let whole = round.0 in let zero = round.1 in inr (omega (arith, is, whole, zero))
place_next c d x y few low (inr at) (inl next) = inr (omega (arith, at, next))
place_next c d x y few low (inr at) (inr round) = let whole = round.0 in absurd (omega (arith, at, whole, few))

not_last : (c : Config) (d x : ℕ) → d + 1 < cycle c → IsPlace c d x → x ≢ 4 * c.replicas + 36
not_last c d x few (inl at) last = let is = at.0 in omega (arith, is, last)
not_last c d x few (inr at) last = omega (arith, at, last, few)

walked : (c : Config) (r : ℕ) (window base : List Event) → IsConfig c → IsPossible c r (window ++ base) → AtEachStep (WasMade c r) (window ++ base) → some_step (completes_row c r) window base ≡ false → length (applied c r base) < length (known c r base)
    → length base % cycle c ≡ 4 * c.replicas + 37 → length window < cycle c → IsAt c r (length (window ++ base) % cycle c) (window ++ base) × IsPlace c (length window) (length (window ++ base) % cycle c)
walked c r [] base good possible made none low at few = (at_rest c r (4 * c.replicas + 36) (length base % cycle c) base refl (inl (omega (arith, at))), inl (omega (arith, at), omega arith))
walked c r (e ∷ window) base good possible made none low at few = go (completes_row c r past e) refl none (λ fewer. walked c r window base good before made.0 fewer low at (omega (arith, few)))
  where
    past : List Event
    past = window ++ base

    before : IsPossible c r past
    before = (parts_shorten_law c r past e possible).before

    after : IsAfter c (length past % cycle c) (length (e ∷ past) % cycle c)
    after = next_place c past e

    go : (t : Bool) → completes_row c r past e ≡ t → cond t true (some_step (completes_row c r) window base) ≡ false → (some_step (completes_row c r) window base ≡ false → IsAt c r (length past % cycle c) past × IsPlace c (length window) (length past % cycle c))
        → IsAt c r (length (e ∷ past) % cycle c) (e ∷ past) × IsPlace c (suc (length window)) (length (e ∷ past) % cycle c)
    go true is none ih = absurd (true≢false none)
    go false is none ih =
        let old = ih none in
        let here = low_on c r window base good before made.0 none low in
        let still = still_fetching c r past e good before made.1 is here in (
          at_next c r (length past % cycle c) (length (e ∷ past) % cycle c) past e made.1 still refl after (not_last c (length window) (length past % cycle c) (omega (arith, few)) old.1) old.0 (λ from to. still_low c r past e still here),
          place_next c (length window) (length past % cycle c) (length (e ∷ past) % cycle c) (omega (arith, few)) (mod-lt (length (e ∷ past)) {m = cycle c} (omega arith)) old.1 after,
        )

-- a round after a last word a row is completed
round_completes : (c : Config) (r : ℕ) (window base : List Event) → IsConfig c → IsPossible c r (window ++ base) → AtEachStep (WasMade c r) (window ++ base) → length (applied c r base) < length (known c r base)
    → length base % cycle c ≡ 4 * c.replicas + 37 → length window ≡ cycle c → some_step (completes_row c r) window base ≡ false → ⊥
round_completes c r [] base good possible made low at long none = omega (arith, long)
round_completes c r (e ∷ window) base good possible made low at long none = go (completes_row c r past e) refl none
  where
    past : List Event
    past = window ++ base

    go : (t : Bool) → completes_row c r past e ≡ t → cond t true (some_step (completes_row c r) window base) ≡ false → ⊥
    go true is none = true≢false none
    go false is none =
        let w = walked c r window base good (parts_shorten_law c r past e possible).before made.0 none low at (omega (arith, long)) in
        let last : length past % cycle c ≡ 4 * c.replicas + 36 = elim w.1 [ inl near ↦ (let short = near.1 in absurd (omega (arith, short, long))) | inr far ↦ omega (arith, far, long) ] in
        true≢false (sym (last_whole c r past e made.1 last w.0) ∙ is)

-- how far it is to the place k of rounds of b
record ToPlace (b k m : ℕ) : Type 0 where
  steps : ℕ
  few : steps < b
  is : (m + steps) % b ≡ k

to_place : (b k m : ℕ) → k < b → ToPlace b k m
to_place b k m inside = elim (cases_lt k (m % b)) [
  | inl past ↦ (let more : b * (m / b + 1) ≡ b * (m / b) + b = omega arith in
      let whole : m + (b + k - m % b) ≡ k + b * (m / b + 1) = omega (arith, parts, low, past, more) in
      record { steps = b + k - m % b; few = omega (arith, past, low); is = ap (λ z. z % b) whole ∙ (add-mul-mod_self_left k b (m / b + 1) ∙ mod-eq_of_lt inside) })
  | inr near ↦ (let whole : m + (k - m % b) ≡ k + b * (m / b) = omega (arith, parts, near) in
      record { steps = k - m % b; few = omega (arith, inside); is = ap (λ z. z % b) whole ∙ (add-mul-mod_self_left k b (m / b) ∙ mod-eq_of_lt inside) })
]
  where
    parts : b * (m / b) + m % b ≡ m
    parts = div-add-mod m b

    low : m % b < b
    low = mod-lt m {m = b} (omega (arith, inside))

-- if no step of a stretch passes, none of its parts does
none_of_both : (test : List Event → Event → Bool) (xs ys older : List Event) → some_step test (xs ++ ys) older ≡ false → (some_step test ys older ≡ false) × (some_step test xs (ys ++ older) ≡ false)
none_of_both test [] ys older none = (none, refl)
none_of_both test (x ∷ xs) ys older none = go (test ((xs ++ ys) ++ older) x) refl none (none_of_both test xs ys older)
  where
    go : (t : Bool) → test ((xs ++ ys) ++ older) x ≡ t → cond t true (some_step test (xs ++ ys) older) ≡ false → (some_step test (xs ++ ys) older ≡ false → (some_step test ys older ≡ false) × (some_step test xs (ys ++ older) ≡ false))
        → (some_step test ys older ≡ false) × (cond (test (xs ++ (ys ++ older)) x) true (some_step test xs (ys ++ older)) ≡ false)
    go true is none ih = absurd (true≢false none)
    go false is none ih = let k = ih none in (k.0, ap (λ t. cond t true (some_step test xs (ys ++ older))) (ap (λ l. test l x) (sym (append_assoc xs ys older)) ∙ is) ∙ k.1)

pub rows_fetched : (c : Config) (r : ℕ) (past window older : List Event) → IsConfig c → IsPossible c r past → AtEachStep (WasMade c r) past → IsStretch past window older → length window ≡ 2 * cycle c → length (applied c r older) < length (known c r older) → some_step (completes_row c r) window older ≡ true
rows_fetched c r past window older good possible made stretch long low = go (some_step (completes_row c r) window older) refl
  where
    way : ToPlace (cycle c) (4 * c.replicas + 37) (length older)
    way = to_place (cycle c) (4 * c.replicas + 37) (length older) (omega arith)

    first : Cut way.steps window
    first = cut way.steps window (let few = way.few in omega (arith, few, long))

    base : List Event
    base = first.rest ++ older

    second : Cut (cycle c) first.newer
    second = cut (cycle c) first.newer (let few = way.few in let n = first.count in let sum = ap length first.is ∙ length-append first.newer first.rest in omega (arith, few, n, sum, long))

    whole : past ≡ (stretch.newer ++ second.newer) ++ (second.rest ++ base)
    whole =
        stretch.is ∙ ap (λ l. stretch.newer ++ (l ++ older)) first.is ∙ ap (λ l. stretch.newer ++ l) (append_assoc first.newer first.rest older) ∙ ap (λ l. stretch.newer ++ (l ++ base)) second.is ∙ ap (λ l. stretch.newer ++ l) (append_assoc second.newer second.rest base)
        ∙ sym (append_assoc stretch.newer second.newer (second.rest ++ base))

    possible_here : IsPossible c r (second.rest ++ base)
    possible_here = possible_before c r (stretch.newer ++ second.newer) (second.rest ++ base) (subst (IsPossible c r) whole possible)

    made_here : AtEachStep (WasMade c r) (second.rest ++ base)
    made_here = steps_before (WasMade c r) (stretch.newer ++ second.newer) (second.rest ++ base) (subst (AtEachStep (WasMade c r)) whole made)

    at : length base % cycle c ≡ 4 * c.replicas + 37
    at = ap (λ z. z % cycle c) (let sum = length-append first.rest older in let n = first.count in let there : length base ≡ length older + way.steps = omega (arith, sum, n) in there) ∙ way.is

    go : (t : Bool) → some_step (completes_row c r) window older ≡ t → t ≡ true
    go true is = refl
    go false none =
        let a = none_of_both (completes_row c r) first.newer first.rest older (sym (ap (λ l. some_step (completes_row c r) l older) first.is) ∙ none) in
        let b = none_of_both (completes_row c r) second.newer second.rest base (sym (ap (λ l. some_step (completes_row c r) l base) second.is) ∙ a.1) in
        let here = low_on c r first.rest older good (possible_before c r second.rest base possible_here) (steps_before (WasMade c r) second.rest base made_here) a.0 low in
        absurd (round_completes c r second.rest base good possible_here made_here here at second.count b.0)
