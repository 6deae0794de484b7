-- What is made once in each round comes lately, and not twice in a round.
use Rattle.std.proofs.Common.{◌≡◌, ℕ, suc, ◌+◌, ◌-◌, ◌*◌, ◌/◌, ◌%◌, ◌<◌, ◌≤◌, inl, inr, Bool, true, false, cond, List, [], ◌∷◌, length, refl, sym, ◌∙◌, ap, arith, true≢false, Some, None, ◌⊎◌}
use Rattle.std.proofs.Math.Nat.{add-mul-mod_self_left, div-add-mod, mod-eq_of_lt, mod-lt, mul_assoc, mul-le-mul_left, mul-suc, suc-mod}
use Rattle.std.specs.declared.option.Option.{Option}
use Rattle.std.proofs.lemmas.Bool.{cases_eq, cases_lt}
use Rattle.mu_model.specs.declared.event.Event.{Event}
use Rattle.mu_model.specs.Histories.{has, since}
use Rattle.mu_pace.specs.Counters.{HasRoom, IsInTime, Watch}
use Rattle.mu_pace.specs.Keeping.{CameLately}
use Rattle.mu_pace.specs.Rounds.{IsClosedAt, IsMadeAt, IsMadeOnlyAt, PlacesAreIndices, RoundsKeepPace}
use Rattle.mu_pace.proofs.Rooms.{kinds_of_step}

-- the place after the last of a round is that of the first
at_place : (n k m : ℕ) → k < n → (m + (n - 1 - k)) % n ≡ n - 1 → m % n ≡ k
at_place n k m l h =
    let a = m + (n - 1 - k) in
    let whole = div-add-mod a n in
    let is : m ≡ k + n * (a / n) = omega arith in
    ap (λ z. z % n) is ∙ add-mul-mod_self_left k n (a / n) ∙ mod-eq_of_lt l

-- where the next place is, and one further on where it isn't this one
next_place : (n k m : ℕ) → k < n → (m % n ≡ k → ⊥) → (suc m + (n - 1 - k)) % n ≡ suc ((m + (n - 1 - k)) % n)
next_place n k m l away =
    let low = mod-lt (m + (n - 1 - k)) {m = n} (omega arith) in
    let one : suc m + (n - 1 - k) ≡ suc (m + (n - 1 - k)) = omega arith in
    let inside : suc ((m + (n - 1 - k)) % n) < n = elim (cases_eq ((m + (n - 1 - k)) % n) (n - 1)) [
      | inl last ↦ absurd (away (at_place n k m l last))
      | inr other ↦ elim (cases_lt ((m + (n - 1 - k)) % n) (n - 1)) [ inl x ↦ omega arith | inr x ↦ absurd (other (omega arith)) ]
    ] in
    ap (λ z. z % n) one ∙ suc-mod (m + (n - 1 - k)) n ∙ mod-eq_of_lt inside

-- how far the last that passes lies back
abbrev Back : ℕ → ℕ → (Event → Bool) → List Event → Type 0
Back n k test past = length (since test past) ≤ (length past + (n - 1 - k)) % n

back : (n k : ℕ) (test : Event → Bool) (past : List Event) → k < n → IsMadeAt n k test past → Back n k test past
back n k test [] l h = omega arith
back n k test (e ∷ past) l h = go (test e) refl (back n k test past l h.0)
  where
    go : (t : Bool) → test e ≡ t → length (since test past) ≤ (length past + (n - 1 - k)) % n → length (cond t [] (e ∷ since test past)) ≤ (suc (length past) + (n - 1 - k)) % n
    go true p ih = omega arith
    go false p ih = let next = next_place n k (length past) l (λ at. true≢false (sym (h.1 at) ∙ p)) in omega arith

lately : (n k : ℕ) (test : Event → Bool) (past : List Event) → k < n → IsMadeAt n k test past → CameLately test n past
lately n k test past l h = let b = back n k test past l h in let low = mod-lt (length past + (n - 1 - k)) {m = n} (omega arith) in omega arith

-- the last that passes, if there is one
record Last (n k : ℕ) (test : Event → Bool) (past : List Event) : Type 0 where
  pub index : ℕ
  pub place : index % n ≡ k
  pub is : index + 1 + length (since test past) ≡ length past

last : (n k : ℕ) (test : Event → Bool) (past : List Event) → IsMadeOnlyAt n k test past → has test past ≡ true → Last n k test past
last n k test [] h some = absurd (true≢false (sym some))
last n k test (e ∷ past) h some = let x = go (test e) refl some (last n k test past h.0) in record { index = x.0; place = x.1.0; is = x.1.1 }
  where
    go : (t : Bool) → test e ≡ t → cond t true (has test past) ≡ true → (has test past ≡ true → Last n k test past)
        → (i : ℕ) × ((i % n ≡ k) × (i + 1 + length (cond t [] (e ∷ since test past)) ≡ suc (length past)))
    go true p some ih = (length past, (h.1 p, omega arith))
    go false p some ih = let x = ih some in let e = x.is in (x.index, (x.place, omega arith))

-- two places that are the same are a round apart
round_apart : (n i j : ℕ) → i < j → i % n ≡ j % n → n ≤ j - i
round_apart n i j l e =
    let a = div-add-mod i n in let b = div-add-mod j n in
    elim (cases_lt (i / n) (j / n)) [
      | inl m ↦ (let k = mul-le-mul_left n m in let more = step n (i / n) in omega arith)
      | inr m ↦ absurd (let k = mul-le-mul_left n m in omega arith)
    ]
  where
    step : (n q : ℕ) → n * suc q ≡ n * q + n
    step n q = mul-suc n q

apart : (n k : ℕ) (test : Event → Bool) (past : List Event) (e : Event) → 1 ≤ n → IsMadeOnlyAt n k test (e ∷ past) → test e ≡ true → has test past ≡ true → n ≤ length (since test past) + 1
apart n k test past e l h p some =
    let x = last n k test past h.0 some in
    let is = x.is in
    let far = round_apart n x.index (length past) (omega arith) (x.place ∙ sym (h.1 p)) in omega arith

-- the steps left are those up to the next place
closed_rounds : (n k : ℕ) (w : Watch) (past : List Event) → k < n → ((now : List Event) (allowed : ℕ) → w.allows now ≡ Some allowed → n ≤ allowed) → IsClosedAt n k w past → HasRoom w (n - (length past + (n - 1 - k)) % n) past
closed_rounds n k w [] l most h = (λ left is. let a = most [] left is in omega arith)
closed_rounds n k w (e ∷ past) l most h = go (cases_eq (length past % n) k) (closed_rounds n k w past l most h.0)
  where
    few : (allowed : ℕ) → w.allows (e ∷ past) ≡ Some allowed → n - (suc (length past) + (n - 1 - k)) % n ≤ allowed
    few allowed a = let m = most (e ∷ past) allowed a in omega arith

    closes_at : (w.closes past e ≡ true) ⊎ HasRoom w (n + 1) past → HasRoom w (n - (suc (length past) + (n - 1 - k)) % n) (e ∷ past)
    closes_at (inl c) = by_moment (w.allows (e ∷ past)) refl
      where
        by_moment : (a : Option ℕ) → w.allows (e ∷ past) ≡ a → HasRoom w (n - (suc (length past) + (n - 1 - k)) % n) (e ∷ past)
        by_moment None a = kinds_of_step.closes w (n - (suc (length past) + (n - 1 - k)) % n) past e a c
        by_moment (Some x) a = kinds_of_step.opens_anew w x (n - (suc (length past) + (n - 1 - k)) % n) past e a c (few x a)
    closes_at (inr r) = kinds_of_step.takes w (n + 1) (n - (suc (length past) + (n - 1 - k)) % n) past e few (omega arith) r

    go : (length past % n ≡ k) ⊎ (length past % n ≡ k → ⊥) → HasRoom w (n - (length past + (n - 1 - k)) % n) past → HasRoom w (n - (suc (length past) + (n - 1 - k)) % n) (e ∷ past)
    go (inl at) ih = closes_at (h.1 at)
    go (inr away) ih =
        let next = next_place n k (length past) l away in let low = mod-lt (suc (length past) + (n - 1 - k)) {m = n} (omega arith) in
        kinds_of_step.takes w (n - (length past + (n - 1 - k)) % n) (n - (suc (length past) + (n - 1 - k)) % n) past e few (omega arith) ih

closed : (n k : ℕ) (w : Watch) (past : List Event) → k < n → ((now : List Event) (allowed : ℕ) → w.allows now ≡ Some allowed → n ≤ allowed) → IsClosedAt n k w past → IsInTime w past
closed n k w past l most h =
    let low = mod-lt (length past + (n - 1 - k)) {m = n} (omega arith) in
    kinds_of_step.less w (n - (length past + (n - 1 - k)) % n) 1 past (omega arith) (closed_rounds n k w past l most h)

pub rounds_keep_pace : RoundsKeepPace
rounds_keep_pace = record { lately = lately; apart = apart; closed = closed }

-- places of the background as indices
twice : (p q : ℕ) → 2 * p * q ≡ 2 * (p * q)
twice p q = mul_assoc 2 p q

index : (p x m : ℕ) → 1 ≤ p → m % 2 ≡ 0 → m / 2 % p ≡ x → m % (2 * p) ≡ 2 * x
index p x m l even at =
    let whole = div-add-mod (m / 2) p in
    let half : m ≡ 2 * (m / 2) = omega arith in
    let low = mod-lt (m / 2) {m = p} (omega arith) in
    let double = twice p (m / 2 / p) in
    let is : m ≡ 2 * x + 2 * p * (m / 2 / p) = omega arith in
    let inside : 2 * x < 2 * p = omega arith in
    ap (λ z. z % (2 * p)) is ∙ add-mul-mod_self_left (2 * x) (2 * p) (m / 2 / p) ∙ mod-eq_of_lt inside

place : (p x m : ℕ) → 1 ≤ p → m % (2 * p) ≡ 2 * x → (m % 2 ≡ 0) × (m / 2 % p ≡ x)
place p x m l at =
    let whole = div-add-mod m (2 * p) in
    let low = mod-lt m {m = 2 * p} (omega arith) in
    let double = twice p (m / (2 * p)) in
    let half : m / 2 ≡ x + p * (m / (2 * p)) = omega arith in
    let inside : x < p = omega arith in
    (omega arith, ap (λ z. z % p) half ∙ add-mul-mod_self_left x p (m / (2 * p)) ∙ mod-eq_of_lt inside)

pub places_are_indices : PlacesAreIndices
places_are_indices = record { index = index; place = place }
