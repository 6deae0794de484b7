-- Where in the round of the cycle a turn is, and where the next one is.
use Rattle.std.proofs.Common.{List, ℕ, suc, ◌%◌, ◌*◌, ◌+◌, ◌/◌, ◌<◌, ◌==◌, ◌∷◌, ◌≡◌, ◌⊎◌, ap, arith, inl, inr, length, sym, ◌∙◌}
use Rattle.std.proofs.Math.Nat.{add-mod_right, mod-add-mod, mod-eq_of_lt}
use Rattle.std.proofs.lemmas.Bool.{cases_eq, cases_lt, eqb-false}
use Rattle.std.proofs.lemmas.Nat.{mod_below}
use Rattle.mu_model.specs.declared.config.Config.{Config}
use Rattle.mu_model.specs.declared.event.Event.{Event}
use Rattle.mu_lively.specs.Order.{IsAtPlace}
use Rattle.mu_grant.specs.Pace.{places}

-- how many turns of its round came before the turn number i, if the background turns go round k places
abbrev pub turns : ℕ → ℕ → ℕ
turns k i = 2 * (i / 2 % k) + i % 2

-- how many turns of the round came before the next one
abbrev pub position : Config → List Event → ℕ
position c past = turns (places c) (length past)

-- one more is the next, or the first of another round
more : (k a : ℕ) → 0 < k → ((a + 1) % k ≡ a % k + 1) ⊎ ((a % k + 1 ≡ k) × ((a + 1) % k ≡ 0))
more k a some = elim (cases_lt (a % k + 1) k) [
  | inl below ↦ inl (sym (mod-add-mod a k 1) ∙ mod-eq_of_lt below)
  | inr above ↦
      let low = mod_below a k some in
      let last : a % k + 1 ≡ k = omega arith in
      let whole : 0 + k ≡ k = omega arith in
      inr (last, sym (mod-add-mod a k 1) ∙ ap (λ n. n % k) (last ∙ sym whole) ∙ add-mod_right 0 k ∙ mod-eq_of_lt some)
]

-- the turn after an even one has the same place, and after an odd one the next
half_same : (i : ℕ) → i % 2 ≡ 0 → suc i / 2 ≡ i / 2
half_same i even = omega arith

half_more : (i : ℕ) → i % 2 ≡ 1 → suc i / 2 ≡ i / 2 + 1
half_more i odd = omega arith

-- the next turn
turns_next : (k i : ℕ) → 0 < k → (turns k (suc i) ≡ turns k i + 1) ⊎ ((turns k i + 1 ≡ 2 * k) × (turns k (suc i) ≡ 0))
turns_next k i some = elim (cases_eq (i % 2) 0) [
  | inl even ↦ let same = ap (λ n. n % k) (half_same i even) in inl (omega arith)
  | inr odd ↦
      let one : i % 2 ≡ 1 = omega arith in
      let next = ap (λ n. n % k) (half_more i one) in
      elim (more k (i / 2) some) [ inl up ↦ inl (omega arith) | inr round ↦ let last = round.0 in let first = round.1 in inr (omega arith, omega arith) ]
]

-- of two positions in a round with n replicas the second is the next, or the first of another round
abbrev pub IsNext : ℕ → ℕ → ℕ → Type 0
IsNext n before now = (now ≡ before + 1) ⊎ ((before + 1 ≡ 2 * (2 * n + 22)) × (now ≡ 0))

-- one more event comes to the next position
pub next : (c : Config) (e : Event) (past : List Event) → IsNext c.replicas (position c past) (position c (e ∷ past))
next c e past = turns_next (2 * c.replicas + 22) (length past) (omega arith)

-- within the round the next position is one more
pub next_is : (c : Config) (e : Event) (past : List Event) (k : ℕ) → position c past ≡ k → k + 1 < 4 * c.replicas + 44 → position c (e ∷ past) ≡ k + 1
next_is c e past k at low = elim (next c e past) [ inl up ↦ omega arith | inr round ↦ let last = round.0 in absurd (omega arith) ]

-- the position of a place
pub at_place : (c : Config) (place : ℕ) (past : List Event) → IsAtPlace c place past → position c past ≡ 2 * place
at_place c place past at =
    let odd = eqb-false (length past % 2) 1 at.background in
    let is = at.place_is in
    let even : length past % 2 ≡ 0 = elim (cases_eq (length past % 2) 0) [ inl e ↦ e | inr d ↦ absurd (odd (omega arith)) ] in
    omega arith

-- the place at a position
pub place_at : (c : Config) (place : ℕ) (past : List Event) → position c past ≡ 2 * place → IsAtPlace c place past
place_at c place past is = record {
  background = let even : length past % 2 ≡ 0 = omega arith in ap (λ n. n == 1) even;
  place_is = omega arith;
}
