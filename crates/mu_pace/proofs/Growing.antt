-- What only grows in a leadership or over a journal.
use Rattle.std.proofs.Common.{◌≡◌, ℕ, ◌+◌, ◌-◌, ◌*◌, ◌≤◌, Bool, true, false, List, [], ◌∷◌, ◌++◌, length, refl, sym, arith, true≢false, Some, None, is_some}
use Rattle.std.specs.declared.option.Option.{Option}
use Rattle.std.specs.Prelude.{if◌then◌else◌, not, ◌||◌}
use Rattle.mu_model.specs.declared.config.Config.{Config}
use Rattle.mu_model.specs.declared.event.Event.{Event}
use Rattle.mu_model.specs.Bounds.{copied, is_copying, is_learning, members, stays}
use Rattle.mu_model.specs.Histories.{greatest, has, newer_or}
use Rattle.mu_model.specs.Knowledge.{known}
use Rattle.mu_model.specs.Leaderships.{begins_leadership, grant_at_joining, is_member, leadership, lands_min, noted_grant}
use Rattle.mu_model.specs.Stretches.{steps}
use Rattle.mu_agree.proofs.Counting.{count_more}
use Rattle.mu_agree.proofs.Members.{member_on}
use Rattle.mu_pace.specs.Counters.{paid}
use Rattle.mu_pace.specs.Watches.{earns}
use Rattle.mu_agree.proofs.Tame.{known_longer}
use Rattle.mu_model.proofs.Counts.{max_with_grows}

-- a stretch of one leadership, shorter by its last event
pub stays_less : (r : ℕ) (e : Event) (window : List Event) → stays r (e ∷ window) ≡ true → (begins_leadership r e ≡ false) × (stays r window ≡ true)
stays_less r e window h = go (begins_leadership r e) h
  where
    go : (t : Bool) → not (if t then true else has (begins_leadership r) window) ≡ true → (t ≡ false) × (stays r window ≡ true)
    go true h = absurd (true≢false (sym h))
    go false h = (refl, h)

pub member_stays : (r p : ℕ) (window older : List Event) → stays r window ≡ true → is_member r p older ≡ true → is_member r p (window ++ older) ≡ true
member_stays r p [] older s m = m
member_stays r p (e ∷ window) older s m = let l = stays_less r e window s in member_on r p e (window ++ older) l.0 (member_stays r p window older l.1 m)

pub members_on : (c : Config) (r : ℕ) (e : Event) (past : List Event) → begins_leadership r e ≡ false → members c r past ≤ members c r (e ∷ past)
members_on c r e past b = count_more c.replicas (λ p. is_member r p past) (λ p. is_member r p (e ∷ past)) (λ p l m. member_on r p e past b m)

-- what the steps of a stretch earn is what its members and its copies give more
eight : (t u : Bool) (a b : ℕ) → (if t || u then 8 else 0) + 8 * (a + b) ≤ 8 * ((if t then a + 1 else a) + (if u then b + 1 else b))
eight true true a b = omega arith
eight true false a b = omega arith
eight false true a b = omega arith
eight false false a b = omega arith

pub earned : (c : Config) (r : ℕ) (window older : List Event) → stays r window ≡ true → 6 * members c r older + paid (earns c r) window older ≤ 6 * members c r (window ++ older) + 8 * copied c r window older
earned c r [] older s = omega arith
earned c r (e ∷ window) older s =
    let l = stays_less r e window s in
    let ih = earned c r window older l.1 in
    let up = members_on c r e (window ++ older) l.0 in
    let more = eight (is_learning c r (window ++ older) e) (is_copying c r (window ++ older) e) (steps (is_learning c r) window older) (steps (is_copying c r) window older) in
    six (members c r older) (members c r (window ++ older)) (members c r (e ∷ (window ++ older))) (paid (earns c r) window older) (if is_learning c r (window ++ older) e || is_copying c r (window ++ older) e then 8 else 0)
    (copied c r window older) (copied c r (e ∷ window) older) ih up more
  where
    six : (m n k x y z u : ℕ) → 6 * m + x ≤ 6 * n + 8 * z → n ≤ k → y + 8 * z ≤ 8 * u → 6 * m + (x + (6 * (k - n) + y)) ≤ 6 * k + 8 * u
    six m n k x y z u a b d = omega (arith, a, b, d)

-- twice as much
pub twice_paid : (pays : List Event → Event → ℕ) (window older : List Event) → paid (λ past e. 2 * pays past e) window older ≡ 2 * paid pays window older
twice_paid pays [] older = refl
twice_paid pays (e ∷ window) older = let ih = twice_paid pays window older in omega arith

-- what is known grows
pub known_grows : (c : Config) (r : ℕ) (newer older : List Event) → length (known c r older) ≤ length (known c r (newer ++ older))
known_grows c r [] older = omega arith
known_grows c r (e ∷ newer) older = let a = known_grows c r newer older in let b = known_longer c r e (newer ++ older) in omega arith

-- the greatest of a leadership grows
pub greatest_on : (tells : Event → Option ℕ) (r : ℕ) (e : Event) (past : List Event) → begins_leadership r e ≡ false → greatest tells (leadership r past) ≤ greatest tells (leadership r (e ∷ past))
greatest_on tells r e past b = rw b (max_with_grows (tells e) (greatest tells (leadership r past)))

pub greatest_grows : (tells : Event → Option ℕ) (r : ℕ) (window older : List Event) → stays r window ≡ true → greatest tells (leadership r older) ≤ greatest tells (leadership r (window ++ older))
greatest_grows tells r [] older s = omega arith
greatest_grows tells r (e ∷ window) older s =
    let l = stays_less r e window s in let a = greatest_grows tells r window older l.1 in let b = greatest_on tells r e (window ++ older) l.0 in omega arith
