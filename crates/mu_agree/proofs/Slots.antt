-- The numbers of a slot never go down.
use Rattle.std.proofs.Common.{◌≡◌, ℕ, zero, suc, ◌≤◌, ◌⊎◌, inl, inr, Bool, true, false, cond, ◌==◌, List, [], ◌∷◌, ◌++◌, refl, sym, ◌∙◌, ap, arith, Some, eqb-true, length, set}
use Rattle.std.specs.List.{slice_get}
use Rattle.std.proofs.lemmas.List.{reverse-append}
use mathlib.Core.List.{reverse}
use Rattle.mu_model.specs.declared.config.Config.{Config}
use Rattle.mu_model.specs.declared.event.Event.{Event}
use Rattle.mu_model.specs.declared.event.Verb.{Verb}
use Rattle.mu_model.specs.declared.event.Answer.{Answer}
use Rattle.mu_agree.specs.Laws.{SlotNumbersRise}
use Rattle.mu_model.specs.Allowed.{Needs}
use Rattle.mu_model.specs.Answers.{drained, put_answer}
use Rattle.mu_model.specs.Histories.{part}
use Rattle.mu_model.specs.Legal.{IsLegalHistory}
use Rattle.mu_model.specs.Regions.{region_log, region_min}
use Rattle.mu_agree.proofs.Legal.{event_after, legal_induction, legal_onward, legal_older}
use Rattle.mu_agree.proofs.Minimum.{rises_step}
use Rattle.mu_agree.proofs.Members.{slot_number}
use Rattle.mu_model.proofs.Basics.{same_some}

-- what stands at i after one entry was added, or set
pub get_added : (log : List (ℕ × ℕ)) (i : ℕ) (z y : ℕ × ℕ) → slice_get (log ++ z ∷ []) i ≡ Some y → (slice_get log i ≡ Some y) ⊎ ((i ≡ length log) × (y ≡ z))
get_added [] zero z y e = inr (refl, sym (same_some z y e))
get_added [] (suc i) z y e = cc
get_added (x ∷ log) zero z y e = inl e
get_added (x ∷ log) (suc i) z y e = elim (get_added log i z y e) [ inl h ↦ inl h | inr h ↦ inr (ap suc h.0, h.1) ]

pub get_set : (log : List (ℕ × ℕ)) (j i : ℕ) (z y : ℕ × ℕ) → slice_get (set log j z) i ≡ Some y → (slice_get log i ≡ Some y) ⊎ ((i ≡ j) × (y ≡ z))
get_set [] j i z y e = cc
get_set (x ∷ log) zero zero z y e = inr (refl, sym (same_some z y e))
get_set (x ∷ log) zero (suc i) z y e = inl e
get_set (x ∷ log) (suc j) zero z y e = inl e
get_set (x ∷ log) (suc j) (suc i) z y e = elim (get_set log j i z y e) [ inl h ↦ inl h | inr h ↦ inr (ap suc h.0, h.1) ]

abbrev pub put_in' : List (ℕ × ℕ) → ℕ → ℕ × ℕ → List (ℕ × ℕ)
put_in' log j z = cond (j == length log) (log ++ z ∷ []) (set log j z)

pub get_put : (log : List (ℕ × ℕ)) (j i : ℕ) (z y : ℕ × ℕ) → slice_get (put_in' log j z) i ≡ Some y → (slice_get log i ≡ Some y) ⊎ ((i ≡ j) × (y ≡ z))
get_put log j i z y = go (j == length log) refl
  where
    go : (t : Bool) → (j == length log) ≡ t → slice_get (cond t (log ++ z ∷ []) (set log j z)) i ≡ Some y → (slice_get log i ≡ Some y) ⊎ ((i ≡ j) × (y ≡ z))
    go true h e = elim (get_added log i z y e) [ inl k ↦ inl k | inr k ↦ inr (k.0 ∙ sym (eqb-true j (length log) h), k.1) ]
    go false h e = get_set log j i z y e

-- no number in the log is above the minimum
abbrev pub LogBelow : ℕ → List Event → Type 0
LogBelow p past = (i : ℕ) (y : ℕ × ℕ) → slice_get (region_log p past) i ≡ Some y → y.0 ≤ region_min p past

below_slot : (c : Config) (p by q i b v : ℕ) (past : List Event) → IsLegalHistory c past → Needs c by (part by past) (Verb.PutSlot q i b v) → LogBelow p past
    → (a : Answer) → put_answer (drained by q past) ≡ a → (y : Bool) → (q == p) ≡ y
    → LogBelow p (record { by = by; verb = Verb.PutSlot q i b v; answer = a } ∷ past)
below_slot c p by q i b v past h may s Answer.Done e true hy =
    rw hy (λ j y k. elim (get_put (region_log p past) i j (b, v) y k) [
      | inl m ↦ s j y m
      | inr m ↦ (let n : b ≡ region_min p past = slot_number c by q i b v past h may e ∙ ap (λ z. region_min z past) (eqb-true q p hy) in let o : y.0 ≡ b = ap (λ z. z.0) m.1 in omega arith)
    ])
below_slot c p by q i b v past h may s Answer.Done e false hy = rw hy s
below_slot c p by q i b v past h may s a e y hy = s

below_step : (c : Config) (p by : ℕ) (v : Verb) (past : List Event) → IsLegalHistory c past → Needs c by (part by past) v → LogBelow p past → LogBelow p (event_after c past by v ∷ past)
below_step c p by (Verb.PutSlot q i b v) past h may s = below_slot c p by q i b v past h may s (put_answer (drained by q past)) refl (q == p) refl
below_step c p by (Verb.PutMin q b) past h may s = λ i y e. rises_step c p by y.0 (Verb.PutMin q b) past h may (s i y e)
below_step c p by v past h may s = s

pub log_below : (c : Config) (p : ℕ) (past : List Event) → IsLegalHistory c past → LogBelow p past
log_below c p = legal_induction c (LogBelow p) (λ i y e. cc) (λ past by v h may s. below_step c p by v past h may.may s)

-- from the moment at which number n stands at i
record Above (p i n : ℕ) (past : List Event) : Type 0 where
  least : n ≤ region_min p past
  slot : (y : ℕ × ℕ) → slice_get (region_log p past) i ≡ Some y → n ≤ y.0

above_slot : (c : Config) (p i n by q j b v : ℕ) (past : List Event) → IsLegalHistory c past → Needs c by (part by past) (Verb.PutSlot q j b v) → Above p i n past
    → (a : Answer) → put_answer (drained by q past) ≡ a → (y : Bool) → (q == p) ≡ y
    → Above p i n (record { by = by; verb = Verb.PutSlot q j b v; answer = a } ∷ past)
above_slot c p i n by q j b v past h may s Answer.Done e true hy = record {
  least = s.least;
  slot = rw hy (λ y k. elim (get_put (region_log p past) j i (b, v) y k) [
    | inl m ↦ s.slot y m
    | inr m ↦ (let l : b ≡ region_min p past = slot_number c by q j b v past h may e ∙ ap (λ z. region_min z past) (eqb-true q p hy) in let o : y.0 ≡ b = ap (λ z. z.0) m.1 in let t = s.least in omega arith)
  ]);
}
above_slot c p i n by q j b v past h may s Answer.Done e false hy = record { least = s.least; slot = rw hy s.slot }
above_slot c p i n by q j b v past h may s a e y hy = record { least = s.least; slot = s.slot }

above_step : (c : Config) (p i n by : ℕ) (v : Verb) (past : List Event) → IsLegalHistory c past → Needs c by (part by past) v → Above p i n past → Above p i n (event_after c past by v ∷ past)
above_step c p i n by (Verb.PutSlot q j b v) past h may s = above_slot c p i n by q j b v past h may s (put_answer (drained by q past)) refl (q == p) refl
above_step c p i n by (Verb.PutMin q b) past h may s = record { least = rises_step c p by n (Verb.PutMin q b) past h may s.least; slot = s.slot }
above_step c p i n by v past h may s = record { least = s.least; slot = s.slot }

pub slot_rises : (c : Config) (p i : ℕ) (x y : ℕ × ℕ) (newer older : List Event) → IsLegalHistory c (newer ++ older) → slice_get (region_log p older) i ≡ Some x → slice_get (region_log p (newer ++ older)) i ≡ Some y → x.0 ≤ y.0
slot_rises c p i x y newer older h e k =
    let s = legal_onward c (Above p i x.0) older
    (record { least = log_below c p older (legal_older c newer older h) i x e; slot = λ z f. (let g : x ≡ z = same_some x z (sym e ∙ f) in let o : x.0 ≡ z.0 = ap (λ w. w.0) g in omega arith) })
    (λ past by v l may t. above_step c p i x.0 by v past l may.may t) newer h in
    s.slot y k

slot_along : (c : Config) (p i : ℕ) (x y : ℕ × ℕ) (newer older all : List Event) → all ≡ newer ++ older → IsLegalHistory c all → slice_get (region_log p older) i ≡ Some x → slice_get (region_log p all) i ≡ Some y → x.0 ≤ y.0
slot_along c p i x y newer older all e = rw e (slot_rises c p i x y newer older)

pub slot_numbers_rise_law : SlotNumbersRise
slot_numbers_rise_law c earlier later p i x y = slot_along c p i x y (reverse later) (reverse earlier) (reverse (earlier ++ later)) (reverse-append earlier later)
