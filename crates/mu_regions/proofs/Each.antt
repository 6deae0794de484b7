-- Regions of a list that stand for a history, one more at its end or one after the other.
use Rattle.std.proofs.Common.{◌≡◌, ℕ, ◌<◌, ◌≤◌, inl, inr, ◌==◌, Bool, true, false, List, [], ◌∷◌, ◌++◌, length, set, take, refl, sym, ap, ◌∙◌, subst, arith, Some, eqb-true, ◌+◌, get_or}
use Rattle.std.specs.List.{slice_get}
use Rattle.std.proofs.lemmas.Option.{slice_get-get_or, slice_get_within}
use Rattle.std.proofs.Math.Seq.{take-append_seam}
use Rattle.std.proofs.lemmas.Bool.{eqb-false, ne_eqb}
use Rattle.mu_model.specs.declared.config.Config.{Config}
use Rattle.mu_model.specs.declared.event.Event.{Event}
use Rattle.mu_regions.specs.Stands.{Holds, HoldsEach}
use Rattle.mu_regions.specs.declared.region.Region.{Region}
use Rattle.mu_model.proofs.Lists.{get_push_here, get_push_other, get_set_here, get_set_other, set_get}
use Rattle.mu_regions.proofs.Elsewhere.{region_kept}
use Rattle.mu_regions.specs.Range.{is_first, read_at}
use Rattle.mu_model.proofs.Basics.{same_some}

pub each_pushed : (c : Config) (past : List Event) (regions : List Region) (last : Region) → HoldsEach c past regions → Holds c (length regions) past last → HoldsEach c past (regions ++ last ∷ [])
each_pushed c past regions last held new p region at = by_test (p == length regions) refl
  where
    by_test : (t : Bool) → (p == length regions) ≡ t → Holds c p past region
    by_test true is =
        let here = eqb-true p (length regions) is in
        let same : last ≡ region = same_some last region (sym (get_push_here regions p last here) ∙ at) in
        subst (λ q. Holds c q past region) (sym here) (subst (λ r. Holds c (length regions) past r) same new)
    by_test false is = held p region (sym (get_push_other regions p last (eqb-false p (length regions) is)) ∙ at)

-- a list written back over one of the same length
pub written_back : {A : Type 0} (n : ℕ) (new rest : List A) → length new ≡ n → take n (new ++ rest) ≡ new
written_back n new rest same = subst (λ m. take m (new ++ rest) ≡ new) same (take-append_seam new rest)

-- what holds of the regions once those below i have taken the event
abbrev pub Taken : Config → List Event → Event → ℕ → List Region → Type 0
Taken c past e i regions = (p : ℕ) (region : Region) → slice_get regions p ≡ Some region → (p < i → Holds c p (e ∷ past) region) × (i ≤ p → Holds c p past region)

pub taken_next : (c : Config) (past : List Event) (e : Event) (i : ℕ) (regions : List Region) (was new : Region) → i < length regions → was ≡ get_or regions i was
    → (Holds c i past was → Holds c i (e ∷ past) new) → Taken c past e i regions → Taken c past e (i + 1) (set regions i new)
taken_next c past e i regions was new low is step before p region at = by_test (p == i) refl
  where
    there : slice_get regions i ≡ Some was
    there = slice_get-get_or regions i was low ∙ ap Some (sym is)

    by_test : (t : Bool) → (p == i) ≡ t → (p < i + 1 → Holds c p (e ∷ past) region) × (i + 1 ≤ p → Holds c p past region)
    by_test true same =
        let here = eqb-true p i same in
        let stands : slice_get (set regions i new) i ≡ Some region = subst (λ q. slice_get (set regions i new) q ≡ Some region) here at in
        let chosen : new ≡ region = same_some new region (sym (get_set_here regions i new low) ∙ stands) in (
          λ below. subst (λ q. Holds c q (e ∷ past) region) (sym here) (subst (λ r. Holds c i (e ∷ past) r) chosen (step ((before i was there).1 (omega arith)))),
          λ above. absurd (omega (arith, above, here)),
        )
    by_test false same =
        let other = eqb-false p i same in
        let kept = before p region (sym (get_set_other regions p i new other) ∙ at) in
        (λ below. kept.0 (omega (arith, below, other)), λ above. kept.1 (omega (arith, above)))

pub taken_all : (c : Config) (past : List Event) (e : Event) (i : ℕ) (regions : List Region) → length regions ≤ i → Taken c past e i regions → HoldsEach c (e ∷ past) regions
taken_all c past e i regions all taken p region at = (taken p region at).0 (let low = slice_get_within regions p region at in omega (arith, low, all))

-- the event was taken at the region that it reads, and the others stay
pub each_taken : (c : Config) (past : List Event) (e : Event) (regions : List Region) (at : ℕ) (was new : Region) → at ≡ read_at e.by e.verb → is_first e.verb ≡ false → slice_get regions at ≡ Some was
    → (Holds c at past was → Holds c at (e ∷ past) new) → HoldsEach c past regions → HoldsEach c (e ∷ past) (set regions at new)
each_taken c past e regions at was new reads later there step held p region found = elim (set_get regions at new p region found) [
  | inl here ↦ subst (λ q. Holds c q (e ∷ past) region) (sym here.0) (subst (λ x. Holds c at (e ∷ past) x) here.1 (step (held at was there)))
  | inr other ↦ region_kept c p past e region later (ne_eqb (read_at e.by e.verb) p (λ same. other.0 (sym same ∙ sym reads))) (held p region other.1)
]

-- the event reads a region that isn't there, and all stay
pub each_kept : (c : Config) (past : List Event) (e : Event) (regions : List Region) → is_first e.verb ≡ false → length regions ≤ read_at e.by e.verb → HoldsEach c past regions → HoldsEach c (e ∷ past) regions
each_kept c past e regions later beyond held p region found =
    region_kept c p past e region later (ne_eqb (read_at e.by e.verb) p (λ same. let low = slice_get_within regions p region found in absurd (omega (arith, low, beyond, same)))) (held p region found)
