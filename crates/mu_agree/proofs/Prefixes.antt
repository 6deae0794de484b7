-- Known lists agree, and what a FUO covers stays.
use Rattle.std.proofs.Common.{◌≡◌, ℕ, suc, ◌<◌, ◌≤◌, ◌⊎◌, inl, inr, List, [], ◌∷◌, ◌++◌, reverse, refl, sym, ◌∙◌, ap, arith, Some, None, subst}
use Rattle.std.specs.declared.option.Option.{Option}
use Rattle.std.specs.List.{slice_get}
use Rattle.std.proofs.lemmas.List.{reverse-append}
use Rattle.mu_model.specs.declared.config.Config.{Config}
use Rattle.mu_model.specs.declared.event.Event.{Event}
use Rattle.mu_agree.specs.Agreement.{FuoIsKept, KnownAgree}
use Rattle.mu_model.specs.Chosen.{IsChosen}
use Rattle.mu_model.specs.Histories.{greatest, history, max_with, part, IsPrefixOf}
use Rattle.mu_model.specs.Knowledge.{known}
use Rattle.mu_model.specs.Legal.{IsLegalHistory}
use Rattle.mu_model.specs.Regions.{fuo_raised, region_fuo, region_log}
use Rattle.mu_agree.proofs.Legal.{legal_older}
use Rattle.mu_agree.proofs.Landings.{no_gaps}
use Rattle.mu_agree.proofs.Tame.{chosen_stays}
use Rattle.mu_agree.proofs.Phases.{one_chosen, known_chosen, fuo_chosen}
use Rattle.mu_model.proofs.Lists.{item_below}

-- lists that agree if both have an element
pub lists_agree : (xs ys : List ℕ) → ((i v w : ℕ) → slice_get xs i ≡ Some v → slice_get ys i ≡ Some w → v ≡ w) → IsPrefixOf xs ys ⊎ IsPrefixOf ys xs
lists_agree [] ys f = inl (ys, refl)
lists_agree (x ∷ xs) [] f = inr (x ∷ xs, refl)
lists_agree (x ∷ xs) (y ∷ ys) f = go (f 0 x y refl refl) (lists_agree xs ys (λ i v w a b. f (suc i) v w a b))
  where
    go : x ≡ y → IsPrefixOf xs ys ⊎ IsPrefixOf ys xs → IsPrefixOf (x ∷ xs) (y ∷ ys) ⊎ IsPrefixOf (y ∷ ys) (x ∷ xs)
    go e (inl b) = inl (b.0, ap (λ z. y ∷ z) b.1 ∙ ap (λ z. z ∷ (xs ++ b.0)) (sym e))
    go e (inr b) = inr (b.0, ap (λ z. x ∷ z) b.1 ∙ ap (λ z. z ∷ (ys ++ b.0)) e)

-- two known entries at one position are one value
pub known_agree : (c : Config) (r s : ℕ) (past : List Event) → IsLegalHistory c past → (i v w : ℕ) → slice_get (known c r (part r past)) i ≡ Some v → slice_get (known c s (part s past)) i ≡ Some w → v ≡ w
known_agree c r s past h i v w a b =
    let x = known_chosen c r i v past h a in
    let y = known_chosen c s i w past h b in
    one_chosen c i x.b v y.b w past h x.is y.is

pub known_agree_law : KnownAgree
known_agree_law c events r s h = lists_agree (known c r (part r (history events))) (known c s (part s (history events))) (known_agree c r s (history events) h)

-- what is chosen stays chosen
pub chosen_along : (c : Config) (i v : ℕ) (newer older : List Event) → IsChosen c older i v → IsChosen c (newer ++ older) i v
chosen_along c i v [] older h = h
chosen_along c i v (e ∷ newer) older h = let k = chosen_along c i v newer older h in (k.0, chosen_stays c i k.0 v e (newer ++ older) k.1)

pub greatest_along : (tells : Event → Option ℕ) (newer older : List Event) → greatest tells older ≤ greatest tells (newer ++ older)
greatest_along tells [] older = omega arith
greatest_along tells (e ∷ newer) older = go (tells e) (greatest_along tells newer older)
  where
    go : (o : Option ℕ) → greatest tells older ≤ greatest tells (newer ++ older) → greatest tells older ≤ max_with o (greatest tells (newer ++ older))
    go None l = l
    go (Some x) l = omega arith

fuo_kept : (c : Config) (p i : ℕ) (newer older : List Event) → IsLegalHistory c (newer ++ older) → i < region_fuo p older
    → (n : ℕ) × ((v : ℕ) × ((slice_get (region_log p (newer ++ older)) i ≡ Some (n, v)) × IsChosen c older i v))
fuo_kept c p i newer older h l =
    let was = legal_older c newer older h in
    let old = no_gaps c p older was in
    let new = no_gaps c p (newer ++ older) h in
    let up = greatest_along (λ e. fuo_raised p e.verb) newer older in
    let l' : i < region_fuo p (newer ++ older) = omega arith in
    let f1 = old.fuo in
    let f2 = new.fuo in
    let y = item_below (region_log p older) i (omega arith) in
    let z = item_below (region_log p (newer ++ older)) i (omega arith) in
    let cy = fuo_chosen c p i y.0 older was l y.1 in
    let cz = fuo_chosen c p i z.0 (newer ++ older) h l' z.1 in
    let k = chosen_along c i y.0.1 newer older (cy.b, cy.is) in
    let same : y.0.1 ≡ z.0.1 = one_chosen c i k.0 y.0.1 cz.b z.0.1 (newer ++ older) h k.1 cz.is in
    (z.0.0, (z.0.1, (z.1, subst (λ x. IsChosen c older i x) same (cy.b, cy.is))))

fuo_along : (c : Config) (p i : ℕ) (newer older all : List Event) → all ≡ newer ++ older → IsLegalHistory c all → i < region_fuo p older
    → (n : ℕ) × ((v : ℕ) × ((slice_get (region_log p all) i ≡ Some (n, v)) × IsChosen c older i v))
fuo_along c p i newer older all e = rw e (fuo_kept c p i newer older)

pub fuo_is_kept_law : FuoIsKept
fuo_is_kept_law c earlier later p i = fuo_along c p i (reverse later) (reverse earlier) (reverse (earlier ++ later)) (reverse-append earlier later)
