-- The FUOs that a replica reads or raises never fall.
use Rattle.std.proofs.Common.{◌≡◌, ℕ, ◌≤◌, Bool, true, false, cond, ◌==◌, ◌&&◌, List, ◌∷◌, refl, sym, ◌∙◌, ap, arith, Some, None, subst, eqb-true}
use Rattle.mu_model.specs.declared.config.Config.{Config}
use Rattle.mu_model.specs.declared.event.Event.{Event}
use Rattle.mu_model.specs.declared.event.Verb.{Verb}
use Rattle.mu_model.specs.Histories.{greatest, max_with, part}
use Rattle.mu_model.specs.Legal.{IsLegalHistory}
use Rattle.mu_model.specs.Placing.{fuo_read_or_raised}
use Rattle.mu_model.specs.Regions.{region_fuo}
use Rattle.mu_agree.specs.Moments.{FuosRise}
use Rattle.mu_agree.proofs.Landings.{at_part}
use Rattle.mu_agree.proofs.Legal.{legal_induction, event_after}
use Rattle.mu_agree.proofs.Possible.{answered, at_event}
use Rattle.mu_agree.proofs.Readings.{number_is}

-- FUOs that r read or raised
abbrev FuoKnown : ℕ → ℕ → List Event → Type 0
FuoKnown r p past = greatest (λ f. fuo_read_or_raised r p f.by f.verb f.answer) (part r past) ≤ region_fuo p past

within : (t u : Bool) (x n : ℕ) → n ≤ x → max_with (cond (t && u) (Some x) None) n ≤ x
within true true x n l = omega arith
within true false x n l = l
within false u x n l = l

raised : (t u : Bool) (x n m : ℕ) → n ≤ m → max_with (cond (t && u) (Some x) None) n ≤ max_with (cond u (Some x) None) m
raised true true x n m l = omega arith
raised true false x n m l = l
raised false true x n m l = omega arith
raised false false x n m l = l

rise : (u : Bool) (x n m : ℕ) → n ≤ m → n ≤ max_with (cond u (Some x) None) m
rise true x n m l = omega arith
rise false x n m l = l

fuo_step : (c : Config) (r p by : ℕ) (v : Verb) (past : List Event) → FuoKnown r p past → FuoKnown r p (event_after c past by v ∷ past)
fuo_step c r p by (Verb.Fuo q) past s =
    at_part (λ J. greatest (λ f. fuo_read_or_raised r p f.by f.verb f.answer) J ≤ region_fuo p past) r (event_after c past by (Verb.Fuo q)) past s (λ _. at_p (q == p) refl)
  where
    at_p : (u : Bool) → (q == p) ≡ u → max_with (cond ((by == r) && u) (Some (region_fuo q past)) None) (greatest (λ f. fuo_read_or_raised r p f.by f.verb f.answer) (part r past)) ≤ region_fuo p past
    at_p true k = let e : region_fuo q past ≡ region_fuo p past = ap (λ z. region_fuo z past) (eqb-true q p k) in
        subst (λ z. max_with (cond ((by == r) && true) (Some z) None) (greatest (λ f. fuo_read_or_raised r p f.by f.verb f.answer) (part r past)) ≤ region_fuo p past) (sym e) (within (by == r) true (region_fuo p past) _ s)
    at_p false k = none (by == r)
      where
        none : (t : Bool) → max_with (cond (t && false) (Some (region_fuo q past)) None) (greatest (λ f. fuo_read_or_raised r p f.by f.verb f.answer) (part r past)) ≤ region_fuo p past
        none true = s
        none false = s
fuo_step c r p by (Verb.RaiseFuo q u) past s =
    at_part (λ J. greatest (λ f. fuo_read_or_raised r p f.by f.verb f.answer) J ≤ region_fuo p (event_after c past by (Verb.RaiseFuo q u) ∷ past)) r (event_after c past by (Verb.RaiseFuo q u)) past
    (rise (q == p) u _ (region_fuo p past) s) (λ _. raised (by == r) (q == p) u _ (region_fuo p past) s)
fuo_step c r p by v past s = at_part (λ J. greatest (λ f. fuo_read_or_raised r p f.by f.verb f.answer) J ≤ region_fuo p past) r (event_after c past by v) past s (λ _. s)

pub fuo_known : (c : Config) (r p : ℕ) (past : List Event) → IsLegalHistory c past → FuoKnown r p past
fuo_known c r p = legal_induction c (FuoKnown r p) (omega arith) (λ past by v h may s. fuo_step c r p by v past s)

pub fuos_rise : FuosRise
fuos_rise c r p u mine e poss v a =
    let s = at_event c r mine e poss in
    let is : u ≡ region_fuo p s.older = number_is u (region_fuo p s.older) (sym a ∙ answered c r mine e (Verb.Fuo p) poss v) in
    let low : greatest (λ f. fuo_read_or_raised r p f.by f.verb f.answer) mine ≤ region_fuo p s.older = subst (λ z. greatest (λ f. fuo_read_or_raised r p f.by f.verb f.answer) z ≤ region_fuo p s.older) s.part_is (fuo_known c r p s.older s.legal) in omega arith
