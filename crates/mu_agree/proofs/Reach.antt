-- While r owns a region, the log of the region grows only by r's own puts.
use Rattle.std.proofs.Common.{◌≡◌, ◌∙◌, ℕ, ◌+◌, ◌<◌, ◌≤◌, max, Bool, true, false, cond, ◌&&◌, ◌==◌, List, [], ◌∷◌, length, refl, ap, arith, Some, None, subst, eqb-true}
use Rattle.std.specs.Prelude.{min}
use Rattle.std.specs.declared.option.Option.{Option}
use Rattle.std.proofs.lemmas.Bool.{and_parts}
use Rattle.mu_model.specs.declared.config.Config.{Config}
use Rattle.mu_model.specs.declared.event.Event.{Event}
use Rattle.mu_model.specs.declared.event.Verb.{Verb}
use Rattle.mu_model.specs.declared.event.Answer.{Answer}
use Rattle.mu_model.specs.Leaderships.{begins_leadership}
use Rattle.mu_agree.proofs.Landings.{has_since}
use Rattle.mu_agree.specs.Agreement.{LogWithinReach, fuo_under, kept_if, lesser_or, put_end}
use Rattle.mu_model.specs.Allowed.{Needs}
use Rattle.mu_model.specs.Answers.{drained, put_answer}
use Rattle.mu_model.specs.Entering.{grant_seen}
use Rattle.mu_model.specs.Histories.{has, history, part}
use Rattle.mu_model.specs.Knowledge.{fuo_read}
use Rattle.mu_model.specs.Leaderships.{is_first_ask, leadership}
use Rattle.mu_model.specs.Legal.{IsLegalHistory}
use Rattle.mu_model.specs.Regions.{fence_grant, fence_owner, region_fuo, region_log}
use Rattle.mu_agree.proofs.Legal.{event_after, legal_induction}
use Rattle.mu_agree.proofs.Access.{slot_holds}
use Rattle.mu_agree.proofs.Minimum.{seen_law, one_owner, second_passes}
use Rattle.mu_agree.proofs.Landed.{lands_within}
use Rattle.mu_agree.proofs.Room.{log_near, length_put_room}
use Rattle.mu_model.proofs.Basics.{same_some}

abbrev pub LogUnder : Config → ℕ → ℕ → List Event → Type 0
LogUnder c r p past = (g u : ℕ) → g ≡ fence_grant p past → fence_owner p past ≡ Some r → fuo_under r p g (leadership r past) ≡ Some u → length (region_log p past) ≤ max (u + c.ring) (put_end r p (leadership r past))

under_seen : (r p g u : ℕ) (past : List Event) → fuo_under r p g past ≡ Some u → has (λ e. grant_seen r p g e.by e.verb e.answer) past ≡ true
under_seen r p g u [] e = cc
under_seen r p g u (e ∷ past) h = go (fuo_read r p e.by e.verb e.answer) (has (λ f. grant_seen r p g f.by f.verb f.answer) past) refl h (under_seen r p g u past)
  where
    go : (o : Option ℕ) (t : Bool) → has (λ f. grant_seen r p g f.by f.verb f.answer) past ≡ t → lesser_or (kept_if t o) (fuo_under r p g past) ≡ Some u → (fuo_under r p g past ≡ Some u → has (λ f. grant_seen r p g f.by f.verb f.answer) past ≡ true)
        → cond (grant_seen r p g e.by e.verb e.answer) true (has (λ f. grant_seen r p g f.by f.verb f.answer) past) ≡ true
    go o true ht h ih = second_passes (grant_seen r p g e.by e.verb e.answer) (has (λ f. grant_seen r p g f.by f.verb f.answer) past) ht
    go None false ht h ih = second_passes (grant_seen r p g e.by e.verb e.answer) (has (λ f. grant_seen r p g f.by f.verb f.answer) past) (ih h)
    go (Some x) false ht h ih = second_passes (grant_seen r p g e.by e.verb e.answer) (has (λ f. grant_seen r p g f.by f.verb f.answer) past) (ih h)

reach_ask : (c : Config) (r p by q : ℕ) (past : List Event) → LogUnder c r p past → (t : Bool) → is_first_ask r by (Verb.Ask q) ≡ t → LogUnder c r p (event_after c past by (Verb.Ask q) ∷ past)
reach_ask c r p by q past s true h = rw h (λ g u e o m. cc)
reach_ask c r p by q past s false h = rw h s

reach_fuo : (c : Config) (r p by q : ℕ) (past : List Event) → p < c.replicas → IsLegalHistory c past → LogUnder c r p past → (t : Bool) → ((by == r) && (q == p)) ≡ t → LogUnder c r p (event_after c past by (Verb.Fuo q) ∷ past)
reach_fuo c r p by q past l h s true k = rw k (λ g u e o m. go (has (λ f. grant_seen r p g f.by f.verb f.answer) (leadership r past)) g u e o (fuo_under r p g (leadership r past)) refl m)
  where
    near : length (region_log p past) ≤ region_fuo q past + c.ring
    near = let same : region_fuo q past ≡ region_fuo p past = ap (λ z. region_fuo z past) (eqb-true q p (and_parts (by == r) (q == p) k).1) in let n = log_near c p past l h in omega (arith, same, n)

    go : (t : Bool) (g u : ℕ) → g ≡ fence_grant p past → fence_owner p past ≡ Some r → (rest : Option ℕ) → fuo_under r p g (leadership r past) ≡ rest → lesser_or (kept_if t (Some (region_fuo q past))) rest ≡ Some u → length (region_log p past) ≤ max (u + c.ring) (put_end r p (leadership r past))
    go true g u e o None at m = let is = same_some (region_fuo q past) u m in let n = near in omega (arith, is, n)
    go true g u e o (Some y) at m = let is = same_some (min (region_fuo q past) y) u m in let n = near in let k = s g y e o at in omega (arith, is, n, k)
    go false g u e o rest at m = s g u e o (at ∙ m)
reach_fuo c r p by q past l h s false k = rw k s

reach_grant : (c : Config) (r p by w : ℕ) (past : List Event) → IsLegalHistory c past → LogUnder c r p past → (t : Bool) → (by == p) ≡ t → LogUnder c r p (event_after c past by (Verb.Grant w) ∷ past)
reach_grant c r p by w past h s true k =
    rw k (λ g u e o m. absurd (let n : g ≤ fence_grant p past = seen_law c r p past h g (has_since (λ f. grant_seen r p g f.by f.verb f.answer) (begins_leadership r) past (under_seen r p g u (leadership r past) m)) in omega arith))
reach_grant c r p by w past h s false k = rw k s

reach_put : (c : Config) (r p by q j n w : ℕ) (past : List Event) → IsLegalHistory c past → Needs c by (part by past) (Verb.PutSlot q j n w) → LogUnder c r p past
    → (a : Answer) → put_answer (drained by q past) ≡ a → (x : Bool) → (by == r) ≡ x → (y : Bool) → (q == p) ≡ y
    → LogUnder c r p (record { by = by; verb = Verb.PutSlot q j n w; answer = a } ∷ past)
reach_put c r p by q j n w past h may s Answer.Done a true hx true hy = rw (hx, hy) (λ g u e o m.
    let k = s g u e o m in
    let within : j ≤ length (region_log p past) = subst (λ z. j ≤ length (region_log z past)) (eqb-true q p hy) (lands_within c q by j n w past h may) in
    length_put_room (region_log p past) j (max (u + c.ring) (max (j + 1) (put_end r p (leadership r past)))) (n, w) within (omega arith) (omega arith))
reach_put c r p by q j n w past h may s Answer.Done a true hx false hy = rw (hx, hy) s
reach_put c r p by q j n w past h may s Answer.Done a false hx true hy = rw (hx, hy) (λ g u e o m.
    absurd (one_owner r by (fence_owner p past) o (subst (λ z. fence_owner z past ≡ Some by) (eqb-true q p hy) (slot_holds c by q j n w past h may a).by_owner) hx))
reach_put c r p by q j n w past h may s Answer.Done a false hx false hy = rw (hx, hy) s
reach_put c r p by q j n w past h may s b a x hx y hy = s

reach_step : (c : Config) (r p by : ℕ) (v : Verb) (past : List Event) → p < c.replicas → IsLegalHistory c past → Needs c by (part by past) v → LogUnder c r p past → LogUnder c r p (event_after c past by v ∷ past)
reach_step c r p by (Verb.Ask q) past l h may s = reach_ask c r p by q past s (is_first_ask r by (Verb.Ask q)) refl
reach_step c r p by (Verb.Fuo q) past l h may s = reach_fuo c r p by q past l h s ((by == r) && (q == p)) refl
reach_step c r p by (Verb.Grant w) past l h may s = reach_grant c r p by w past h s (by == p) refl
reach_step c r p by (Verb.PutSlot q j n w) past l h may s = reach_put c r p by q j n w past h may s (put_answer (drained by q past)) refl (by == r) refl (q == p) refl
reach_step c r p by v past l h may s = s

pub log_under : (c : Config) (r p : ℕ) (past : List Event) → p < c.replicas → IsLegalHistory c past → LogUnder c r p past
log_under c r p past l = legal_induction c (LogUnder c r p) (λ g u e o m. cc) (λ past by v h may s. reach_step c r p by v past l h may.may s) past

pub log_within_reach_law : LogWithinReach
log_within_reach_law c events r p g u h l = log_under c r p (history events) l h g u
