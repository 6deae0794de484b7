-- No count is above the length of the history, and what one event adds for one replica.
use Rattle.std.proofs.Common.{◌≡◌, ℕ, ◌+◌, ◌<◌, ◌≤◌, ◌==◌, ◌&&◌, Bool, true, false, List, ◌∷◌, length, refl, sym, ap, ◌∙◌, subst, arith, set, Some, None, eqb-true, eq-eqb}
use Rattle.std.specs.Prelude.{if◌then◌else◌, slice_index}
use Rattle.std.specs.declared.option.Option.{Option}
use Rattle.std.specs.List.{slice_get}
use Rattle.std.proofs.lemmas.Bool.{eqb-false}
use Rattle.std.proofs.lemmas.Grind.{common_steps}
use Rattle.mu_model.specs.declared.event.Answer.{Answer}
use Rattle.mu_model.specs.declared.event.Event.{Event}
use Rattle.mu_model.specs.declared.event.Fence.{Fence}
use Rattle.mu_model.specs.declared.event.Verb.{Verb}
use Rattle.mu_model.specs.Histories.{newer_or, newest}
use Rattle.mu_model.specs.Leaderships.{fence_seen, grant_for, leadership}
use Rattle.mu_model.specs.Regions.{asks, beats, fence_grant, is_ask_by, is_beat_by, is_grant_of}
use Rattle.mu_regions.specs.Stands.{CountsAsks, NotesGrants}
use Rattle.mu_model.proofs.Counts.{how_many_within}
use Rattle.mu_model.proofs.Lists.{get_set_here, get_set_other}

pub few_beats : (q : ℕ) (past : List Event) → beats q past ≤ length past
few_beats q past = how_many_within (λ e. is_beat_by q e.by e.verb) past

pub few_asks : (w p : ℕ) (past : List Event) → asks w p past ≤ length past
few_asks w p past = how_many_within (λ e. is_ask_by w p e.by e.verb) past

pub few_grants : (p : ℕ) (past : List Event) → fence_grant p past ≤ length past
few_grants p past = how_many_within (is_grant_of p) past

-- one more ask of replica i
pub one_more : (p : ℕ) (e : Event) (past : List Event) (counts : List ℕ) (i n : ℕ) → e.verb ≡ Verb.Ask p → e.by ≡ i → i < length counts → n ≡ asks i p past + 1
    → CountsAsks p past counts → CountsAsks p (e ∷ past) (set counts i n)
one_more p e past counts i n asked by low more counted w small = rw (asked, by) (by_test (i == w) refl)
  where
    by_test : (t : Bool) → (i == w) ≡ t → slice_index (set counts i n) w ≡ (if (i == w) && (p == p) then asks w p past + 1 else asks w p past)
    by_test true is = let same = eqb-true i w is in grind (arith, common_steps)
    by_test false is = let other = eqb-false i w is in let was = counted w small in grind (arith, common_steps)

-- replica i sees the fence of p
pub noted_fence : (p : ℕ) (e : Event) (past : List Event) (noted : List (Option ℕ)) (f : Fence) (i : ℕ) (g : Option ℕ) → e.verb ≡ Verb.Fence p → e.answer ≡ Answer.Seen f → e.by ≡ i → i < length noted → g ≡ grant_for i (Some f)
    → NotesGrants p past noted → NotesGrants p (e ∷ past) (set noted i g)
noted_fence p e past noted f i g fenced seen by low shown was r small = rw (fenced, seen, by) (by_test (i == r) refl (p == p) (eq-eqb p p refl))
  where
    by_test : (t : Bool) → (i == r) ≡ t → (u : Bool) → u ≡ true → slice_get (set noted i g) r ≡ Some (grant_for r (newer_or (if t && u then Some f else None) (newest (λ d. fence_seen r p d.by d.verb d.answer) (leadership r past))))
    by_test true is true whole = let same = eqb-true i r is in subst (λ q. slice_get (set noted i g) q ≡ Some (grant_for q (Some f))) same (get_set_here noted i g low ∙ ap Some shown)
    by_test false is true whole = get_set_other noted r i g (λ h. eqb-false i r is (sym h)) ∙ was r small
    by_test t is false whole = cc
