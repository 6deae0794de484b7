-- How soon a replayer raises its head.
use Rattle.std.proofs.Common.{◌≡◌, ◌∙◌, ℕ, ◌+◌, ◌%◌, ◌⊎◌, inl, inr, Bool, true, false, None, Some, List, [], ◌∷◌, arith, length, refl, sym}
use Rattle.std.specs.Prelude.{if◌then◌else◌, min}
use Rattle.std.specs.declared.option.Option.{Option}
use Rattle.std.proofs.lemmas.Bool.{lt-ltb, ltb-true, true≢false}
use Rattle.mu_model.specs.declared.config.Config.{Config}
use Rattle.mu_model.specs.declared.event.Answer.{Answer}
use Rattle.mu_model.specs.declared.event.Event.{Event}
use Rattle.mu_model.specs.declared.event.Verb.{Verb}
use Rattle.mu_model.specs.Bounds.{cycle}
use Rattle.mu_model.specs.Knowledge.{applied}
use Rattle.mu_model.specs.Placing.{fuo_read_or_raised}
use Rattle.mu_model.specs.Regions.{region_head}
use Rattle.mu_model.specs.Steps.{is_head_raise, is_head_raise_verb}
use Rattle.mu_model.proofs.Basics.{none_some}
use Rattle.mu_knowledge.proofs.Fetched.{applied_grows}
use Rattle.mu_pace.specs.Counters.{HasRoom, fewer, left_after, steps_left}
use Rattle.mu_pace.specs.Watches.{is_head_due, raising_head}
use Rattle.mu_pace.proofs.Cycles.{closed_moments, steps_give, while_allows}
use Rattle.mu_follow.specs.Due.{own_fuo}
use Rattle.mu_lively.specs.Heads.{HeadsRiseInTime}
use Rattle.mu_model.proofs.Counts.{max_with_grows}

-- the head of a region stays if nobody raises one
head_stays : (r by : ℕ) (verb : Verb) (answer : Answer) (past : List Event) → is_head_raise_verb verb ≡ false → region_head r (record { by = by; verb = verb; answer = answer } ∷ past) ≡ region_head r past
head_stays r by (Verb.RaiseHead h) answer past no_raise = absurd (true≢false no_raise)
head_stays r by verb answer past no_raise = refl

-- a head that may be raised still may after an event that raises none
due_stays : (c : Config) (r : ℕ) (past : List Event) (e : Event) → is_head_raise e ≡ false → is_head_due c r past ≡ true → is_head_due c r (e ∷ past) ≡ true
due_stays c r past e no_raise due =
    let low = ltb-true (region_head r past) (min (length (applied c r past)) (own_fuo r past)) due in
    let same = head_stays r e.by e.verb e.answer past no_raise in
    let more = applied_grows c r past e in
    let above = max_with_grows (fuo_read_or_raised r r e.by e.verb e.answer) (own_fuo r past) in
    lt-ltb (region_head r (e ∷ past)) (min (length (applied c r (e ∷ past))) (own_fuo r (e ∷ past))) (omega (arith, low, same, more, above))

-- while the count is open the head may be raised
open_due : (c : Config) (r : ℕ) (past : List Event) (left : ℕ) → steps_left (raising_head c r) past ≡ Some left → is_head_due c r past ≡ true
open_due c r [] left is = go (is_head_due c r []) is
  where
    go : (t : Bool) → (if t then Some (cycle c) else None) ≡ Some left → t ≡ true
    go true is = refl
    go false is = absurd (none_some left is)
open_due c r (e ∷ past) left is = elim (step (is_head_due c r (e ∷ past)) (is_head_raise e) (steps_left (raising_head c r) past) is) [ inl due ↦ due | inr still ↦ due_stays c r past e still.0 (open_due c r past still.1.0 still.1.1) ]
  where
    step : (t u : Bool) (o : Option ℕ) → fewer (if t then Some (cycle c) else None) (left_after u true 0 o) ≡ Some left → (t ≡ true) ⊎ ((u ≡ false) × ((l : ℕ) × (o ≡ Some l)))
    step true u o is = inl refl
    step false u None is = absurd (none_some left is)
    step false true (Some l) is = absurd (none_some left is)
    step false false (Some l) is = inr (refl, (l, refl))

pub heads_rise_in_time : HeadsRiseInTime
heads_rise_in_time c r k past low at =
    closed_moments (cycle c) k (raising_head c r) past low (λ now allowed is. let whole = while_allows (is_head_due c r) (λ now. cycle c) now allowed is in omega (arith, whole))
    (steps_give (λ before e. length before % cycle c ≡ k → is_head_due c r before ≡ true → is_head_raise e ≡ true) (λ before e. length before % cycle c ≡ k → (is_head_raise e ≡ true) ⊎ HasRoom (raising_head c r) (cycle c + 1) before)
    (λ before e raises here. go before e (raises here) (is_head_due c r before) refl) past at)
  where
    go : (before : List Event) (e : Event) → (is_head_due c r before ≡ true → is_head_raise e ≡ true) → (t : Bool) → is_head_due c r before ≡ t → (is_head_raise e ≡ true) ⊎ HasRoom (raising_head c r) (cycle c + 1) before
    go before e raises true due = inl (raises due)
    go before e raises false none = inr (λ left is. absurd (true≢false (sym (open_due c r before left is) ∙ none)))
