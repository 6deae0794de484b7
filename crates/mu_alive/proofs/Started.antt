-- A leader that has started: it has read a minimum, has put a number, and asked each region before.
use Rattle.std.proofs.Common.{◌≡◌, ℕ, ◌<◌, not, Bool, true, false, cond, Some, None, List, [], ◌∷◌, ◌++◌, refl, sym, ◌∙◌, ap, true≢false, is_some}
use Rattle.std.specs.declared.option.Option.{Option}
use Rattle.std.specs.Prelude.{if◌then◌else◌}
use Rattle.mu_model.specs.declared.config.Config.{Config}
use Rattle.mu_model.specs.declared.event.Event.{Event}
use Rattle.mu_model.specs.declared.event.Verb.{Verb}
use Rattle.mu_model.specs.Bounds.{stays}
use Rattle.mu_model.specs.Histories.{earlier_or, has, oldest, part}
use Rattle.mu_model.specs.Leaderships.{begins_leadership, leadership, number_put, proposal_number}
use Rattle.mu_model.specs.Steps.{has_min, is_asking}
use Rattle.mu_agree.proofs.Landings.{has_more, has_since}
use Rattle.mu_agree.specs.Moments.{AtEachStep}
use Rattle.mu_pace.proofs.Growing.{stays_less}
use Rattle.mu_alive.proofs.Steady.{numbered_on}
use Rattle.mu_alive.proofs.Enough.{Leads}
use Rattle.mu_pace.proofs.Pasts.{min_on}
use Rattle.mu_pace.specs.Watches.{puts_number}

oldest_there : (tells : Event → Option ℕ) (events : List Event) → is_some (oldest tells events) ≡ true → has (λ e. is_some (tells e)) events ≡ true
oldest_there tells [] some = absurd (true≢false (sym some))
oldest_there tells (e ∷ events) some = go (tells e) (oldest tells events) some (oldest_there tells events)
  where
    go : (o n : Option ℕ) → is_some (earlier_or o n) ≡ true → (is_some n ≡ true → has (λ e. is_some (tells e)) events ≡ true) → cond (is_some o) true (has (λ e. is_some (tells e)) events) ≡ true
    go None n some ih = ih some
    go (Some x) n some ih = refl

-- who has a number has put one
pub numbered_there : (a : ℕ) (past : List Event) → is_some (proposal_number a past) ≡ true → has (puts_number a) past ≡ true
numbered_there a past some = has_since (puts_number a) (begins_leadership a) past (oldest_there (λ e. number_put a e.by e.verb) (leadership a past) some)

-- once it has read a minimum one leadership goes on
pub one_leads : (c : Config) (a : ℕ) (newer base : List Event) → AtEachStep (Leads c a) (newer ++ base) → has_min a base ≡ true → (stays a newer ≡ true) × (has_min a (newer ++ base) ≡ true)
one_leads c a [] base kept some = (refl, some)
one_leads c a (e ∷ newer) base kept some =
    let ih = one_leads c a newer base kept.0 some in
    let same = kept.1.same ih.1 in
    (ap (λ t. not (if t then true else has (begins_leadership a) newer)) same ∙ ih.0, min_on a e (newer ++ base) same ih.1)

-- a leads under a number, and asked each region before
pub record Started (c : Config) (a : ℕ) (past : List Event) : Type 0 where
  pub read : has_min a (part a past) ≡ true
  pub numbered : is_some (proposal_number a (part a past)) ≡ true
  pub asked : (p : ℕ) → p < c.replicas → has (is_asking p) (part a past) ≡ true

pub some_asked : (p : ℕ) (newer older : List Event) → has (is_asking p) older ≡ true → has (is_asking p) (newer ++ older) ≡ true
some_asked p [] older there = there
some_asked p (e ∷ newer) older there = has_more (is_asking p) e (newer ++ older) (some_asked p newer older there)

pub put_number : (a by : ℕ) (verb : Verb) (n : Option ℕ) → is_some (number_put a by verb) ≡ true → is_some (earlier_or (number_put a by verb) n) ≡ true
put_number a by verb n some = go (number_put a by verb) n some
  where
    go : (o n : Option ℕ) → is_some o ≡ true → is_some (earlier_or o n) ≡ true
    go (Some x) None some = refl
    go (Some x) (Some y) some = refl
    go None n some = absurd (true≢false (sym some))

-- who puts a number in a leadership has it from then on
pub numbered_with : (a : ℕ) (newer base : List Event) → stays a newer ≡ true → has (puts_number a) newer ≡ true → is_some (proposal_number a (newer ++ base)) ≡ true
numbered_with a [] base same some = absurd (true≢false (sym some))
numbered_with a (e ∷ newer) base same some = go (puts_number a e) refl some (numbered_with a newer base (stays_less a e newer same).1)
  where
    less : (begins_leadership a e ≡ false) × (stays a newer ≡ true)
    less = stays_less a e newer same

    go : (t : Bool) → puts_number a e ≡ t → cond t true (has (puts_number a) newer) ≡ true → (has (puts_number a) newer ≡ true → is_some (proposal_number a (newer ++ base)) ≡ true) → is_some (proposal_number a (e ∷ (newer ++ base))) ≡ true
    go true puts some ih = ap (λ t. is_some (oldest (λ f. number_put a f.by f.verb) (cond t [] (e ∷ leadership a (newer ++ base))))) less.0 ∙ put_number a e.by e.verb (proposal_number a (newer ++ base)) puts
    go false none some ih = numbered_on a e (newer ++ base) less.0 (ih some)
