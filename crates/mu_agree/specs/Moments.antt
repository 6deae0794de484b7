-- moments and steps: a fact at each moment or each step of a journal; what was read last, what was
-- read or raised so far, and whom a replica names.
use Rattle.std.specs.Prelude.{Bool, List, [], true, ℕ, ◌&&◌, ◌∷◌, ◌≡◌, ◌≤◌}
use Rattle.mu_model.specs.declared.config.Config.{Config}
use Rattle.mu_model.specs.declared.event.Answer.{Answer}
use Rattle.mu_model.specs.declared.event.Event.{Event}
use Rattle.mu_model.specs.declared.event.Verb.{Verb}
use Rattle.mu_model.specs.Entering.{min_read}
use Rattle.mu_model.specs.Histories.{greatest, newest, or_zero}
use Rattle.mu_model.specs.Parts.{IsPossible}
use Rattle.mu_model.specs.Placing.{fuo_read_or_raised}
use Rattle.mu_model.specs.Steps.{is_named}
use Rattle.mu_model.specs.Stretches.{is_replication}

-- a fact holds now and held after each event before
abbrev pub AtEachMoment : (List Event → Type 0) → List Event → Type 0
AtEachMoment P [] = P []
AtEachMoment P (e ∷ past) = AtEachMoment P past × P (e ∷ past)

-- a fact held of each event and what came before it
abbrev pub AtEachStep : (List Event → Event → Type 0) → List Event → Type 0
AtEachStep P [] = Unit {0}
AtEachStep P (e ∷ past) = AtEachStep P past × P past e

-- the minimum of p that r read last, else 0
abbrev pub last_min : ℕ → ℕ → List Event → ℕ
last_min r p past = or_zero (newest (λ e. min_read r p e.by e.verb e.answer) past)

-- r is named before the replication event
abbrev pub is_named_turn : Config → ℕ → List Event → Event → Bool
is_named_turn c r past e = is_replication past e && is_named c r past

-- a FUO that is read is at least each one that was read or raised before
abbrev pub FuosRise : Type 0
FuosRise =
    (c : Config) (r p u : ℕ) (mine : List Event) (e : Event) → IsPossible c r (e ∷ mine)
    → e.verb ≡ Verb.Fuo p → e.answer ≡ Answer.Number u
    → greatest (λ f. fuo_read_or_raised r p f.by f.verb f.answer) mine ≤ u
