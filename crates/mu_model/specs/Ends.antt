-- end, obeys: how the journal of replica r ends, and that it ends exactly there, as its script and
-- its budget say.
use Rattle.std.specs.Prelude.{Bool, List, None, Some, [], false, if◌then◌else◌, length, nat_le, slice_index, take, true, ℕ, ◌&&◌, ◌++◌, ◌+◌, ◌<◌, ◌==◌, ◌||◌, ◌∷◌, ◌≡◌, ◌≢◌}
use Rattle.std.specs.declared.option.Option.{Option}
use Rattle.mu_model.specs.declared.config.Config.{Config}
use Rattle.mu_model.specs.declared.event.Answer.{Answer}
use Rattle.mu_model.specs.declared.event.Event.{Event}
use Rattle.mu_model.specs.declared.event.Verb.{Verb}
use Rattle.mu_model.specs.declared.script.End.{End}
use Rattle.mu_model.specs.declared.script.Script.{Script}
use Rattle.mu_model.specs.declared.script.Stop.{Stop}
use Rattle.mu_model.specs.Contents.{holds_all}
use Rattle.mu_model.specs.Histories.{all_below, earlier_or, newest}
use Rattle.mu_model.specs.Knowledge.{applied, known}
use Rattle.mu_model.specs.Regions.{region_head}
use Rattle.mu_model.specs.Room.{head_read, last_head}
use Rattle.mu_model.specs.Scores.{is_failed, least_below}
use Rattle.mu_model.specs.Stretches.{steps}

-- the length of the shortest prefix of the log that holds every command, if there is one
abbrev pub full_length : Config → ℕ → List Event → ℕ
full_length c r past =
    least_below (length (applied c r past) + 1) (λ k. holds_all c (take k (applied c r past)))

-- the log holds every command
abbrev pub is_full : Config → ℕ → List Event → Bool
is_full c r past = nat_le (full_length c r past) (length (applied c r past))

-- the region and position of a look of r that was `Past` at a position not below the length of
-- known
abbrev pub outrun_by : ℕ → ℕ → ℕ → Verb → Answer → Option (ℕ × ℕ)
outrun_by r known_length by (Verb.Look p i) Answer.Past =
    if (by == r) && nat_le known_length i then Some (p, i) else None
outrun_by r known_length by _ _ = None

-- the first such look
abbrev pub outrun : Config → ℕ → List Event → Option (ℕ × ℕ)
outrun c r [] = None
outrun c r (e ∷ past) =
    earlier_or (outrun_by r (length (known c r past)) e.by e.verb e.answer) (outrun c r past)

-- the script stops r after this number of steps
abbrev pub stops_at : ℕ → ℕ → List Stop → Bool
stops_at r steps [] = false
stops_at r steps (s ∷ ss) = ((s.replica == r) && (s.steps == steps)) || stops_at r steps ss

-- the answer, if there is one, is at least h
abbrev pub is_at_least : ℕ → Option ℕ → Bool
is_at_least h None = false
is_at_least h (Some x) = nat_le h x

-- r has applied all commands, and so have the others, or they are failed
abbrev pub is_finished : Config → ℕ → List Event → Bool
is_finished c r past =
    is_full c r past
    && (nat_le (full_length c r past) (region_head r past)
    && all_below c.replicas
    (λ q. (q == r)
    || (is_at_least (full_length c r past)
    (newest (λ e. head_read r q e.by e.verb e.answer) past)
    || is_failed r q past)))

-- the heads that r knows: its own, and the last answers of the others
abbrev pub head_known : ℕ → List Event → ℕ → ℕ
head_known r past q = if q == r then region_head r past else last_head r q past

-- the script stops r here
abbrev pub IsStopped : Script → ℕ → List Event → Type 0
IsStopped script r past = stops_at r (length past) script.stops ≡ true

-- the budget is spent, and the script does not stop r
abbrev pub IsSpent : Config → Script → ℕ → List Event → Type 0
IsSpent c script r past = (stops_at r (length past) script.stops ≡ false) × (length past ≡ c.budget)

-- neither of the two
abbrev pub IsGoing : Config → Script → ℕ → List Event → Type 0
IsGoing c script r past = (stops_at r (length past) script.stops ≡ false) × (length past ≢ c.budget)

-- the journal ends in this way: by the first that holds of stopped, budget, outrun and finished
abbrev pub EndsBy : Config → Script → ℕ → List Event → End → Type 0
EndsBy c script r past End.Stopped = IsStopped script r past
EndsBy c script r past End.Budget = IsSpent c script r past
EndsBy c script r past (End.Outrun p i) = IsGoing c script r past × (outrun c r past ≡ Some (p, i))
EndsBy c script r past (End.Finished heads) =
    IsGoing c script r past × (outrun c r past ≡ None) × (is_finished c r past ≡ true)
    × ((q : ℕ) → q < 7 → slice_index heads q ≡ head_known r past q)

-- the journal has an end, and no shorter beginning of it has one
pub record Obeys (c : Config) (script : Script) (r : ℕ) (past : List Event)
    (end : End) : Type 0 where
  pub ends : EndsBy c script r past end
  pub first :
      (newer older : List Event) (other : End) → past ≡ newer ++ older → newer ≢ []
      → EndsBy c script r older other → ⊥
