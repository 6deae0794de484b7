-- cycle's order: at a host's place each event makes what is due there, verbs of the host come nowhere
-- else, and asks are read only at their places; a grant follows in the same round.
use Rattle.std.specs.Prelude.{Bool, List, None, Some, [], false, length, true, ℕ, ◌%◌, ◌*◌, ◌+◌, ◌/◌, ◌<◌, ◌∷◌, ◌≡◌, ◌≤◌, ◌⊎◌}
use Rattle.std.specs.declared.option.Option.{Option}
use Rattle.mu_model.specs.declared.config.Config.{Config}
use Rattle.mu_model.specs.declared.event.Event.{Event}
use Rattle.mu_model.specs.declared.event.Verb.{Verb}
use Rattle.mu_model.specs.Diligence.{GrantsInTime}
use Rattle.mu_model.specs.Histories.{has}
use Rattle.mu_model.specs.Serving.{has_unserved_ask}
use Rattle.mu_model.specs.Steps.{is_ask_read, is_granting}
use Rattle.mu_model.specs.Stretches.{IsStretch, is_odd}
use Rattle.mu_grant.specs.Stands.{Gives}
use Rattle.mu_grant.specs.Pace.{ask_place, host_place, places}

-- after these events comes a background turn, at this place of the cycle
pub record IsAtPlace (c : Config) (place : ℕ) (past : List Event) : Type 0 where
  pub background : is_odd (length past) ≡ false
  pub place_is : length past / 2 % places c ≡ place

-- the verb is one of the host
abbrev pub is_host_verb : Verb → Bool
is_host_verb Verb.Close = true
is_host_verb Verb.LookTarget = true
is_host_verb Verb.Drain = true
is_host_verb (Verb.Grant w) = true
is_host_verb _ = false

-- the verb is what is due at the host's place d, or none of the host's if nothing is due there
pub record MakesDue (c : Config) (r : ℕ) (past : List Event) (d : ℕ) (verb : Verb) : Type 0 where
  pub due : Option Verb
  pub gives : Gives c r past d due
  pub made : (wanted : Verb) → due ≡ Some wanted → verb ≡ wanted
  pub idle : due ≡ None → is_host_verb verb ≡ false

-- the event, whatever its answer, is one that r may make at the turn after these:
-- at a place of the host what is due there, verbs of the host nowhere else, and asks read only at
-- their places
pub record FollowsCycle (c : Config) (r : ℕ) (past : List Event) (e : Event) : Type 0 where
  pub own : e.by ≡ r
  pub host : (d : ℕ) → d < 4 → IsAtPlace c (host_place c d) past → MakesDue c r past d e.verb
  pub nowhere_else :
      is_host_verb e.verb ≡ true → (d : ℕ) × (d < 4) × IsAtPlace c (host_place c d) past
  pub asks : (w : ℕ) → e.verb ≡ Verb.ReadAsk w → (w < c.replicas) × IsAtPlace c (ask_place c w) past

-- the places were called in the cycle's order throughout the journal
abbrev pub InCycleOrder : Config → ℕ → List Event → Type 0
InCycleOrder c r [] = Unit {0}
InCycleOrder c r (e ∷ past) = InCycleOrder c r past × FollowsCycle c r past e

-- a read of asks that leaves w unserved is followed by a grant at the next place of grants at the
-- latest: that is 2 (n - w) + 6 events on, if there are n replicas
abbrev pub GrantsInTheRound : Type 0
GrantsInTheRound =
    (c : Config) (r : ℕ) (past : List Event) → r < c.replicas → length past ≤ c.budget
    → InCycleOrder c r past
    → (w : ℕ) (e : Event) (window older : List Event) → IsStretch past window (e ∷ older)
    → is_ask_read w e ≡ true → has_unserved_ask r (e ∷ older) w ≡ true
    → 2 * c.replicas + 6 ≤ length window + 2 * w → has is_granting window ≡ true

-- a host whose places are called in the cycle's order keeps the grant pace, whatever each `Close`
-- found
abbrev pub GrantsWithinTheCycle : Type 0
GrantsWithinTheCycle =
    (c : Config) (r : ℕ) (past : List Event) → r < c.replicas → length past ≤ c.budget
    → InCycleOrder c r past → GrantsInTime c r past

-- at a place of the host an event follows the cycle that makes what is due there; if nothing is
-- due, one that is no verb of the host and reads no asks
abbrev pub DueFollows : Type 0
DueFollows =
    (c : Config) (r d : ℕ) (past : List Event) (e : Event) (due : Option Verb) → e.by ≡ r → d < 4
    → IsAtPlace c (host_place c d) past → Gives c r past d due
    → ((wanted : Verb) → due ≡ Some wanted → e.verb ≡ wanted)
    → (due ≡ None → (is_host_verb e.verb ≡ false) × ((w : ℕ) → e.verb ≡ Verb.ReadAsk w → ⊥))
    → FollowsCycle c r past e

-- after these events comes a turn at no place of the host: a replication turn, or another place
abbrev pub IsElsewhere : Config → List Event → Type 0
IsElsewhere c past =
    (is_odd (length past) ≡ true)
    ⊎ ((length past / 2 % places c < host_place c 0)
    ⊎ (host_place c 4 ≤ length past / 2 % places c))

-- elsewhere an event follows the cycle that is no verb of the host, and reads asks at their place
-- if at all
abbrev pub OtherFollows : Type 0
OtherFollows =
    (c : Config) (r : ℕ) (past : List Event) (e : Event) → e.by ≡ r → IsElsewhere c past
    → is_host_verb e.verb ≡ false
    → ((w : ℕ) → e.verb ≡ Verb.ReadAsk w → (w < c.replicas) × IsAtPlace c (ask_place c w) past)
    → FollowsCycle c r past e
