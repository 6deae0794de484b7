-- calm, calm steps: a stretch in which nothing interrupts a leadership; the most replication events
-- that it takes to know a number of entries.
use Rattle.std.specs.Prelude.{List, [], false, is_some, length, true, ℕ, ◌*◌, ◌++◌, ◌+◌, ◌<◌, ◌∷◌, ◌≡◌, ◌≤◌}
use Rattle.mu_model.specs.declared.config.Config.{Config}
use Rattle.mu_model.specs.declared.event.Event.{Event}
use Rattle.mu_model.specs.declared.event.Verb.{Verb}
use Rattle.mu_model.specs.Diligence.{is_milestone}
use Rattle.mu_model.specs.Ends.{outrun}
use Rattle.mu_model.specs.Knowledge.{known}
use Rattle.mu_model.specs.Leaderships.{begins_leadership}
use Rattle.mu_model.specs.Steps.{is_lagging, is_named, is_over_after, knows_all}
use Rattle.mu_model.specs.Stretches.{replications}
use Rattle.mu_pace.specs.Counters.{IsInTime}
use Rattle.mu_agree.specs.Moments.{AtEachMoment}
use Rattle.mu_pace.specs.Watches.{limit, progressing}

-- the event interrupts no leadership: r is named, leads on, and meets neither a head without room
-- nor a place used again, and some command is missing
pub record IsCalmStep (c : Config) (r : ℕ) (past : List Event) (e : Event) : Type 0 where
  pub same : begins_leadership r e ≡ false
  pub named : is_named c r past ≡ true
  pub leads_on : is_over_after r past e ≡ false
  pub has_room : is_lagging c r past e ≡ false
  pub lacks : knows_all c r past ≡ false
  pub going : is_some (outrun c r (e ∷ past)) ≡ false
  pub inside : (p i b v : ℕ) → e.verb ≡ Verb.PutSlot p i b v → p < c.replicas

-- no event of the stretch interrupts a leadership
abbrev pub IsCalm : Config → ℕ → List Event → List Event → Type 0
IsCalm c r [] older = Unit {0}
IsCalm c r (e ∷ window) older = IsCalm c r window older × IsCalmStep c r (window ++ older) e

-- the most replication events that such a leadership takes until it knows a number of entries
abbrev pub calm_steps : Config → ℕ → ℕ
calm_steps c most =
    limit c c.replicas * (most + 1) + 6 * c.replicas + 8 * (c.replicas * most)

-- from its first minimum on such a leadership has fewer replication events than that
abbrev pub CalmLeadersCommit : Type 0
CalmLeadersCommit =
    (c : Config) (r most : ℕ) (first : Event) (window older : List Event)
    → AtEachMoment (IsInTime (progressing c r)) (window ++ first ∷ older)
    → is_milestone c r older first ≡ true → IsCalm c r window (first ∷ older)
    → length (known c r (window ++ first ∷ older)) ≤ most
    → replications window (first ∷ older) < calm_steps c most
