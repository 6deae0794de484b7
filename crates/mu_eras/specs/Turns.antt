-- count of the free, has turns, begun, plays turns: what a round of an engine without an end makes of
-- the era under way.
use Rattle.std.specs.Prelude.{List, [], if◌then◌else◌, length, ℕ, ◌*◌, ◌++◌, ◌+◌, ◌≡◌, ◌≤◌, ◌∷◌, ◌⊎◌}
use Rattle.mu_model.specs.declared.event.Event.{Event}
use Rattle.mu_engine.specs.declared.hold.Hold.{Hold}
use Rattle.mu_engine.specs.declared.shape.Shape.{Shape}
use Rattle.mu_engine.specs.Live.{Live, first_live, is_free}
use Rattle.mu_engine.specs.Rounds.{IsRound}
use Rattle.mu_eras.specs.declared.succession.Succession.{Succession}

-- how many of these are free
abbrev pub count_free : List Hold → ℕ
count_free [] = 0
count_free (hold ∷ holds) = if is_free hold then count_free holds + 1 else count_free holds

-- the events of one round came, in which each replica that nothing holds takes its turn; or none came,
-- and no majority is free
pub record HasTurns (old new : Live) : Type 0 where
  pub steps : List Event
  pub events : new.events ≡ old.events ++ steps
  pub turns :
      IsRound old.job.config old.holds old.events steps
      ⊎ ((steps ≡ []) × (2 * count_free old.holds ≤ length old.holds))

-- an era that begins, its replicas held so
abbrev pub begun : Shape → List Hold → Live
begun shape holds = record (first_live shape) { holds = holds }

-- so it was in a round, after which the next era may have begun
pub record PlaysTurns (e d : Succession) : Type 0 where
  pub played : Live
  pub turns : HasTurns e.present.engine played
  pub now :
      (d.present.engine ≡ played) ⊎ (d.present.engine ≡ begun d.shape played.holds)
