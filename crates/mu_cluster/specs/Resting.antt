-- rests: how a thread lets the others on before a turn.
use Rattle.std.specs.Prelude.{List, MatchBool, if◌then◌else◌, nat_lt, ℕ, ◌≡◌}
use Rattle.mu_model.specs.declared.event.Event.{Event}
use Rattle.mu_rest.specs.declared.naps.Rest.{Rest}
use Rattle.mu_rest.specs.declared.rests.Rests.{Rests}
use Rattle.mu_rest.specs.Rests.{HasSettings, IsNone, StandsForRests, Tells, may_rest}
use Rattle.mu_cluster.specs.declared.resting.Crowd.{Crowd}
use Rattle.mu_cluster.specs.Signs.{signs_of}

-- the rests stand for these own events of a replica of such a crowd; none of them has a fixed length,
-- and there is no haste, since nobody tells of a thread that it has ended
pub record StandForEvents (crowd : Crowd) (mine : List Event) (rests : Rests) : Type 0 where
  pub signs : StandsForRests (signs_of mine) rests
  pub settings : HasSettings 0 (nat_lt crowd.processors crowd.replicas) rests
  pub haste : rests.haste ≡ 0

-- this rest is told at some moment; it is none if none may be due
abbrev pub IsDue : Rests → Rest → Type 0
IsDue rests rest =
    MatchBool (may_rest rests) ((moment : ℕ) × (after : Rests) × Tells moment rests after rest)
    (IsNone rest)

-- so many nanoseconds asleep and so many awake are this rest
pub record IsMadeOf (rest : Rest) (asleep awake : ℕ) : Type 0 where
  pub sleeps : asleep ≡ (if rest.awake then 0 else rest.nanoseconds)
  pub waits : awake ≡ (if rest.awake then rest.nanoseconds else 0)

-- they are the rest that is due by what these rests have come to
pub record RestsBy (rests : Rests) (asleep awake : ℕ) : Type 0 where
  pub rest : Rest
  pub due : IsDue rests rest
  pub made : IsMadeOf rest asleep awake

-- and after these own events
pub record RestsAfter (crowd : Crowd) (mine : List Event) (asleep awake : ℕ) : Type 0 where
  pub rests : Rests
  pub stand : StandForEvents crowd mine rests
  pub rest : RestsBy rests asleep awake
