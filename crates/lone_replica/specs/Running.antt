-- one access more: replicas over any memory, after one of them made the access that was under way,
-- also if rows came for it since it decided on that.
use Rattle.std.specs.Prelude.{List, Some, false, ℕ, ◌∷◌, ◌≡◌, ◌≢◌}
use Rattle.mu_model.specs.declared.config.Config.{Config}
use Rattle.mu_model.specs.declared.config.Row.{Row}
use Rattle.mu_model.specs.Contents.{IsConfig}
use Rattle.mu_model.specs.Legal.{IsLegalHistory}
use Rattle.mu_model.specs.Growing.{with_more}
use Rattle.mu_model.specs.Histories.{part}
use Rattle.lone_words.specs.declared.access.Shape.{Shape}
use Rattle.lone_words.specs.Coming.{AreDecided, AreKnown, Decided, accesses_of}
use Rattle.lone_words.specs.Memory.{AreAnswered, Made, events_after, held, own_after, own_with, stores}
use Rattle.lone_words.specs.Spots.{IsShapeOf}
use Rattle.lone_replica.specs.declared.due.Due.{Due}
use Rattle.lone_replica.specs.declared.replica.Replica.{Replica}
use Rattle.lone_replica.specs.Standing.{MayTake, StandsForReplica}

-- the access under way of r, and the word that it was told
abbrev pub made_by : ℕ → Due → ℕ → Made
made_by r due word =
    record { by = r; verb = due.decision.plan.verb; step = due.access.step; word = word }

-- r may take the word; what it then stands for is what it has come to by the accesses with this one,
-- each of which was answered; what the others have come to stays; and all events are one legal list,
-- with these parts
pub record GoesOn (c : Config) (s : Shape) (past : List Made) (r : ℕ) (replica : Replica)
    (due : Due) (word : ℕ) : Type 0 where
  pub may : MayTake c r (own_after c r past) replica.due word
  pub answered : AreAnswered c s (made_by r due word ∷ past)
  pub own :
      own_after c r (made_by r due word ∷ past)
      ≡ own_with c r (own_after c r past) due.decision.plan.verb word
  pub others : (q : ℕ) → r ≢ q → own_after c q (made_by r due word ∷ past) ≡ own_after c q past
  pub legal : IsLegalHistory c (events_after c (made_by r due word ∷ past))
  pub parts :
      (q : ℕ) → part q (events_after c (made_by r due word ∷ past))
      ≡ (own_after c q (made_by r due word ∷ past)).0

-- so it is if the accesses before were answered, the value of r stands for what it came to by them,
-- and the word is the one that was held at the access under way, or that stores
abbrev pub AccessesGoOn : Type 0
AccessesGoOn =
    (c : Config) (s : Shape) (past : List Made) (r : ℕ) (replica : Replica) (due : Due) (word : ℕ)
    → IsConfig c → IsShapeOf c s → AreAnswered c s past
    → StandsForReplica c r (own_after c r past) replica → replica.accesses.shape ≡ s
    → replica.due ≡ Some due
    → (stores due.decision.plan.verb ≡ false → word ≡ held c s past due.access.spot)
    → GoesOn c s past r replica due word

-- the access under way of r, which r decided on by the rows of k
abbrev pub decided_by : Config → ℕ → Due → ℕ → Decided
decided_by k r due word = record { made = made_by r due word; knew = k }

-- the access was decided by these rows, as the others by theirs; with the rows that r knows now it goes
-- on as above
pub record GoesOnKnowing (k c : Config) (s : Shape) (past : List Decided) (r : ℕ)
    (replica : Replica) (due : Due) (word : ℕ) : Type 0 where
  pub decided : AreDecided s (decided_by k r due word ∷ past)
  pub goes : GoesOn c s (accesses_of past) r replica due word

-- so it is if each access before was decided by rows that r knows when it takes the word; the value of
-- r decided by the rows of k, and stands for the same once more rows came; and the word is the one that
-- was held at its access
abbrev pub DecidedGoOn : Type 0
DecidedGoOn =
    (k : Config) (more : List Row) (s : Shape) (past : List Decided) (r : ℕ)
    (before replica : Replica) (due : Due) (word : ℕ) → IsShapeOf (with_more k more) s
    → AreDecided s past → AreKnown (with_more k more) past
    → StandsForReplica k r (own_after k r (accesses_of past)) before
    → before.accesses.shape ≡ s → before.due ≡ Some due
    → StandsForReplica (with_more k more) r
    (own_after (with_more k more) r (accesses_of past)) replica
    → replica.accesses.shape ≡ s → replica.due ≡ Some due
    → (stores due.decision.plan.verb ≡ false
    → word ≡ held (with_more k more) s (accesses_of past) due.access.spot)
    → GoesOnKnowing k (with_more k more) s past r replica due word
