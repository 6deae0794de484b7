-- course, finishes: what the events of one replica come to; the event by which a replica has
-- finished.
use Rattle.std.specs.Prelude.{ℕ, ◌≡◌, ◌&&◌, not, Bool, List, ◌∷◌}
use Rattle.mu_model.specs.declared.config.Config.{Config}
use Rattle.mu_model.specs.declared.event.Event.{Event}
use Rattle.mu_model.specs.Ends.{is_finished, outrun}
use Rattle.mu_model.specs.Knowledge.{applied}
use Rattle.mu_model.specs.Parts.{IsPossible}
use Rattle.mu_model.specs.Scores.{leader}
use Rattle.mu_detect.specs.Stands.{StandsFor}
use Rattle.mu_follow.specs.Commits.{HoldsCommits}
use Rattle.mu_follow.specs.Completion.{HoldsCompletion}
use Rattle.mu_follow.specs.Published.{HoldsPublished}
use Rattle.mu_replicas.specs.Stands.{StandsForReplica}
use Rattle.mu_course.specs.Resigning.{has_resigned, resigns}
use Rattle.mu_course.specs.Telling.{Tells}
use Rattle.mu_course.specs.declared.course.Course.{Course}
use Rattle.mu_course.specs.declared.course.Turn.{Turn}

-- each part of it stands for the events of r
pub record StandsForCourse (c : Config) (r : ℕ) (mine : List Event) (course : Course) : Type 0 where
  pub replica : StandsForReplica c r mine course.replica
  pub scores : StandsFor c.replicas r mine course.scores
  pub resigned : course.resigned ≡ has_resigned c r mine
  pub heads : HoldsPublished r mine course.heads
  pub completion : HoldsCompletion c (applied c r mine) course.completion
  pub commits : HoldsCommits c r mine course.commits
  pub outrun : course.outrun ≡ outrun c r mine

-- what a course tells: of the events that it stands for
abbrev pub TellsOf : {A : Type 0} → Course → (Config → ℕ → List Event → A) → A → Type 0
TellsOf course of told =
    (c : Config) → (r : ℕ) → (mine : List Event) → StandsForCourse c r mine course
    → told ≡ of c r mine

-- what holds of the events that a course stands for, if this event of the replica may be the next
abbrev pub IfNext : Config → Event → Course → (List Event → Type 0) → Type 0
IfNext c e course Holds =
    (mine : List Event) → IsPossible c e.by (e ∷ mine) → StandsForCourse c e.by mine course
    → Holds mine

-- the event finishes r, which had not finished before
abbrev pub finishes : Config → ℕ → List Event → Event → Bool
finishes c r mine e = not (is_finished c r mine) && is_finished c r (e ∷ mine)

-- what is told of the event of a replica after these events of its own
pub record TellsTurn (c : Config) (mine : List Event) (e : Event) (turn : Turn) : Type 0 where
  pub told : Tells c mine e turn.told
  pub named : turn.named ≡ leader c e.by mine
  pub resigns : turn.resigns ≡ resigns c e.by mine e
  pub finishes : turn.finishes ≡ finishes c e.by mine e
