-- held by a walk: what holds of each list that a walk stands for, and of each list of a replica's
-- events that its course stands for.
use Rattle.std.specs.Prelude.{List, ℕ, ◌<◌, ◌≡◌}
use Rattle.mu_course.specs.Courses.{StandsForCourse}
use Rattle.mu_course.specs.Walks.{StandsForWalk}
use Rattle.mu_course.specs.declared.course.Course.{Course}
use Rattle.mu_course.specs.declared.walk.Walk.{Walk}
use Rattle.mu_model.specs.declared.config.Config.{Config}
use Rattle.mu_model.specs.declared.event.Event.{Event}

-- this holds of the list, for a configuration with this many replicas
abbrev pub OfWalk : Walk → ℕ → (Config → List Event → Type 0) → Type 0
OfWalk walk n Holds =
    (past : List Event) → (c : Config) → n ≡ c.replicas → StandsForWalk c past walk → Holds c past

-- the same where there is a replica, and so a region, of this id
abbrev pub AtId : Walk → ℕ → (Config → List Event → Type 0) → Type 0
AtId walk id Holds =
    (past : List Event) → (c : Config) → id < c.replicas → StandsForWalk c past walk → Holds c past

-- this holds of the events of r
abbrev pub OfCourse : Course → ℕ → (Config → List Event → Type 0) → Type 0
OfCourse course r Holds =
    (mine : List Event) → (c : Config) → StandsForCourse c r mine course → Holds c mine
