-- told of a step: whether a step ends a leadership of its replica, and what it teaches.
use Rattle.std.specs.Prelude.{ℕ, ◌≡◌, ◌+◌, ◌&&◌, Bool, not, List, ◌∷◌, length}
use Rattle.std.specs.declared.option.Option.{Option}
use Rattle.mu_model.specs.declared.config.Config.{Config}
use Rattle.mu_model.specs.declared.event.Event.{Event}
use Rattle.mu_model.specs.Knowledge.{known, learnt_by}
use Rattle.mu_model.specs.Leaderships.{is_over}
use Rattle.mu_course.specs.declared.told.Told.{Told}

-- the event ends the leadership of r that is under way
abbrev pub ends : ℕ → List Event → Event → Bool
ends r mine e = not (is_over r mine) && is_over r (e ∷ mine)

-- the value that the event teaches r
abbrev pub taught : Config → ℕ → List Event → Event → Option ℕ
taught c r mine e =
    learnt_by c r mine (length (known c r mine)) e.by e.verb e.answer (e ∷ mine)

-- what is told of the event of a replica after these events of its own
pub record Tells (c : Config) (mine : List Event) (e : Event) (told : Told) : Type 0 where
  pub ends : told.ends ≡ ends e.by mine e
  pub known : told.known ≡ length (known c e.by mine)
  pub taught : told.taught ≡ taught c e.by mine e
  pub steps : told.steps ≡ length mine + 1
