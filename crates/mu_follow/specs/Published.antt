-- holds published heads: the heads that r keeps stand for its events.
use Rattle.std.specs.Prelude.{List, Some, ℕ, ◌<◌, ◌≡◌}
use Rattle.std.specs.declared.option.Option.{Option}
use Rattle.std.specs.List.{slice_get}
use Rattle.mu_model.specs.declared.event.Event.{Event}
use Rattle.mu_model.specs.Histories.{newest}
use Rattle.mu_model.specs.Regions.{region_head}
use Rattle.mu_model.specs.Room.{head_read}
use Rattle.mu_follow.specs.declared.published.Published.{Published}

-- the head of q that r read last, if it read one
abbrev pub head_heard : ℕ → ℕ → List Event → Option ℕ
head_heard r q mine = newest (λ e. head_read r q e.by e.verb e.answer) mine

-- the heads that r read last, of seven replicas
abbrev pub HearsHeads : ℕ → List Event → List (Option ℕ) → Type 0
HearsHeads r mine heads = (q : ℕ) → q < 7 → slice_get heads q ≡ Some (head_heard r q mine)

-- the state stands for the events of r
pub record HoldsPublished (r : ℕ) (mine : List Event) (state : Published) : Type 0 where
  pub own : state.own ≡ region_head r mine
  pub heard : HearsHeads r mine state.read
