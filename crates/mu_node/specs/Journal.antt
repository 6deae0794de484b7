-- was made, is listed: how each event of a node's journal was made: it is the node's own, it was
-- due in its turn, and it came before the node was outrun.
use Rattle.std.specs.Prelude.{List, None, length, true, ℕ, ◌≡◌}
use Rattle.mu_model.specs.declared.config.Config.{Config}
use Rattle.mu_model.specs.declared.event.Event.{Event}
use Rattle.mu_model.specs.Ends.{outrun}
use Rattle.mu_model.specs.Stretches.{is_odd}
use Rattle.mu_node.specs.declared.zeal.Zeal.{Zeal}
use Rattle.mu_node.specs.Cycle.{IsMade}
use Rattle.mu_node.specs.Due.{turn_due, verb_or_beat}

-- in a turn of the leader the step is what is due by the journal only, else a beat
abbrev pub IsListed : Zeal → Config → ℕ → List Event → Event → Type 0
IsListed zeal c r mine e =
    is_odd (length mine) ≡ true → e.verb ≡ verb_or_beat (turn_due zeal c r mine)

-- r, plain or eager, made the event as it was due by the journal, and no look had found a place
-- used again that r still had to read
pub record WasMade (c : Config) (r : ℕ) (mine : List Event) (e : Event) : Type 0 where
  pub own : e.by ≡ r
  pub going : outrun c r mine ≡ None
  pub zeal : Zeal
  pub made : IsMade zeal c r mine e.verb

-- the event was made as it was due for such a node
pub record FollowsTurn (zeal : Zeal) (c : Config) (r : ℕ) (mine : List Event)
    (e : Event) : Type 0 where
  pub made : WasMade c r mine e
  pub listed : IsListed zeal c r mine e
