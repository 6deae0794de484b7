-- room of a port: the room with which each port is made.
use Rattle.std.specs.Prelude.{[], ℕ, ◌≡◌}
use Rattle.std.specs.Arc.{arc_value}
use Rattle.mu_model.specs.declared.config.Config.{Config}
use Rattle.mu_words.specs.Founds.{FoundIs}
use Rattle.shared_steps.specs.Seats.{Board}
use Rattle.shared_fabric.specs.declared.rooms.Room.{Room}

-- a share of the words, and room for the words that a replica finds
pub record IsRoom (b : Board) (c : Config) (r : Room) : Type 0 where
  pub of : arc_value r.words ≡ b
  pub found : (q : ℕ) → FoundIs c q r.found [] []
