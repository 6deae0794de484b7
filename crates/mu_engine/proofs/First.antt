-- An engine before any command and any event.
use Rattle.std.proofs.Common.{◌≡◌, ℕ, suc, zero, ◌<◌, true, [], ◌∷◌, ◌++◌, ap, arith, inr, refl, replicate}
use Rattle.mu_follow.specs.Groups.{AreSpelled}
use Rattle.mu_model.specs.declared.config.Config.{Config}
use Rattle.mu_model.specs.Contents.{IsConfig}
use Rattle.mu_node.specs.declared.node.Node.{Node}
use Rattle.mu_node.specs.declared.zeal.Zeal.{Zeal}
use Rattle.mu_node.specs.Node.{StandsForNode}
use Rattle.mu_engine.specs.declared.hold.Hold.{Hold}
use Rattle.mu_engine.specs.declared.shape.Shape.{Shape}
use Rattle.mu_engine.specs.Seats.{Sits}
use Rattle.mu_engine.specs.Shapes.{HasLimits, first_config}

pub first_is_config : (shape : Shape) → HasLimits shape → IsConfig (first_config shape)
first_is_config shape limits = record {
  versions = inr refl;
  plain = λ one. absurd (omega (arith, one));
  widths = (omega arith, omega arith);
  replicas = limits.replicas;
  ring = limits.ring;
  budget = limits.budget;
  few = omega arith;
  rests = λ j low. absurd (none j low);
  numbers = λ j low. absurd (none j low);
  batches = λ j k low rest. absurd (none j low);
}
  where
    none : (j : ℕ) → j < 0 → ⊥
    none j low = omega (arith, low)

-- no row spells no command
pub none_spelled : (shape : Shape) → AreSpelled (first_config shape) []
none_spelled shape = record { count = refl; each = λ j command at. cc }

-- a node before any event sits at its place
pub sits_first : (c : Config) (r : ℕ) (node : Node) (hold : Hold) → StandsForNode c r [] node → node.stops.items ≡ [] → node.zeal ≡ Zeal.Eager → Sits c r [] (record { node = node; hold = hold })
sits_first c r node hold stands stops zeal = record { lives = stands; stops = stops; zeal = zeal }

-- one copy more at the end
pub copies_push : {A : Type 0} (n : ℕ) (x : A) → replicate n x ++ x ∷ [] ≡ replicate (suc n) x
copies_push zero x = refl
copies_push (suc n) x = ap (λ l. x ∷ l) (copies_push n x)
