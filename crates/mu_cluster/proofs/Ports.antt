-- What a turn over a port of a memory says of the memory before and after it.
use Rattle.std.proofs.Common.{◌≡◌, ◌∙◌, ℕ, List, Some, subst, sym}
use Rattle.mu_model.specs.declared.config.Config.{Config}
use Rattle.mu_model.specs.declared.event.Event.{Event}
use Rattle.mu_model.specs.declared.script.Script.{Script}
use Rattle.mu_model.specs.Histories.{history, part}
use Rattle.mu_model.specs.Parts.{IsPossible}
use Rattle.mu_port.specs.Keeping.{Held}
use Rattle.mu_node.specs.declared.node.Node.{Node}
use Rattle.mu_node.specs.declared.turn.Turn.{Turn}
use Rattle.mu_node.specs.Following.{FollowsTurns}
use Rattle.mu_node.specs.Turns.{IsTurn}

-- a turn of r from one list of events to another
pub record Turned (k0 k1 : Config) (r0 r1 : ℕ) (e0 e1 : List Event) (script : Script) (turn : Turn) (node : Node) : Type 0 where
  pub follows : FollowsTurns k1 r1 (part r1 (history e1)) node
  pub possible : IsPossible k1 r1 (part r1 (history e1))
  pub did : IsTurn k0 script r0 (part r0 (history e0)) (part r1 (history e1)) (Some e0) (Some e1) turn

-- what holds of the events of r holds of those of the port that the memory is passed to
pub at_port : (F : Config → ℕ → List Event → Type 0) (c : Config) (old : List Event) (p : Held) (r id : ℕ) → p.replica ≡ id → id ≡ r → p.config ≡ c → p.events ≡ old → F c r (part r (history old)) → F p.config p.replica (part p.replica (history p.events))
at_port F c old p r id at_id is_id config events held =
    subst (λ k. F k p.replica (part p.replica (history p.events))) (sym config) (subst (λ n. F c n (part n (history p.events))) (sym (at_id ∙ is_id)) (subst (λ x. F c r (part r (history x))) (sym events) held))

-- the same of the memory that the port holds
pub turned : (c : Config) (old new : List Event) (p q : Held) (r id : ℕ) (script : Script) (turn : Turn) (node : Node)
    → p.replica ≡ id → id ≡ r → p.config ≡ c → p.events ≡ old → q.replica ≡ p.replica → q.config ≡ p.config → new ≡ q.events
    → Turned p.config q.config p.replica q.replica p.events q.events script turn node
    → Turned c c r r old new script turn node
turned c old new p q r id script turn node at_id is_id config events at_same same_config after told =
    let here = at_id ∙ is_id in
    let a = subst (λ k. Turned k q.config p.replica q.replica p.events q.events script turn node) config told in
    let b = subst (λ k. Turned c k p.replica q.replica p.events q.events script turn node) (same_config ∙ config) a in
    let d = subst (λ n. Turned c c n q.replica p.events q.events script turn node) here b in
    let e = subst (λ n. Turned c c r n p.events q.events script turn node) (at_same ∙ here) d in
    let h = subst (λ x. Turned c c r r x q.events script turn node) events e in
    subst (λ x. Turned c c r r old x script turn node) (sym after) h
