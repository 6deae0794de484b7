-- How many entries a replica has handed on.
use Rattle.std.proofs.Common.{◌≡◌, ◌∙◌, ℕ, ◌*◌, ◌+◌, ◌==◌, ◌&&◌, Bool, true, false, List, None, Some, ap, length, refl, sym}
use Rattle.std.specs.declared.option.Option.{Option}
use Rattle.std.specs.Prelude.{if◌then◌else◌, not}
use Rattle.mu_model.specs.declared.config.Config.{Config}
use Rattle.mu_model.specs.declared.event.Event.{Event}
use Rattle.mu_model.specs.Knowledge.{applied}
use Rattle.mu_model.specs.Stretches.{is_odd}
use Rattle.lone_words.specs.declared.access.Shape.{Shape}
use Rattle.lone_words.specs.Memory.{Own}
use Rattle.mu_node.specs.declared.deciding.Decision.{Decision}
use Rattle.mu_node.specs.declared.node.Node.{Node}
use Rattle.mu_node.specs.Cycle.{handed, handed_before, place_now}
use Rattle.mu_node.specs.Deciding.{HasDecided}
use Rattle.lone_replica.specs.declared.due.Due.{Due}
use Rattle.lone_replica.specs.Standing.{HoldsNode}
use Rattle.lone_replica.specs.Telling.{handed_by}

-- before a step of the leader none is handed on
handed_odd : (c : Config) (r : ℕ) (mine : List Event) → is_odd (length mine) ≡ true → handed_before c r mine ≡ handed c r mine
handed_odd c r mine odd = ap (λ (t : Bool). if not t && (place_now c mine == 2 * c.replicas + 20) then length (applied c r mine) else handed_before c r mine) (sym odd)

handed_due : (c : Config) (r : ℕ) (mine : List Event) (node : Node) (d : Decision) → node.follow.config ≡ c → node.id ≡ r → HasDecided mine node d → node.follow.progress.handed ≡ handed c r mine
handed_due c r mine node d config id it = go d.again refl ∙ (λ i. handed (config i) (id i) mine)
  where
    go : (t : Bool) → d.again ≡ t → node.follow.progress.handed ≡ handed node.follow.config node.id mine
    go true on = let asks = it.asks on in asks.stands.handed ∙ handed_odd node.follow.config node.id mine asks.odd
    go false off = (it.plans off).planned.handed

pub handed_held : (c : Config) (r : ℕ) (own : Own) (s : Shape) (node : Node) (o : Option Due) → HoldsNode c r own s node o → node.follow.progress.handed ≡ handed_by c r own.0 o
handed_held c r own s node None held = held.handed
handed_held c r own s node (Some due) held = handed_due c r own.0 node due.decision held.config held.id held.decided
