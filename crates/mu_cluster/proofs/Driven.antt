-- All branches after their turns: the ports of all replicas, and what is left of each node.
use Rattle.std.proofs.Common.{◌≡◌, ◌∙◌, ℕ, suc, zero, ◌<◌, List, Some, ap, arith, inl, inr, length, map, refl, reverse, subst, sym}
use Rattle.std.specs.Prelude.{slice_index_or}
use Rattle.std.specs.List.{slice_get}
use Rattle.std.proofs.lemmas.Bool.{cases_eq}
use Rattle.std.proofs.lemmas.Option.{get_or_from_slice_get, slice_get_within}
use Rattle.atomic_table.specs.Seated.{TableId}
use Rattle.mu_model.specs.declared.config.Config.{Config}
use Rattle.mu_model.specs.declared.event.Event.{Event}
use Rattle.mu_model.specs.declared.script.Script.{Script}
use Rattle.mu_model.proofs.Basics.{none_some, same_some}
use Rattle.mu_model.proofs.Lists.{get_push_here, get_push_other}
use Rattle.mu_node.specs.declared.node.Node.{Node}
use Rattle.shared_fabric.specs.Gathering.{ArePorts, PortValue, fresh_port, fresh_ports}
use Rattle.shared_fabric.proofs.Gathers.{length_fresh, length_of_map, some_at}
use Rattle.mu_cluster.specs.declared.branch.Branch.{Branch}
use Rattle.mu_cluster.specs.Branches.{AreLeft, NodeGoesOn, HasEnd, IsDriven, IsFreshPort}
use Rattle.mu_cluster.proofs.Filling.{get_map}

abbrev pub port_of : Branch → PortValue
port_of b = b.port

abbrev pub node_of : Branch → Node
node_of b = b.node

-- the port of r among fresh ports
fresh_at : (table : TableId) (c : Config) (n r : ℕ) (p : PortValue) → slice_get (fresh_ports table c n) r ≡ Some p → fresh_port table c r ≡ p
fresh_at table c zero r p h = absurd (none_some p h)
fresh_at table c (suc n) r p h = elim (cases_eq r (length (fresh_ports table c n))) [
  | inl here ↦ ap (fresh_port table c) (here ∙ length_fresh table c n) ∙ same_some (fresh_port table c n) p (sym (get_push_here (fresh_ports table c n) r (fresh_port table c n) here) ∙ h)
  | inr other ↦ fresh_at table c n r p (sym (get_push_other (fresh_ports table c n) r (fresh_port table c n) other) ∙ h)
]

pub fresh_each : (table : TableId) (c : Config) (ports : List PortValue) → ports ≡ fresh_ports table c c.replicas → (r : ℕ) (p : PortValue) → slice_get ports r ≡ Some p → IsFreshPort c r p
fresh_each table c ports is r p at = subst (λ q. IsFreshPort c r q) (fresh_at table c c.replicas r p (ap (λ l. slice_get l r) (sym is) ∙ at)) (record { config = refl; id = refl; empty = refl })

-- the ports as they were given
pub fresh_of : (table : TableId) (c k : Config) (first given : List PortValue) → first ≡ given → given ≡ fresh_ports table k k.replicas → k ≡ c → first ≡ fresh_ports table c c.replicas
fresh_of table c k first given same is config = same ∙ (is ∙ ap (λ (q : Config). fresh_ports table q q.replicas) config)

module _ (table : TableId) (c : Config) (script : Script) (xs ys : List Branch) (fresh : map port_of xs ≡ fresh_ports table c c.replicas) (count : length ys ≡ length xs)
    (done : (i : ℕ) (d : Branch) → i < length xs → IsDriven script (slice_index_or xs i d) (slice_index_or ys i d)) where
  pub many : length xs ≡ c.replicas
  many = sym (length_of_map port_of xs) ∙ (ap length fresh ∙ length_fresh table c c.replicas)

  -- a branch at its end and at its beginning
  pair : (r : ℕ) (y : Branch) → slice_get ys r ≡ Some y → (x : Branch) × ((fresh_port table c r ≡ x.port) × IsDriven script x y)
  pair r y at =
      let low = slice_get_within ys r y at in
      let found = some_at xs r (omega (arith, low, count)) in
      let x = found.0 in
      let port = fresh_at table c c.replicas r x.port (ap (λ l. slice_get l r) (sym fresh) ∙ get_map port_of xs r x found.1) in
      let drove = done r x (omega (arith, low, count)) in
      let one = subst (λ z. IsDriven script z (slice_index_or ys r x)) (get_or_from_slice_get xs r x x found.1) drove in
      (x, (port, subst (λ z. IsDriven script x z) (get_or_from_slice_get ys r y x at) one))

  -- what comes back are the ports of the same table
  pub are_ports : ArePorts table c (map port_of ys)
  are_ports = record {
    count = length_of_map port_of ys ∙ (count ∙ many);
    each = λ r q at.
        let low = slice_get_within (map port_of ys) r q at in
        let long = length_of_map port_of ys in
        let found = some_at ys r (omega (arith, low, long)) in
        let y = found.0 in
        let is : y.port ≡ q = same_some y.port q (sym (get_map port_of ys r y found.1) ∙ at) in
        let p = pair r y found.1 in
        let same = p.1.1.same in
        record {
          same_table = ap (λ (h : PortValue). h.table) (sym is) ∙ (same.table ∙ ap (λ (h : PortValue). h.table) (sym p.1.0));
          same_config = ap (λ (h : PortValue). h.config) (sym is) ∙ (same.config ∙ ap (λ (h : PortValue). h.config) (sym p.1.0));
          same_id = ap (λ (h : PortValue). h.id) (sym is) ∙ (same.id ∙ ap (λ (h : PortValue). h.id) (sym p.1.0));
        };
  }

  -- and the nodes are left with the parts of these ports
  pub are_left : (parts : List (List Event)) → parts ≡ map (λ (p : PortValue). reverse p.part) (map port_of ys) → AreLeft c script parts (map node_of ys)
  are_left parts is = record {
    count = length_of_map node_of ys ∙ (count ∙ many);
    each = λ r node at.
        let low = slice_get_within (map node_of ys) r node at in
        let long = length_of_map node_of ys in
        let found = some_at ys r (omega (arith, low, long)) in
        let y = found.0 in
        let same_node : y.node ≡ node = same_some y.node node (sym (get_map node_of ys r y found.1) ∙ at) in
        let p = pair r y found.1 in
        let drove = p.1.1 in
        let config : y.port.config ≡ c = drove.same.config ∙ ap (λ (h : PortValue). h.config) (sym p.1.0) in
        let id : y.port.id ≡ r = drove.same.id ∙ ap (λ (h : PortValue). h.id) (sym p.1.0) in (
          y.port.part,
          ap (λ l. slice_get l r) is ∙ get_map (λ (h : PortValue). reverse h.part) (map port_of ys) r y.port (get_map port_of ys r y found.1),
          subst (λ n. NodeGoesOn c script r y.port.part n) same_node (subst (λ i. NodeGoesOn c script i y.port.part y.node) id (subst (λ k. NodeGoesOn k script y.port.id y.port.part y.node) config drove.drives.goes)),
          subst (λ i. HasEnd c script i y.port.part) id (subst (λ k. HasEnd k script y.port.id y.port.part) config drove.ends),
        );
  }
