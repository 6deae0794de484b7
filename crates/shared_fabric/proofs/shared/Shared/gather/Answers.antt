use Rattle.std.proofs.Common.{◌≡◌, ◌∙◌, ap, sym, subst, map, length, reverse, List}
use Rattle.mu_model.specs.declared.config.Config.{Config}
use Rattle.shared_steps.specs.Rule.{HaveOneList}
use Rattle.shared_steps.specs.Seats.{Board, Root}
use Rattle.shared_fabric.specs.Gathering.{AreOfOneList, Fabric, PortValue, collected}
use Rattle.shared_fabric.proofs.Gathers.{gathered_is, gathers}
use Rattle.shared_fabric.proofs.shared.Shared.gather.Goals as goal

pub invariant_of-result : goal.invariant_of-result
invariant_of-result c =
    let root = c.take_in.new.root in
    let config : c.self.inside.config ≡ c.args.self.config = ap (λ (f : Fabric). f.config) c.self.view_is in
    let list = subst (λ (k : Config). HaveOneList k root.entries) (ap (λ (b : Board). b.key) c.deref.ensures ∙ c.self.invariant.key) c.learn.ensures.list in
    let count = ap (λ (l : List PortValue). length l) c.into_ports.ensures.ports ∙ (c.requires.count ∙ sym (ap (λ (k : Config). k.replicas) config)) in
    subst (λ (r : Root). AreOfOneList (collected c.self.inside.config r.entries)) (sym c.learn.ensures.same)
    (gathers c.self.inside.config c.into_ports.result.items root.entries count c.take_in.ensures.taken list)

pub returns : goal.returns
returns c =
    let root = c.take_in.new.root in
    let config : c.self.inside.config ≡ c.args.self.config = ap (λ (f : Fabric). f.config) c.self.view_is in
    let count = ap (λ (l : List PortValue). length l) c.into_ports.ensures.ports ∙ (c.requires.count ∙ sym (ap (λ (k : Config). k.replicas) config)) in
    ap (λ (r : Root). collected c.self.inside.config r.entries) c.learn.ensures.same
    ∙ (gathered_is c.self.inside.config c.into_ports.result.items root.entries count c.take_in.ensures.taken
    ∙ (λ i. record { config = config i; parts = map (λ (p : PortValue). reverse p.part) (c.into_ports.ensures.ports i) }))
