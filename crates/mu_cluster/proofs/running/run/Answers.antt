use Rattle.std.proofs.Common.{◌≡◌, ◌∙◌, List, ap, arith, length, map, reverse, subst, sym}
use Rattle.mu_input.specs.Heads.{HaveHeads}
use Rattle.mu_input.specs.declared.job.Job.{Job}
use Rattle.mu_model.specs.declared.config.Config.{Config}
use Rattle.mu_model.specs.Contents.{IsConfig}
use Rattle.mu_node.specs.declared.node.Node.{Node}
use Rattle.shared_fabric.specs.Gathering.{ArePorts, Collected, PortValue}
use Rattle.shared_fabric.proofs.Gathers.{length_fresh}
use Rattle.mu_cluster.specs.Branches.{AreLeft}
use Rattle.mu_cluster.proofs.Agreeing.{agrees_over, within_over}
use Rattle.mu_cluster.proofs.Driven.{are_left, are_ports, fresh_each, fresh_of, many, port_of}
use Rattle.mu_cluster.proofs.FairRuns.{has_all_if_fair}
use Rattle.mu_cluster.proofs.running.run.Goals as goal

pub branches-requires-clause-count : goal.branches-requires-clause-count
branches-requires-clause-count g c =
    let k = c.args.job.config in
    let table = c.in_ok-shared.shared.table in
    let fresh = fresh_of table k c.in_ok-shared.shared.config c.into_ports.result.items c.in_ok-ports.ports c.into_ports.ensures.ports c.in_ok-ports.ensures.ports c.in_ok-shared.ensures.config in
    let long : length c.into_ports.result.items ≡ k.replicas = ap length fresh ∙ length_fresh table k k.replicas in
    omega (arith, long)

pub branches-requires-clause-fresh : goal.branches-requires-clause-fresh
branches-requires-clause-fresh g c =
    let k = c.args.job.config in
    let table = c.in_ok-shared.shared.table in
    fresh_each table k c.into_ports.result.items (fresh_of table k c.in_ok-shared.shared.config c.into_ports.result.items c.in_ok-ports.ports c.into_ports.ensures.ports c.in_ok-ports.ensures.ports c.in_ok-shared.ensures.config)

pub parted-nodes-requires-clause-nodes : goal.parted-nodes-requires-clause-nodes
parted-nodes-requires-clause-nodes g c =
    let k = c.args.job.config in
    let table = c.in_ok-shared.shared.table in
    let fresh = c.in_ok-first.ensures.ports ∙ fresh_of table k c.in_ok-shared.shared.config c.into_ports.result.items c.in_ok-ports.ports c.into_ports.ensures.ports c.in_ok-ports.ensures.ports c.in_ok-shared.ensures.config in
    let first = many table k c.args.job.script c.in_ok-first.first.items c.driven.result.items fresh c.driven.ensures.count c.driven.ensures.each in
    let count = c.driven.ensures.count in
    (c.in_ok-nodes.ensures.items, omega (arith, first, count, c.in_ok-nodes.ensures.exact, c.from-count.ensures))

pub parted-nodes-requires-clause-ports : goal.parted-nodes-requires-clause-ports
parted-nodes-requires-clause-ports g c =
    let k = c.args.job.config in
    let table = c.in_ok-shared.shared.table in
    let fresh = c.in_ok-first.ensures.ports ∙ fresh_of table k c.in_ok-shared.shared.config c.into_ports.result.items c.in_ok-ports.ports c.into_ports.ensures.ports c.in_ok-ports.ensures.ports c.in_ok-shared.ensures.config in
    let first = many table k c.args.job.script c.in_ok-first.first.items c.driven.result.items fresh c.driven.ensures.count c.driven.ensures.each in
    let count = c.driven.ensures.count in
    (c.in_ok-back.ensures.items, omega (arith, first, count, c.in_ok-back.ensures.exact, c.from-count.ensures))

pub of_ports-requires : goal.of_ports-requires
of_ports-requires g c =
    let k = c.args.job.config in
    let table = c.in_ok-shared.shared.table in
    let fresh = c.in_ok-first.ensures.ports ∙ fresh_of table k c.in_ok-shared.shared.config c.into_ports.result.items c.in_ok-ports.ports c.into_ports.ensures.ports c.in_ok-ports.ensures.ports c.in_ok-shared.ensures.config in
    let are = are_ports table k c.args.job.script c.in_ok-first.first.items c.driven.result.items fresh c.driven.ensures.count c.driven.ensures.each in
    record { table = table; config = k; are = subst (λ (l : List PortValue). ArePorts table k l) (sym c.parted-nodes.ensures.ports) are }

pub gather-gathered-requires : goal.gather-gathered-requires
gather-gathered-requires g c =
    let k = c.args.job.config in
    let table = c.in_ok-shared.shared.table in
    let fresh = c.in_ok-first.ensures.ports ∙ fresh_of table k c.in_ok-shared.shared.config c.into_ports.result.items c.in_ok-ports.ports c.into_ports.ensures.ports c.in_ok-ports.ensures.ports c.in_ok-shared.ensures.config in
    let are = are_ports table k c.args.job.script c.in_ok-first.first.items c.driven.result.items fresh c.driven.ensures.count c.driven.ensures.each in
    let given = subst (λ (l : List PortValue). ArePorts table k l) (sym (c.of_ports.ensures ∙ c.parted-nodes.ensures.ports)) are in
    subst (λ t. ArePorts t c.ports.new.self.config c.of_ports.result) (sym c.in_ok-ports.ensures.same.0)
    (subst (λ (q : Config). ArePorts table q c.of_ports.result) (sym (c.in_ok-ports.ensures.same.1 ∙ c.in_ok-shared.ensures.config)) given)

pub gathered_outcome-requires-clause-left : goal.gathered_outcome-requires-clause-left
gathered_outcome-requires-clause-left g c =
    let k = c.args.job.config in
    let table = c.in_ok-shared.shared.table in
    let fresh = c.in_ok-first.ensures.ports ∙ fresh_of table k c.in_ok-shared.shared.config c.into_ports.result.items c.in_ok-ports.ports c.into_ports.ensures.ports c.in_ok-ports.ensures.ports c.in_ok-shared.ensures.config in
    let parts = c.gather-gathered.result.parts in
    let is : parts ≡ map (λ (p : PortValue). reverse p.part) (map port_of c.driven.result.items) =
    ap (λ (x : Collected). x.parts) c.gather-gathered.ensures ∙ ap (map (λ (p : PortValue). reverse p.part)) (c.of_ports.ensures ∙ c.parted-nodes.ensures.ports) in
    subst (λ (l : List Node). AreLeft k c.args.job.script parts l) (sym c.parted-nodes.ensures.nodes)
    (are_left table k c.args.job.script c.in_ok-first.first.items c.driven.result.items fresh c.driven.ensures.count c.driven.ensures.each parts is)

pub returns-clause-agrees : goal.returns-clause-agrees
returns-clause-agrees g c =
    let job = sym c.gathered_outcome.ensures.job in
    let run = c.gathered_outcome.ensures.run in
    agrees_over c.gathered_outcome.result run.events (subst (λ (j : Job). IsConfig j.config) job c.requires.config) (subst (λ (j : Job). HaveHeads j.config.width j.commands j.config.rows) job c.requires.heads) run.over

pub returns-clause-reach : goal.returns-clause-reach
returns-clause-reach g c =
    let job = sym c.gathered_outcome.ensures.job in
    let run = c.gathered_outcome.ensures.run in
    within_over c.gathered_outcome.result run.events (subst (λ (j : Job). IsConfig j.config) job c.requires.config) (subst (λ (j : Job). HaveHeads j.config.width j.commands j.config.rows) job c.requires.heads) run.over

pub returns-clause-lives_if_fair : goal.returns-clause-lives_if_fair
returns-clause-lives_if_fair g c =
    let job = sym c.gathered_outcome.ensures.job in
    let run = c.gathered_outcome.ensures.run in
    has_all_if_fair c.gathered_outcome.result run.events (subst (λ (j : Job). IsConfig j.config) job c.requires.config) (subst (λ (j : Job). HaveHeads j.config.width j.commands j.config.rows) job c.requires.heads) run.over c.gathered_outcome.ensures.applies
