use Rattle.std.proofs.Common.{sym, subst, ◌∙◌}
use Rattle.atomic_table.specs.Seated.{TableId}
use Rattle.shared_fabric.specs.Gathering.{ArePorts}
use Rattle.shared_fabric.proofs.Gathers.{fresh_are}
use Rattle.shared_fabric.proofs.shared.Shared.ports.Goals as goal

pub of_ports-requires : goal.of_ports-requires
of_ports-requires c =
    let table = c.self.inside.root.table in
    let config = c.self.inside.config in
    record { table = table; config = config; are = fresh_are table config c.seated-ports.result.items c.seated-ports.ensures.ports }

pub returns-clause-are : goal.returns-clause-are
returns-clause-are c =
    let config = c.self.inside.config in
    let are = fresh_are c.self.inside.root.table config c.of_ports.result (c.of_ports.ensures ∙ c.seated-ports.ensures.ports) in
    subst (λ (t : TableId). ArePorts t config c.of_ports.result) (sym c.seated-ports.ensures.same.0) are
