use Rattle.std.proofs.Common.{◌∙◌, sym, subst, List}
use Rattle.shared_fabric.specs.Gathering.{ArePorts, Fabric, PortValue}
use Rattle.shared_fabric.proofs.Gathers.{staying_is_enough_law}
use Rattle.worked_rows.proofs.shared_ports.threads_keep_one_list.Goals as goal

pub of_ports-requires : goal.of_ports-requires
of_ports-requires g c =
    let all = c.into_ports.ensures.all in
    let are = subst (λ (l : List PortValue). ArePorts all.table all.config l) (sym (c.in_ok-kept.ensures ∙ c.into_ports.ensures.ports)) all.are in
    let now = staying_is_enough_law all.table all.config _ _ are c.acted-ports.ensures in
    record { table = all.table; config = all.config; are = subst (λ (l : List PortValue). ArePorts all.table all.config l) (sym c.in_ok-bare.ensures) now }

pub gather-requires : goal.gather-requires
gather-requires g c =
    let table = c.ports.new.self.table in
    let config = c.ports.new.self.config in
    let are = subst (λ (l : List PortValue). ArePorts table config l) (sym (c.in_ok-kept.ensures ∙ c.into_ports.ensures.ports)) c.in_ok-ports.ensures.are in
    let now = staying_is_enough_law table config _ _ are c.acted-ports.ensures in
    let given = subst (λ (l : List PortValue). ArePorts table config l) (sym (c.of_ports.ensures ∙ c.in_ok-bare.ensures)) now in
    subst (λ (f : Fabric). ArePorts f.table f.config c.of_ports.result) (sym c.shared.view_is) given
