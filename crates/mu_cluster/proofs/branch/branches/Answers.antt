use Rattle.std.proofs.Common.{◌≡◌, ◌∙◌, ap, sym, ◌++◌, [], ◌∷◌, Some, arith, length, map, append_assoc, length-append, subst}
use Rattle.std.specs.List.{slice_get}
use Rattle.std.specs.Vec.Iter.{into_iter_items}
use Rattle.mu_node.specs.Following.{FollowsTurns}
use Rattle.mu_node.proofs.Following.{follows_first}
use Rattle.shared_fabric.proofs.Gathers.{get_middle, map_snoc}
use Rattle.mu_cluster.specs.declared.branch.Branch.{Branch}
use Rattle.mu_cluster.specs.declared.branch.TheConstants.{BETWEEN}
use Rattle.mu_cluster.specs.Branches.{Starts}
use Rattle.mu_cluster.proofs.Branching.{first_drives}
use Rattle.std.proofs.lemmas.List.Elements.{All-push}
use Rattle.mu_cluster.proofs.branch.branches.Goals as goal

pub loop-port-preserved : goal.loop-port-preserved
loop-port-preserved c =
    let at = c.loop-port in
    let inv = at.invariant in
    let job = c.args.job.now in
    let x = c.in-Some.port in
    let steps : into_iter_items at.port-iterator ≡ x ∷ into_iter_items c.next.new.self = c.in-Some.ensures.steps.0 in
    let gone = c.in-Some.ensures.steps.1 in
    let short = ap length steps in
    let whole : c.args.ports.items ≡ at.yielded ++ x ∷ into_iter_items c.next.new.self = inv.2 ∙ ap (λ l. at.yielded ++ l) steps in
    let its : slice_get c.args.ports.items (length at.yielded) ≡ Some x = ap (λ l. slice_get l (length at.yielded)) whole ∙ get_middle at.yielded (into_iter_items c.next.new.self) x in
    let fresh = c.requires.fresh (length at.yielded) x its in
    let b : Branch = record { node = c.in_ok-node.node; port = x; between = BETWEEN } in
    let drives = first_drives job.config job.script (length at.yielded) x c.in_ok-node.node c.requires.good fresh (subst (λ i. FollowsTurns job.config i [] c.in_ok-node.node) c.id.ensures.number (follows_first job.config c.id.result c.in_ok-node.node c.in_ok-node.ensures.stands c.in_ok-node.ensures.placed)) c.in_ok-node.ensures.stops c.in_ok-node.ensures.zeal in
    let ready : Starts job.script b = record { drives = drives; empty = fresh.empty } in (
      tt,
      tt,
      whole ∙ sym (append_assoc at.yielded (x ∷ []) (into_iter_items c.next.new.self)),
      omega (arith, inv.3, gone, short),
      rw c.push_reserved.ensures.items (All-push (Starts job.script) at.branches.items b inv.4 ready),
      ap (map (λ (y : Branch). y.port)) c.push_reserved.ensures.items ∙ (map_snoc (λ (y : Branch). y.port) at.branches.items b ∙ ap (λ l. l ++ x ∷ []) inv.5),
      ap length c.push_reserved.ensures.items ∙ omega (arith, length-append at.branches.items (b ∷ []), length-append at.yielded (x ∷ []), inv.6),
      omega (arith, c.push_reserved.ensures.capacity, inv.7),
    )
