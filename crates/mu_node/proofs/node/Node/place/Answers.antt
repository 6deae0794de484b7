use Rattle.std.proofs.Common.{◌≡◌, ◌∙◌, ◌/◌, ◌%◌, ◌+◌, ◌*◌, ◌<◌, ap, arith, length, subst}
use Rattle.mu_model.specs.Contents.{IsConfig}
use Rattle.mu_grant.specs.Pace.{places}
use Rattle.mu_node.specs.Cycle.{place_now}
use Rattle.mu_node.proofs.node.Node.place.Goals as goal

pub returns : goal.returns
returns c k r mine held =
    let good = subst (λ x. IsConfig x) held.beside.follow.config c.requires.config in
    let few = good.replicas.1 in
    let n = held.beside.replicas in
    let cycle : c.from.result * 2 + 22 ≡ places k = omega (arith, c.from.ensures, n) in
    let steps = c.steps.ensures k r mine held.beside.follow in
    let same : c.steps.result / 2 % (c.from.result * 2 + 22) ≡ place_now k mine = ap (λ s. s / 2 % (c.from.result * 2 + 22)) steps ∙ ap (λ m. length mine / 2 % m) cycle in
    let low : place_now k mine < 256 = omega (arith, few) in
    c.as_place.ensures (omega (arith, same, low)) ∙ same
