use Rattle.std.proofs.Common.{◌≡◌, ◌∙◌, ◌-◌, ◌<◌, ◌≤◌, Some, ap, arith, subst}
use Rattle.mu_model.specs.Contents.{IsConfig}
use Rattle.mu_grant.specs.Pace.{host_place}
use Rattle.mu_grant.specs.Stands.{Gives}
use Rattle.mu_follow.specs.Due.{replay_due}
use Rattle.mu_node.specs.Cycle.{handed, read_at}
use Rattle.mu_node.proofs.Leads.{host_may, read_may, replay_may}
use Rattle.mu_node.proofs.node.Node.due_at.Goals as goal

pub returns-then-place-host-clause-due : goal.returns-then-place-host-clause-due
returns-then-place-host-clause-due c k r mine possible short held =
    let good = subst (λ x. IsConfig x) held.beside.follow.config c.requires.config in
    let few = good.replicas.1 in
    let n = held.beside.replicas in
    let low : c.args.place < host_place k 0 = omega (arith, few, n, c.if-place-host.true, c.saturating_mul-host.ensures) in
    record {
      read = λ small. ap Some (c.read.ensures ∙ (ap (λ m. read_at m c.args.self.now.id c.args.place) n ∙ ap (λ i. read_at k.replicas i c.args.place) held.beside.id));
      host = λ d little at. absurd (omega (arith, low, at));
      replay = λ f at. absurd (omega (arith, low, at));
    }

pub returns-then-place-host-clause-may : goal.returns-then-place-host-clause-may
returns-then-place-host-clause-may c k r mine possible short held =
    let good = subst (λ x. IsConfig x) held.beside.follow.config c.requires.config in
    let few = good.replicas.1 in
    let n = held.beside.replicas in
    let low : c.args.place < host_place k 0 = omega (arith, few, n, c.if-place-host.true, c.saturating_mul-host.ensures) in
    read_may k r mine c.args.self.now.lead c.args.place c.read.result short held.beside.follow.inside (omega (arith, low)) (c.read.ensures ∙ (ap (λ m. read_at m c.args.self.now.id c.args.place) n ∙ ap (λ i. read_at k.replicas i c.args.place) held.beside.id))

pub returns-then-place-replayer-clause-due : goal.returns-then-place-replayer-clause-due
returns-then-place-replayer-clause-due c k r mine possible short held =
    let good = subst (λ x. IsConfig x) held.beside.follow.config c.requires.config in
    let few = good.replicas.1 in
    let n = held.beside.replicas in
    let high : host_place k 0 ≤ c.args.place = omega (arith, few, n, c.if-place-host.false, c.saturating_mul-host.ensures) in
    let near : c.args.place < host_place k 4 = omega (arith, few, n, c.if-place-replayer.true, c.saturating_mul-host.ensures, c.saturating_add-replayer.ensures) in
    let gives = c.due.ensures k r mine held.beside.grants short in
    record {
      read = λ small. absurd (omega (arith, small, high));
      host = λ d little at. (let same : c.args.place - c.saturating_mul-host.result ≡ d = omega (arith, few, n, at, c.saturating_mul-host.ensures) in subst (λ p. Gives k r mine p c.due.result) same gives);
      replay = λ f at. absurd (omega (arith, near, at));
    }

pub returns-then-place-replayer-clause-may : goal.returns-then-place-replayer-clause-may
returns-then-place-replayer-clause-may c k r mine possible short held = host_may k r mine c.args.self.now.lead _ c.due.result (c.due.ensures k r mine held.beside.grants short)

pub returns-else-place-replayer-clause-due : goal.returns-else-place-replayer-clause-due
returns-else-place-replayer-clause-due c k r mine possible short held =
    let good = subst (λ x. IsConfig x) held.beside.follow.config c.requires.config in
    let few = good.replicas.1 in
    let n = held.beside.replicas in
    let far : host_place k 4 ≤ c.args.place = omega (arith, few, n, c.if-place-replayer.false, c.saturating_mul-host.ensures, c.saturating_add-replayer.ensures) in
    let is = c.due-else-place-replayer.ensures.exact k r mine possible held.beside.follow in
    record {
      read = λ small. absurd (omega (arith, small, far));
      host = λ d little at. absurd (omega (arith, far, at, little));
      replay = λ f at.
          let same : c.args.place - c.saturating_add-replayer.result ≡ f = omega (arith, few, n, at, c.saturating_mul-host.ensures, c.saturating_add-replayer.ensures) in
          is ∙ (ap (λ h. replay_due k r mine h (c.args.place - c.saturating_add-replayer.result) c.is_leading.result) held.handed ∙ (ap (λ p. replay_due k r mine (handed k r mine) p c.is_leading.result) same ∙ ap (λ t. replay_due k r mine (handed k r mine) f t) c.is_leading.ensures));
    }

pub returns-else-place-replayer-clause-may : goal.returns-else-place-replayer-clause-may
returns-else-place-replayer-clause-may c k r mine possible short held = replay_may k r mine c.args.self.now.lead c.is_leading.result c.due-else-place-replayer.result c.is_leading.ensures (c.due-else-place-replayer.ensures.allowed k r mine possible short held.beside.follow)
