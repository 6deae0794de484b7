use Rattle.std.proofs.Common.{◌∙◌, ap, drop}
use Rattle.mu_model.specs.Knowledge.{applied}
use Rattle.lone_replica.proofs.Adding.{in_turn_held}
use Rattle.lone_replica.proofs.Handing.{handed_held}
use Rattle.lone_replica.proofs.replica.Replica.entries_ready.Goals as goal

pub returns : goal.returns
returns c k own stands =
    let replica = c.args.self.now in
    let s = replica.accesses.shape in
    c.entries_ready.ensures k replica.id own.0 (in_turn_held k replica.id own s replica.node replica.due stands.node).beside
    ∙ ap (λ n. drop n (applied k replica.id own.0)) (handed_held k replica.id own s replica.node replica.due stands.node)
