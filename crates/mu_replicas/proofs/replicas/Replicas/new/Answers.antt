use Rattle.std.proofs.Common.{rules, sym, subst, []}
use Rattle.mu_replicas.specs.Stands.{StandsForReplica}
use Rattle.mu_model.proofs.Lists.{each_pushed}
use Rattle.mu_replicas.proofs.replicas.Replicas.new.Goals as goal

pub loop-replica-preserved : goal.loop-replica-preserved
loop-replica-preserved c = record {
  count = search (rules, c.push_reserved.ensures.items, c.loop-replica.invariant.count);
  room = search rules;
  each =
      let last = subst (λ p. StandsForReplica c.args.config.now p [] c.in_ok-new.field-0) (sym c.loop-replica.invariant.count) c.in_ok-new.ensures in
      rw c.push_reserved.ensures.items (each_pushed (λ p replica. StandsForReplica c.args.config.now p [] replica) c.loop-replica.replicas.items c.in_ok-new.field-0 c.loop-replica.invariant.each last);
}
