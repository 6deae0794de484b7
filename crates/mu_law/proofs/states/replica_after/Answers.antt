use Rattle.std.proofs.Common.{take, sym, subst}
use Rattle.mu_model.specs.Histories.{history, part}
use Rattle.mu_replicas.specs.Stands.{StandsForReplica}
use Rattle.mu_outcome.proofs.Places.{history_at_next, legal_there}
use Rattle.mu_law.proofs.Stepping.{after_other, after_own}
use Rattle.mu_law.proofs.states.replica_after.Goals.{then-event-r, else-event-r}
use Rattle.mu_law.proofs.states.replica_after.Goals as goal

pub loop-index-preserved : goal.loop-index-preserved
loop-index-preserved c =
    let events = c.args.events.now in
    let i = c.loop-index.index in
    let past = history (take i events) in
    let low = c.loop-index-test.true in
    let legal = legal_there c.args.config.now events i _ c.requires.legal low in
    let more = sym (history_at_next events i _ low) in
    subst (λ l. StandsForReplica c.args.config.now c.args.r (part c.args.r l) c.if-event-r.state) more (elim c.if-event-r.branch [
      | then-event-r w ↦
          subst (StandsForReplica c.args.config.now c.args.r _) (sym w.state-is)
          (after_own c.args.config.now c.args.r _ past c.loop-index.state w.take.new.self w.if-event-r.true legal w.take.ensures c.loop-index.invariant)
      | else-event-r w ↦
          subst (StandsForReplica c.args.config.now c.args.r _) (sym w.state-is)
          (after_other c.args.config.now c.args.r _ past c.loop-index.state w.if-event-r.false c.loop-index.invariant)
    ])
