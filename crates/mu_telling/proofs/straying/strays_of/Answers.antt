use Rattle.std.proofs.Common.{◌≡◌, ◌∙◌, [], ap, arith, length}
use Rattle.mu_model.specs.Histories.{history}
use Rattle.mu_telling.specs.Straying.{stop_of, stray, strays}
use Rattle.mu_telling.proofs.FactLists.{given_next, length_given}
use Rattle.mu_telling.proofs.straying.strays_of.Goals as goal

pub loop-replica-preserved : goal.loop-replica-preserved
loop-replica-preserved c =
    let past = history c.args.events.now in
    let r = c.loop-replica.replica in
    given_next [] c.loop-replica.strays.items _ r (λ r. stray past (stop_of r c.args.stops.now)) c.stray.result
    c.loop-replica.invariant c.in_ok-push_given.ensures (c.stray.ensures ∙ ap (stray past) c.stop_of.ensures)

pub returns-clause-are : goal.returns-clause-are
returns-clause-are c =
    let done : c.loop-replica.replica ≡ c.args.n = omega (arith, c.loop-replica-test.false, c.loop-replica.auto.replica-end) in
    c.from_vec.ensures ∙ (c.loop-replica.invariant ∙ ap (λ n. strays n c.args.stops.now (history c.args.events.now)) done)

pub returns-clause-few : goal.returns-clause-few
returns-clause-few c =
    let long : length c.from_vec.result ≡ length (strays c.loop-replica.replica c.args.stops.now (history c.args.events.now)) = ap length (c.from_vec.ensures ∙ c.loop-replica.invariant) in
    let few = length_given c.loop-replica.replica (λ r. stray (history c.args.events.now) (stop_of r c.args.stops.now)) in
    let low = c.ranges.n in
    omega (arith, long, few, low, c.loop-replica.auto.replica-end)
