use Rattle.std.proofs.Common.{◌<◌, ◌≤◌, ℕ, Bor, List, ◌∷◌, ◌∙◌, ap, arith, length, length-set, sym, take}
use Rattle.std.proofs.lemmas.List.{length-map, length-take-le}
use Rattle.mu_events.specs.Events.{sides}
use Rattle.mu_events.specs.Steps.{step_after}
use Rattle.mu_events.proofs.Sides.{said, said-more, step-ends, step-other}
use Rattle.mu_events.proofs.TableBack.{step_many}
use Rattle.mu_text.specs.Lines.{words}
use Rattle.mu_events.proofs.events.step_named.Goals as goal

pub returns-in_err-behind : goal.returns-in_err-behind
returns-in_err-behind c =
    c.from_residual.ensures
    ∙ sym (sym c.loop-behind.invariant.same ∙ step-ends (c.args.name.now ∷ said (take c.loop-behind.count c.loop-behind.items)) (words c.loop-behind.rest.now) _ (rw c.in_err-behind.was at c.split_word.ensures))

pub returns-then-count-eq4 : goal.returns-then-count-eq4
returns-then-count-eq4 c =
    let first = take c.loop-behind.count c.loop-behind.items in
    let room : c.loop-behind.count ≤ length c.loop-behind.items = omega (arith, c.loop-behind.invariant.few, c.loop-behind.invariant.room) in
    let long = length-take-le c.loop-behind.count c.loop-behind.items room in
    let same = length-map first (λ (word : Bor (List ℕ)). word.now) in
    step_many c.args.name.now (said first) (words c.loop-behind.rest.now) _ _ (rw c.in_ok-behind.was at c.split_word.ensures) (sym c.is_equals.ensures ∙ c.if-is_equals.false) (omega (arith, long, same, c.if-count-eq4.true))
    ∙ c.loop-behind.invariant.same

pub loop-behind-preserved : goal.loop-behind-preserved
loop-behind-preserved c =
    let count = c.loop-behind.count in
    let items = c.loop-behind.items in
    let room : count < length items = omega (arith, c.loop-behind.invariant.few, c.loop-behind.invariant.room, c.if-count-eq4.false) in
    record {
      few = omega (arith, c.loop-behind.invariant.few, c.if-count-eq4.false);
      room = (let same = length-set items count c.split_word.result.0 in omega (arith, same, c.loop-behind.invariant.room));
      same = ap (λ first. step_after (c.args.name.now ∷ first) (sides (words c.in_ok-behind.behind.now))) (said-more items count c.split_word.result.0 room)
          ∙ sym (step-other (c.args.name.now ∷ said (take count items)) (words c.loop-behind.rest.now) c.split_word.result.0.now (words c.in_ok-behind.behind.now) (rw c.in_ok-behind.was at c.split_word.ensures) (sym c.is_equals.ensures ∙ c.if-is_equals.false))
          ∙ c.loop-behind.invariant.same;
    }
