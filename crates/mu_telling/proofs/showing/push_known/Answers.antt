use Rattle.std.proofs.Common.{◌≡◌, ◌++◌, ◌∙◌, ap, arith}
use Rattle.std.specs.List.{slice_get}
use Rattle.mu_telling.specs.Shown.{given_below, known_fact}
use Rattle.mu_telling.proofs.FactLists.{given_next}
use Rattle.mu_telling.proofs.showing.push_known.Goals as goal

pub loop-position-preserved : goal.loop-position-preserved
loop-position-preserved c =
    let r = c.args.replica in
    let i = c.loop-position.position in
    given_next c.args.facts.now.items c.loop-position.facts.items _ i (λ i. known_fact r i (slice_get c.args.values.now i)) c.known_fact.result
    c.loop-position.invariant (c.in_ok-push_given.ensures) (c.known_fact.ensures ∙ ap (known_fact r i) c.value_at-value.ensures)

pub returns : goal.returns
returns c =
    let r = c.args.replica in
    let done : c.loop-position.position ≡ c.args.positions = omega (arith, c.loop-position-test.false, c.loop-position.auto.position-end) in
    c.loop-position.invariant ∙ ap (λ n. c.args.facts.now.items ++ given_below n (λ i. known_fact r i (slice_get c.args.values.now i))) done
