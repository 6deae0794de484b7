use Rattle.std.proofs.Common.{◌≡◌, ◌++◌, ◌∙◌, ap, arith}
use Rattle.mu_model.specs.Answers.{answer_of}
use Rattle.mu_model.specs.declared.event.Verb.{Verb}
use Rattle.mu_telling.specs.Shown.{entry_fact, given_below}
use Rattle.mu_telling.proofs.FactLists.{given_next}
use Rattle.mu_telling.proofs.showing.push_entries.Goals as goal

pub loop-position-preserved : goal.loop-position-preserved
loop-position-preserved c = λ past s low held.
    let p = c.args.region in
    let i = c.loop-position.position in
    let found = c.answer-answer.ensures past s (record { replica = low; read = low; near = tt }) held in
    given_next c.args.facts.now.items c.loop-position.facts.items _ i (λ i. entry_fact p i (answer_of s p past (Verb.Look p i))) c.entry_fact.result
    (c.loop-position.invariant past s low held) (c.in_ok-push_given.ensures) (c.entry_fact.ensures ∙ ap (entry_fact p i) found)

pub returns : goal.returns
returns c = λ past s low held.
    let p = c.args.region in
    let done : c.loop-position.position ≡ c.args.positions = omega (arith, c.loop-position-test.false, c.loop-position.auto.position-end) in
    c.loop-position.invariant past s low held
    ∙ ap (λ n. c.args.facts.now.items ++ given_below n (λ i. entry_fact p i (answer_of s p past (Verb.Look p i)))) done
