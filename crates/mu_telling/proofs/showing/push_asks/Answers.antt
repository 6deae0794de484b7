use Rattle.std.proofs.Common.{◌≡◌, ◌<◌, ◌++◌, ◌∙◌, ap, arith}
use Rattle.mu_model.specs.Regions.{asks}
use Rattle.mu_telling.specs.Shown.{asks_fact, given_below, number_shown}
use Rattle.mu_telling.proofs.FactLists.{given_next}
use Rattle.mu_telling.proofs.showing.push_asks.Goals as goal

pub loop-by-preserved : goal.loop-by-preserved
loop-by-preserved c = λ past s low held is.
    let p = c.args.region in
    let by = c.loop-by.by in
    let near : by < s.replicas = omega (arith, is, c.loop-by-test.true) in
    let count = c.number_in-count.ensures ∙ ap number_shown (c.answer.ensures past s (record { replica = low; read = low; near = near }) held) in
    given_next c.args.facts.now.items c.loop-by.facts.items _ by (λ w. asks_fact p w (asks w p past)) c.asks_fact.result
    (c.loop-by.invariant past s low held is) (c.in_ok-push_given.ensures) (c.asks_fact.ensures ∙ ap (asks_fact p by) count)

pub returns : goal.returns
returns c = λ past s low held is.
    let p = c.args.region in
    let done : c.loop-by.by ≡ c.args.n = omega (arith, c.loop-by-test.false, c.loop-by.auto.by-end) in
    c.loop-by.invariant past s low held is ∙ ap (λ n. c.args.facts.now.items ++ given_below n (λ w. asks_fact p w (asks w p past))) done
