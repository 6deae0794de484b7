use Rattle.std.proofs.Common.{◌≡◌, ◌<◌, ◌+◌, ℕ, List, suc, [], ◌∷◌, ◌++◌, ◌∙◌, ap, arith}
use Rattle.mu_model.specs.Histories.{part}
use Rattle.mu_model.specs.Knowledge.{applied}
use Rattle.mu_telling.specs.Accounts.{each_below}
use Rattle.mu_telling.proofs.lists.logs_of.Goals as goal

pub loop-r-preserved : goal.loop-r-preserved
loop-r-preserved c = λ past s is held.
    let r = c.loop-r.r in
    let of : ℕ → List ℕ = λ q. applied s q (part q past) in
    let next : suc r ≡ r + 1 = omega arith in
    let low : r < s.replicas = omega (arith, c.loop-r-test.true, is) in
    c.in_ok-push.ensures.items
    ∙ (ap (λ l. l ++ c.in_ok-log.log ∷ []) (c.loop-r.invariant past s is held)
    ∙ (ap (λ o. each_below r of ++ o ∷ []) (c.in_ok-log.ensures ∙ c.applied_values.ensures past s low held) ∙ ap (λ n. each_below n of) next))

pub returns : goal.returns
returns c = λ past s is held.
    let done : c.loop-r.r ≡ c.args.n = omega (arith, c.loop-r-test.false, c.loop-r.auto.r-end) in
    c.from_vec.ensures ∙ (c.loop-r.invariant past s is held ∙ ap (λ n. each_below n (λ q. applied s q (part q past))) done)
