use Rattle.std.proofs.Common.{◌≡◌, ◌<◌, ◌+◌, ℕ, List, suc, [], ◌∷◌, ◌++◌, ◌∙◌, ap, arith, map}
use Rattle.std.proofs.lemmas.List.{map-append}
use Rattle.mu_model.specs.Histories.{part}
use Rattle.mu_model.specs.Knowledge.{commits}
use Rattle.mu_knowledge.specs.Commits.{pair_of}
use Rattle.mu_telling.specs.Accounts.{each_below}
use Rattle.mu_telling.proofs.lists.commits_of.Goals as goal

pub loop-r-preserved : goal.loop-r-preserved
loop-r-preserved c = λ past s is held.
    let r = c.loop-r.r in
    let of : ℕ → List (ℕ × ℕ) = λ q. commits s q (part q past) in
    let next : suc r ≡ r + 1 = omega arith in
    let low : r < s.replicas = omega (arith, c.loop-r-test.true, is) in
    ap (map (map pair_of)) c.in_ok-push.ensures.items
    ∙ (map-append (map pair_of) c.loop-r.all.items (c.in_ok-list.list ∷ [])
    ∙ (ap (λ l. l ++ map pair_of c.in_ok-list.list ∷ []) (c.loop-r.invariant past s is held)
    ∙ (ap (λ o. each_below r of ++ o ∷ []) (ap (map pair_of) c.in_ok-list.ensures ∙ c.commits.ensures past s low held) ∙ ap (λ n. each_below n of) next)))

pub returns : goal.returns
returns c = λ past s is held.
    let done : c.loop-r.r ≡ c.args.n = omega (arith, c.loop-r-test.false, c.loop-r.auto.r-end) in
    ap (map (map pair_of)) c.from_vec.ensures ∙ (c.loop-r.invariant past s is held ∙ ap (λ n. each_below n (λ q. commits s q (part q past))) done)
