use Rattle.std.proofs.Common.{◌≡◌, ◌<◌, ◌+◌, suc, [], ◌∷◌, ◌++◌, ◌∙◌, ap, arith}
use Rattle.mu_picture.specs.Openings.{openings_of}
use Rattle.mu_picture.proofs.openings.openings_at.Goals as goal

pub loop-r-preserved : goal.loop-r-preserved
loop-r-preserved c = λ past s script is held.
    let r = c.loop-r.r in
    let next : suc r ≡ r + 1 = omega arith in
    let low : r < s.replicas = omega (arith, c.loop-r-test.true, is) in
    c.in_ok-push.ensures.items
    ∙ (ap (λ l. l ++ c.opening.result ∷ []) (c.loop-r.invariant past s script is held)
    ∙ (ap (λ o. openings_of s script r past ++ o ∷ []) (c.opening.ensures past s script low held) ∙ ap (λ n. openings_of s script n past) next))

pub returns : goal.returns
returns c = λ past s script is held.
    let done : c.loop-r.r ≡ c.args.n = omega (arith, c.loop-r-test.false, c.loop-r.auto.r-end) in
    c.loop-r.invariant past s script is held ∙ ap (λ n. openings_of s script n past) done
