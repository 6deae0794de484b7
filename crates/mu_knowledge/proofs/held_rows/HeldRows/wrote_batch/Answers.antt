use Rattle.std.proofs.Common.{arith, ◌≡◌, ◌∙◌, ◌+◌, ap, refl}
use Rattle.mu_model.specs.Contents.{rest_of}
use Rattle.mu_model.specs.Histories.{all_below}
use Rattle.mu_model.specs.Knowledge.{wrote}
use Rattle.mu_agree.proofs.Sessions.{batch_within}
use Rattle.mu_knowledge.proofs.held_rows.HeldRows.wrote_batch.Goals as goal

pub returns : goal.returns
returns c r mine good low held =
    let k = c.args.config.now in
    let j = c.args.j in
    let last = batch_within k good (rest_of k j) j low refl in
    let all = c.from.ensures ∙ c.row_rest.ensures in
    let few = good.few in
    let whole : c.from.result + 1 ≡ rest_of k j + 1 = omega (arith, all) in
    c.wrote_rows.ensures k r mine (omega (arith, whole, last)) few held ∙ ap (λ n. all_below n (λ t. all_below 12 (λ w. wrote r (j + t) w mine))) whole
