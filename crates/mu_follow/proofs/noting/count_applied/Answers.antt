use Rattle.std.proofs.Common.{◌≡◌, ◌∙◌, ◌∷◌, ap, arith, length, subst, sym, take}
use Rattle.mu_model.specs.Knowledge.{applied, has_entry, known}
use Rattle.mu_agree.proofs.Within.{known_few}
use Rattle.mu_knowledge.proofs.Fetched.{applied_grows, front_fits}
use Rattle.mu_follow.specs.Completion.{HoldsCompletion}
use Rattle.mu_follow.proofs.Kept.{applied_begins, applied_is}
use Rattle.mu_follow.proofs.noting.count_applied.Goals as goal

pub returns : goal.returns
returns c r mine e good possible knowing rows held =
    let k = c.args.config.now in
    let now = c.known.ensures k r (e ∷ mine) knowing in
    let reached = c.applied_count.ensures.tells k r (e ∷ mine) rows in
    let values = c.known.result.now in
    let few = known_few k r (e ∷ mine) good possible in
    let fits = front_fits (λ v. has_entry k r v (e ∷ mine)) (known k r (e ∷ mine)) in
    let grows = applied_grows k r mine e in
    let long = ap length now in
    let was : take c.args.completion.now.counted values ≡ applied k r mine = ap (λ n. take n values) held.counted ∙ (ap (λ l. take (length (applied k r mine)) l) now ∙ applied_begins k r e mine) in
    let is : take c.applied_count.result values ≡ applied k r (e ∷ mine) = ap (λ n. take n values) reached ∙ (ap (λ l. take (length (applied k r (e ∷ mine))) l) now ∙ applied_is k r (e ∷ mine)) in
    let counted = c.take.ensures good (omega (arith, few, long)) (omega (arith, fits, long, reached)) (omega (arith, grows, reached, held.counted)) (subst (λ l. HoldsCompletion k l c.args.completion.now) (sym was) held) in
    subst (λ l. HoldsCompletion k l c.take.new.self) is counted
