use Rattle.std.proofs.Common.{rules, ◌∷◌, ◌∙◌, ◌<◌, ◌||◌, not, ap, arith}
use Rattle.mu_model.specs.Histories.{all_below, has}
use Rattle.mu_model.specs.Knowledge.{is_number, lands_entry}
use Rattle.mu_model.specs.Leaderships.{is_member, leadership}
use Rattle.mu_agree.proofs.Possible.{parts_shorten_law}
use Rattle.mu_placing.proofs.landed_puts.LandedPuts.has_accepted.Goals as goal

pub returns-then-carried : goal.returns-then-carried
returns-then-carried c c' r event mine n config possible next leading held =
    let small : r < 7 = (let low = (parts_shorten_law c' r mine event possible).allowed.replica in let few = config.replicas.1 in omega arith) in
    let over = c.is_over-over.ensures r (event ∷ mine) leading in
    let numbered = c.is_number-numbered.ensures ∙ ap (λ o. is_number o c.args.b) (c.number.ensures r (event ∷ mine) leading) in
    let carried = c.has_quorum-carried.ensures c' r (event ∷ mine) n small leading in
    let taken = c.have_taken-taken.ensures c' r event mine config possible (omega (arith, next)) leading held in
    let all = taken ∙ ap (λ k. all_below k (λ p. not (is_member r p (event ∷ mine)) || has (lands_entry r p c.args.i c.args.b c.args.v) (leadership r (event ∷ mine)))) n in
    search (rules, over, numbered, carried, all)

pub returns-else-carried : goal.returns-else-carried
returns-else-carried c c' r event mine n config possible next leading held =
    let small : r < 7 = (let low = (parts_shorten_law c' r mine event possible).allowed.replica in let few = config.replicas.1 in omega arith) in
    let over = c.is_over-over.ensures r (event ∷ mine) leading in
    let numbered = c.is_number-numbered.ensures ∙ ap (λ o. is_number o c.args.b) (c.number.ensures r (event ∷ mine) leading) in
    let carried = c.has_quorum-carried.ensures c' r (event ∷ mine) n small leading in
    search (rules, over, numbered, carried)
