use Rattle.std.proofs.Common.{◌≡◌, ◌&&◌, ◌==◌, ◌+◌, ◌∷◌, ◌∙◌, length, ap, sym, arith, eqb-true}
use Rattle.std.proofs.lemmas.Bool.{and_parts}
use Rattle.mu_model.specs.Histories.{has}
use Rattle.mu_model.specs.Knowledge.{known, lands_entry}
use Rattle.mu_model.specs.Leaderships.{leadership}
use Rattle.mu_knowledge.proofs.Filled.{third_added, third_left}
use Rattle.mu_placing.proofs.filled_logs.is_spread.Goals as goal

pub returns-then-is_learnt : goal.returns-then-is_learnt
returns-then-is_learnt c c' r event mine config possible before after held =
    let a = length (known c' r mine) == c.args.i in
    let b = length (known c' r (event ∷ mine)) == c.args.i + 1 in
    let told : c.is_learnt.result ≡ (a && b) = c.is_learnt.ensures ∙ ap (λ l. (length l == c.args.i) && (length c.args.known_after.now == c.args.i + 1)) before ∙ ap (λ l. a && (length l == c.args.i + 1)) after in
    let ends_here = eqb-true (length (known c' r mine)) c.args.i (and_parts a b (sym told ∙ c.if-is_learnt.true)).0 in
    third_added a b (has (lands_entry r c.args.p c.args.i c.args.b c.args.v) (leadership r (event ∷ mine))) c.is_learnt.result c.has_landed.result told c.if-is_learnt.true (c.has_landed.ensures c' r event mine config possible (omega (arith, ends_here)) held)

pub returns-else-is_learnt : goal.returns-else-is_learnt
returns-else-is_learnt c c' r event mine config possible before after held =
    let a = length (known c' r mine) == c.args.i in
    let b = length (known c' r (event ∷ mine)) == c.args.i + 1 in
    let told : c.is_learnt.result ≡ (a && b) = c.is_learnt.ensures ∙ ap (λ l. (length l == c.args.i) && (length c.args.known_after.now == c.args.i + 1)) before ∙ ap (λ l. a && (length l == c.args.i + 1)) after in
    c.if-is_learnt.false ∙ third_left a b (has (lands_entry r c.args.p c.args.i c.args.b c.args.v) (leadership r (event ∷ mine))) c.is_learnt.result told c.if-is_learnt.false
