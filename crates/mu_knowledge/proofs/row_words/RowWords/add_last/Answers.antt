use Rattle.std.proofs.Common.{[], ◌*◌, ◌++◌, ◌∷◌, ◌≡◌, ◌∙◌, ap, arith, replicate, subst, suc, sym, take}
use Rattle.mu_model.specs.Contents.{row_count}
use Rattle.mu_model.specs.Growing.{with_more}
use Rattle.mu_knowledge.specs.RowWords.{HoldWords, word_held}
use Rattle.mu_knowledge.proofs.Adding.{count_more}
use Rattle.mu_knowledge.proofs.Widening.{words_long, words_more}
use Rattle.mu_knowledge.proofs.row_words.RowWords.add_last.Goals as goal

pub returns : goal.returns
returns c k row r mine more same possible room held =
    let self = c.args.self.now in
    let now = c.args.config.now in
    let one : row_count now ≡ suc (row_count k) = ap row_count same ∙ count_more k row in
    let rows : c.saturating_sub-rows.result ≡ row_count k = omega (arith, c.saturating_sub-rows.ensures, c.len.ensures, one) in
    let few = more.few in
    let long = words_long k r mine self.words.items held in
    let words = c.add_words.ensures (omega (arith, rows, few, one)) (omega arith) (omega (arith, rows, long)) (omega (arith, rows, room))
    ∙ ap (λ m. take (m * 12) self.words.items ++ replicate 12 0) rows in
    subst (λ z. HoldWords (row_count z) (λ j k. word_held r j k mine) c.add_words.new.words.items) (sym same)
    (subst (HoldWords (row_count (with_more k (row ∷ []))) (λ j k. word_held r j k mine)) (sym words) (words_more k row r mine self.words.items possible held))
