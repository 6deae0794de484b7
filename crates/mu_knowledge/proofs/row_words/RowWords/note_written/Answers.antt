use Rattle.std.proofs.Common.{List, Some, ap, drop, length, subst, sym, ℕ, ◌∷◌, ◌∙◌}
use Rattle.std.proofs.lemmas.Bool.{eq-eqb}
use Rattle.std.proofs.lemmas.List.{take_at}
use Rattle.mu_model.specs.Contents.{row_count}
use Rattle.mu_knowledge.specs.HeldRows.{IsOfRows}
use Rattle.mu_knowledge.specs.RowWords.{HoldWords, word_held}
use Rattle.mu_knowledge.proofs.Rows.{own_word_held}
use Rattle.mu_knowledge.proofs.row_words.RowWords.note_written.Goals as goal

pub returns : goal.returns
returns c k r mine e own verb near held =
    let self = c.args.self.now in
    let row = c.args.row in
    let word = c.args.word in
    let names = subst (λ v. IsOfRows k v) verb near in
    let before = subst (λ (words : List ℕ). HoldWords (row_count k) (λ j n. word_held r j n mine) words) (sym c.deref_mut.ensures.value) held in
    let back = take_at c.put.new.words (drop (length c.put.new.words) self.words.items) self.words.len (c.put.auto.words ∙ c.deref_mut.ensures.len) in
    let after : HoldWords (row_count k) (λ j n. word_held r j n (e ∷ mine)) c.put.new.words = λ i l low few.
    c.put.ensures (row_count k) (λ j n. word_held r j n mine) names.0 names.1 before i l low few
    ∙ ap Some (own_word_held r i l row word c.args.x e mine verb (eq-eqb e.by r own)) in
    subst (λ (words : List ℕ). HoldWords (row_count k) (λ j n. word_held r j n (e ∷ mine)) words) (sym back) after
