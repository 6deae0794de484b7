use Rattle.std.proofs.Common.{Bool, List, Some, ◌&&◌, ◌==◌, ◌≡◌, ◌∷◌, ◌∙◌, ap, drop, length, subst, sym}
use Rattle.std.specs.Prelude.{◌||◌}
use Rattle.std.proofs.lemmas.Bool.{eq-eqb}
use Rattle.std.proofs.lemmas.List.{take_at}
use Rattle.mu_model.specs.Contents.{row_count}
use Rattle.mu_model.specs.Knowledge.{has_word}
use Rattle.mu_agree.proofs.Possible.{parts_shorten_law}
use Rattle.mu_knowledge.specs.HeldRows.{HasWords, IsOfRows, WroteWords, row_named}
use Rattle.mu_knowledge.proofs.Fetched.{read_word}
use Rattle.mu_knowledge.proofs.Placed.{event_of_rows}
use Rattle.mu_knowledge.proofs.held_rows.HeldRows.note_read.Goals as goal

pub returns : goal.returns
returns c r mine e good verb possible are held =
    let k = c.args.config.now in
    let v = c.args.v in
    let word = c.args.word in
    let self = c.args.self.now in
    let near = event_of_rows k r mine e good possible in
    let names = subst (λ w. IsOfRows k w) verb near in
    let own = (parts_shorten_law k r mine e possible).by_own in
    let at : c.from.result ≡ v = c.from.ensures in
    let again : c.from-2.result ≡ v = c.from-2.ensures in
    let got_before = subst (λ (words : List Bool). HasWords k r mine words) (sym c.deref_mut.ensures.value) held.got in
    let got_back = take_at c.mark.new.got (drop (length c.mark.new.got) self.got.items) self.got.len (c.mark.auto.got ∙ c.deref_mut.ensures.len) in
    let written : WroteWords k r (e ∷ mine) self.written.items = rw verb held.written in
    let marked : HasWords k r (e ∷ mine) c.mark.new.got = λ u l far few least.
    c.mark.ensures (row_count k) (λ w n. has_word r w n mine) (rw at names.0) (rw at names.1.0) names.1.1 got_before u l far few least
    ∙ ap Some (ap (λ w. ((u == w) && (l == word)) || has_word r u l mine) at ∙ read_word r u l v word e mine verb (eq-eqb e.by r own)) in
    let got = subst (λ (words : List Bool). HasWords k r (e ∷ mine) words) (sym got_back) marked in
    c.advance.ensures r mine e good (rw again names.0) (rw again names.1.0) near (ap (λ w. row_named r w) verb ∙ ap Some (sym again)) are written got held.applied
