use Rattle.std.proofs.Common.{Bool, List, Some, ◌%◌, ◌&&◌, ◌*◌, ◌+◌, ◌/◌, ◌<◌, ◌==◌, ◌≡◌, ◌∷◌, ◌∙◌, ap, arith, drop, length, subst, sym}
use Rattle.std.specs.Prelude.{◌||◌}
use Rattle.std.proofs.lemmas.Bool.{eq-eqb}
use Rattle.std.proofs.lemmas.List.{take_at}
use Rattle.mu_model.specs.Contents.{row_count}
use Rattle.mu_model.specs.Knowledge.{has_word}
use Rattle.mu_agree.proofs.Possible.{parts_shorten_law}
use Rattle.mu_agree.proofs.Within.{replica_is_low}
use Rattle.mu_knowledge.specs.HeldRows.{HasWords, IsOfRows, WroteWords, row_named}
use Rattle.mu_knowledge.proofs.Fetched.{own_word}
use Rattle.mu_knowledge.proofs.Placed.{event_of_rows}
use Rattle.mu_knowledge.proofs.held_rows.HeldRows.note_written.Goals as goal

pub returns : goal.returns
returns c mine e x good verb possible are held =
    let k = c.args.config.now in
    let r = c.args.r in
    let j = c.args.row in
    let word = c.args.word in
    let self = c.args.self.now in
    let near = event_of_rows k r mine e good possible in
    let names = subst (λ v. IsOfRows k v) verb near in
    let there = names.0 in
    let low = replica_is_low k r mine e good possible in
    let own = (parts_shorten_law k r mine e possible).by_own in
    let rows = good.few in
    let v = c.from.result * 4096 + c.from-2.result in
    let at : v ≡ r * 4096 + j = omega (arith, c.from.ensures, c.from-2.ensures) in
    let inside : v / 4096 < 7 = omega (arith, at, there, rows, low) in
    let small : v % 4096 < row_count k = omega (arith, at, there, rows, low) in
    let wrote_before = subst (λ (words : List Bool). WroteWords k r mine words) (sym c.deref_mut.ensures.value) held.written in
    let got_before = subst (λ (words : List Bool). HasWords k r mine words) (sym c.deref_mut-2.ensures.value) held.got in
    let wrote_back = take_at c.mark_written.new.written (drop (length c.mark_written.new.written) self.written.items) self.written.len (c.mark_written.auto.written ∙ c.deref_mut.ensures.len) in
    let got_back = take_at c.mark.new.got (drop (length c.mark.new.got) self.got.items) self.got.len (c.mark.auto.got ∙ c.deref_mut-2.ensures.len) in
    let written = subst (λ (words : List Bool). WroteWords k r (e ∷ mine) words) (sym wrote_back) (c.mark_written.ensures k r mine e x own verb there names.1 wrote_before) in
    let marked : HasWords k r (e ∷ mine) c.mark.new.got = λ u l far few least.
    c.mark.ensures (row_count k) (λ w n. has_word r w n mine) inside small names.1 got_before u l far few least
    ∙ ap Some (ap (λ w. ((u == w) && (l == word)) || has_word r u l mine) at ∙ own_word r u l j word x e mine verb (eq-eqb e.by r own) (omega (arith, there, rows))) in
    let got = subst (λ (words : List Bool). HasWords k r (e ∷ mine) words) (sym got_back) marked in
    c.advance.ensures r mine e good inside small near (ap (λ w. row_named r w) verb ∙ ap Some (sym at)) are written got held.applied
