use Rattle.std.proofs.Common.{[], ◌*◌, ◌++◌, ◌∷◌, ◌≡◌, ◌∙◌, ap, arith, false, length, replicate, subst, suc, sym, take}
use Rattle.mu_model.specs.Contents.{IsConfig, row_count}
use Rattle.mu_model.specs.Knowledge.{applied}
use Rattle.mu_model.specs.Growing.{with_more}
use Rattle.mu_agree.proofs.Growing.{applied_kept}
use Rattle.mu_agree.proofs.Possible.{part_entries_stand_law}
use Rattle.mu_knowledge.specs.HeldRows.{HasWords, WroteWords}
use Rattle.mu_knowledge.proofs.Adding.{count_more}
use Rattle.mu_knowledge.proofs.Widening.{there_long, there_more, wrote_long, wrote_more}
use Rattle.mu_knowledge.proofs.held_rows.HeldRows.add_last.Goals as goal

pub returns : goal.returns
returns c k row r mine good more same possible room held =
    let self = c.args.self.now in
    let now = c.args.config.now in
    let one : row_count now ≡ suc (row_count k) = ap row_count same ∙ count_more k row in
    let rows : c.saturating_sub-rows.result ≡ row_count k = omega (arith, c.saturating_sub-rows.ensures, c.len.ensures, one) in
    let few = good.few in
    let long = wrote_long k r mine self.written.items held.written in
    let wide = there_long k r mine self.got.items good held.got in
    let space = room.written in
    let places = room.got in
    let written = c.add_marks.ensures (omega (arith, rows, few)) (omega arith) (omega (arith, rows, long)) (omega (arith, rows, space))
    ∙ ap (λ m. take (m * 12) self.written.items ++ replicate 12 false) rows in
    let got = c.add_marks-2.ensures (omega (arith, rows, few)) (omega arith) (omega (arith, rows, wide)) (omega (arith, rows, places))
    ∙ ap (λ m. take (m * 84) self.got.items ++ replicate 84 false) rows in
    record {
      written = subst (λ z. WroteWords z r mine c.add_marks.new.marks.items) (sym same) (subst (WroteWords (with_more k (row ∷ [])) r mine) (sym written) (wrote_more k row r mine self.written.items possible held.written));
      got = subst (λ z. HasWords z r mine c.add_marks-2.new.marks.items) (sym same) (subst (HasWords (with_more k (row ∷ [])) r mine) (sym got) (there_more k row r mine self.got.items good possible held.got));
      applied = held.applied ∙ ap length (sym (ap (λ z. applied z r mine) same ∙ applied_kept k (row ∷ []) r mine good (subst IsConfig same more) (λ i v at. part_entries_stand_law k r i v mine possible at)));
    }
