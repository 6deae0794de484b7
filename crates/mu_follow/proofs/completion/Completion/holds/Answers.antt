use Rattle.std.proofs.Common.{◌<◌, ◌≡◌, ◌∙◌, Some, ap, arith, length, subst, sym}
use Rattle.std.specs.List.{slice_get}
use Rattle.std.proofs.lemmas.Option.{slice_get-get_or}
use Rattle.mu_model.specs.Contents.{row_count}
use Rattle.mu_model.proofs.Basics.{same_some}
use Rattle.mu_follow.proofs.Growing.{entries_below}
use Rattle.mu_follow.proofs.completion.Completion.holds.Goals as goal

pub returns-in-None : goal.returns-in-None
returns-in-None c k values good held =
    let long = ap length c.deref.ensures.value in
    let rows = held.rows in
    sym (entries_below k values c.args.row good (omega (arith, c.in-None.ensures.lookup.3, long, rows, c.from.ensures)))

pub returns-in-Some : goal.returns-in-Some
returns-in-Some c k values good held =
    let marks = c.args.self.now.held.items in
    let mark = c.in-Some.is_held.now in
    let item = c.in-Some.ensures.lookup in
    let there = slice_get-get_or c.deref.result.now c.from.result mark item.3.0 ∙ ap Some (sym item.1) in
    let at = subst (λ q. slice_get marks q ≡ Some mark) c.from.ensures (subst (λ l. slice_get l c.from.result ≡ Some mark) c.deref.ensures.value there) in
    let long = ap length c.deref.ensures.value in
    let rows = held.rows in
    let low : c.args.row < row_count k = omega (arith, item.3.0, long, rows, c.from.ensures) in
    same_some _ _ (sym at ∙ held.held c.args.row low)
