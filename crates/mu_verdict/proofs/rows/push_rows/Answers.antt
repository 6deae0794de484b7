use Rattle.std.proofs.Common.{◌+◌, ◌%◌, ◌∷◌, [], ◌++◌, ◌∙◌, ap, append_assoc, sym}
use Rattle.mu_verdict.proofs.AddedRows.{rows_next}
use Rattle.mu_model.specs.Contents.{rows_from}
use Rattle.mu_verdict.proofs.rows.push_rows.Goals as goal

pub loop-place-preserved : goal.loop-place-preserved
loop-place-preserved c =
    let had = c.args.rows.now.items in
    let first = c.args.value % 4096 in
    let place = c.loop-place.place in
    c.in_ok-push.ensures.items
    ∙ ap (λ l. l ++ (first + place) ∷ []) c.loop-place.invariant
    ∙ append_assoc had (rows_from place first) ((first + place) ∷ [])
    ∙ ap (λ l. had ++ l) (sym (rows_next place first))
