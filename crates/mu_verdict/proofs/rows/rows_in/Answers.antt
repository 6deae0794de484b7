use Rattle.std.proofs.Common.{◌+◌, ◌++◌, ◌∙◌, ap, append-nil, append_assoc, arith, drop, get_or, sym}
use Rattle.std.proofs.lemmas.List.{at_drop_more, drop_all}
use Rattle.mu_model.specs.Contents.{rows_in, rows_of}
use Rattle.mu_verdict.proofs.rows.rows_in.Goals as goal

pub loop-value-preserved : goal.loop-value-preserved
loop-value-preserved c =
    let config = c.args.config.now in
    let log = c.args.log.now in
    let i = c.loop-value.value-index in
    let had = c.loop-value.rows.items in
    let rest = rows_in config (drop (i + 1) log) in
    ap (λ l. l ++ rest) c.in_ok-push_rows.ensures
    ∙ append_assoc had (rows_of config (get_or log i 0)) rest
    ∙ ap (λ l. had ++ l) (sym (at_drop_more (rows_in config) log i 0 c.loop-value-test.true))
    ∙ c.loop-value.invariant

pub returns : goal.returns
returns c =
    let config = c.args.config.now in
    let log = c.args.log.now in
    let i = c.loop-value.value-index in
    let had = c.loop-value.rows.items in
    sym (append-nil had) ∙ (ap (λ l. had ++ rows_in config l) (sym (drop_all i log (omega (arith, c.loop-value-test.false)))) ∙ c.loop-value.invariant)
