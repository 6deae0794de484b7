use Rattle.std.proofs.Common.{◌+◌, ◌++◌, ◌∙◌, ap, append-nil, append_assoc, arith, drop, sym}
use Rattle.std.proofs.lemmas.List.{drop_all}
use Rattle.mu_outcome.specs.Entries.{commands_in}
use Rattle.mu_outcome.proofs.LogCommands.{commands_in-drop}
use Rattle.mu_telling.proofs.replies.commands_in.Goals as goal

pub loop-value-preserved : goal.loop-value-preserved
loop-value-preserved c =
    let job = c.args.job.now in
    let log = c.args.log.now in
    let i = c.loop-value.value-index in
    let had = c.loop-value.commands.items in
    let rest = commands_in job (drop (i + 1) log) in
    ap (λ l. l ++ rest) c.in_ok-extend_from_slice.ensures.items
    ∙ (append_assoc had c.commands_of.result.now rest
    ∙ (ap (λ l. had ++ (l ++ rest)) c.commands_of.ensures ∙ (ap (λ l. had ++ l) (sym (commands_in-drop job log i c.loop-value-test.true)) ∙ c.loop-value.invariant)))

pub returns : goal.returns
returns c =
    let job = c.args.job.now in
    let log = c.args.log.now in
    let i = c.loop-value.value-index in
    let had = c.loop-value.commands.items in
    sym (append-nil had) ∙ (ap (λ l. had ++ commands_in job l) (sym (drop_all i log (omega (arith, c.loop-value-test.false)))) ∙ c.loop-value.invariant)
