use Rattle.std.proofs.Common.{Some, ap, arith, inl, inr, subst, sym, ◌≡◌, ◌∙◌}
use Rattle.std.specs.List.{slice_get}
use Rattle.std.proofs.lemmas.Bool.{cases_eq}
use Rattle.std.proofs.lemmas.Option.{slice_get-get_or, slice_get_within}
use Rattle.mu_model.proofs.Basics.{same_some}
use Rattle.mu_rows.specs.Rows.{IsCommand}
use Rattle.mu_cluster.proofs.spelling.are_commands.Goals as goal

pub loop-command-preserved : goal.loop-command-preserved
loop-command-preserved c j command low at =
    let commands = c.args.commands.now in
    let item = c.command-item.result in
    let found : slice_get commands c.loop-command.command-index ≡ Some item = slice_get-get_or commands c.loop-command.command-index item c.loop-command-test.true ∙ ap (λ x. Some x) (sym c.command-item.is) in
    elim (cases_eq j c.loop-command.command-index) [
      | inl same ↦ subst IsCommand (same_some item command (sym found ∙ ap (slice_get commands) (sym same) ∙ at)) c.is_command.ensures
      | inr other ↦ c.loop-command.invariant j command (omega (arith, low, other)) at
    ]

pub returns : goal.returns
returns c j command at =
    let low = slice_get_within c.args.commands.now j command at in
    let end = c.loop-command-test.false in
    c.loop-command.invariant j command (omega (arith, low, end)) at
