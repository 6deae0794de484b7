use Rattle.std.proofs.Common.{◌∙◌, ap}
use Rattle.std.specs.List.{slice_get}
use Rattle.mu_cluster.proofs.Wording.{are_spelled}
use Rattle.mu_cluster.proofs.spelling.rows_spell_commands.Goals as goal

pub returns : goal.returns
returns c =
    are_spelled c.args.job.now.config c.args.job.now.commands c.requires.config c.requires.heads c.requires.rows
    (λ j command at. c.are_commands.ensures j command (ap (λ l. slice_get l j) c.as_slice.ensures ∙ at))
