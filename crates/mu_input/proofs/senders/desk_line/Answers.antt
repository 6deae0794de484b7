use Rattle.std.proofs.Common.{arith, sym, ap, ◌∙◌}
use Rattle.mu_input.specs.Settings.{settings_at}
use Rattle.mu_input.proofs.ClientsBeyond.{all_lines-is, for_desk, if_none}
use Rattle.mu_input.proofs.senders.desk_line.Goals as goal

pub returns-in-Ok-2-clause-serves : goal.returns-in-Ok-2-clause-serves
returns-in-Ok-2-clause-serves c =
    let settings = c.in-Ok.settings in
    let left = c.read_settings.new.lines in
    let limits = c.in-Ok.ensures.limits in
    if_none c.client_beyond.result (λ none given is.
    for_desk c.args.bytes.now settings left given (ap settings_at (sym (all_lines-is c.args.bytes.now c.new-lines.result c.new-lines.ensures.number c.new-lines.ensures.lines)) ∙ c.in-Ok.ensures.reading)
    (omega (arith, c.if-settings-eq2.false, limits.version_least, limits.version_most))
    (sym c.client_beyond.ensures ∙ none) is)
