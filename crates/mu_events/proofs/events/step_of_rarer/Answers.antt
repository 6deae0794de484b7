use Rattle.std.proofs.Common.{◌∙◌, sym}
use Rattle.mu_events.proofs.EventLines.{step-named}
use Rattle.mu_text.specs.Lines.{words}
use Rattle.mu_events.proofs.events.step_of_rarer.Goals as goal

pub returns : goal.returns
returns c = c.step_named.ensures ∙ sym (step-named (words c.args.text.now) _ _ (rw c.in_ok-rest.was at c.split_word.ensures))
