use Rattle.std.proofs.Common.{◌∙◌}
use Rattle.mu_events.proofs.EventLines.{event-is, event-none}
use Rattle.mu_text.specs.Lines.{words}
use Rattle.mu_events.proofs.events.event.Goals as goal

pub returns : goal.returns
returns c = event-is c.args.replicas (words c.args.line.now) _ _ _ (c.in_ok-verb.verb, c.in_ok-verb.answer) (rw c.in_ok-rest.was at c.split_first.ensures) c.in_ok-by.ensures.is c.in_ok-verb.ensures

pub returns-in_err-verb : goal.returns-in_err-verb
returns-in_err-verb c = c.from_residual-in_err-verb.ensures ∙ event-none c.args.replicas (words c.args.line.now) _ _ (rw c.in_ok-rest.was at c.split_first.ensures) c.in_err-verb.ensures
