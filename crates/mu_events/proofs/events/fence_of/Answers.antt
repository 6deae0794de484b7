use Rattle.std.proofs.Common.{◌∙◌, ap}
use Rattle.mu_events.specs.Events.{fence_of}
use Rattle.mu_events.proofs.EventWords.{fence_of-first}
use Rattle.mu_text.specs.Lines.{words}
use Rattle.mu_events.proofs.events.fence_of.Goals as goal

pub returns : goal.returns
returns c = c.fence_of_words.ensures ∙ ap fence_of c.split_words-count.ensures.words ∙ fence_of-first (words c.args.text.now)
