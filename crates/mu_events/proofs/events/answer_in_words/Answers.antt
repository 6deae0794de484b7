use Rattle.std.proofs.Common.{◌∙◌}
use Rattle.mu_events.proofs.EventWords.{answer_of-more}
use Rattle.mu_text.proofs.Cutting.{words-some}
use Rattle.mu_text.specs.Lines.{words}
use Rattle.mu_events.proofs.events.answer_in_words.Goals as goal

pub returns-in-Some : goal.returns-in-Some
returns-in-Some c =
    c.answer_of_many.ensures ∙ answer_of-more (words c.args.text.now) _ (words c.in-Some.rest.now) (rw c.in-Some.is at c.split_word.ensures) (words-some c.in-Some.rest.now)
