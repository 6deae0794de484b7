use Rattle.std.proofs.Common.{ap, sym, ◌∙◌}
use Rattle.std.specs.Option.{option_map}
use Rattle.std.specs.Prelude.{codes}
use Rattle.std.proofs.lemmas.Slice.Eq.{bytes_eq-Decides}
use Rattle.mu_model.specs.declared.event.Answer.{Answer}
use Rattle.mu_events.specs.Events.{answer_of}
use Rattle.mu_text.specs.Lines.{words}
use Rattle.mu_events.proofs.DigitAnswers.{digit-answer}
use Rattle.mu_events.proofs.events.answer_of.Goals as goal

pub returns-then-is_done : goal.returns-then-is_done
returns-then-is_done c = ap (λ text. answer_of (words text)) (sym ((bytes_eq-Decides c.args.text.now (codes "done")).0 (sym c.is_done.ensures ∙ c.if-is_done.true)))

pub returns-in_err-of_64 : goal.returns-in_err-of_64
returns-in_err-of_64 c =
    c.from_residual.ensures ∙ ap (option_map Answer.Number) c.in_err-of_64.ensures ∙ sym (digit-answer c.args.text.now (c.begins_with_digit.ensures c.if-begins_with_digit.true))

pub returns-in_ok-of_64 : goal.returns-in_ok-of_64
returns-in_ok-of_64 c = ap (option_map Answer.Number) c.in_ok-of_64.ensures ∙ sym (digit-answer c.args.text.now (c.begins_with_digit.ensures c.if-begins_with_digit.true))
