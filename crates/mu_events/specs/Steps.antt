-- step after: the verb and the answer of a step whose first words are known, from those that follow.
use Rattle.std.specs.Prelude.{ℕ, List, ◌++◌, None, Some}
use Rattle.std.specs.declared.option.Option.{Option}
use Rattle.mu_events.specs.Events.{answer_of, of_two, verb_of}
use Rattle.mu_model.specs.declared.event.Answer.{Answer}
use Rattle.mu_model.specs.declared.event.Verb.{Verb}

-- a verb and an answer, if both are there
abbrev pub both : Option Verb → Option Answer → Option (Verb × Answer)
both verb answer = of_two (λ verb answer. (verb, answer)) verb answer

-- the step of these words and the others before a `=`, with the answer after it
abbrev pub step_after :
    List (List ℕ) → Option (List (List ℕ) × List (List ℕ)) → Option (Verb × Answer)
step_after first None = None
step_after first (Some (others, answer)) = both (verb_of (first ++ others)) (answer_of answer)
