-- answered: what the answer of a port says that tells no list: some legal list has its part, the
-- answer is the one after that list, and it has its cause there.
use Rattle.std.specs.Prelude.{List, ℕ, ◌∷◌, ◌≡◌}
use Rattle.mu_model.specs.declared.config.Config.{Config}
use Rattle.mu_model.specs.declared.event.Event.{Event}
use Rattle.mu_model.specs.Answers.{answer_of}
use Rattle.mu_model.specs.Histories.{part}
use Rattle.mu_model.specs.Legal.{IsLegalHistory}
use Rattle.mu_model.specs.Parts.{IsPossible}
use Rattle.mu_port.specs.Causes.{HasCauses}

-- some legal history has the part of r before the event; the answer is the one after that history,
-- and if it is one of four that have causes it has its cause there
pub record IsAnswered (c : Config) (r : ℕ) (mine : List Event) (e : Event) : Type 0 where
  pub past : List Event
  pub legal : IsLegalHistory c past
  pub is : part r past ≡ mine
  pub answer : e.answer ≡ answer_of c r past e.verb
  pub causes : HasCauses c r past e.verb e.answer

-- so is the last event of each part that is possible
abbrev pub PossibleAreAnswered : Type 0
PossibleAreAnswered =
    (c : Config) (r : ℕ) (mine : List Event) (e : Event) → IsPossible c r (e ∷ mine)
    → IsAnswered c r mine e
