-- law of word steps: what a step answers by the word that it finds, and what it leaves there, are
-- as the history says.
use Rattle.std.specs.Prelude.{List, ℕ, ◌∷◌, ◌≡◌, ◌≢◌}
use Rattle.mu_model.specs.declared.config.Config.{Config}
use Rattle.mu_model.specs.declared.event.Event.{Event}
use Rattle.mu_model.specs.declared.event.Verb.{Verb}
use Rattle.mu_model.specs.Allowed.{Allowed}
use Rattle.mu_model.specs.Answers.{answer_of}
use Rattle.mu_model.specs.Contents.{IsConfig}
use Rattle.mu_model.specs.Histories.{part}
use Rattle.mu_model.specs.Legal.{IsLegalHistory}
use Rattle.mu_words.specs.declared.layout.Name.{Name}
use Rattle.mu_words.specs.Finding.{expected, name_of, sights}
use Rattle.mu_words.specs.Standing.{standing_word}
use Rattle.mu_words.specs.Verbs.{answer_from, word_after}

-- the event that the step of r makes after a history
abbrev pub event_of : Config → ℕ → List Event → Verb → Event
event_of c r past v = record { by = r; verb = v; answer = answer_of c r past v }

-- a step of r on the word n, which expects x and finds w, answers as the history makes it; it
-- leaves the word that stands there after the event, and every other word stands for both histories
pub record IsWordStep (c : Config) (r : ℕ) (past : List Event) (v : Verb) (n : Name)
    (x w : ℕ) : Type 0 where
  pub answer : answer_from c.ring v x w ≡ answer_of c r past v
  pub here : standing_word c (event_of c r past v ∷ past) n ≡ word_after c.ring v x w
  pub others :
      (m : Name) → m ≢ n → standing_word c (event_of c r past v ∷ past) m ≡ standing_word c past m

-- so does the step of r on its word, which expects what r keeps and finds what stands
abbrev pub StepsByWord : Config → ℕ → List Event → Verb → Type 0
StepsByWord c r past v =
    IsWordStep c r past v (name_of c r (part r past) v)
    (expected c r (part r past) (sights c r past) v)
    (standing_word c past (name_of c r (part r past) v))

-- the law of word steps
abbrev pub WordSteps : Type 0
WordSteps =
    (c : Config) (r : ℕ) (past : List Event) (v : Verb) → IsConfig c → IsLegalHistory c past
    → Allowed c r (part r past) v → StepsByWord c r past v
