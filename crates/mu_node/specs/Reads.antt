-- reads next: a replica read only rows of known batches, up to the first that it hadn't applied.
use Rattle.std.specs.Prelude.{List, [], length, ℕ, ◌∷◌, ◌≤◌}
use Rattle.mu_model.specs.declared.config.Config.{Config}
use Rattle.mu_model.specs.declared.event.Event.{Event}
use Rattle.mu_model.specs.declared.event.Verb.{Verb}
use Rattle.mu_model.specs.Knowledge.{applied}
use Rattle.mu_knowledge.specs.RowWords.{IsOfKnown}

-- w is the payload number of a row of a known batch, up to the first that isn't applied
pub record IsNext (c : Config) (r : ℕ) (mine : List Event) (w : ℕ) : Type 0 where
  pub of : IsOfKnown c r mine w
  pub low : of.position ≤ length (applied c r mine)

-- if the step reads a row, it is such
abbrev pub IsReadNext : Config → ℕ → List Event → Verb → Type 0
IsReadNext c r mine (Verb.ReadRow w k) = IsNext c r mine w
IsReadNext c r mine _ = Unit {0}

-- r read only such rows
abbrev pub ReadsNext : Config → ℕ → List Event → Type 0
ReadsNext c r [] = Unit {0}
ReadsNext c r (e ∷ mine) = ReadsNext c r mine × IsReadNext c r mine e.verb
