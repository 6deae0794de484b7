-- What the last event of a possible part names is there.
use Rattle.std.proofs.Common.{List, arith, ℕ, ◌∷◌, ◌≤◌}
use Rattle.mu_model.specs.declared.config.Config.{Config}
use Rattle.mu_model.specs.declared.event.Event.{Event}
use Rattle.mu_model.specs.declared.event.Verb.{Verb}
use Rattle.mu_model.specs.Allowed.{Needs}
use Rattle.mu_model.specs.Contents.{IsConfig}
use Rattle.mu_model.specs.Parts.{IsPossible}
use Rattle.mu_agree.proofs.Possible.{parts_shorten_law}
use Rattle.mu_knowledge.specs.HeldRows.{IsOfRows}
use Rattle.mu_knowledge.specs.KnownLog.{IsPlaced}

within : (c : Config) (r : ℕ) (mine : List Event) (verb : Verb) → c.replicas ≤ 7 → Needs c r mine verb → IsPlaced c verb
within c r mine (Verb.Look p i) few needs = (let low = needs.0 in omega arith, needs.1.0)
within c r mine (Verb.PutSlot p i b v) few needs = needs.1.0
within c r mine verb few needs = tt

-- what the last event of a possible part names is there
pub event_within : (c : Config) (r : ℕ) (mine : List Event) (e : Event) → IsConfig c → IsPossible c r (e ∷ mine) → IsPlaced c e.verb
event_within c r mine e good possible = within c r mine e.verb good.replicas.1 (parts_shorten_law c r mine e possible).allowed.may

of_rows : (c : Config) (r : ℕ) (mine : List Event) (verb : Verb) → c.replicas ≤ 7 → Needs c r mine verb → IsOfRows c verb
of_rows c r mine (Verb.WriteRow j k x) few needs = (needs.0, needs.1.0)
of_rows c r mine (Verb.ReadRow v k) few needs = (let low = needs.0 in omega arith, (needs.1.0, needs.1.1.0))
of_rows c r mine verb few needs = tt

-- the row and the word that the last event of a possible part names are there
pub event_of_rows : (c : Config) (r : ℕ) (mine : List Event) (e : Event) → IsConfig c → IsPossible c r (e ∷ mine) → IsOfRows c e.verb
event_of_rows c r mine e good possible = of_rows c r mine e.verb good.replicas.1 (parts_shorten_law c r mine e possible).allowed.may
