-- What a possible part reads is there.
use Rattle.std.proofs.Common.{List, arith, ℕ, ◌∷◌, ◌≤◌}
use Rattle.mu_model.specs.declared.config.Config.{Config}
use Rattle.mu_model.specs.declared.event.Event.{Event}
use Rattle.mu_model.specs.declared.event.Verb.{Verb}
use Rattle.mu_model.specs.Allowed.{Allowed}
use Rattle.mu_model.specs.Parts.{IsPossible}
use Rattle.mu_agree.proofs.Possible.{parts_shorten_law}
use Rattle.mu_leadership.specs.Leadership.{ReadsWithin}

-- a region whose fence is read is one of seven
pub reads_within : (c : Config) (r : ℕ) (mine : List Event) (e : Event) → c.replicas ≤ 7 → IsPossible c r (e ∷ mine) → ReadsWithin 7 e.verb
reads_within c r mine e few possible = go e.verb (parts_shorten_law c r mine e possible).allowed
  where
    go : (verb : Verb) → Allowed c r mine verb → ReadsWithin 7 verb
    go (Verb.Fence p) allowed = let low = allowed.may.0 in omega arith
    go verb allowed = tt
