-- stands for (accesses), access of: what a replica keeps to make its accesses stands for what it has
-- come to; the access of a step, and when it may be made.
use Rattle.std.specs.Prelude.{ℕ, ◌≡◌}
use Rattle.mu_model.specs.declared.config.Config.{Config}
use Rattle.mu_model.specs.declared.event.Verb.{Verb}
use Rattle.mu_model.specs.Allowed.{Allowed}
use Rattle.mu_model.specs.Contents.{IsConfig}
use Rattle.mu_model.specs.Parts.{IsPossible}
use Rattle.mu_words.specs.Finding.{expected, name_of}
use Rattle.mu_words.specs.Founds.{FoundIs}
use Rattle.mu_words.specs.Places.{IsLayoutOf}
use Rattle.mu_words.specs.Standing.{close_grant}
use Rattle.mu_words.specs.Verbs.{IsMove}
use Rattle.lone_words.specs.declared.access.Access.{Access}
use Rattle.lone_words.specs.declared.access.Shape.{Shape}
use Rattle.lone_words.specs.declared.accesses.Accesses.{Accesses}
use Rattle.lone_words.specs.Memory.{Own}
use Rattle.lone_words.specs.Spots.{IsShapeOf, spot_of}

-- it stands for what r has come to
pub record StandsForAccesses (c : Config) (r : ℕ) (own : Own) (a : Accesses) : Type 0 where
  pub id : a.id ≡ r
  pub shape : IsShapeOf c a.shape
  pub layout : IsLayoutOf c a.layout
  pub rows : a.layout.rows ≡ a.shape.rows
  pub found : FoundIs c r a.found own.0 own.1

-- the access of the step of r: its spot, and what is done there
pub record IsAccessOf (c : Config) (r : ℕ) (own : Own) (s : Shape) (v : Verb)
    (a : Access) : Type 0 where
  pub spot : a.spot ≡ spot_of s (name_of c r own.0 v)
  pub step : IsMove c.ring (close_grant r own.0) v (expected c r own.0 own.1 v) a.step

-- the replica may make the step by what it has come to
pub record MayAccess (c : Config) (own : Own) (a : Accesses) (v : Verb) : Type 0 where
  pub config : IsConfig c
  pub possible : IsPossible c a.id own.0
  pub stands : StandsForAccesses c a.id own a
  pub allowed : Allowed c a.id own.0 v
