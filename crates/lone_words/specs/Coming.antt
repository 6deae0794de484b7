-- rows may come, decided: what was answered stays so, and what each replica has come to stays the
-- same, if the configuration gets more rows at the end; each replica decides by the rows it knows.
use Rattle.std.specs.Prelude.{List, [], ℕ, ◌∷◌, ◌≡◌}
use Rattle.mu_model.specs.declared.config.Config.{Config}
use Rattle.mu_model.specs.declared.config.Row.{Row}
use Rattle.mu_model.specs.Contents.{IsConfig}
use Rattle.mu_model.specs.Growing.{with_more}
use Rattle.mu_model.specs.Parts.{IsPossible}
use Rattle.lone_words.specs.declared.access.Shape.{Shape}
use Rattle.lone_words.specs.declared.access.Spot.{Spot}
use Rattle.lone_words.specs.Memory.{AreAnswered, IsAnsweredOnce, Made, held, own_after}
use Rattle.lone_words.specs.Spots.{IsShapeOf}

-- the accesses were answered with these rows too; what each replica has come to by them, and what each
-- word holds after them, is the same
pub record StayAnswered (c : Config) (more : List Row) (s : Shape) (past : List Made) : Type 0
  where
    pub answered : AreAnswered (with_more c more) s past
    pub own : (r : ℕ) → own_after (with_more c more) r past ≡ own_after c r past
    pub held : (spot : Spot) → held (with_more c more) s past spot ≡ held c s past spot

-- so it is whenever rows come
abbrev pub RowsMayCome : Type 0
RowsMayCome =
    (c : Config) (more : List Row) (s : Shape) (past : List Made) → IsConfig c
    → IsConfig (with_more c more) → IsShapeOf c s → AreAnswered c s past
    → StayAnswered c more s past

-- an access that was made, and the configuration with the rows that its replica knew when it decided
-- on it
pub record Decided : Type 0 where
  pub made : Made
  pub knew : Config

-- the accesses
abbrev pub accesses_of : List Decided → List Made
accesses_of [] = []
accesses_of (d ∷ past) = d.made ∷ accesses_of past

-- the replica might make the access by what it had come to and knew, the access does what its verb
-- asks for, and the replica was told what the word held
pub record IsDecidedOnce (s : Shape) (past : List Made) (d : Decided) : Type 0 where
  pub good : IsConfig d.knew
  pub possible : IsPossible d.knew d.made.by (own_after d.knew d.made.by past).0
  pub answered : IsAnsweredOnce d.knew s past d.made

-- so it was with each of the accesses
abbrev pub AreDecided : Shape → List Decided → Type 0
AreDecided s [] = Unit {0}
AreDecided s (d ∷ past) = AreDecided s past × IsDecidedOnce s (accesses_of past) d

-- the configuration begins with the rows by which each was decided
abbrev pub AreKnown : Config → List Decided → Type 0
AreKnown c [] = Unit {0}
AreKnown c (d ∷ past) = AreKnown c past × (more : List Row) × (c ≡ with_more d.knew more)

-- then they were answered with that configuration
abbrev pub DecidedAreAnswered : Type 0
DecidedAreAnswered =
    (c : Config) (s : Shape) (past : List Decided) → IsConfig c → AreKnown c past
    → AreDecided s past → AreAnswered c s (accesses_of past)
