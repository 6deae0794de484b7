-- right sight: a get saw what the store holds after some first part of the commands of a list.
use Rattle.std.specs.Prelude.{ℕ, ◌≡◌, ◌≤◌, List, [], ◌∷◌, length, take, ⊤}
use Rattle.std.specs.FinMap as map
use Rattle.kv_store.specs.Commands.{Request}
use Rattle.kv_store.specs.Tables.{store}
use Rattle.snap_reads.specs.declared.sight.Sight.{Sight}

-- the sight saw no more than these commands, and what the store holds for the key after as many as
-- it says
pub record IsRight (commands : List Request) (sight : Sight) : Type 0 where
  pub within : sight.seen.upto ≤ length commands
  pub value : sight.seen.value ≡ map.get (store (take sight.seen.upto commands)) sight.key

abbrev pub AreRight : List Request → List Sight → Type 0
AreRight commands [] = ⊤
AreRight commands (sight ∷ sights) = IsRight commands sight × AreRight commands sights

-- no sight saw fewer commands than the one before it, nor than the least
abbrev pub NeverFall : ℕ → List Sight → Type 0
NeverFall least [] = ⊤
NeverFall least (sight ∷ sights) = (least ≤ sight.seen.upto) × NeverFall sight.seen.upto sights
