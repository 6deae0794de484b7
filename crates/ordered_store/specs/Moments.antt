-- moment, answer, goes on (moments): what was submitted to a store and how far its order is, a reply
-- of the store at the place of a command in the order, and what holds of a later moment.
use Rattle.std.specs.Prelude.{ℕ, ◌≡◌, ◌≤◌, List, [], ◌∷◌, ◌++◌, length, Some}
use Rattle.std.specs.List.{slice_get}
use Rattle.kv_store.specs.Commands.{Request}
use Rattle.kv_store.specs.Tables.{replies}
use Rattle.kv_store.specs.declared.command.Op.{Op}
use Rattle.kv_store.specs.declared.store.Reply.{Reply}

-- what was submitted, by row, and the commands that stand in the order so far, which may be of
-- others too
pub record Moment : Type 0 where
  pub submitted : List Request
  pub order : List Request

-- these begin so
pub record Begins (whole front : List Request) : Type 0 where
  pub rest : List Request
  pub is : whole ≡ front ++ rest

-- the command of the row stands in the order, and this is the reply there of one store that takes
-- the commands one by one, and began empty
pub record IsAnswer (moment : Moment) (row : ℕ) (reply : Reply) : Type 0 where
  pub place : ℕ
  pub command : Request
  pub submitted : slice_get moment.submitted row ≡ Some command
  pub ordered : slice_get moment.order place ≡ Some command
  pub replied : slice_get (replies moment.order) place ≡ Some reply

-- a later moment: there may be more rows, the order goes on, and what was submitted in between
-- stands behind all that stood in the order before
pub record GoesOn (before after : Moment) : Type 0 where
  pub submitted : Begins after.submitted before.submitted
  pub order : Begins after.order before.order
  pub in_time :
      (row place : ℕ) (command : Request) → length before.submitted ≤ row
      → slice_get after.submitted row ≡ Some command
      → slice_get after.order place ≡ Some command → length before.order ≤ place

-- the moment with one row more
abbrev pub with_row : Moment → Request → Moment
with_row moment command = record {
  submitted = moment.submitted ++ command ∷ [];
  order = moment.order;
}

-- the moment with a longer order
abbrev pub with_more : Moment → List Request → Moment
with_more moment more = record {
  submitted = moment.submitted;
  order = moment.order ++ more;
}

-- a store that was at this moment takes the next row for a command of this operation, which stands
-- nowhere in the order yet
pub record Takes (stands : Moment → Type 0) (moment : Moment) (op : Op) (row : ℕ) : Type 0 where
  pub next : row ≡ length moment.submitted
  pub command : Request
  pub asks : command.op ≡ op
  pub new : (place : ℕ) → slice_get moment.order place ≡ Some command → ⊥
  pub now : stands (with_row moment command)

-- a store that was at this moment puts more commands into the order, behind all others
pub record Orders (stands : Moment → Type 0) (moment : Moment) : Type 0 where
  pub more : List Request
  pub now : stands (with_more moment more)
