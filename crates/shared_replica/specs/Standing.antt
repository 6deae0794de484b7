-- stands for (shared), may take, goes on, takes: the value of a process stands for what its replica has
-- come to and what it knows of the list; what it does next, and what a word brings.
use Rattle.std.specs.Prelude.{Bool, List, None, Ok, Some, [], is_some, true, ℕ, ◌+◌, ◌==◌, ◌∷◌, ◌≡◌, ◌≤◌, ◌⊎◌}
use Rattle.std.specs.declared.option.Option.{Option}
use Rattle.kv_store.specs.Commands.{Request}
use Rattle.kv_store.specs.declared.command.Op.{Op}
use Rattle.lone_replica.specs.declared.due.Due.{Due}
use Rattle.lone_replica.specs.declared.replica.Next.{Next as LoneNext}
use Rattle.lone_replica.specs.Standing.{IsNext as IsNextOf, MayTake, StandsForReplica, judged_for}
use Rattle.lone_words.specs.Memory.{Own, own_with}
use Rattle.mu_inbox.specs.declared.access.Verb.{Verb as ListVerb}
use Rattle.mu_inbox.specs.declared.inbox.Inbox.{Inbox}
use Rattle.mu_inbox.specs.declared.taking.Came.{Came as ListCame}
use Rattle.mu_inbox.specs.Memory.{Made, has_found, has_taken}
use Rattle.mu_inbox.specs.Standing.{IsNext as IsNextInList, StandsForInbox, TakesVerb, is_done, made_with}
use Rattle.mu_model.specs.declared.config.Config.{Config}
use Rattle.mu_model.specs.declared.config.Row.{Row}
use Rattle.mu_model.specs.Contents.{row_count}
use Rattle.mu_rows.specs.Rows.{IsCommand, spelled}
use Rattle.shared_replica.specs.declared.going.Next.{Next}
use Rattle.shared_replica.specs.declared.shared.Found.{Found}
use Rattle.shared_replica.specs.declared.shared.SharedReplica.{SharedReplica}
use Rattle.shared_replica.specs.declared.taking.Came.{Came}
use Rattle.shared_replica.specs.Knowing.{Knows, ReadsCommand, with_command}

-- what a process began with, what it knows now, what its replica has come to, and its accesses to the
-- list, newest first
pub record Moment : Type 0 where
  pub base : Config
  pub knows : Config
  pub own : Own
  pub list : List Made

abbrev pub at_first : Config → Moment
at_first c = record { base = c; knows = c; own = ([], []); list = [] }

-- what was found was found by an access that is under way
abbrev pub IsUnderWay : Found → Option Due → Type 0
IsUnderWay Found.Nothing due = Unit {0}
IsUnderWay (Found.Unread word) due = is_some due ≡ true
IsUnderWay (Found.Read word) due = is_some due ≡ true

-- the value stands for it: the replica knows just the rows that were read, in their order
pub record StandsFor (at : Moment) (x : SharedReplica) : Type 0 where
  pub replica : StandsForReplica at.knows x.id at.own x.replica
  pub same : x.replica.id ≡ x.id
  pub list : StandsForInbox at.list x.list
  pub writer : x.list.id ≡ x.id
  pub client : x.id ≤ 15
  pub rows : Knows at.base at.list x.list.place at.knows
  pub found : IsUnderWay x.found x.replica.due

-- the command of client r for this operation, as it stands in the list
abbrev pub asked : ℕ → Op → Request
asked r op = record { client = r; number = 1; op = op }

-- the word that was found may be taken, if the replica doesn't refuse it
abbrev pub MayTakeWord : Moment → ℕ → ℕ → Option Due → Type 0
MayTakeWord at r word due =
    judged_for at.knows r at.own due word ≡ Ok tt → MayTake at.knows r at.own due word

abbrev pub MayTakeFound : Moment → ℕ → Found → Option Due → Type 0
MayTakeFound at r Found.Nothing due = Unit {0}
MayTakeFound at r (Found.Unread word) due = MayTakeWord at r word due
MayTakeFound at r (Found.Read word) due = MayTakeWord at r word due

-- this word was found
abbrev pub TakesFound : ℕ → Found → Type 0
TakesFound word Found.Nothing = ⊥
TakesFound word (Found.Unread n) = n ≡ word
TakesFound word (Found.Read n) = n ≡ word

-- what the replica has come to once it took what was found
abbrev pub own_taking : Moment → ℕ → Option Due → ℕ → Own
own_taking at r None word = at.own
own_taking at r (Some due) word = own_with at.knows r at.own due.decision.plan.verb word

abbrev pub own_found : Moment → ℕ → Option Due → Found → Own
own_found at r due Found.Nothing = at.own
own_found at r due (Found.Unread word) = own_taking at r due word
own_found at r due (Found.Read word) = own_taking at r due word

abbrev pub after_found : Moment → SharedReplica → Moment
after_found at x = record at { own = own_found at x.id x.replica.due x.found }

-- the list was read to its end since, or has come to its end
abbrev pub HasReadList : Found → Bool → Type 0
HasReadList Found.Nothing done = Unit {0}
HasReadList (Found.Unread word) done = done ≡ true
HasReadList (Found.Read word) done = Unit {0}

-- what the replica alone does next
abbrev pub next_of : LoneNext → Next
next_of (LoneNext.Access access) = Next.Word access
next_of (LoneNext.Halted end) = Next.Halted end

-- the replica has taken what it had found, which it does once the list is read, and goes on
pub record ReplicaGoesOn (at : Moment) (x : SharedReplica) (next : LoneNext) (after : SharedReplica) :
    Type 0 where
  pub stands : StandsFor (after_found at x) after
  pub does : IsNextOf after.replica.due next
  pub taken : after.found ≡ Found.Nothing
  pub read : HasReadList x.found (is_done x.list)
  pub list : after.list.place ≡ x.list.place

-- so it does if it makes an access to a host, or is halted; else the list is read
abbrev pub GoesOn : Moment → SharedReplica → Next → SharedReplica → Type 0
GoesOn at x (Next.Word access) after = ReplicaGoesOn at x (LoneNext.Access access) after
GoesOn at x (Next.Halted end) after = ReplicaGoesOn at x (LoneNext.Halted end) after
GoesOn at x (Next.List access) after =
    StandsFor at after × IsNextInList after.list after.list.due (Some access)
    × (after.found ≡ x.found)

-- with one access to the list more
abbrev pub with_made : Moment → Made → Moment
with_made at made = record at { list = made ∷ at.list }

-- with a command of the list more
abbrev pub knowing : Moment → Request → Moment
knowing at command = record at { knows = with_command at.knows command }

-- the list was found free at the place that it is read to, or closed
abbrev pub HasEnded : List Made → SharedReplica → Type 0
HasEnded own x = (has_found x.list.place (λ n. n == 0) own ≡ true) ⊎ (x.list.closed ≡ true)

-- its row was put at the place that it is at
abbrev pub HasPlaced : List Made → SharedReplica → Type 0
HasPlaced own x = (j : ℕ) × (has_taken x.list.place j own ≡ true)

-- what an access to the list brought: the next row of it was read, and the replica got it as its next
-- row; or nothing has come
abbrev pub Brings : Moment → Made → SharedReplica → ℕ → Came → SharedReplica → Type 0
Brings at made x found Came.Nothing after =
    StandsFor (with_made at made) after × (after.found ≡ Found.Unread found)
    × (after.list.place ≡ x.list.place)
Brings at made x found Came.Ended after =
    StandsFor (with_made at made) after × (after.found ≡ Found.Read found)
    × HasEnded (made ∷ at.list) after × (after.list.place ≡ x.list.place)
Brings at made x found (Came.Placed row) after =
    StandsFor (with_made at made) after × (after.found ≡ Found.Unread found)
    × (row ≡ row_count at.knows) × HasPlaced (made ∷ at.list) after
    × (after.list.place ≡ x.list.place)
Brings at made x found (Came.Row row) after =
    (command : Request) × StandsFor (knowing (with_made at made) command) after
    × (after.found ≡ Found.Unread found) × (row ≡ row_count at.knows)
    × ReadsCommand (made ∷ at.list) x.list.place command
    × (after.list.place ≡ x.list.place + 1)

abbrev pub BringsBy : Moment → SharedReplica → Option ListVerb → ℕ → ℕ → Came → SharedReplica → Type 0
BringsBy at x None word found came after = ⊥
BringsBy at x (Some verb) word found came after =
    Brings at (made_with x.list verb word) x found came after

-- a word that the replica found waits; one of the list brings what it does
abbrev pub TakesBy : Moment → SharedReplica → Found → ℕ → Came → SharedReplica → Type 0
TakesBy at x Found.Nothing word came after =
    StandsFor at after × (after.found ≡ Found.Unread word) × (came ≡ Came.Nothing)
    × (after.list ≡ x.list)
TakesBy at x (Found.Unread found) word came after = BringsBy at x x.list.due word found came after
TakesBy at x (Found.Read found) word came after = ⊥

abbrev pub TakesWord : Moment → SharedReplica → ℕ → SharedReplica → Came → Type 0
TakesWord at x word after came = TakesBy at x x.found word came after

-- what the list took
abbrev pub ListTook : Moment → SharedReplica → Option ListVerb → ℕ → Inbox → ListCame → Type 0
ListTook at x None word list came = ⊥
ListTook at x (Some verb) word list came = TakesVerb at.list x.list verb word list came

-- the row is a command, and the replica got it as its next row
abbrev pub Appends : Moment → SharedReplica → Row → ℕ → SharedReplica → Type 0
Appends at x row number after =
    (command : Request) × (row.words ≡ spelled command 0) × IsCommand command
    × (number ≡ row_count at.knows)
    × StandsForReplica (with_command at.knows command) x.id at.own after.replica
