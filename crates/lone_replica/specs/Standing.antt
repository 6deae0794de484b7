-- stands for (replica), due, may take, is judged: the value of a replica stands for what it has come
-- to; the access that is under way; the words that it may be given, and how they are judged.
use Rattle.std.specs.Prelude.{Err, List, None, Ok, Some, [], if◌then◌else◌, ℕ, ◌∷◌, ◌≡◌, ◌≤◌}
use Rattle.std.specs.declared.option.Option.{Option}
use Rattle.std.specs.declared.result.Result.{Result}
use Rattle.mu_model.specs.declared.config.Config.{Config}
use Rattle.mu_model.specs.declared.event.Event.{Event}
use Rattle.mu_model.specs.declared.script.Script.{Script}
use Rattle.mu_model.specs.Contents.{IsConfig}
use Rattle.mu_model.specs.Parts.{IsPossible}
use Rattle.mu_words.specs.Finding.{name_of}
use Rattle.lone_words.specs.declared.access.Access.{Access}
use Rattle.lone_words.specs.declared.access.Shape.{Shape}
use Rattle.lone_words.specs.Accesses.{IsAccessOf, StandsForAccesses}
use Rattle.lone_words.specs.Memory.{IsFound, Own, own_with}
use Rattle.lone_words.specs.Right.{may_be_told}
use Rattle.mu_node.specs.declared.node.Node.{Node}
use Rattle.mu_node.specs.Deciding.{HasDecided}
use Rattle.mu_node.specs.Node.{StandsForNode}
use Rattle.mu_node.specs.Turns.{TellsHalt}
use Rattle.lone_replica.specs.declared.due.Due.{Due}
use Rattle.lone_replica.specs.declared.replica.Next.{Next}
use Rattle.lone_replica.specs.declared.replica.Replica.{Replica}
use Rattle.lone_replica.specs.declared.replica.Untaken.{Untaken}

-- the access that is under way
abbrev pub access_due : Option Due → Option Access
access_due None = None
access_due (Some due) = Some due.access

-- the node decided this, and the access is that of its verb
pub record IsDue (c : Config) (r : ℕ) (own : Own) (s : Shape) (node : Node) (due : Due) : Type 0
  where
    pub config : node.follow.config ≡ c
    pub id : node.id ≡ r
    pub decided : HasDecided own.0 node due.decision
    pub access : IsAccessOf c r own s due.decision.plan.verb due.access

-- the node lives for the events of r, or has decided what it does after them
abbrev pub HoldsNode : Config → ℕ → Own → Shape → Node → Option Due → Type 0
HoldsNode c r own s node None = StandsForNode c r own.0 node
HoldsNode c r own s node (Some due) = IsDue c r own s node due

-- the newest of these events, if there is one
abbrev pub newest_of : List Event → Option Event
newest_of [] = None
newest_of (e ∷ mine) = Some e

-- all but the node stands for what r has come to, which is part of some legal list
pub record HoldsParts (c : Config) (r : ℕ) (own : Own) (replica : Replica) : Type 0 where
  pub good : IsConfig c
  pub config : replica.config ≡ c
  pub id : replica.id ≡ r
  pub possible : IsPossible c r own.0
  pub accesses : StandsForAccesses c r own replica.accesses
  pub few : replica.accesses.shape.rows ≤ 1500
  pub last : replica.last ≡ newest_of own.0

-- the value stands for it
pub record StandsForReplica (c : Config) (r : ℕ) (own : Own) (replica : Replica) : Type 0 where
  pub parts : HoldsParts c r own replica
  pub node : HoldsNode c r own replica.accesses.shape replica.node replica.due

-- what it does next is the access under way
abbrev pub IsNext : Option Due → Next → Type 0
IsNext (Some due) (Next.Access access) = access ≡ due.access
IsNext None (Next.Halted end) = Unit {0}
IsNext due next = ⊥

-- what halts it does
abbrev pub TellsHalted : Config → Script → ℕ → List Event → Next → Type 0
TellsHalted c script r mine (Next.Access access) = Unit {0}
TellsHalted c script r mine (Next.Halted end) = TellsHalt c script r mine (Some end)

-- an access is under way, and some legal list leaves the word where it is made, and has what r has
-- come to
abbrev pub MayTake : Config → ℕ → Own → Option Due → ℕ → Type 0
MayTake c r own None word = ⊥
MayTake c r own (Some due) word = IsFound c r own due.decision.plan.verb word

-- what becomes of a word: it is refused if no access is under way, or if no legal list leaves it there
-- as far as the word itself tells; else it is taken
abbrev pub judged_for : Config → ℕ → Own → Option Due → ℕ → Result (Unit {0}) Untaken
judged_for c r own None word = Err Untaken.NotDue
judged_for c r own (Some due) word =
    if may_be_told c due.decision.plan.verb (name_of c r own.0 due.decision.plan.verb) word
    then Ok tt else Err Untaken.Stray

-- then the value stands for what r has come to with the event that the word makes
abbrev pub TakesWord : Config → ℕ → Own → Option Due → ℕ → Replica → Type 0
TakesWord c r own None word after = ⊥
TakesWord c r own (Some due) word after =
    StandsForReplica c r (own_with c r own due.decision.plan.verb word) after

-- and what it does next is told
abbrev pub GoesOnWith : Config → ℕ → Own → Option Due → ℕ → Next → Replica → Type 0
GoesOnWith c r own None word next after = ⊥
GoesOnWith c r own (Some due) word next after =
    StandsForReplica c r (own_with c r own due.decision.plan.verb word) after
    × IsNext after.due next
