-- turn, left, result: what a turn of a replica does, and what it leaves.
use Rattle.std.specs.Prelude.{Bool, List, None, Some, false, map, true, ℕ, ◌∷◌, ◌≡◌}
use Rattle.std.specs.declared.option.Option.{Option}
use Rattle.kv_store.specs.Commands.{Request}
use Rattle.kv_store.specs.Tables.{replies}
use Rattle.mu_model.specs.declared.config.Config.{Config}
use Rattle.mu_model.specs.declared.event.Answer.{Answer}
use Rattle.mu_model.specs.declared.event.Event.{Event}
use Rattle.mu_model.specs.declared.event.Verb.{Verb}
use Rattle.mu_model.specs.declared.script.End.{End}
use Rattle.mu_model.specs.declared.script.Script.{Script}
use Rattle.mu_model.specs.Ends.{EndsBy}
use Rattle.mu_model.specs.Knowledge.{applied, commits}
use Rattle.mu_model.specs.Histories.{event_by}
use Rattle.mu_port.specs.Telling.{Tells}
use Rattle.mu_knowledge.specs.Commits.{pair_of}
use Rattle.mu_follow.specs.Groups.{AreSpelled, groups_of}
use Rattle.mu_node.specs.declared.result.NodeResult.{NodeResult}
use Rattle.mu_node.specs.declared.turn.Turn.{Turn}

-- one step of r: its part and the list that is told get its event
pub record IsOneStep (c : Config) (r : ℕ) (mine now : List Event)
    (before after : Option (List Event)) : Type 0 where
  pub verb : Verb
  pub answer : Answer
  pub part : now ≡ event_by r verb answer ∷ mine
  pub told : Tells c r before after verb answer

-- the events have no end yet
abbrev pub HasNoEnd : Config → Script → ℕ → List Event → Type 0
HasNoEnd c script r mine = (end : End) → EndsBy c script r mine end → ⊥

-- the end that is told is theirs, or they have none
abbrev pub TellsEnd : Config → Script → ℕ → List Event → Option End → Type 0
TellsEnd c script r mine None = HasNoEnd c script r mine
TellsEnd c script r mine (Some end) = EndsBy c script r mine end

-- what a turn did: one step if there was no end, and none at the end that it tells
abbrev pub IsTurn :
    Config → Script → ℕ → List Event → List Event → Option (List Event) → Option (List Event) → Turn
    → Type 0
IsTurn c script r mine now before after (Turn.Took note) =
    HasNoEnd c script r mine × IsOneStep c r mine now before after
IsTurn c script r mine now before after (Turn.Ended end) =
    EndsBy c script r mine end × (now ≡ mine) × (after ≡ before)

-- the end is another than that all is applied
abbrev pub halts : End → Bool
halts (End.Finished heads) = false
halts end = true

-- the end that is told is theirs and halts r, or they have none that does
abbrev pub TellsHalt : Config → Script → ℕ → List Event → Option End → Type 0
TellsHalt c script r mine None = (end : End) → EndsBy c script r mine end → halts end ≡ false
TellsHalt c script r mine (Some end) = EndsBy c script r mine end × (halts end ≡ true)

-- what a turn did that goes on though all is applied: one step if nothing halts r, and none at the
-- end that it tells
abbrev pub IsTurnOn :
    Config → Script → ℕ → List Event → List Event → Option (List Event) → Option (List Event) → Turn
    → Type 0
IsTurnOn c script r mine now before after (Turn.Took note) =
    TellsHalt c script r mine None × IsOneStep c r mine now before after
IsTurnOn c script r mine now before after (Turn.Ended end) =
    TellsHalt c script r mine (Some end) × (now ≡ mine) × (after ≡ before)

-- what a replica leaves is what the definitions give of its events; its replies are those of the
-- store to the commands that the rows of what it applied spell
pub record IsLeft (c : Config) (r : ℕ) (mine : List Event) (result : NodeResult) : Type 0 where
  pub log : result.log ≡ applied c r mine
  pub commits : map pair_of result.commits ≡ commits c r mine
  pub replies :
      (commands : List Request) → AreSpelled c commands
      → result.replies ≡ replies (groups_of c commands (applied c r mine))
