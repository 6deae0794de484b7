-- keeps, becomes, takes (node): what the parts of a turn keep of a node, what they need, and what
-- the node stands for after them.
use Rattle.std.specs.Prelude.{List, None, Some, false, is_some, length, true, ℕ, ◌<◌, ◌∷◌, ◌≡◌}
use Rattle.std.specs.declared.option.Option.{Option}
use Rattle.mu_model.specs.declared.config.Config.{Config}
use Rattle.mu_model.specs.declared.event.Answer.{Answer}
use Rattle.mu_model.specs.declared.event.Event.{Event}
use Rattle.mu_model.specs.declared.event.Verb.{Verb}
use Rattle.mu_model.specs.declared.script.End.{End}
use Rattle.mu_model.specs.declared.script.Script.{Script}
use Rattle.mu_model.specs.Allowed.{Allowed}
use Rattle.mu_model.specs.Contents.{IsConfig}
use Rattle.mu_model.specs.Parts.{IsPossible}
use Rattle.mu_model.specs.Stretches.{is_odd}
use Rattle.mu_model.specs.Histories.{event_by}
use Rattle.mu_follow.specs.Follow.{commit_of}
use Rattle.mu_lead.specs.declared.lead.Lead.{Lead}
use Rattle.mu_lead.specs.declared.note.Note.{Note}
use Rattle.mu_lead.specs.Journal.{IsWhere}
use Rattle.mu_lead.specs.Standing.{HasHeeded}
use Rattle.mu_node.specs.declared.node.Node.{Node}
use Rattle.mu_node.specs.declared.planning.Plan.{Plan}
use Rattle.mu_node.specs.Due.{FitsLead, IsIdle, lead_due, verb_or_beat}
use Rattle.mu_node.specs.Node.{AwaitsBeside, HasPlanned, HoldsBeside, StandsForNode}
use Rattle.mu_node.specs.Notes.{SaysTook, TellsTook}
use Rattle.mu_node.specs.Placed.{IsWherePlanned}
use Rattle.mu_node.specs.Plans.{due_of}
use Rattle.mu_node.specs.Reads.{IsReadNext}

-- whose node it is, its configuration, what it does when nothing is due, and its stops
pub record KeepsSelf (before after : Node) : Type 0 where
  pub config : after.follow.config ≡ before.follow.config
  pub id : after.id ≡ before.id
  pub zeal : after.zeal ≡ before.zeal
  pub stops : after.stops ≡ before.stops

-- its leader, its replies, and how many entries it has handed on, with some of these
pub record KeepsOthers (before after : Node) : Type 0 where
  pub lead : after.lead ≡ before.lead
  pub zeal : after.zeal ≡ before.zeal
  pub stops : after.stops ≡ before.stops
  pub answers : after.answers ≡ before.answers
  pub config : after.follow.config ≡ before.follow.config
  pub handed : after.follow.progress.handed ≡ before.follow.progress.handed

-- the node stands for these events, and may make a step after them
pub record MayStep (mine : List Event) (node : Node) : Type 0 where
  pub config : IsConfig node.follow.config
  pub possible : IsPossible node.follow.config node.id mine
  pub short : length mine < node.follow.config.budget
  pub stands : StandsForNode node.follow.config node.id mine node

-- the node stands for these events in this way
abbrev pub Becomes :
    (Config → ℕ → List Event → Node → Type 0) → List Event → Node → Node → Type 0
Becomes holds mine before after = holds before.follow.config before.id mine after

-- its leader, if it was where these events have it, is there in this way
abbrev pub MovesLead :
    (Config → ℕ → List Event → Lead → Type 0) → List Event → Node → Node → Type 0
MovesLead holds mine before after =
    IsWhere before.follow.config before.id mine before.lead
    → holds before.follow.config before.id mine after.lead

-- what is planned may be made, and is a beat if nothing is due; the leader's part in it is what the
-- leader has due; and it reads only what is to be read next
pub record IsPlan (c : Config) (r : ℕ) (mine : List Event) (lead : Lead) (plan : Plan) : Type 0
  where
    pub allowed : Allowed c r mine (verb_or_beat (due_of plan))
    pub made : plan.verb ≡ verb_or_beat (due_of plan)
    pub some : plan.leads ≡ true → is_some (due_of plan) ≡ true
    pub fits : FitsLead c r mine lead plan.leads (due_of plan)
    pub reads : IsReadNext c r mine (verb_or_beat (due_of plan))

-- in a turn of the leader in which it has nothing due, the node makes a beat or reads on
abbrev pub IdlesBy : List Event → Node → Node → Plan → Type 0
IdlesBy mine before after plan =
    IsWhere before.follow.config before.id mine before.lead → plan.leads ≡ false
    → IsIdle before.follow.config before.id mine after.lead (verb_or_beat (due_of plan))

-- this holds of any events before a background turn of a node that stands for them
abbrev pub InBackground : Node → (Config → ℕ → List Event → Type 0) → Type 0
InBackground node holds =
    (c : Config) → (r : ℕ) → (mine : List Event) → IsPossible c r mine → length mine < c.budget
    → is_odd (length mine) ≡ false → StandsForNode c r mine node → holds c r mine

-- the same of a node whose next step is planned
abbrev pub OncePlanned : Node → (Config → ℕ → List Event → Type 0) → Type 0
OncePlanned node holds =
    (c : Config) → (r : ℕ) → (mine : List Event) → IsPossible c r mine → length mine < c.budget
    → HasPlanned c r mine node → holds c r mine

-- all parts but the leader take an event that commits no entry
abbrev pub TakesBeside : Event → Node → Node → Type 0
TakesBeside e before after =
    (mine : List Event) → IsPossible before.follow.config e.by (e ∷ mine)
    → HoldsBeside before.follow.config e.by mine before
    → commit_of before.follow.config e.by mine e ≡ None
    → HoldsBeside before.follow.config e.by (e ∷ mine) after

-- if it commits one, the entry is to be told next
abbrev pub AwaitsTold : Event → Node → Node → Type 0
AwaitsTold e before after =
    (mine : List Event) → (entry : ℕ × ℕ) → IsPossible before.follow.config e.by (e ∷ mine)
    → HoldsBeside before.follow.config e.by mine before
    → commit_of before.follow.config e.by mine e ≡ Some entry
    → AwaitsBeside before.follow.config e.by mine e after

-- in its turn the leader has the verb due
pub record IsToTake (r : ℕ) (mine : List Event) (verb : Verb) (node : Node) : Type 0 where
  pub config : IsConfig node.follow.config
  pub heeded : HasHeeded mine node.lead
  pub due : lead_due node.follow.config r mine node.lead ≡ Some verb
  pub turn : is_odd (length mine) ≡ true
  pub planned : HasPlanned node.follow.config r mine node

-- the node takes the answer to it, and notes what it meant
pub record TakesLed (r : ℕ) (mine : List Event) (verb : Verb) (answer : Answer)
    (before after : Node) (told : Note) : Type 0 where
  pub stands :
      IsReadNext before.follow.config r mine verb
      → IsPossible before.follow.config r (event_by r verb answer ∷ mine)
      → StandsForNode before.follow.config r (event_by r verb answer ∷ mine) after
  pub placed :
      IsWherePlanned before.follow.config r mine before.lead
      → IsPossible before.follow.config r (event_by r verb answer ∷ mine)
      → IsWhere before.follow.config r (event_by r verb answer ∷ mine) after.lead
  pub zeal : after.zeal ≡ before.zeal
  pub stops : after.stops ≡ before.stops
  pub note : TellsTook before.follow.config r mine true (Some verb) Note.Working answer told
  pub says :
      SaysTook before.follow.config r mine true (Some verb) Note.Working before.lead after.lead
      answer told

-- the node stands for some events
abbrev pub HasEvents : Node → Type 0
HasEvents node =
    (c : Config) × (r : ℕ) × (mine : List Event) × IsConfig c × IsPossible c r mine
    × StandsForNode c r mine node

-- this holds of any events that it stands for
abbrev pub Leaves : Node → (Config → ℕ → List Event → Type 0) → Type 0
Leaves node holds =
    (c : Config) → (r : ℕ) → (mine : List Event) → IsConfig c → IsPossible c r mine
    → StandsForNode c r mine node → holds c r mine

-- the end of any such events is told, by a script with the node's stops
abbrev pub Ends :
    (Config → Script → ℕ → List Event → Option End → Type 0) → Node → Option End → Type 0
Ends tells node end =
    (c : Config) → (script : Script) → (r : ℕ) → (mine : List Event)
    → script.stops ≡ node.stops.items → IsConfig c → IsPossible c r mine
    → StandsForNode c r mine node → tells c script r mine end
