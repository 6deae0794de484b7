-- decided, settled: what a replica decided to do may be done, and the replica is ready to take what
-- it finds; how it decided, and how it took the answer.
use Rattle.std.specs.Prelude.{List, false, is_some, length, true, ◌&&◌, ◌∷◌, ◌≡◌}
use Rattle.mu_model.specs.declared.event.Answer.{Answer}
use Rattle.mu_model.specs.declared.event.Event.{Event}
use Rattle.mu_model.specs.declared.event.Verb.{Verb}
use Rattle.mu_model.specs.Again.{asks_again}
use Rattle.mu_model.specs.Allowed.{Allowed}
use Rattle.mu_model.specs.Contents.{IsConfig}
use Rattle.mu_model.specs.Histories.{event_by}
use Rattle.mu_model.specs.Parts.{IsPossible}
use Rattle.mu_model.specs.Steps.{is_named}
use Rattle.mu_model.specs.Stretches.{is_odd}
use Rattle.mu_follow.specs.CatchingUp.{or_else}
use Rattle.mu_lead.specs.declared.note.Note.{Note}
use Rattle.mu_lead.specs.declared.place.Place.{Place}
use Rattle.mu_lead.specs.Again.{TellsAstray}
use Rattle.mu_lead.specs.Journal.{HasLeft, IsWhere}
use Rattle.mu_lead.specs.Standing.{HasHeeded}
use Rattle.mu_node.specs.declared.deciding.Decision.{Decision}
use Rattle.mu_node.specs.declared.node.Node.{Node}
use Rattle.mu_node.specs.declared.planning.Plan.{Plan}
use Rattle.mu_node.specs.Due.{FitsLead, IsIdle, asks_out_of_turn, idle_due, is_eager, lead_due, verb_or_beat}
use Rattle.mu_node.specs.Node.{HasPlanned, StandsForNode}
use Rattle.mu_node.specs.Notes.{HasTold, SaysTook, TellsTook, note_before}
use Rattle.mu_node.specs.Placed.{IsWherePlanned}
use Rattle.mu_node.specs.Plans.{due_of}
use Rattle.mu_node.specs.Reads.{IsReadNext}

-- it is the first ask of a replica that asks again, whose leader has left its leadership
pub record AsksAnew (mine : List Event) (node : Node) (decision : Decision) : Type 0 where
  pub verb : decision.plan.verb ≡ Verb.Ask 0
  pub stands : StandsForNode node.follow.config node.id mine node
  pub begins : node.lead.place ≡ Place.Ask 0
  pub heeded : HasHeeded mine node.lead
  pub odd : is_odd (length mine) ≡ true
  pub named : is_named node.follow.config node.id mine ≡ true
  pub asks : asks_again node.follow.config node.id mine ≡ true
  pub eager : is_eager node.zeal ≡ true

-- it is what was planned
pub record GoesOnByPlan (mine : List Event) (node : Node) (decision : Decision) : Type 0 where
  pub fits :
      FitsLead node.follow.config node.id mine node.lead decision.plan.leads (due_of decision.plan)
  pub turn : decision.plan.leads ≡ true → is_odd (length mine) ≡ true
  pub planned : HasPlanned node.follow.config node.id mine node
  pub made : decision.plan.verb ≡ verb_or_beat (due_of decision.plan)
  pub some : decision.plan.leads ≡ true → is_some (due_of decision.plan) ≡ true
  pub reads : IsReadNext node.follow.config node.id mine (verb_or_beat (due_of decision.plan))

-- the replica decided this after these events: it may do that, and is ready to take what it finds
pub record HasDecided (mine : List Event) (node : Node) (decision : Decision) : Type 0 where
  pub config : IsConfig node.follow.config
  pub allowed : Allowed node.follow.config node.id mine decision.plan.verb
  pub asks : decision.again ≡ true → AsksAnew mine node decision
  pub plans : decision.again ≡ false → GoesOnByPlan mine node decision

-- the node stands for these events with that of the answer once it took it, if that is possible
abbrev pub StandsAfter : List Event → Node → Decision → Answer → Node → Type 0
StandsAfter mine before decision answer after =
    IsPossible before.follow.config before.id
    (event_by before.id decision.plan.verb answer ∷ mine)
    → StandsForNode before.follow.config before.id
    (event_by before.id decision.plan.verb answer ∷ mine) after

-- before the answer its leader is where these events have it: it has left its leadership to ask
-- again, or a step is planned; if that of a turn of the leader isn't the leader's, it is a beat, or
-- the replica catches up
pub record IsReady (mine : List Event) (node : Node) (decision : Decision) : Type 0 where
  pub left : decision.again ≡ true → HasLeft node.follow.config node.id mine node.lead
  pub planned :
      decision.again ≡ false → IsWherePlanned node.follow.config node.id mine node.lead
  pub idles :
      decision.again ≡ false → decision.plan.leads ≡ false
      → IsIdle node.follow.config node.id mine node.lead (verb_or_beat (due_of decision.plan))

-- and it is after it
abbrev pub IsPlacedAfter : List Event → Node → Decision → Answer → Node → Type 0
IsPlacedAfter mine before decision answer after =
    IsReady mine before decision
    → IsPossible before.follow.config before.id
    (event_by before.id decision.plan.verb answer ∷ mine)
    → IsWhere before.follow.config before.id
    (event_by before.id decision.plan.verb answer ∷ mine) after.lead

-- so it decided since a region has gone astray, which its note names
pub record LeavesToAsk (mine : List Event) (before : Node) (note : Note) : Type 0 where
  pub out : asks_out_of_turn before.zeal before.follow.config before.id mine ≡ true
  pub odd : is_odd (length mine) ≡ true
  pub told : TellsAstray before.follow.config before.id mine note

-- so it decided by the turn: its leader was told which leader the scores name in a turn of its own,
-- in which what it has due is made, or what an idle turn gives
pub record PlansByTurn (mine : List Event) (before after : Node) (plan : Plan) : Type 0 where
  pub calm :
      is_odd (length mine) ≡ true
      → asks_out_of_turn before.zeal before.follow.config before.id mine ≡ false
  pub leads :
      plan.leads
      ≡ (is_odd (length mine)
      && is_some (lead_due before.follow.config before.id mine before.lead))
  pub led :
      IsWhere before.follow.config before.id mine before.lead → is_odd (length mine) ≡ true
      → due_of plan
      ≡ or_else (lead_due before.follow.config before.id mine before.lead)
      (idle_due before.zeal before.follow.config before.id mine)
  pub heeded : plan.heeded ≡ note_before before.follow.config before.id mine before.lead
  pub told :
      is_odd (length mine) ≡ true
      → HasTold before.follow.config before.id mine before.lead after.lead
  pub lead : is_odd (length mine) ≡ false → after.lead ≡ before.lead

-- the answer to the first ask was taken: a leadership is under way, and the note is what was noted
-- before it
pub record SettlesAsk (mine : List Event) (before : Node) (heeded : Note) (answer : Answer)
    (after : Node) (note : Note) : Type 0 where
  pub going :
      IsPossible before.follow.config before.id (event_by before.id (Verb.Ask 0) answer ∷ mine)
      → after.lead.under_way ≡ true
  pub heeds : note ≡ heeded

-- the answer to what was planned was taken, and noted as what it means
pub record SettlesPlan (mine : List Event) (before : Node) (plan : Plan) (answer : Answer)
    (after : Node) (note : Note) : Type 0 where
  pub tells :
      TellsTook before.follow.config before.id mine plan.leads (due_of plan) plan.heeded answer note
  pub says :
      SaysTook before.follow.config before.id mine plan.leads (due_of plan) plan.heeded before.lead
      after.lead answer note
