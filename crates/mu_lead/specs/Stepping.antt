-- answered, step: the verb that was due to the leader was answered so; the step that it makes then:
-- its leaderships, its number, its tables, its place and its note.
use Rattle.std.specs.Prelude.{Bool, List, None, Some, false, is_some, nat_lt, not, true, ℕ, ◌&&◌, ◌+◌, ◌<◌, ◌^◌, ◌||◌, ◌∷◌, ◌≡◌}
use Rattle.std.specs.declared.option.Option.{Option}
use Rattle.mu_model.specs.declared.config.Config.{Config}
use Rattle.mu_model.specs.declared.event.Answer.{Answer}
use Rattle.mu_model.specs.declared.event.Event.{Event}
use Rattle.mu_model.specs.declared.event.Verb.{Verb}
use Rattle.mu_model.specs.Knowledge.{known}
use Rattle.mu_model.specs.Parts.{IsPossible}
use Rattle.mu_model.specs.Scores.{is_failed}
use Rattle.mu_knowledge.specs.KnownLog.{HoldsValues}
use Rattle.mu_knowledge.specs.declared.known_log.KnownLog.{KnownLog}
use Rattle.mu_leadership.specs.Leadership.{StandsForLeadership}
use Rattle.mu_lead.specs.declared.lead.Lead.{Lead}
use Rattle.mu_lead.specs.declared.note.Note.{Note}
use Rattle.mu_lead.specs.declared.place.Place.{Place}
use Rattle.mu_lead.specs.Going.{begins_at, going_after}
use Rattle.mu_lead.specs.Journal.{WritesTo}
use Rattle.mu_lead.specs.Lasting.{GoesTo, tables_of}
use Rattle.mu_lead.specs.Leading.{end_of}
use Rattle.mu_lead.specs.Listing.{Tables, member_from, noted_from, number_told, or_else}
use Rattle.mu_lead.specs.Noting.{next_note}
use Rattle.mu_lead.specs.Sets.{is_bit}
use Rattle.mu_lead.specs.Standing.{At, HasHeeded, NumberAfter, Stands, StandsFor, known_told, verb_of}

-- a verb that changes nothing of a leadership but what is looked at, read and raised
abbrev pub is_calm : Verb → Bool
is_calm (Verb.Ask p) = false
is_calm (Verb.Fence p) = false
is_calm (Verb.Min p) = false
is_calm (Verb.Enter p t) = false
is_calm (Verb.PutMin p b) = false
is_calm (Verb.PutSlot p i b v) = false
is_calm _ = true

-- the region, if there is one, is one of the configuration
abbrev pub IsRegion : Config → Option ℕ → Type 0
IsRegion c None = Unit {0}
IsRegion c (Some q) = q < c.replicas

-- this holds of any events that the leader stands for, if the values and the log are what is known
-- by them
abbrev pub ByKnown :
    Lead → List ℕ → KnownLog → (Config → ℕ → List Event → Type 0) → Type 0
ByKnown l values log holds =
    HoldsValues l.config values log → (now : List Event) → Stands now l
    → values ≡ known l.config l.id now → holds l.config l.id now

-- the region is found from p on, and after p, as the listing has it
abbrev pub FindsFrom :
    Lead → (Config → ℕ → List Event → ℕ → Option ℕ) → ℕ → Option ℕ → Type 0
FindsFrom l of p found = (now : List Event) → Stands now l → found ≡ of l.config l.id now p

abbrev pub FindsAfter :
    Lead → (Config → ℕ → List Event → ℕ → Option ℕ) → ℕ → Option ℕ → Type 0
FindsAfter l of p found =
    (now : List Event) → Stands now l → p < l.config.replicas
    → found ≡ of l.config l.id now (p + 1)

-- the place of the first region whose grant is noted, or that of rest
abbrev pub GoesToNoted : Lead → (ℕ → Place) → Place → Type 0
GoesToNoted l there place =
    (now : List Event) → Stands now l
    → place ≡ or_else (noted_from l.config l.id now 0) there Place.Rest

-- a put landed
abbrev pub is_done : Answer → Bool
is_done Answer.Done = true
is_done answer = false

-- the put of the offer at p landed, and no member after p is left
abbrev pub lands_last : Config → ℕ → List Event → Answer → ℕ → Bool
lands_last c r now a p = is_done a && not (is_some (member_from c r now (p + 1)))

-- what the leader goes by besides its state, at the place that was answered: what is known after the
-- answer (after a put of the offer, before it), that a minimum is one that is put, and whether the
-- replica of a head counts as failed
abbrev pub GoesBy :
    Config → ℕ → ℕ → List Event → List Event → List ℕ → Answer → Place → Type 0
GoesBy c r failed past now values a (Place.LateMin p) = number_told a < 2 ^ 32
GoesBy c r failed past now values a (Place.ReadHead q candidate) =
    (values ≡ known c r now) × (is_bit q failed ≡ is_failed r q now)
GoesBy c r failed past now values a (Place.Put p offer) =
    (values ≡ known c r past)
    × (nat_lt (end_of c r past) (end_of c r now) ≡ lands_last c r now a p)
GoesBy c r failed past now values a place = values ≡ known c r now

-- the leader, still at the place that was answered, has its leaderships and its tables with the
-- answer; past are the events before it, and t the tables then
pub record HasTaken (past now : List Event) (t : Tables) (values : List ℕ) (answer : Answer)
    (l : Lead) : Type 0 where
  pub at : At l.config l.id l.number past t.up t.reach t.written l.place
  pub stands : Stands now l
  pub goes : GoesBy l.config l.id l.failed past now values answer l.place

-- the verb was due to the leader after these events, and was answered so; the values are those known
-- then
pub record IsAnswered (mine : List Event) (l : Lead) (values : List ℕ) (verb : Verb)
    (answer : Answer) : Type 0 where
  pub stands : StandsFor mine l
  pub heeded : HasHeeded mine l
  pub due : verb_of l (known l.config l.id mine) ≡ Some verb
  pub possible :
      IsPossible l.config l.id (record { by = l.id; verb = verb; answer = answer } ∷ mine)
  pub told : values ≡ known_told l.config l.id mine l.id verb answer

-- the leader's step from these events: it keeps its leaderships with the event, picks the number if
-- it has to, has the tables that the verb leaves, goes to the place that follows, and gives the note
-- of the place that was answered
pub record Steps (mine : List Event) (old : Lead) (values : List ℕ) (log : KnownLog) (verb : Verb)
    (answer : Answer) (new : Lead) (told : Note) : Type 0 where
  pub leading :
      StandsForLeadership old.id (record { by = old.id; verb = verb; answer = answer } ∷ mine)
      new.leading
  pub number :
      NumberAfter old.config old.id old.number new.number
      (record { by = old.id; verb = verb; answer = answer } ∷ mine) old.place
  pub tables : WritesTo old mine verb answer new
  pub place :
      HoldsValues old.config values log
      → GoesTo old (record { by = old.id; verb = verb; answer = answer } ∷ mine) answer
      old.place new
  pub note :
      told
      ≡ next_note old.config old.id old.number mine
      (record { by = old.id; verb = verb; answer = answer } ∷ mine)
      (tables_of old) answer old.place

-- the leader makes that step of any events after which the verb was answered so; it is that of the
-- same replica, told the same by the scores, and its leadership goes on as the verb began it and
-- the note ends it
pub record MakesStep (old : Lead) (values : List ℕ) (log : KnownLog) (verb : Verb)
    (answer : Answer) (new : Lead) (note : Note) : Type 0 where
  pub steps :
      (mine : List Event) → IsAnswered mine old values verb answer
      → Steps mine old values log verb answer new note
  pub config : new.config ≡ old.config
  pub id : new.id ≡ old.id
  pub named : new.named ≡ old.named
  pub failed : new.failed ≡ old.failed
  pub going : new.under_way ≡ going_after (begins_at old.place || old.under_way) note

-- what a step is written into the table of positions by: what is known, the region of a FUO, and
-- whether a put made its entry known
pub record IsWritten (c : Config) (r : ℕ) (past : List Event) (verb : Verb) (answer : Answer)
    (values : List ℕ) (commits : Bool) : Type 0 where
  pub told : values ≡ known_told c r past r verb answer
  pub region : (p : ℕ) → verb ≡ Verb.Fuo p → p < 7
  pub grows :
      (p i b v : ℕ) → verb ≡ Verb.PutSlot p i b v → answer ≡ Answer.Done
      → nat_lt i (end_of c r past) ≡ false
      → commits
      ≡ nat_lt (end_of c r past)
      (end_of c r (record { by = r; verb = verb; answer = answer } ∷ past))
