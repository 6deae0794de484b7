-- stands for (leader), place, verb of a place: a leader's state stands for its replica's events:
-- its leaderships, its tables, and what holds at its place; and the verb of the place.
use Rattle.std.specs.Prelude.{List, None, Some, get_or, length, ℕ, ◌%◌, ◌+◌, ◌<◌, ◌∷◌, ◌≡◌}
use Rattle.std.specs.declared.option.Option.{Option}
use Rattle.mu_model.specs.declared.config.Config.{Config}
use Rattle.mu_model.specs.declared.event.Answer.{Answer}
use Rattle.mu_model.specs.declared.event.Event.{Event}
use Rattle.mu_model.specs.declared.event.Target.{Target}
use Rattle.mu_model.specs.declared.event.Verb.{Verb}
use Rattle.mu_model.specs.Contents.{IsConfig, config_word}
use Rattle.mu_model.specs.Entering.{number_allowed}
use Rattle.mu_model.specs.Knowledge.{grown, known}
use Rattle.mu_model.specs.Parts.{IsPossible}
use Rattle.mu_model.specs.Scores.{is_failed}
use Rattle.mu_leadership.specs.Leadership.{StandsForLeadership}
use Rattle.mu_lead.specs.declared.lead.Lead.{Lead}
use Rattle.mu_lead.specs.declared.place.Place.{Place}
use Rattle.mu_lead.specs.Confirming.{AtAsk, AtConfirm, AtEnterMin, AtEvidence, AtPutMin, AtReadMin}
use Rattle.mu_lead.specs.Leading.{AtEnterBehind, AtFenceBehind, AtLateEnter, AtLateFuo, AtLateMin, AtLatePut, AtLearn, AtPutBehind, AtRaise, AtRaiseBehind, AtReadFuo, AtWiden, HoldsTables, Late, Level, Near, end_of}
use Rattle.mu_lead.specs.Listing.{noted_from}
use Rattle.mu_lead.specs.Sets.{is_bit}
use Rattle.mu_lead.specs.Notes.{value_committed}
use Rattle.mu_lead.specs.declared.note.Note.{Note}
use Rattle.mu_lead.specs.Offering.{AtEnter, AtLook, AtOutrun, AtPut, AtReadHead, AtRest, AtWrite, LooksShow}

-- what holds at each place
abbrev pub At : Config → ℕ → ℕ → List Event → List ℕ → List (Option ℕ) → List ℕ → Place → Type 0
At c r b mine up reach written (Place.Ask p) = AtAsk c r mine p
At c r b mine up reach written (Place.Confirm round p) = (round < 16) × AtConfirm c r mine p
At c r b mine up reach written (Place.ReadMin p) = AtReadMin c r mine p
At c r b mine up reach written (Place.EnterMin p) = AtEnterMin c r b mine p
At c r b mine up reach written (Place.PutMin p) = AtPutMin c r b mine p
At c r b mine up reach written (Place.ReadFuo p source) = AtReadFuo c r b mine up reach p source
At c r b mine up reach written (Place.Learn p) = AtLearn c r b mine up reach p
At c r b mine up reach written (Place.WidenBehind p then) = AtWiden c r b mine up reach p then
At c r b mine up reach written (Place.LookBehind p then) = Near c r b mine up reach p then
At c r b mine up reach written (Place.EnterBehind p then) = AtEnterBehind c r b mine up reach p then
At c r b mine up reach written (Place.PutBehind p then) = AtPutBehind c r b mine up reach p then
At c r b mine up reach written (Place.RaiseBehind p then) = AtRaiseBehind c r b mine up reach p then
At c r b mine up reach written (Place.FenceBehind p then) = AtFenceBehind c r b mine up reach p then
At c r b mine up reach written (Place.LateFence p) = Late c r b mine up reach p
At c r b mine up reach written (Place.LateMin p) = AtLateMin c r b mine up reach p
At c r b mine up reach written (Place.LateFuo p) = AtLateFuo c r b mine up reach p
At c r b mine up reach written (Place.LateEnter p) = AtLateEnter c r b mine up reach p
At c r b mine up reach written (Place.LatePut p) = AtLatePut c r b mine up reach p
At c r b mine up reach written (Place.ReadHead q candidate) =
    AtReadHead c r b mine up reach q candidate
At c r b mine up reach written (Place.Look p i candidate best) =
    AtLook c r b mine up reach p i candidate best
At c r b mine up reach written (Place.Write j last offer) =
    AtWrite c r b mine up reach written j last offer × (get_or written j 12 < 12)
At c r b mine up reach written (Place.Enter p offer) =
    AtEnter c r b offer.value mine up reach p × LooksShow c r mine (end_of c r mine) offer.adopted
At c r b mine up reach written (Place.Put p offer) =
    AtPut c r b offer.value mine up reach p × LooksShow c r mine (end_of c r mine) offer.adopted
At c r b mine up reach written (Place.Raise p) = AtRaise c r b mine up reach p
At c r b mine up reach written (Place.Evidence p) = AtEvidence c r mine p
At c r b mine up reach written Place.Outrun = AtOutrun c r mine
At c r b mine up reach written Place.Rest = AtRest c r mine × Level c r b mine up reach

-- the state of the leader stands for the events of its replica
pub record StandsFor (mine : List Event) (l : Lead) : Type 0 where
  pub config : IsConfig l.config
  pub inside : l.id < l.config.replicas
  pub leading : StandsForLeadership l.id mine l.leading
  pub tables : HoldsTables l.config l.id mine l.up l.reach l.heads l.written.items
  pub at : At l.config l.id l.number mine l.up l.reach l.written.items l.place

-- the same except for its place, for a possible part
pub record Stands (mine : List Event) (l : Lead) : Type 0 where
  pub possible : IsPossible l.config l.id mine
  pub config : IsConfig l.config
  pub inside : l.id < l.config.replicas
  pub leading : StandsForLeadership l.id mine l.leading
  pub tables : HoldsTables l.config l.id mine l.up l.reach l.heads l.written.items

-- the verb of each place
abbrev pub verb_at : Config → ℕ → List ℕ → List ℕ → List ℕ → Place → Option Verb
verb_at c b values up written (Place.Ask p) = Some (Verb.Ask p)
verb_at c b values up written (Place.Confirm round p) = Some (Verb.Fence p)
verb_at c b values up written (Place.ReadMin p) = Some (Verb.Min p)
verb_at c b values up written (Place.EnterMin p) = Some (Verb.Enter p Target.Min)
verb_at c b values up written (Place.PutMin p) = Some (Verb.PutMin p b)
verb_at c b values up written (Place.ReadFuo p source) = Some (Verb.Fuo p)
verb_at c b values up written (Place.Learn p) = Some (Verb.Look p (length values))
verb_at c b values up written (Place.WidenBehind p then) = Some (Verb.RaiseFuo p (get_or up p 0))
verb_at c b values up written (Place.LookBehind p then) = Some (Verb.Look p (get_or up p 0))
verb_at c b values up written (Place.EnterBehind p then) =
    Some (Verb.Enter p (Target.Place (get_or up p 0 % c.ring)))
verb_at c b values up written (Place.PutBehind p then) =
    Some (Verb.PutSlot p (get_or up p 0) b (get_or values (get_or up p 0) 0))
verb_at c b values up written (Place.RaiseBehind p then) = Some (Verb.RaiseFuo p (get_or up p 0))
verb_at c b values up written (Place.FenceBehind p then) = Some (Verb.Fence p)
verb_at c b values up written (Place.LateFence p) = Some (Verb.Fence p)
verb_at c b values up written (Place.LateMin p) = Some (Verb.Min p)
verb_at c b values up written (Place.LateFuo p) = Some (Verb.Fuo p)
verb_at c b values up written (Place.LateEnter p) = Some (Verb.Enter p Target.Min)
verb_at c b values up written (Place.LatePut p) = Some (Verb.PutMin p b)
verb_at c b values up written (Place.ReadHead q candidate) = Some (Verb.Head q)
verb_at c b values up written (Place.Look p i candidate best) = Some (Verb.Look p i)
verb_at c b values up written (Place.Write j last offer) =
    Some (Verb.WriteRow j (get_or written j 12) (config_word c j (get_or written j 12)))
verb_at c b values up written (Place.Enter p offer) =
    Some (Verb.Enter p (Target.Place (length values % c.ring)))
verb_at c b values up written (Place.Put p offer) =
    Some (Verb.PutSlot p (length values) b offer.value)
verb_at c b values up written (Place.Raise p) = Some (Verb.RaiseFuo p (length values))
verb_at c b values up written (Place.Evidence p) = Some (Verb.Fence p)
verb_at c b values up written Place.Outrun = None
verb_at c b values up written Place.Rest = None

-- the leader has heeded which replicas its scores hold to be failed
abbrev pub HasHeeded : List Event → Lead → Type 0
HasHeeded mine l = (q : ℕ) → q < l.config.replicas → is_bit q l.failed ≡ is_failed l.id q mine

-- the verb of the leader's place, when these values are known
abbrev pub verb_of : Lead → List ℕ → Option Verb
verb_of l values = verb_at l.config l.number values l.up l.written.items l.place

-- what r knows after the event, without what its put has just made known
abbrev pub known_told : Config → ℕ → List Event → ℕ → Verb → Answer → List ℕ
known_told c r mine by (Verb.PutSlot p i b v) answer = known c r mine
known_told c r mine by verb answer =
    known c r (record { by = by; verb = verb; answer = answer } ∷ mine)

-- the number d after a step of the place: what the last minimum lets r pick, else the same
abbrev pub NumberAfter : Config → ℕ → ℕ → ℕ → List Event → Place → Type 0
NumberAfter c r b d now (Place.ReadMin p) =
    noted_from c r now (p + 1) ≡ None → number_allowed r now d None
NumberAfter c r b d now place = d ≡ b

-- by the answer to the verb that was due after these events the leader comes to what stands for the
-- events with it
abbrev pub TakesNext : List Event → Lead → List ℕ → Answer → Lead → Type 0
TakesNext mine old values answer new =
    (verb : Verb) → verb_of old (known old.config old.id mine) ≡ Some verb
    → IsPossible old.config old.id (record { by = old.id; verb = verb; answer = answer } ∷ mine)
    → values ≡ known_told old.config old.id mine old.id verb answer
    → StandsFor (record { by = old.id; verb = verb; answer = answer } ∷ mine) new

-- the bits say which replicas the scores of r hold to be failed
abbrev pub TellsFailed : Config → ℕ → List Event → ℕ → Type 0
TellsFailed c r mine failed = (q : ℕ) → q < c.replicas → is_bit q failed ≡ is_failed r q mine

-- the known list grew by a put exactly if the note says so, and by the value that it says
abbrev pub TellsNext : List Event → Lead → List ℕ → Answer → Note → Type 0
TellsNext mine old values answer note =
    (verb : Verb) → verb_of old (known old.config old.id mine) ≡ Some verb
    → IsPossible old.config old.id (record { by = old.id; verb = verb; answer = answer } ∷ mine)
    → values ≡ known_told old.config old.id mine old.id verb answer
    → known old.config old.id (record { by = old.id; verb = verb; answer = answer } ∷ mine)
    ≡ grown values (value_committed note)
