-- stands for (known log), telling verb: the state of what replica r has learnt stands for its events,
-- of which all but looks, puts of entries and reads of FUOs leave it as it was.
use Rattle.std.specs.Prelude.{Bool, List, None, Some, false, length, true, vec_capacity, ℕ, ◌+◌, ◌<◌, ◌∷◌, ◌≡◌, ◌≤◌}
use Rattle.std.specs.declared.option.Option.{Option}
use Rattle.std.specs.List.{slice_get}
use Rattle.mu_model.specs.declared.config.Config.{Config}
use Rattle.mu_model.specs.declared.event.Event.{Event}
use Rattle.mu_model.specs.declared.event.Verb.{Verb}
use Rattle.mu_model.specs.Contents.{IsConfig, command_count, marked, row_count, rows_in}
use Rattle.mu_model.specs.Histories.{has}
use Rattle.mu_model.specs.Knowledge.{entry_seen, greatest_fuo_read, is_accepted_by_all, known}
use Rattle.mu_model.specs.Parts.{IsPossible}
use Rattle.mu_model.specs.Room.{reserve}
use Rattle.mu_knowledge.specs.Offers.{StandsForClientRows}
use Rattle.mu_knowledge.specs.Telling.{TakesEvent}
use Rattle.mu_knowledge.specs.declared.known_log.KnownLog.{KnownLog}

-- for a put at position n the flag tells whether every member has taken it in the leadership, which
-- is not over; for other verbs it tells nothing
abbrev pub TellsAccepted : Config → ℕ → List Event → ℕ → Verb → Bool → Type 0
TellsAccepted c r now n (Verb.PutSlot p i b v) accepted =
    i ≡ n → accepted ≡ is_accepted_by_all c r now i b v
TellsAccepted c r now n _ accepted = Unit {0}

-- the flag, if there is one, is set
abbrev pub is_set : Option Bool → Bool
is_set None = false
is_set (Some flag) = flag

-- the replicas that have a mark among the values
abbrev pub MarksReplicas : Config → List ℕ → List Bool → Type 0
MarksReplicas c values marks = (q : ℕ) → q < 7 → slice_get marks q ≡ Some (marked c q values)

-- how many commands of each client the values hold
abbrev pub CountsCommands : Config → List ℕ → List ℕ → Type 0
CountsCommands c values counts =
    (client : ℕ) → client < 256 → slice_get counts client ≡ Some (command_count c client values)

-- the greatest FUO of each region that r has read
abbrev pub ReadsFuos : ℕ → List Event → List ℕ → Type 0
ReadsFuos r mine fuos = (p : ℕ) → p < 7 → slice_get fuos p ≡ Some (greatest_fuo_read r p mine)

-- the positions of its own region at which r has seen an entry
abbrev pub SeesEntries : ℕ → List Event → List Bool → Type 0
SeesEntries r mine seen = (i : ℕ) → is_set (slice_get seen i) ≡ has (entry_seen r r i) mine

-- the values are those of the state, and there is room for one at each position
pub record HoldsValues (c : Config) (values : List ℕ) (state : KnownLog) : Type 0 where
  pub are : state.values.items ≡ values
  pub room : row_count c + reserve c < vec_capacity state.values
  pub marks : MarksReplicas c values state.marks
  pub counts : CountsCommands c values state.counts.items
  pub rows : state.rows ≡ length (rows_in c values)
  pub by_client : StandsForClientRows c state.by_client

-- the state stands for the events of r
pub record StandsForKnownLog (c : Config) (r : ℕ) (mine : List Event)
    (state : KnownLog) : Type 0 where
  pub values : HoldsValues c (known c r mine) state
  pub fuos : ReadsFuos r mine state.fuos
  pub positions : length state.seen.items ≡ row_count c + reserve c + 1
  pub seen : SeesEntries r mine state.seen.items

-- this holds of any values that the state holds, for a client that there can be
abbrev pub OfClient : Config → ℕ → KnownLog → (List ℕ → Type 0) → Type 0
OfClient c client state holds =
    (values : List ℕ) → IsConfig c → client < 256 → HoldsValues c values state → holds values

-- the state takes an event of r, with what the flag tells of it
abbrev pub TakesAccepted : Config → ℕ → Bool → Event → KnownLog → KnownLog → Type 0
TakesAccepted c r accepted e before after =
    (mine : List Event) → IsConfig c → IsPossible c r (e ∷ mine)
    → TellsAccepted c r (e ∷ mine) (length (known c r mine)) e.verb accepted
    → TakesEvent StandsForKnownLog c r mine e before after

-- there is room for one row more, and for its position
pub record HasRoomForRow (c : Config) (state : KnownLog) : Type 0 where
  pub by_client : row_count c < vec_capacity state.by_client.rows
  pub values : row_count c + reserve c + 1 < vec_capacity state.values
  pub seen : row_count c + reserve c + 1 < vec_capacity state.seen

-- the region and the position that a look or a put names are there
abbrev pub IsPlaced : Config → Verb → Type 0
IsPlaced c (Verb.Look p i) = (p < 7) × (i ≤ row_count c + reserve c)
IsPlaced c (Verb.PutSlot p i b v) = i ≤ row_count c + reserve c
IsPlaced c _ = Unit {0}

-- a verb that may make a value known, or tell what is decided
abbrev pub is_telling : Verb → Bool
is_telling (Verb.Look p i) = true
is_telling (Verb.PutSlot p i b v) = true
is_telling (Verb.Fuo p) = true
is_telling _ = false
