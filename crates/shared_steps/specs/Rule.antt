-- rule of the table, entry, view, seat: what holds between two steps on shared words: one legal
-- list of events has the parts of all entries, and the words stand for it; the part of a replica
-- with the words that its loads found; what a seat knows; what a step tells it.
use Rattle.std.specs.Prelude.{List, None, Some, [], if◌then◌else◌, length, slice_index, suc, zero, ℕ, ◌++◌, ◌==◌, ◌∷◌, ◌≡◌}
use Rattle.std.specs.declared.option.Option.{Option}
use mathlib.Core.Option as opt
use lib.ListN.{get_elem?}
use Rattle.atomic_table.specs.Table.{Me, State, Step}
use Rattle.mu_model.specs.declared.config.Config.{Config}
use Rattle.mu_model.specs.declared.event.Event.{Event}
use Rattle.mu_model.specs.declared.event.Verb.{Verb}
use Rattle.mu_model.specs.Contents.{IsConfig, row_count}
use Rattle.mu_model.specs.Histories.{history, part}
use Rattle.mu_model.specs.Legal.{IsLegal}
use Rattle.mu_model.specs.Parts.{IsPossible}
use Rattle.mu_words.specs.declared.layout.Layout.{Layout}
use Rattle.mu_words.specs.Finding.{expected, loaded_by, sights}
use Rattle.mu_words.specs.Places.{word_count}
use Rattle.mu_words.specs.Stands.{Stands}
use Rattle.mu_words.specs.Verbs.{answer_from}
use Rattle.shared_steps.specs.declared.rule.Entry.{Entry}
use Rattle.shared_steps.specs.declared.rule.View.{View}

-- the entry of r with this part, each of its events with the word that its load found
abbrev pub entry : ℕ → List Event → List (Event × ℕ) → Entry
entry r mine seen = record { id = r; part = mine; seen = seen }

-- the view of the seat of one replica
abbrev pub single : Config → ℕ → List Event → List (Event × ℕ) → View
single c r mine seen = record { config = Some c; entries = entry r mine seen ∷ [] }

-- the entry of a replica
abbrev pub entry_of : ℕ → List Entry → Option Entry
entry_of r [] = None
entry_of r (e ∷ es) = if e.id == r then Some e else entry_of r es

-- the part of the first entry
abbrev pub part_in : List Entry → List Event
part_in [] = []
part_in (e ∷ es) = e.part

-- an entry with the empty part of each replica below n
abbrev pub empty_entries : ℕ → List Entry
empty_entries zero = []
empty_entries (suc r) = entry r [] [] ∷ empty_entries r

-- the view of the first seat
abbrev pub opening_view : Config → View
opening_view c = record { config = Some c; entries = empty_entries c.replicas }

-- the places of the words of the configuration
abbrev pub layout_of : Config → Layout
layout_of c = record { replicas = c.replicas; ring = c.ring; rows = row_count c }

-- the entry is of the view id, it is the part of r in the list, and its words are those that the
-- loads of r found there
pub record FitsEntry (c : Config) (events : List Event) (owner : ℕ → Option ℕ) (id r : ℕ)
    (e : Entry) : Type 0 where
  pub owned : owner r ≡ Some id
  pub is_part : e.part ≡ part r (history events)
  pub is_seen : e.seen ≡ sights c r (history events)

-- the view is spent or has the configuration that is the table's key, and its entries fit
pub record Fits (c : Config) (events : List Event) (owner : ℕ → Option ℕ) (id : ℕ)
    (v : View) : Type 0 where
  pub configured : (k : Config) → v.config ≡ Some k → k ≡ c
  pub entries :
      (r : ℕ) (e : Entry) → entry_of r v.entries ≡ Some e → FitsEntry c events owner id r e

-- the words stand for the list, and there are no others
pub record Shows (c : Config) (events : List Event) (words : List ℕ) : Type 0 where
  pub count : length words ≡ word_count (layout_of c)
  pub stands : Stands c (layout_of c) events (slice_index words)

-- no view has an entry of r
abbrev pub HasNone : List View → ℕ → Type 0
HasNone views r =
    (id : ℕ) (v : View) (e : Entry) → get_elem? views id ≡ opt.some v
    → entry_of r v.entries ≡ Some e → ⊥

-- The rule, at each moment between two steps. There is one legal list of events: each view that
-- isn't spent has the table's configuration; the entries of all views are for different replicas,
-- and each replica has one view as its owner; a replica without an entry has the empty part; the
-- list has the parts of the entries, and the words stand for it; and in this list the word with an
-- event is the one that stood before it, if the event was a load
pub record Holds (c : Config) (s : State (Unit {0}) View) : Type 0 where
  pub events : List Event
  pub owner : ℕ → Option ℕ
  pub is_config : IsConfig c
  pub legal : IsLegal c events
  pub shows : Shows c events s.words
  pub idle : (r : ℕ) → HasNone s.views r → part r (history events) ≡ []
  pub fits : (id : ℕ) (v : View) → get_elem? s.views id ≡ opt.some v → Fits c events owner id v

-- the event of the step of r after its part, if the step found the word n
abbrev pub event_at : Config → ℕ → List Event → List (Event × ℕ) → Verb → ℕ → Event
event_at c r mine seen v n =
    record { by = r; verb = v; answer = answer_from c.ring v (expected c r mine seen v) n }

-- the view of the seat of r with one event more, a step that found the word n
abbrev pub grown_view : Config → ℕ → List Event → List (Event × ℕ) → Verb → ℕ → View
grown_view c r mine seen v n =
    single c r (event_at c r mine seen v n ∷ mine)
    ((event_at c r mine seen v n, loaded_by v n) ∷ seen)

-- the seat of r has one event more, a step that found the word n; its part is possible
pub record Grew (c : Config) (r : ℕ) (mine : List Event) (seen : List (Event × ℕ)) (v : Verb)
    (n : ℕ) (after : Me (Unit {0}) View) : Type 0 where
  pub is : after ≡ (grown_view c r mine seen v n, [])
  pub possible : IsPossible c r (event_at c r mine seen v n ∷ mine)

-- what a step of the verb that found n tells a seat with one entry
abbrev pub Told : Verb → Me (Unit {0}) View → ℕ → Me (Unit {0}) View → Type 0
Told v before n after =
    (c : Config) (r : ℕ) (mine : List Event) (seen : List (Event × ℕ))
    → before ≡ (single c r mine seen, []) → Grew c r mine seen v n after

-- the same in the form in which a step tells it: the numbers of the step come first, and say
-- nothing more
abbrev pub Grown : Verb → Step (Unit {0}) → Me (Unit {0}) View → ℕ → Me (Unit {0}) View → Type 0
Grown v st before n after = Told v before n after

-- the entries of the other replicas
abbrev pub without : ℕ → List Entry → List Entry
without r [] = []
without r (e ∷ es) = if e.id == r then without r es else (e ∷ without r es)

-- the entry, if there is one
abbrev pub listed : Option Entry → List Entry
listed None = []
listed (Some e) = e ∷ []

-- the view after the entry of r was cut off
abbrev pub without_view : ℕ → View → View
without_view r v = record { config = v.config; entries = without r v.entries }

-- the view of the seat that was cut off
abbrev pub only_view : ℕ → View → View
only_view r v = record { config = v.config; entries = listed (entry_of r v.entries) }

-- the view with the entries of another
abbrev pub united : View → View → View
united v w = record { config = v.config; entries = w.entries ++ v.entries }

-- no configuration, and no entry
abbrev pub spent_view : View
spent_view = record { config = None; entries = [] }

-- one legal list has all these parts
pub record HaveOneList (c : Config) (entries : List Entry) : Type 0 where
  pub events : List Event
  pub legal : IsLegal c events
  pub parts : (r : ℕ) (e : Entry) → entry_of r entries ≡ Some e → e.part ≡ part r (history events)

-- what a load tells that learns the whole: one legal list has the parts of all entries of the seat,
-- which stays as it was
abbrev pub Learnt : Step (Unit {0}) → Me (Unit {0}) View → ℕ → Me (Unit {0}) View → Type 0
Learnt st before n after =
    (after ≡ before) × ((c : Config) → before.0.config ≡ Some c → HaveOneList c before.0.entries)
