-- made, own, held, found, answered, one list: an access that was made; what a replica has come to by
-- its accesses; what a word holds after them; that a replica may be told a word; that each was told
-- what its word held; and the one legal list that then has the events of all.
use Rattle.std.specs.Prelude.{Bool, List, [], bit_or, false, if◌then◌else◌, max, true, ℕ, ◌%◌, ◌+◌, ◌==◌, ◌^◌, ◌∷◌, ◌≡◌}
use Rattle.mu_model.specs.declared.config.Config.{Config}
use Rattle.mu_model.specs.declared.event.Event.{Event}
use Rattle.mu_model.specs.declared.event.Verb.{Verb}
use Rattle.mu_model.specs.Allowed.{Allowed}
use Rattle.mu_model.specs.Contents.{IsConfig}
use Rattle.mu_model.specs.Histories.{event_by, part}
use Rattle.mu_model.specs.Legal.{IsLegalHistory}
use Rattle.mu_model.specs.Parts.{IsPossible}
use Rattle.mu_words.specs.declared.layout.Name.{Name}
use Rattle.mu_words.specs.declared.verbs.Move.{Move}
use Rattle.mu_words.specs.Finding.{expected, loaded_by, name_of, sights}
use Rattle.mu_words.specs.Places.{IsName}
use Rattle.mu_words.specs.Standing.{close_grant, standing_word}
use Rattle.mu_words.specs.Verbs.{IsMove, answer_from}
use Rattle.lone_words.specs.declared.access.Shape.{Shape}
use Rattle.lone_words.specs.declared.access.Spot.{Spot}
use Rattle.lone_words.specs.Spots.{IsShapeOf, is_same_spot, layout_of, spot_of}

-- an access that was made: by which replica, for which verb, what it does, and the word that the
-- replica was told
pub record Made : Type 0 where
  pub by : ℕ
  pub verb : Verb
  pub step : Move
  pub word : ℕ

-- a replica's events, newest first, and the same each with the word that its load found
abbrev pub Own : Type 0
Own = List Event × List (Event × ℕ)

-- the event of r that had this and makes a step that is told the word n
abbrev pub event_at : Config → ℕ → Own → Verb → ℕ → Event
event_at c r own v n = event_by r v (answer_from c.ring v (expected c r own.0 own.1 v) n)

-- what it has then
abbrev pub own_with : Config → ℕ → Own → Verb → ℕ → Own
own_with c r own v n =
    (event_at c r own v n ∷ own.0, (event_at c r own v n, loaded_by v n) ∷ own.1)

-- what r has come to by the accesses, the newest of which is the first
abbrev pub own_after : Config → ℕ → List Made → Own
own_after c r [] = ([], [])
own_after c r (m ∷ past) =
    if m.by == r then own_with c r (own_after c r past) m.verb m.word else own_after c r past

-- the events of all, newest first
abbrev pub events_after : Config → List Made → List Event
events_after c [] = []
events_after c (m ∷ past) =
    event_at c m.by (own_after c m.by past) m.verb m.word ∷ events_after c past

-- where the access is made
abbrev pub spot_made : Config → Shape → List Made → Made → Spot
spot_made c s past m = spot_of s (name_of c m.by (own_after c m.by past).0 m.verb)

-- the word of 64 bits that a move leaves of this one
abbrev pub left_by : Move → ℕ → ℕ
left_by Move.Load n = n
left_by (Move.Store new) n = new
left_by (Move.Raise least) n = max least n
left_by Move.Add n = (n + 1) % 2 ^ 64
left_by (Move.SetBits bits) n = bit_or n bits
left_by (Move.Exchange old new) n = if old == n then new else n
left_by (Move.Swap new) n = new

-- what a word holds at first: no owner in a fence, and else 0
abbrev pub held_first : Spot → ℕ
held_first spot = if spot.place == 0 then 14336 else 0

-- what the word at a spot holds after the accesses
abbrev pub held : Config → Shape → List Made → Spot → ℕ
held c s [] spot = held_first spot
held c s (m ∷ past) spot =
    if is_same_spot spot (spot_made c s past m) then left_by m.step (held c s past spot)
    else held c s past spot

-- the verb stores a word, and is told nothing
abbrev pub stores : Verb → Bool
stores (Verb.WriteRow j k x) = true
stores v = false

-- r may be told the word: some legal list has what r has come to, and leaves the word where the step
-- finds it; a store is told nothing
pub record IsFound (c : Config) (r : ℕ) (own : Own) (v : Verb) (word : ℕ) : Type 0 where
  pub past : List Event
  pub legal : IsLegalHistory c past
  pub mine : part r past ≡ own.0
  pub seen : sights c r past ≡ own.1
  pub stands : stores v ≡ false → word ≡ standing_word c past (name_of c r own.0 v)

-- then the event of the step is possible
abbrev pub FoundIsPossible : Type 0
FoundIsPossible =
    (c : Config) (r : ℕ) (own : Own) (v : Verb) (word : ℕ) → IsConfig c → Allowed c r own.0 v
    → IsFound c r own v word → IsPossible c r (event_at c r own v word ∷ own.0)

-- the replica might make the step by what it had, the access does what that asks for, and the
-- replica was told what the word held, unless it stores
pub record IsAnsweredOnce (c : Config) (s : Shape) (past : List Made) (m : Made) : Type 0 where
  pub allowed : Allowed c m.by (own_after c m.by past).0 m.verb
  pub step :
      IsMove c.ring (close_grant m.by (own_after c m.by past).0) m.verb
      (expected c m.by (own_after c m.by past).0 (own_after c m.by past).1 m.verb) m.step
  pub found : stores m.verb ≡ false → m.word ≡ held c s past (spot_made c s past m)

-- so was each of the accesses
abbrev pub AreAnswered : Config → Shape → List Made → Type 0
AreAnswered c s [] = Unit {0}
AreAnswered c s (m ∷ past) = AreAnswered c s past × IsAnsweredOnce c s past m

-- the events of all are a legal list, in which each replica's part is what it has come to, and for
-- which the words stand
pub record IsOneList (c : Config) (s : Shape) (made : List Made) : Type 0 where
  pub legal : IsLegalHistory c (events_after c made)
  pub parts : (r : ℕ) → part r (events_after c made) ≡ (own_after c r made).0
  pub seen : (r : ℕ) → sights c r (events_after c made) ≡ (own_after c r made).1
  pub words :
      (n : Name) → IsName (layout_of s) n
      → held c s made (spot_of s n) ≡ standing_word c (events_after c made) n

-- the law
abbrev pub OneLegalList : Type 0
OneLegalList =
    (c : Config) (s : Shape) (made : List Made) → IsConfig c → IsShapeOf c s → AreAnswered c s made
    → IsOneList c s made
