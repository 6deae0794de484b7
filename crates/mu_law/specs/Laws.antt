-- laws of one list: what the laws of agreement say of a list of events that a call is given.
use Rattle.std.specs.Prelude.{List, Some, false, length, true, ℕ, ◌%◌, ◌++◌, ◌+◌, ◌/◌, ◌<◌, ◌∷◌, ◌≡◌, ◌≤◌, ◌⊎◌}
use Rattle.std.specs.List.{slice_get}
use Rattle.mu_agree.specs.Agreement.{IsMarked}
use Rattle.mu_agree.specs.Laws.{is_landing}
use Rattle.mu_model.specs.declared.config.Config.{Config}
use Rattle.mu_model.specs.declared.event.Answer.{Answer}
use Rattle.mu_model.specs.declared.event.Event.{Event}
use Rattle.mu_model.specs.declared.event.Verb.{Verb}
use Rattle.mu_model.specs.Answers.{answer_of}
use Rattle.mu_model.specs.Chosen.{IsChosen}
use Rattle.mu_model.specs.Contents.{StandsForEntry, config_word, is_batch, is_mark, rest_of}
use Rattle.mu_model.specs.Histories.{has, history, part, since, IsPrefixOf}
use Rattle.mu_model.specs.Knowledge.{known, wrote_batch}
use Rattle.mu_model.specs.Leaderships.{leaderships, proposal_number}
use Rattle.mu_model.specs.Legal.{IsLegal}
use Rattle.mu_model.specs.Regions.{fence_owner, is_drain_of, is_grant_of, region_fuo, region_head, region_log, region_min}

-- each of the values is chosen at its position
abbrev pub AreChosen : Config → List Event → List ℕ → Type 0
AreChosen c events values =
    (i v : ℕ) → slice_get values i ≡ Some v → IsChosen c (history events) i v

-- each of the values stands for a batch or a mark
abbrev pub StandForEntries : Config → List ℕ → Type 0
StandForEntries c values = (i v : ℕ) → slice_get values i ≡ Some v → StandsForEntry c v

-- at most one of the values is a mark of q, for each q
abbrev pub AreMarkedOnce : Config → List ℕ → Type 0
AreMarkedOnce c values =
    (q i j v w : ℕ) → slice_get values i ≡ Some v → slice_get values j ≡ Some w
    → is_mark c q v ≡ true → is_mark c q w ≡ true → i ≡ j

-- any two replicas know lists one of which begins the other
abbrev pub KnownListsAgree : Config → List Event → Type 0
KnownListsAgree c events =
    (r s : ℕ)
    → IsPrefixOf (known c r (part r (history events))) (known c s (part s (history events)))
    ⊎ IsPrefixOf (known c s (part s (history events))) (known c r (part r (history events)))

-- r knows v at i, and s knows w there
pub record BothKnow (c : Config) (events : List Event) (r s i v w : ℕ) : Type 0 where
  pub first : slice_get (known c r (part r (history events))) i ≡ Some v
  pub second : slice_get (known c s (part s (history events))) i ≡ Some w

-- at most one value is chosen at each position
abbrev pub ChosenOnce : Config → List Event → Type 0
ChosenOnce c events =
    (i v w : ℕ) → IsChosen c (history events) i v → IsChosen c (history events) i w → v ≡ w

-- below what the FUO of a region was at some moment, its log now holds the value that was chosen
-- then
abbrev pub FuosHold : Config → List Event → Type 0
FuosHold c events =
    (earlier later : List Event) (p i : ℕ) → events ≡ earlier ++ later
    → i < region_fuo p (history earlier)
    → (n : ℕ)
    × ((v : ℕ)
    × ((slice_get (region_log p (history events)) i ≡ Some (n, v))
    × IsChosen c (history earlier) i v))

-- a put lands at a region only while its writer owns it, and before a `Drain` under this grant
abbrev pub OwnersPut : List Event → Type 0
OwnersPut events =
    (earlier later : List Event) (e : Event) (p : ℕ) → events ≡ earlier ++ e ∷ later
    → is_landing p e.verb e.answer ≡ true
    → (fence_owner p (history earlier) ≡ Some e.by)
    × (has (is_drain_of p) (since (is_grant_of p) (history earlier)) ≡ false)

-- the minimum of a region now is at least what it was at each moment
abbrev pub MinimumsRise : List Event → Type 0
MinimumsRise events =
    (earlier between later : List Event) (p : ℕ) → events ≡ earlier ++ between ++ later
    → region_min p (history earlier) ≤ region_min p (history (earlier ++ between))

-- the number in a slot is at least what it was at each moment before
abbrev pub SlotsRise : List Event → Type 0
SlotsRise events =
    (earlier between later : List Event) (p i : ℕ) (x y : ℕ × ℕ)
    → events ≡ earlier ++ between ++ later
    → slice_get (region_log p (history earlier)) i ≡ Some x
    → slice_get (region_log p (history (earlier ++ between))) i ≡ Some y → x.0 ≤ y.0

-- leaderships under way at two moments that have one number are the same leadership of the same
-- replica
abbrev pub NumbersAreOwn : List Event → Type 0
NumbersAreOwn events =
    (earlier between later : List Event) (r s b : ℕ) → events ≡ earlier ++ between ++ later
    → proposal_number r (history earlier) ≡ Some b
    → proposal_number s (history (earlier ++ between)) ≡ Some b
    → (r ≡ s) × (leaderships r (history (earlier ++ between)) ≡ leaderships r (history earlier))

-- a mark of q is chosen at i
pub record IsMarkedAt (c : Config) (q : ℕ) (past : List Event) (i : ℕ) : Type 0 where
  pub value : ℕ
  pub chosen : IsChosen c past i value
  pub mark : is_mark c q value ≡ true

-- below the FUO of a region its log holds the chosen value, and so after every legal continuation
abbrev pub FuosLast : Config → List Event → Type 0
FuosLast c events =
    (more : List Event) (p i : ℕ) → IsLegal c (events ++ more) → i < region_fuo p (history events)
    → (n : ℕ)
    × ((v : ℕ)
    × ((slice_get (region_log p (history (events ++ more))) i ≡ Some (n, v))
    × IsChosen c (history events) i v))

-- all rows of a batch were written in full before each put of it
abbrev pub RowsAreFirst : Config → List Event → Type 0
RowsAreFirst c events =
    (earlier later : List Event) (e : Event) (p i b v : ℕ) → events ≡ earlier ++ e ∷ later
    → e.verb ≡ Verb.PutSlot p i b v → is_batch c v ≡ true
    → wrote_batch c (v / 4096) (v % 4096) (history earlier) ≡ true

-- each `ReadRow` of a row of an entry that some replica knew answered the configuration's word
abbrev pub RowsAreRight : Config → List Event → Type 0
RowsAreRight c events =
    (earlier later : List Event) (e : Event) (r i v t k : ℕ) → events ≡ earlier ++ e ∷ later
    → slice_get (known c r (part r (history earlier))) i ≡ Some v → is_batch c v ≡ true
    → t ≤ rest_of c (v % 4096) → k < 12 → e.verb ≡ Verb.ReadRow (v + t) k
    → e.answer ≡ Answer.Number (config_word c (v % 4096 + t) k)

-- r still has to read position i: its head, or all that it knows, is at or below it
abbrev pub HasToRead : Config → ℕ → List Event → ℕ → Type 0
HasToRead c r past i = (region_head r past ≤ i) ⊎ (length (known c r (part r past)) ≤ i)

-- a look made now by a replica at any region, at a position that it still has to read, is `Past`
-- only if a mark of the replica is chosen
abbrev pub KeepsPlaces : Config → List Event → Type 0
KeepsPlaces c events =
    (r p i : ℕ) → r < c.replicas → HasToRead c r (history events) i
    → answer_of c r (history events) (Verb.Look p i) ≡ Answer.Past → IsMarked c r (history events)

-- the same of each look of the list, by its replica and at its moment
abbrev pub KeptPlaces : Config → List Event → Type 0
KeptPlaces c events =
    (earlier later : List Event) (e : Event) (p i : ℕ) → events ≡ earlier ++ e ∷ later
    → e.verb ≡ Verb.Look p i → e.answer ≡ Answer.Past → HasToRead c e.by (history earlier) i
    → IsMarked c e.by (history earlier)
