-- stands (words), one list, steps on, table forms: words stand for a list of events; only one list
-- of words does; a step on them; and the same step as an exchange, a fetch-or or a swap of a table.
use Rattle.std.specs.Prelude.{List, Some, [], bit_or, if◌then◌else◌, length, slice_index, true, ℕ, ◌++◌, ◌/◌, ◌<◌, ◌==◌, ◌∷◌, ◌≡◌}
use Rattle.std.specs.List.{slice_get}
use Rattle.mu_model.specs.declared.config.Config.{Config}
use Rattle.mu_model.specs.declared.event.Event.{Event}
use Rattle.mu_model.specs.declared.event.Target.{Target}
use Rattle.mu_model.specs.declared.event.Verb.{Verb}
use Rattle.mu_model.specs.Allowed.{Allowed}
use Rattle.mu_model.specs.Answers.{answer_of}
use Rattle.mu_model.specs.Contents.{IsConfig}
use Rattle.mu_model.specs.Histories.{history, part}
use Rattle.mu_model.specs.Legal.{IsLegal, IsLegalHistory}
use Rattle.mu_model.specs.Regions.{fence, region_log, region_min}
use Rattle.mu_words.specs.declared.layout.Layout.{Layout}
use Rattle.mu_words.specs.declared.layout.Name.{Name}
use Rattle.mu_words.specs.Finding.{expected, name_of, sights}
use Rattle.mu_words.specs.Places.{IsLayoutOf, IsName, place_of, word_count}
use Rattle.mu_words.specs.Standing.{close_grant, stamp, standing_word}
use Rattle.mu_words.specs.Steps.{event_of}
use Rattle.mu_words.specs.Words.{FenceFits}
use Rattle.mu_words.specs.Verbs.{VerbFits, WordFits, answer_from, exchanged, granted, is_exchange, word_after}

-- the words stand for the list: at each place the word of its name
abbrev pub Stands : Config → Layout → List Event → (ℕ → ℕ) → Type 0
Stands c l events words =
    (n : Name) → IsName l n → words (place_of l n) ≡ standing_word c (history events) n

-- the words after the one at place i was set
abbrev pub set_word : (ℕ → ℕ) → ℕ → ℕ → ℕ → ℕ
set_word words i w j = if j == i then w else words j

-- the name of the word on which r makes the step after the list
abbrev pub step_name : Config → List Event → ℕ → Verb → Name
step_name c events r v = name_of c r (part r (history events)) v

-- the word that r expects there, if the step is an exchange, else 0
abbrev pub step_expects : Config → List Event → ℕ → Verb → ℕ
step_expects c events r v = expected c r (part r (history events)) (sights c r (history events)) v

-- the step of r, which expects x at place i: verb and word are in range, the answer is as the list
-- makes it, and the words with the one that the step leaves stand for the list with the event at
-- its end
pub record IsStepOn (c : Config) (l : Layout) (events : List Event) (r : ℕ) (v : Verb)
    (words : ℕ → ℕ) (i x : ℕ) : Type 0 where
  pub verb_fits : VerbFits c.ring v
  pub word_fits : WordFits v (words i)
  pub answer : answer_from c.ring v x (words i) ≡ answer_of c r (history events) v
  pub stands :
      Stands c l (events ++ event_of c r (history events) v ∷ [])
      (set_word words i (word_after c.ring v x (words i)))

-- a step that is allowed, on words that stand for a legal list: its word is one of them, and it is
-- such a step
pub record StepsOn (c : Config) (l : Layout) (events : List Event) (r : ℕ) (v : Verb)
    (words : ℕ → ℕ) : Type 0 where
  pub named : IsName l (step_name c events r v)
  pub is :
      IsStepOn c l events r v words (place_of l (step_name c events r v))
      (step_expects c events r v)

-- the law of word steps on a list of words
abbrev pub WordsStand : Type 0
WordsStand =
    (c : Config) (l : Layout) (events : List Event) (r : ℕ) (v : Verb) (words : ℕ → ℕ) → IsConfig c
    → IsLayoutOf c l → IsLegal c events
    → Allowed c r (part r (history events)) v → Stands c l events words
    → StepsOn c l events r v words

-- at most one list of words stands for a list of events
abbrev pub WordsAreUnique : Type 0
WordsAreUnique =
    (c : Config) (l : Layout) (events : List Event) (words other : ℕ → ℕ) → Stands c l events words
    → Stands c l events other → (i : ℕ) → i < word_count l → words i ≡ other i

-- a list of words, one for each place, stands for the list of events
pub record IsListFor (c : Config) (l : Layout) (events : List Event) (words : List ℕ) : Type 0 where
  pub count : length words ≡ word_count l
  pub stands : Stands c l events (slice_index words)

-- there is such a list, and no other
pub record HasOneList (c : Config) (l : Layout) (events : List Event) : Type 0 where
  pub words : List ℕ
  pub is : IsListFor c l events words
  pub only : (other : List ℕ) → IsListFor c l events other → other ≡ words

-- exactly one list of words stands for a list of events
abbrev pub OneListStands : Type 0
OneListStands = (c : Config) (l : Layout) (events : List Event) → HasOneList c l events

-- a step that is an exchange, a `Close` or a `Grant` in the form of one step of a table: an
-- exchange of the expected word by one made from it, a fetch-or, and a swap by a word made from the
-- replica's events
pub record TableForms (c : Config) (r : ℕ) (past : List Event) : Type 0 where
  pub exchange :
      (v : Verb) (x w : ℕ) → is_exchange v ≡ true
      → word_after c.ring v x w ≡ (if w == x then exchanged c.ring v x else w)
  pub close : (x w : ℕ) → word_after c.ring Verb.Close x w ≡ bit_or w 16384
  pub grant :
      (q x : ℕ) → Allowed c r (part r past) (Verb.Grant q)
      → word_after c.ring (Verb.Grant q) x (standing_word c past (Name.Fence r))
      ≡ granted (close_grant r (part r past)) q

-- so are all of them after a legal history
abbrev pub StepsInTableForms : Type 0
StepsInTableForms =
    (c : Config) (r : ℕ) (past : List Event) → IsConfig c → IsLegalHistory c past
    → TableForms c r past

-- the word that stands under a name before any event
abbrev pub first_word : Name → ℕ
first_word (Name.Fence p) = 14336
first_word _ = 0

-- before any event fences have no owner, and all else is 0
abbrev pub FirstWords : Type 0
FirstWords = (c : Config) (n : Name) → standing_word c [] n ≡ first_word n

-- what the words hold after a history has room in their fields: grants and stamps are below 2^17,
-- proposal numbers below 2^23, laps below 2^9 and payload numbers below 2^15
pub record FieldsFit (c : Config) (past : List Event) : Type 0 where
  pub fences :
      (p : ℕ) → FenceFits (fence p past).grant (fence p past).owner (fence p past).target
  pub stamps : (p : ℕ) (t : Target) → stamp c p t past < 131072
  pub minima : (p : ℕ) → region_min p past < 8388608
  pub entries :
      (p i : ℕ) (entry : ℕ × ℕ) → slice_get (region_log p past) i ≡ Some entry
      → (i / c.ring < 512) × (entry.0 < 8388608) × (entry.1 < 32768)

-- so it has after every legal history
abbrev pub FieldsAlwaysFit : Type 0
FieldsAlwaysFit =
    (c : Config) (past : List Event) → IsConfig c → IsLegalHistory c past → FieldsFit c past
