-- sessions: known entries stand for batches and marks, in session, with rows written first and read
-- right, each mark once.
use Rattle.std.specs.Prelude.{List, Some, true, ℕ, ◌%◌, ◌++◌, ◌+◌, ◌/◌, ◌<◌, ◌∷◌, ◌≡◌, ◌≤◌}
use Rattle.std.specs.List.{slice_get}
use Rattle.mu_model.specs.declared.config.Config.{Config}
use Rattle.mu_model.specs.declared.event.Answer.{Answer}
use Rattle.mu_model.specs.declared.event.Event.{Event}
use Rattle.mu_model.specs.declared.event.Verb.{Verb}
use Rattle.mu_model.specs.Chosen.{IsChosen}
use Rattle.mu_model.specs.Contents.{IsConfig, IsInSession, StandsForEntry, config_word, is_batch, is_mark, rest_of}
use Rattle.mu_model.specs.Histories.{history, part}
use Rattle.mu_model.specs.Knowledge.{known, wrote_batch}
use Rattle.mu_model.specs.Legal.{IsLegal}

-- each known entry stands for a batch or a mark
abbrev pub KnownStands : Type 0
KnownStands =
    (c : Config) (events : List Event) (r i v : ℕ) → IsLegal c events
    → slice_get (known c r (part r (history events))) i ≡ Some v → StandsForEntry c v

-- all rows of a batch were written in full before each put of it
abbrev pub RowsComeFirst : Type 0
RowsComeFirst =
    (c : Config) (earlier later : List Event) (e : Event) (p i b v : ℕ) → IsConfig c
    → IsLegal c (earlier ++ e ∷ later)
    → e.verb ≡ Verb.PutSlot p i b v → is_batch c v ≡ true
    → wrote_batch c (v / 4096) (v % 4096) (history earlier) ≡ true

-- each `ReadRow` of a row of a known entry answers the configuration's word
abbrev pub RowsReadRight : Type 0
RowsReadRight =
    (c : Config) (earlier later : List Event) (e : Event) (r i v t k : ℕ) → IsConfig c
    → IsLegal c (earlier ++ e ∷ later)
    → slice_get (known c r (part r (history earlier))) i ≡ Some v → is_batch c v ≡ true
    → t ≤ rest_of c (v % 4096) → k < 12
    → e.verb ≡ Verb.ReadRow (v + t) k → e.answer ≡ Answer.Number (config_word c (v % 4096 + t) k)

-- every known list is in session
abbrev pub KnownInSession : Type 0
KnownInSession =
    (c : Config) (events : List Event) (r : ℕ) → IsConfig c → IsLegal c events
    → IsInSession c (known c r (part r (history events)))

-- at most one mark of each replica is chosen
abbrev pub MarkedOnce : Type 0
MarkedOnce =
    (c : Config) (events : List Event) (q i j v w : ℕ) → IsConfig c → IsLegal c events
    → IsChosen c (history events) i v → IsChosen c (history events) j w
    → is_mark c q v ≡ true → is_mark c q w ≡ true → i ≡ j

-- every known list has at most one mark of each replica
abbrev pub KnownMarkedOnce : Type 0
KnownMarkedOnce =
    (c : Config) (events : List Event) (r q i j v w : ℕ) → IsConfig c → IsLegal c events
    → slice_get (known c r (part r (history events))) i ≡ Some v
    → slice_get (known c r (part r (history events))) j ≡ Some w
    → is_mark c q v ≡ true → is_mark c q w ≡ true → i ≡ j
