-- growing: what is said of a list of events before rows are added to the configuration, and after
-- it.
use Rattle.std.specs.Prelude.{List, Some, [], slice_index, true, ℕ, ◌%◌, ◌++◌, ◌+◌, ◌/◌, ◌<◌, ◌^◌, ◌∷◌, ◌≡◌, ◌≤◌}
use Rattle.std.specs.List.{slice_get}
use Rattle.mu_model.specs.declared.config.Config.{Config}
use Rattle.mu_model.specs.declared.config.Row.{Row}
use Rattle.mu_model.specs.declared.event.Event.{Event}
use Rattle.mu_model.specs.declared.event.Verb.{Verb}
use Rattle.mu_model.specs.Answers.{answer_of}
use Rattle.mu_model.specs.Contents.{IsConfig, is_batch, row_count, rows_before}
use Rattle.mu_model.specs.Growing.{with_more}
use Rattle.mu_model.specs.Histories.{history, part}
use Rattle.mu_model.specs.Knowledge.{applied, commits, known}
use Rattle.mu_model.specs.Legal.{IsLegal}
use Rattle.mu_model.specs.Parts.{IsPossible}

-- a configuration with one row more is one, if the row is a batch of its own and the next command
-- of its client
abbrev pub GrownIsConfig : Type 0
GrownIsConfig =
    (c : Config) (row : Row) → IsConfig c → row_count c < 1500
    → slice_index row.words 0 / 2 ^ 56 ≡ 0
    → slice_index row.words 0 / 2 ^ 16 % 2 ^ 16
    ≡ rows_before c (slice_index row.words 0 / 2 ^ 8 % 2 ^ 8) (row_count c) + 1
    → IsConfig (with_more c (row ∷ []))

-- a step finds what it found before
abbrev pub AnswersStay : Type 0
AnswersStay =
    (c : Config) (more : List Row) (r : ℕ) (past : List Event) (verb : Verb)
    → answer_of (with_more c more) r past verb ≡ answer_of c r past verb

-- what a replica knows stays the same, in any list
abbrev pub KnownStays : Type 0
KnownStays =
    (c : Config) (more : List Row) (r : ℕ) (past : List Event)
    → known (with_more c more) r past ≡ known c r past

-- and so does what it committed
abbrev pub CommitsStay : Type 0
CommitsStay =
    (c : Config) (more : List Row) (r : ℕ) (past : List Event)
    → commits (with_more c more) r past ≡ commits c r past

-- a legal list stays legal
abbrev pub LegalStays : Type 0
LegalStays =
    (c : Config) (more : List Row) (events : List Event) → IsConfig c → IsConfig (with_more c more)
    → IsLegal c events → IsLegal (with_more c more) events

-- a batch of a row that was added after some replica knew an entry stands behind that entry,
-- wherever it is known
abbrev pub LaterRowsFollow : Type 0
LaterRowsFollow =
    (c : Config) (more : List Row) (older newer : List Event) (r s i k v w : ℕ) → IsConfig c
    → IsConfig (with_more c more) → IsLegal c older → IsLegal (with_more c more) (older ++ newer)
    → slice_get (known c r (part r (history older))) i ≡ Some v
    → slice_get (known (with_more c more) s (part s (history (older ++ newer)))) k ≡ Some w
    → is_batch (with_more c more) w ≡ true → row_count c ≤ w % 4096 → i < k

-- what a possible part has applied stays the same
abbrev pub AppliedStays : Type 0
AppliedStays =
    (c : Config) (more : List Row) (r : ℕ) (mine : List Event) → IsConfig c
    → IsConfig (with_more c more) → IsPossible c r mine
    → applied (with_more c more) r mine ≡ applied c r mine
