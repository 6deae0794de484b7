-- replies agree, in real time: what every attested list keeps: two replies told of one row are equal;
-- a command that was got after another's reply was told stands after it in every log.
use Rattle.std.specs.Prelude.{ℕ, ◌<◌, ◌≡◌, List, Some}
use Rattle.std.specs.List.{slice_get}
use Rattle.kv_store.specs.declared.store.Reply.{Reply}
use Rattle.mu_clients.specs.Attested.{IsAttested, events_in, items_back}
use Rattle.mu_clients.specs.declared.items.Item.{Item}
use Rattle.mu_input.specs.declared.job.Job.{Job}
use Rattle.mu_model.specs.Contents.{rows_in}
use Rattle.mu_model.specs.Histories.{part}
use Rattle.mu_model.specs.Knowledge.{applied}

-- any two replies that are told of one row are equal
abbrev pub RepliesAgree : List Item → Type 0
RepliesAgree items =
    (i j r s row : ℕ) (first second : Reply) → slice_get items i ≡ Some (Item.Told r row first)
    → slice_get items j ≡ Some (Item.Told s row second) → first ≡ second

-- wherever the row `later` stands among these rows, the row `sooner` stands before it
abbrev pub StandsAfter : ℕ → ℕ → List ℕ → Type 0
StandsAfter sooner later rows =
    (k : ℕ) → slice_get rows k ≡ Some later
    → (j : ℕ) × (j < k) × (slice_get rows j ≡ Some sooner)

-- the rows of the log of replica r after these items
abbrev pub log_rows : Job → ℕ → List Item → List ℕ
log_rows job r items =
    rows_in job.config (applied job.config r (part r (events_in (items_back items))))

-- real time: if the command of a row is got after a reply to that of another row was told, it
-- stands after it in the log of every replica
abbrev pub IsInRealTime : Job → List Item → Type 0
IsInRealTime job items =
    (i j r s sooner later : ℕ) (reply : Reply) → i < j
    → slice_get items i ≡ Some (Item.Told r sooner reply)
    → slice_get items j ≡ Some (Item.Got later)
    → StandsAfter sooner later (log_rows job s items)

-- what clients see of every attested list
abbrev pub AttestedAgree : Type 0
AttestedAgree = (job : Job) (items : List Item) → IsAttested job items → RepliesAgree items

-- and when
abbrev pub AttestedInTime : Type 0
AttestedInTime = (job : Job) (items : List Item) → IsAttested job items → IsInRealTime job items
