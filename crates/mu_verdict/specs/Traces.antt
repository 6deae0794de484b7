-- attested trace: the grammar of a trace with lines of what clients see: a job up to its `end`, then a
-- line for each item, and another `end`.
use Rattle.std.specs.Prelude.{ℕ, ◌+◌, ◌<◌, ◌^◌, ◌≡◌, ◌++◌, List, [], ◌∷◌, None, Some, codes, if◌then◌else◌, length}
use Rattle.std.specs.declared.option.Option.{Option}
use Rattle.std.specs.declared.result.Result.{Result}
use Rattle.std.specs.declared.result.Result.TheVariants.{Ok, Err}
use Rattle.std.specs.Option.{option_map_or}
use Rattle.std.specs.Str.{bytes_eq}
use Rattle.mu_clients.specs.Items.{item_of}
use Rattle.mu_clients.specs.declared.items.Item.{Item}
use Rattle.mu_input.specs.Grammar.{job}
use Rattle.mu_input.specs.Readings.{Begins, Breaks, Fits, Front, Leaves, Reading, whole}
use Rattle.mu_input.specs.declared.cause.TheConstants.{EVENT, NO_END}
use Rattle.mu_input.specs.declared.job.InputEnd.{InputEnd}
use Rattle.mu_input.specs.declared.job.InputEnd.TheVariants.{Refused, NoMemory}
use Rattle.mu_input.specs.declared.job.Job.{Job}
use Rattle.mu_model.specs.Contents.{row_count}
use Rattle.mu_text.specs.Lines.{Left, ended, lines, words}

-- the lines of the job: up to the first `end`, with it
abbrev pub job_lines : List (List ℕ) → List (List ℕ)
job_lines [] = []
job_lines (line ∷ later) =
    if bytes_eq line (codes "end") then line ∷ [] else line ∷ job_lines later

-- the lines after the first `end`
abbrev pub later_lines : List (List ℕ) → List (List ℕ)
later_lines [] = []
later_lines (line ∷ later) = if bytes_eq line (codes "end") then later else later_lines later

-- the items of this many replicas and rows that the lines from `number` on give after these, up to
-- an `end`
abbrev pub items_from : ℕ → ℕ → List Item → ℕ → List (List ℕ) → Front (List Item)
items_from replicas rows items number [] = Breaks number NO_END
items_from replicas rows items number (line ∷ later) =
    if bytes_eq line (codes "end")
    then Begins items (record { number = number + 1; lines = later })
    else option_map_or (λ item. items_from replicas rows (items ++ item ∷ []) (number + 1) later)
    (item_of replicas rows (words line)) (Breaks number EVENT)

-- these items and those of the lines that are left, if no line is left then
abbrev pub items_with : ℕ → ℕ → List Item → Left → Reading (List Item)
items_with replicas rows items left =
    whole (items_from replicas rows items left.number left.lines)

-- a job and its items
pub record AttestedTrace : Type 0 where
  pub job : Job
  pub items : List Item

-- the job with its items, if these can be read
abbrev pub of_items : Job → Reading (List Item) → Reading AttestedTrace
of_items job (Fits items) = Fits (record { job = job; items = items })
of_items job (Leaves line cause) = Leaves line cause

-- the items behind a job among these lines, if the job can be read
abbrev pub of_job : Reading Job → List (List ℕ) → Reading AttestedTrace
of_job (Fits job) all =
    of_items job
    (items_with job.config.replicas (row_count job.config) []
    (record { number = length (job_lines all) + 1; lines = later_lines all }))
of_job (Leaves line cause) all = Leaves line cause

-- the job and the items that bytes spell, or the first line that leaves the grammar
abbrev pub attested_trace : List ℕ → Reading AttestedTrace
attested_trace bytes = of_job (job (ended (job_lines (lines bytes)))) (lines bytes)

-- the lines can be counted
abbrev pub HasFew : Left → Type 0
HasFew left = left.number + length left.lines + 1 < 2 ^ 32

-- what was read of the lines that were left is the next item, or there is none, or the line leaves
-- the grammar
abbrev pub GivesItem :
    ℕ → ℕ → List Item → Left → Result (Option Item) InputEnd → Left → Type 0
GivesItem replicas rows items left (Ok (Some item)) later =
    items_with replicas rows items left
    ≡ items_with replicas rows (items ++ item ∷ []) later
GivesItem replicas rows items left (Ok None) later =
    items_with replicas rows items left ≡ Fits items
GivesItem replicas rows items left (Err (Refused line cause)) later =
    items_with replicas rows items left ≡ Leaves line cause
GivesItem replicas rows items left (Err NoMemory) later = ⊥

-- the items end here, or the next line leaves the grammar
abbrev pub EndsItems : List Item → Left → Result (Option Item) InputEnd → Type 0
EndsItems items left (Ok (Some item)) = ⊥
EndsItems items left (Ok None) = whole (Begins items left) ≡ Fits items
EndsItems items left (Err (Refused line cause)) = whole (Begins items left) ≡ Leaves line cause
EndsItems items left (Err NoMemory) = ⊥

-- the bytes spell this job, and these lines are left behind it
pub record OpensItems (bytes : List ℕ) (given : Job) (left : Left) : Type 0 where
  pub reading :
      attested_trace bytes
      ≡ of_items given (items_with given.config.replicas (row_count given.config) [] left)
  pub number : left.number ≡ length (job_lines (lines bytes)) + 1
