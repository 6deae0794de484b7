-- stated job: a large job, stated by its number of commands.
use Rattle.std.specs.Prelude.{ℕ, zero, suc, ◌+◌, ◌-◌, ◌/◌, ◌%◌, ◌==◌, List, [], ◌∷◌, ◌++◌, codes, if◌then◌else◌}
use Rattle.std.specs.Fmt.{decimal}
use Rattle.kv_store.specs.Commands.{Request}
use Rattle.kv_store.specs.declared.command.Op.{Op}
use Rattle.kv_store.specs.declared.command.Op.TheVariants.{Put, Get, Del, Swap, Cas}
use Rattle.mu_input.specs.Grammar.{job_of}
use Rattle.mu_input.specs.declared.heading.Settings.{Settings}
use Rattle.mu_input.specs.declared.job.Job.{Job}

-- the key of command j: three keys take turns
abbrev pub bulk_key : ℕ → List ℕ
bulk_key j = codes "k" ++ decimal (j % 3)

-- the text of command j
abbrev pub bulk_text : ℕ → List ℕ
bulk_text j = codes "v" ++ decimal j

-- the text that a cas looks for: at odd j the one that the put three commands before sets, and else
-- one that nobody sets
abbrev pub bulk_old_text : ℕ → List ℕ
bulk_old_text j = if j % 2 == 1 then bulk_text (j - 3) else codes "x"

-- what command j asks for: five operations take turns
abbrev pub bulk_op : ℕ → Op
bulk_op j =
    if j % 5 == 0 then Put (bulk_key j) (bulk_text j)
    else if j % 5 == 1 then Get (bulk_key j)
    else if j % 5 == 2 then Swap (bulk_key j) (bulk_text j)
    else if j % 5 == 3 then Cas (bulk_key j) (bulk_old_text j) (bulk_text j)
    else Del (bulk_key j)

-- command j: four clients take turns
abbrev pub bulk_command : ℕ → Request
bulk_command j = record { client = j % 4; number = j / 4 + 1; op = bulk_op j }

-- the first n commands
abbrev pub bulk_commands : ℕ → List Request
bulk_commands zero = []
bulk_commands (suc j) = bulk_commands j ++ bulk_command j ∷ []

-- three replicas of version 1, with rings of 64 places and all the steps that there may be
abbrev pub bulk_settings : Settings
bulk_settings = record { version = 1; width = 1; replicas = 3; ring = 64; budget = 131071 }

-- the job of n commands; nothing befalls its replicas
abbrev pub bulk_job : ℕ → Job
bulk_job n = job_of bulk_settings (bulk_commands n) (record { stops = []; pauses = [] })
