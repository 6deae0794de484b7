-- commands of a log: what the entries of a log stand for, in a job.
use Rattle.std.specs.Prelude.{ℕ, ◌+◌, ◌%◌, if◌then◌else◌, List, [], ◌∷◌, ◌++◌, take, drop, length, nat_lt}
use Rattle.kv_store.specs.Commands.{Request}
use Rattle.mu_model.specs.Contents.{is_batch, rest_of}
use Rattle.mu_input.specs.declared.job.Job.{Job}

-- the commands that the payload number v stands for: those of its batch, and none of a mark
abbrev pub commands_of : Job → ℕ → List Request
commands_of job v =
    if is_batch job.config v
    then take (rest_of job.config (v % 4096) + 1) (drop (v % 4096) job.commands) else []

-- the commands of these entries, in order
abbrev pub commands_in : Job → List ℕ → List Request
commands_in job [] = []
commands_in job (v ∷ vs) = commands_of job v ++ commands_in job vs

-- the longest of these logs, the first at a tie
abbrev pub longest : List (List ℕ) → List ℕ
longest [] = []
longest (log ∷ logs) = if nat_lt (length log) (length (longest logs)) then longest logs else log
