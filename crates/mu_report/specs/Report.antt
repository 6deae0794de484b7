-- report: the report of a run, as lines without their ends.
use Rattle.std.specs.Prelude.{ℕ, zero, suc, if◌then◌else◌, ◌+◌, ◌-◌, ◌%◌, ◌<◌, ◌^◌, List, [], ◌∷◌, ◌++◌, length, map, slice_get, codes, All}
use Rattle.std.specs.Fmt.{decimal}
use Rattle.kv_store.specs.Commands.{Request}
use Rattle.kv_store.specs.declared.store.Reply.{Reply}
use Rattle.mu_model.specs.Contents.{is_mark}
use Rattle.mu_input.specs.declared.job.Job.{Job}
use Rattle.mu_outcome.specs.declared.outcome.Outcome.{Outcome}
use Rattle.mu_outcome.specs.Entries.{commands_of, commands_in, longest}
use Rattle.mu_outcome.specs.Outcomes.{log_of, commits_of, status_of}
use Rattle.mu_report.specs.Words.{name_of, op_words, reply_words, end_words}

-- a command that the entry at this position stands for
abbrev pub entry_line : ℕ → Request → List ℕ
entry_line position command =
    decimal position ++ codes " " ++ name_of command ++ codes " " ++ op_words command.op

-- a replica that is gone from this position on
abbrev pub gone_line : ℕ → ℕ → List ℕ
gone_line position q = decimal position ++ codes " gone " ++ decimal q

-- an entry at this position: the mark that it is, or a line for each command that it stands for
abbrev pub lines_of_entry : Job → ℕ → ℕ → List (List ℕ)
lines_of_entry job position v =
    if is_mark job.config (v % 4096 - 4080) v then gone_line position (v % 4096 - 4080) ∷ []
    else map (entry_line position) (commands_of job v)

-- these entries, the first of them at this position
abbrev pub entry_lines : Job → ℕ → List ℕ → List (List ℕ)
entry_lines job position [] = []
entry_lines job position (v ∷ vs) =
    lines_of_entry job position v ++ entry_lines job (position + 1) vs

-- what is told of the log of replica r as a whole
abbrev pub log_line : Outcome → ℕ → List ℕ
log_line o r = codes "log " ++ decimal r ++ codes " entries " ++ decimal (length (log_of o r))
    ++ codes " commits " ++ decimal (length (commits_of o r)) ++ codes " "
    ++ end_words (slice_get o.ends r)

-- the log of replica r
abbrev pub log_lines : Outcome → ℕ → List (List ℕ)
log_lines o r = log_line o r ∷ entry_lines o.job 0 (log_of o r)

-- the logs of this many replicas, the first of them r
abbrev pub logs_lines : Outcome → ℕ → ℕ → List (List ℕ)
logs_lines o r zero = []
logs_lines o r (suc replicas) = log_lines o r ++ logs_lines o (r + 1) replicas

-- a command, and the reply to it
abbrev pub answer_line : Request → Reply → List ℕ
answer_line command reply = name_of command ++ codes " " ++ reply_words reply

-- commands, each with the reply at its place, up to the end of the shorter list
abbrev pub answer_lines : List Request → List Reply → List (List ℕ)
answer_lines [] replies = []
answer_lines (command ∷ commands) [] = []
answer_lines (command ∷ commands) (reply ∷ replies) =
    answer_line command reply ∷ answer_lines commands replies

-- the replies to the commands of the longest log
abbrev pub replies_lines : Outcome → List (List ℕ)
replies_lines o = let commands = commands_in o.job (longest o.logs) in
    (codes "replies " ++ decimal (length commands)) ∷ answer_lines commands o.replies

-- the report except its last line
abbrev pub body_lines : Outcome → List (List ℕ)
body_lines o = (codes "report " ++ decimal o.job.config.version)
    ∷
    (logs_lines o 0 o.job.config.replicas ++ replies_lines o)

-- the whole report
abbrev pub report_lines : Outcome → List (List ℕ)
report_lines o = body_lines o ++ (codes "status " ++ decimal (status_of o)) ∷ []

-- the job has fewer than 2^15 commands, and each log fewer than 2^32 entries: the bytes of the
-- report can be counted in 64 bits
abbrev pub HasShortLists : Outcome → Type 0
HasShortLists o = (length o.job.commands < 2 ^ 15) × All (λ log. length log < 2 ^ 32) o.logs
