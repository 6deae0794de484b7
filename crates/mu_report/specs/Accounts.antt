-- account lines: what a legal list of events comes to, as lines without their ends: those of the
-- report of a run, with how each replica has ended so far.
use Rattle.std.specs.Prelude.{ℕ, zero, suc, ◌+◌, List, [], ◌∷◌, ◌++◌, length, slice_get, None, Some, codes}
use Rattle.std.specs.declared.option.Option.{Option}
use Rattle.std.specs.Fmt.{decimal}
use Rattle.mu_outcome.specs.declared.account.EndSoFar.{EndSoFar}
use Rattle.mu_outcome.specs.Outcomes.{log_of, commits_of, status_of}
use Rattle.mu_report.specs.Report.{entry_lines, replies_lines}
use Rattle.mu_outcome.specs.declared.account.Account.{Account}

-- how a replica has ended so far, and nothing if that is not told
abbrev pub so_far_words : Option EndSoFar → List ℕ
so_far_words None = []
so_far_words (Some EndSoFar.Running) = codes "running"
so_far_words (Some EndSoFar.Stopped) = codes "stopped"
so_far_words (Some EndSoFar.Budget) = codes "budget"
so_far_words (Some (EndSoFar.Outrun region position)) =
    codes "outrun " ++ decimal region ++ codes " " ++ decimal position
so_far_words (Some EndSoFar.Finished) = codes "finished"

-- what is told of the log of replica r as a whole
abbrev pub account_line : Account → ℕ → List ℕ
account_line a r =
    codes "log " ++ decimal r ++ codes " entries " ++ decimal (length (log_of a.outcome r))
    ++ codes " commits " ++ decimal (length (commits_of a.outcome r)) ++ codes " "
    ++ so_far_words (slice_get a.ends r)

-- the log of replica r
abbrev pub account_log_lines : Account → ℕ → List (List ℕ)
account_log_lines a r = account_line a r ∷ entry_lines a.outcome.job 0 (log_of a.outcome r)

-- the logs of this many replicas, the first of them r
abbrev pub account_logs_lines : Account → ℕ → ℕ → List (List ℕ)
account_logs_lines a r zero = []
account_logs_lines a r (suc replicas) =
    account_log_lines a r ++ account_logs_lines a (r + 1) replicas

-- the report except its last line
abbrev pub account_body_lines : Account → List (List ℕ)
account_body_lines a = (codes "report " ++ decimal a.outcome.job.config.version)
    ∷
    (account_logs_lines a 0 a.outcome.job.config.replicas ++ replies_lines a.outcome)

-- the whole report
abbrev pub account_lines : Account → List (List ℕ)
account_lines a =
    account_body_lines a ++ (codes "status " ++ decimal (status_of a.outcome)) ∷ []
