-- summary: the summary of a run, as lines without their ends.
use Rattle.std.specs.Prelude.{ℕ, zero, suc, ◌+◌, List, [], ◌∷◌, ◌++◌, length, codes}
use Rattle.std.specs.Fmt.{decimal}
use Rattle.kv_store.specs.declared.store.Reply.{Reply}
use Rattle.kv_store.specs.declared.store.Reply.TheVariants as reply
use Rattle.mu_outcome.specs.declared.outcome.Outcome.{Outcome}
use Rattle.mu_outcome.specs.Outcomes.{status_of}
use Rattle.mu_report.specs.declared.summary.Kind.{Kind}
use Rattle.mu_report.specs.declared.summary.Kind.TheVariants as kind
use Rattle.mu_report.specs.Report.{log_line}

-- 1 for a reply of this kind, and 0 for another
abbrev pub one_of : Kind → Reply → ℕ
one_of kind.Done reply.Done = 1
one_of kind.Done (reply.Value text) = 0
one_of kind.Done reply.None = 0
one_of kind.Done (reply.Kept text) = 0
one_of kind.Value reply.Done = 0
one_of kind.Value (reply.Value text) = 1
one_of kind.Value reply.None = 0
one_of kind.Value (reply.Kept text) = 0
one_of kind.None reply.Done = 0
one_of kind.None (reply.Value text) = 0
one_of kind.None reply.None = 1
one_of kind.None (reply.Kept text) = 0
one_of kind.Kept reply.Done = 0
one_of kind.Kept (reply.Value text) = 0
one_of kind.Kept reply.None = 0
one_of kind.Kept (reply.Kept text) = 1

-- how many of the replies are of this kind
abbrev pub count_of : Kind → List Reply → ℕ
count_of kind [] = 0
count_of kind (reply ∷ replies) = one_of kind reply + count_of kind replies

-- how many replies there are of each kind
abbrev pub counts_line : List Reply → List ℕ
counts_line replies =
    codes "replies done " ++ decimal (count_of kind.Done replies) ++ codes " value "
    ++ decimal (count_of kind.Value replies)
    ++ codes " none " ++ decimal (count_of kind.None replies) ++ codes " kept "
    ++ decimal (count_of kind.Kept replies)

-- what is told of the logs of this many replicas as a whole, the first of them r
abbrev pub head_lines : Outcome → ℕ → ℕ → List (List ℕ)
head_lines o r zero = []
head_lines o r (suc replicas) = log_line o r ∷ head_lines o (r + 1) replicas

-- the whole summary
abbrev pub summary_lines : Outcome → List (List ℕ)
summary_lines o = (codes "bulk " ++ decimal (length o.job.commands))
    ∷
    (head_lines o 0 o.job.config.replicas ++ counts_line o.replies
    ∷ (codes "status " ++ decimal (status_of o)) ∷ [])
