-- agrees: the headline: of any two logs one is a prefix of the other, each entry is a batch or a
-- mark, each client's commands stand in order and once, commits stand in every log, and replies are
-- those of the store.
--
-- run of its job: an outcome whose journals are parts of one legal list.
--
-- journals of an outcome: the events of each replica, as the order or the threads' ports have them.
use Rattle.std.specs.Prelude.{ℕ, zero, suc, ◌+◌, ◌++◌, ◌≡◌, ◌<◌, ◌≤◌, ◌⊎◌, ◌==◌, if◌then◌else◌, List, [], ◌∷◌, length, slice_get, map, Some, None, All}
use Rattle.std.specs.declared.option.Option.{Option}
use Rattle.kv_store.specs.Tables.{replies}
use Rattle.kv_store.specs.declared.store.Reply.{Reply}
use Rattle.kv_store.specs.Sessions.{IsInSession}
use Rattle.mu_model.specs.declared.event.Event.{Event}
use Rattle.mu_model.specs.declared.script.End.{End}
use Rattle.mu_model.specs.Journals.{Record}
use Rattle.mu_model.specs.Histories.{history, part, IsPrefixOf}
use Rattle.mu_model.specs.Contents.{StandsForEntry, row_count}
use Rattle.mu_model.specs.Ends.{Obeys}
use Rattle.mu_model.specs.Knowledge.{applied, commits}
use Rattle.mu_model.specs.Legal.{IsLegal}
use Rattle.mu_model.specs.Parts.{HasParts}
use Rattle.mu_model.specs.Room.{reserve}
use Rattle.shared_fabric.specs.Gathering.{Collected}
use Rattle.mu_outcome.specs.declared.outcome.Outcome.{Outcome}
use Rattle.mu_outcome.specs.declared.status.Status.{Status}
use Rattle.mu_knowledge.specs.Commits.{pair_of}
use Rattle.mu_outcome.specs.Entries.{commands_in, longest}
use Rattle.mu_outcome.specs.Statuses.{code_of}
use Rattle.mu_outcome.specs.Turns.{IsTurns}

-- the list if there is one
abbrev pub or_empty : {A : Type 0} → Option (List A) → List A
or_empty None = []
or_empty (Some xs) = xs

-- the parts of the replicas below n, in order of id
abbrev pub parts_below : ℕ → List Event → List (List Event)
parts_below zero events = []
parts_below (suc n) events = parts_below n events ++ part n events ∷ []

-- each replica's events, as they are kept: the parts of the order if there is one, else those that
-- the threads' ports had, else nothing
abbrev pub kept_events : ℕ → Option Record → Option Collected → List (List Event)
kept_events n (Some order) gathered = parts_below n order.events
kept_events n None (Some gathered) = gathered.parts
kept_events n None None = []

-- the journals: the events of each replica, in order of id
abbrev pub journals_of : Outcome → List (List Event)
journals_of o = kept_events o.job.config.replicas o.order o.gathered

-- the events of replica r
abbrev pub journal_of : Outcome → ℕ → List Event
journal_of o r = or_empty (slice_get (journals_of o) r)

-- what replica r applied
abbrev pub log_of : Outcome → ℕ → List ℕ
log_of o r = or_empty (slice_get o.logs r)

-- what replica r committed: positions and values
abbrev pub commits_of : Outcome → ℕ → List (ℕ × ℕ)
commits_of o r = or_empty (slice_get (map (map pair_of) o.commits) r)

-- what replica r replied
abbrev pub replies_of : Outcome → ℕ → List Reply
replies_of o r = or_empty (slice_get o.own_replies r)

-- the agreement of the replicas, and the replies over what they agreed on
pub record Agrees (o : Outcome) : Type 0 where
  -- of any two logs one is a prefix of the other
  pub prefixes :
      (r s : ℕ) → r < o.job.config.replicas → s < o.job.config.replicas
      → IsPrefixOf (log_of o r) (log_of o s) ⊎ IsPrefixOf (log_of o s) (log_of o r)
  -- every entry is a batch of the job's commands, or a mark
  pub entries :
      (r i v : ℕ) → r < o.job.config.replicas → slice_get (log_of o r) i ≡ Some v
      → StandsForEntry o.job.config v
  -- each client's commands stand in order and once
  pub sessions : (r : ℕ) → r < o.job.config.replicas → IsInSession (commands_in o.job (log_of o r))
  -- what a replica committed at a position stands there in every log that reaches it
  pub committed :
      (r s k i v : ℕ) → r < o.job.config.replicas → s < o.job.config.replicas
      → slice_get (commits_of o r) k ≡ Some (i, v) → i < length (log_of o s)
      → slice_get (log_of o s) i ≡ Some v
  -- the replies are those of the store over the commands of the longest log
  pub answered : o.replies ≡ replies (commands_in o.job (longest o.logs))
  -- and each replica whose log is as long replied the same
  pub told :
      (r : ℕ) → r < o.job.config.replicas → length (log_of o r) ≡ length (longest o.logs)
      → o.replies ≡ replies_of o r
  -- of two replicas the replies of the one with the shorter log begin those of the other
  pub replied :
      (r s : ℕ) → r < o.job.config.replicas → s < o.job.config.replicas
      → length (log_of o r) ≤ length (log_of o s) → IsPrefixOf (replies_of o r) (replies_of o s)

-- the outcome is a run of its job: one legal list of events has the journals as its parts, in the
-- order of turns; each journal ends exactly there; the logs, commits and ends are those that the
-- definitions give of the journals; each replica's replies are those of the store over the commands
-- of its log, and what is told are those of the longest
pub record IsRun (o : Outcome) : Type 0 where
  pub order : Record
  pub given : o.order ≡ Some order
  pub legal : IsLegal o.job.config order.events
  pub parts : HasParts o.job.config order.events (journals_of o)
  pub turns :
      IsTurns o.job.script (map length (journals_of o)) (map (λ e. e.by) order.events)
  pub counts :
      (length o.logs ≡ o.job.config.replicas) × (length o.commits ≡ o.job.config.replicas)
      × (length o.ends ≡ o.job.config.replicas)
  pub ended :
      (r : ℕ) → r < o.job.config.replicas
      → (end : End) × (slice_get o.ends r ≡ Some end)
      × Obeys o.job.config o.job.script r (history (journal_of o r)) end
  pub logs :
      (r : ℕ) → r < o.job.config.replicas
      → log_of o r ≡ applied o.job.config r (history (journal_of o r))
  pub commits :
      (r : ℕ) → r < o.job.config.replicas
      → commits_of o r ≡ commits o.job.config r (history (journal_of o r))
  pub reply_count : length o.own_replies ≡ o.job.config.replicas
  pub own_replies :
      (r : ℕ) → r < o.job.config.replicas
      → replies_of o r ≡ replies (commands_in o.job (log_of o r))
  pub replies : o.replies ≡ replies (commands_in o.job (longest o.logs))

-- the job has few commands, and no log is longer than its positions
abbrev pub IsWithinJob : Outcome → Type 0
IsWithinJob o =
    (length o.job.commands ≤ 1500)
    × All (λ log. length log ≤ row_count o.job.config + reserve o.job.config + 1) o.logs
    × (row_count o.job.config + reserve o.job.config ≤ 1507)

-- done if all commands of the job are in the longest log, else unfinished
abbrev pub status_after : Outcome → Status
status_after o =
    if length (commands_in o.job (longest o.logs)) == length o.job.commands then Status.Done
    else Status.Unfinished

-- the number of that status
abbrev pub status_of : Outcome → ℕ
status_of o = code_of (status_after o)
