-- closes, reports: what a session comes to at its end, and what is said then.
use Rattle.std.specs.Prelude.{Bool, List, None, Some, [], false, length, true, ℕ, ◌≡◌, ⊤}
use Rattle.std.specs.declared.option.Option.{Option}
use Rattle.std.specs.List.{slice_get}
use Rattle.mu_engine.specs.Live.{Live}
use Rattle.mu_engine.specs.Moments.{IsMoment}
use Rattle.mu_input.specs.declared.job.Job.{Job}
use Rattle.mu_model.specs.Histories.{history, part}
use Rattle.mu_model.specs.declared.event.Event.{Event}
use Rattle.mu_model.specs.declared.script.Stop.{Stop}
use Rattle.mu_outcome.specs.Outcomes.{Agrees}
use Rattle.mu_outcome.specs.declared.account.Account.{Account}
use Rattle.mu_report.specs.declared.said.Said.{Said}
use Rattle.mu_telling.specs.Accounts.{IsAccount}
use Rattle.mu_telling.specs.Shown.{given_below}
use Rattle.mu_serve.specs.Sessions.{IsAfter, Talk, is_stopped}
use Rattle.mu_serve.specs.declared.closing.TheConstants.{CLOSING_ROUNDS}

-- the stop of a replica, if it is stopped: after the steps that it made
abbrev pub stop_if : Bool → ℕ → List Event → Option Stop
stop_if false r events = None
stop_if true r events = Some (record { replica = r; steps = length (part r (history events)) })

-- the stops so far, in order of id
abbrev pub stops_so_far : Live → List Stop
stops_so_far live =
    given_below live.job.config.replicas
    (λ r. stop_if (is_stopped (slice_get live.holds r)) r live.events)

-- the commands so far as a job whose script has the stops so far
abbrev pub job_so_far : Live → Job
job_so_far live = record {
  config = live.job.config;
  commands = live.job.commands;
  script = record { stops = stops_so_far live; pauses = [] };
}

-- the events so far are a legal list of the commands, and this is what they come to: logs, commits
-- and replies, and how each replica has ended
pub record ComesTo (live : Live) (account : Account) : Type 0 where
  pub moment : IsMoment live.job live.events
  pub job : account.outcome.job ≡ job_so_far live
  pub is : IsAccount live.events account
  pub agrees : Agrees account.outcome

-- rounds go on, CLOSING_ROUNDS of them, and this is what the events come to then
pub record ClosesLive (live : Live) (account : Account) : Type 0 where
  pub after : Live
  pub rounds : IsAfter CLOSING_ROUNDS live after
  pub comes_to : ComesTo after account

abbrev pub Closes : Talk → Account → Type 0
Closes talk account = ClosesLive talk.live account

-- what is said at the end of the input: the report, or that there is no memory for it
abbrev pub Reports : Talk → Said → Type 0
Reports talk (Said.Told account) = Closes talk account
Reports talk Said.NoMemory = ⊤
Reports talk said = ⊥
