-- The job so far with the stops so far as its script, and what an account tells of it.
use Rattle.std.proofs.Common.{◌≡◌, List, [], Result, Ok, Err, ap, subst, ◌∙◌}
use Rattle.std.specs.Prelude.{IfOk}
use Rattle.mu_engine.specs.Live.{Live}
use Rattle.mu_engine.specs.Moments.{IsMoment}
use Rattle.mu_input.specs.declared.job.Job.{Job}
use Rattle.mu_model.specs.declared.event.Event.{Event}
use Rattle.mu_model.specs.declared.script.Pause.{Pause}
use Rattle.mu_model.specs.declared.script.Stop.{Stop}
use Rattle.mu_outcome.specs.Outcomes.{Agrees}
use Rattle.mu_outcome.specs.declared.account.Account.{Account}
use Rattle.mu_telling.specs.Accounts.{IsAccount}
use Rattle.mu_serve.specs.Closing.{ComesTo, job_so_far, stops_so_far}

-- a job with another script
abbrev pub scripted : Job → List Stop → List Pause → Job
scripted job stops pauses = record {
  config = job.config;
  commands = job.commands;
  script = record { stops = stops; pauses = pauses };
}

pub is_job_so_far : (live : Live) (job : Job) (stops : List Stop) (pauses : List Pause)
    → job ≡ live.job → stops ≡ stops_so_far live → pauses ≡ []
    → scripted job stops pauses ≡ job_so_far live
is_job_so_far live job stops pauses same are none =
    ap (λ j. scripted j stops pauses) same ∙ ap (λ l. scripted live.job l pauses) are
    ∙ ap (scripted live.job (stops_so_far live)) none

-- what an account tells of the job so far
pub comes_to_of : {E : Type 0} (live : Live) (job : Job) (events : List Event)
    (result : Result Account E) → IsMoment live.job live.events → job ≡ job_so_far live
    → events ≡ live.events
    → IfOk result (λ account. account.outcome.job ≡ job) → IfOk result (IsAccount events)
    → IfOk result (λ account. Agrees account.outcome) → IfOk result (ComesTo live)
comes_to_of live job events (Ok account) at of these is so agrees = record {
  moment = at;
  job = is ∙ of;
  is = subst (λ l. IsAccount l account) these so;
  agrees = agrees;
}
comes_to_of live job events (Err e) at of these is so agrees = tt
