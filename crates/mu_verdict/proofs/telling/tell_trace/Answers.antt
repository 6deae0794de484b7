use Rattle.std.proofs.Common.{List, arith, subst}
use Rattle.mu_course.specs.Walks.{IsWalked, StandsForWalk}
use Rattle.mu_model.specs.Histories.{history}
use Rattle.mu_model.specs.declared.event.Event.{Event}
use Rattle.mu_verdict.proofs.telling.tell_trace.Goals as goal

pub returns-in-Ok-account_of-clause-says : goal.returns-in-Ok-account_of-clause-says
returns-in-Ok-account_of-clause-says c =
    let job = c.in-Ok.read.0 in
    let events = c.in-Ok.read.1 in
    let walked = c.in-Ok-default-None in
    let all = subst (λ b. IsWalked job.config c.as_slice-events.result.now walked.walk b) walked.field-0-1-is walked.ensures.judged in
    let held = subst (λ (es : List Event). StandsForWalk job.config (history es) walked.walk) c.as_slice-events.ensures all in
    let account = c.in-Ok-account_of.ensures in
    record {
      spelled = record { job = job; events = events };
      fits = c.in-Ok.ensures.reading;
      job = account.job;
      legal = held.legal;
      is = account.is events held;
      agrees = account.agrees events held;
    }

pub returns-in-Ok-account_of-clause-short : goal.returns-in-Ok-account_of-clause-short
returns-in-Ok-account_of-clause-short c =
    let walked = c.in-Ok-default-None in
    let events = c.as_slice-events.result.now in
    let all = subst (λ b. IsWalked c.in-Ok.read.0.config events walked.walk b) walked.field-0-1-is walked.ensures.judged in
    let reach = c.in-Ok-account_of.ensures.reach events all in
    (omega (arith, reach.0), λ i d low. let few = reach.1 i d low in omega (arith, few, reach.2))
