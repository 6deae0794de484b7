use Rattle.std.proofs.Common.{List, ◌≡◌, ◌∙◌, ap, arith, length, min, subst, take}
use Rattle.std.proofs.lemmas.List.{length-take-le, take_min}
use Rattle.std.proofs.lemmas.Option.{slice_get_within}
use Rattle.mu_course.specs.Walks.{IsWalked}
use Rattle.mu_verdict.proofs.Breaking.{broken_among}
use Rattle.mu_model.specs.Legal.{IsLegal}
use Rattle.mu_model.specs.declared.event.Event.{Event}
use Rattle.mu_telling.specs.Shown.{IsMoment}
use Rattle.mu_verdict.proofs.showing.show_trace.Goals as goal

pub moment_of-requires-clause-stands : goal.moment_of-requires-clause-stands
moment_of-requires-clause-stands c =
    let walked = c.in-Ok-default-None in
    subst (λ b. IsWalked c.in-Ok.read.0.config (take c.count_within-taken.result c.as_slice-events.result.now) walked.walk b) walked.field-0-1-is walked.ensures.judged

pub returns-in-Ok-default-Some-clause-says : goal.returns-in-Ok-default-Some-clause-says
returns-in-Ok-default-Some-clause-says c =
    let config = c.in-Ok.read.0.config in
    let events = c.as_slice-events.result.now in
    let taken = c.count_within-taken.result in
    let broken = c.in-Ok-default-Some.broken in
    let walked = c.in-Ok-default-Some in
    let breaks = subst (λ b. IsWalked config (take taken events) walked.field-0-0 b) walked.field-0-1-is walked.ensures.judged in
    let within = slice_get_within (take taken events) broken.index broken.event breaks.there in
    let long = length-take-le taken events (omega (arith, c.count_within-taken.ensures)) in (
      c.line_of.ensures (record { job = c.in-Ok.read.0; events = c.in-Ok.read.1 }) c.in-Ok.ensures.reading c.as_slice-events.ensures (broken_among config taken events broken breaks),
      omega (arith, within, long, c.count_within-taken.ensures),
    )

pub returns-in-Ok-moment_of-clause-says : goal.returns-in-Ok-moment_of-clause-says
returns-in-Ok-moment_of-clause-says c =
    let n = c.args.count in
    let config = c.in-Ok.read.0.config in
    let events = c.as_slice-events.result.now in
    let taken = c.count_within-taken.result in
    let moment = c.in-Ok-moment_of.moment in
    let walked = c.in-Ok-default-None in
    let stands = subst (λ b. IsWalked config (take taken events) walked.walk b) walked.field-0-1-is walked.ensures.judged in
    let front : take taken events ≡ take n c.in-Ok.read.1 = ap (λ k. take k events) c.count_within-taken.ensures ∙ (take_min n events ∙ ap (take n) c.as_slice-events.ensures) in
    record {
      spelled = record { job = c.in-Ok.read.0; events = c.in-Ok.read.1 };
      fits = c.in-Ok.ensures.reading;
      legal = subst (λ (es : List Event). IsLegal config es) front stands.legal;
      is = subst (λ (es : List Event). IsMoment config es (min n (length es)) moment) c.as_slice-events.ensures
          (subst (λ k. IsMoment config events k moment) c.count_within-taken.ensures c.in-Ok-moment_of.ensures.is);
    }
