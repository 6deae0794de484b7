use Rattle.std.proofs.Common.{◌∙◌, Ok, ap, subst, sym}
use Rattle.mu_input.specs.Readings.{Fits}
use Rattle.mu_input.specs.Traces.{HasRead, ReadsOn}
use Rattle.mu_input.proofs.traces.read_trace.Goals as goal

pub loop-events-preserved : goal.loop-events-preserved
loop-events-preserved c =
    let bytes = c.args.bytes.now in
    let job = c.in_ok-job.job in
    let found = c.in_ok-event.ensures.reading bytes job _ c.loop-events.invariant in
    subst (λ events. HasRead bytes job events c.next.new.self) (sym c.in_ok-push.ensures.items)
    (subst (λ found. ReadsOn bytes job c.loop-events.events.items (Ok found) c.next.new.self) c.in-Some.is found)

pub returns-clause-reading : goal.returns-clause-reading
returns-clause-reading c =
    let bytes = c.args.bytes.now in
    let job = c.in_ok-job.job in
    let found = c.in_ok-event.ensures.reading bytes job _ c.loop-events.invariant in
    let all = subst (λ found. ReadsOn bytes job c.loop-events.events.items (Ok found) c.next.new.self) c.in_default.is found in
    all.fits ∙ ap (λ events. Fits (record { job = job; events = events })) (sym c.from_vec.ensures)
