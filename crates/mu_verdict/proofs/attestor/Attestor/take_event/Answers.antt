use Rattle.std.proofs.Common.{◌++◌, ◌∙◌, ap, arith}
use Rattle.mu_verdict.proofs.AttestedItems.{few_events}
use Rattle.mu_clients.specs.Attested.{events_in, rows_of_put}
use Rattle.mu_verdict.proofs.attestor.Attestor.take_event.Goals as goal

pub returns-in-Some : goal.returns-in-Some
returns-in-Some c = λ past held. c.in-Some.ensures (events_in past) held.walk

pub returns : goal.returns
returns c = λ past held.
    let job = c.args.job.now in
    let follows = c.in_default.ensures (events_in past) held.walk in
    let few = few_events job past c.args.self.now c.requires.config held in
    let events = held.events in
    record {
      attested = (held.attested, follows);
      walk = c.take.ensures.stands (events_in past) (held.walk.legal, follows) held.walk;
      got = held.got;
      put = c.in_ok-push_put.ensures ∙ ap (λ l. l ++ rows_of_put job.config c.args.event.now.verb) held.put;
      events = omega (arith, c.saturating_add-self.ensures, few, events);
    }
