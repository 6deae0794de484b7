use Rattle.std.proofs.Common.{List, sym, subst, arith}
use Rattle.mu_model.specs.Allowed.{Allowed}
use Rattle.mu_model.specs.Histories.{history, part}
use Rattle.mu_model.specs.Packing.{FitsJournal}
use Rattle.mu_model.proofs.Unpacking.{answered_fits}
use Rattle.mu_model.specs.declared.event.Event.{Event}
use Rattle.mu_regions.proofs.Range.{in_range}
use Rattle.mu_port.specs.Keeping.{Kept}
use Rattle.list_fabric.specs.Kept.{IsListKept}
use Rattle.list_fabric.proofs.Going.{has_room, kept_next}
use Rattle.list_fabric.proofs.fabric.ListFabricMemory.step.Goals as goal

pub push-requires-clause-room : goal.push-requires-clause-room
push-requires-clause-room c =
    let fabric = c.self.inside in
    let may = subst (λ (k : Kept). Allowed k.config c.args.by (part c.args.by (history k.events)) c.args.verb) (sym c.self.view_is) c.requires in
    let room = has_room fabric.config fabric.kept.events fabric.kept.room fabric.regions c.args.by c.args.verb c.self.invariant may in
    omega (arith, room, c.self.invariant.room_left)

pub push-requires-clause-fits : goal.push-requires-clause-fits
push-requires-clause-fits c =
    let fabric = c.self.inside in
    let past = history fabric.kept.events in
    let r = c.args.by in
    let verb = c.args.verb in
    let may = subst (λ (k : Kept). Allowed k.config r (part r (history k.events)) verb) (sym c.self.view_is) c.requires in
    let answer = c.answer-answer.ensures fabric.config past (in_range fabric.config r (part r past) verb may) c.self.invariant.stands in
    subst (λ a. FitsJournal (record { by = r; verb = verb; answer = a })) (sym answer) (answered_fits fabric.config r past verb)

pub invariant_of-self : goal.invariant_of-self
invariant_of-self c =
    let fabric = c.self.inside in
    let past = history fabric.kept.events in
    let may = subst (λ (k : Kept). Allowed k.config c.args.by (part c.args.by (history k.events)) c.args.verb) (sym c.self.view_is) c.requires in
    let answer = c.answer-answer.ensures fabric.config past (in_range fabric.config c.args.by (part c.args.by past) c.args.verb may) c.self.invariant.stands in
    let event : Event = record { by = c.args.by; verb = c.args.verb; answer = c.answer-answer.result } in
    let next = kept_next fabric.config fabric.kept.events fabric.kept.room c.push.new.self.room fabric.regions c.take.new.self event c.self.invariant may answer
    (λ short near stands. c.take.ensures fabric.config past short near stands) c.push.ensures.room in
    subst (λ (events : List Event). IsListKept fabric.config events c.push.new.self.room c.take.new.self) (sym c.push.ensures.events) next

pub returns-clause-legal : goal.returns-clause-legal
returns-clause-legal c = (invariant_of-self c).legal
