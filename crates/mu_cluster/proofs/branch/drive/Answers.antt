use Rattle.std.proofs.Common.{◌+◌, ◌∙◌, ap, arith, length, refl, subst, sym}
use Rattle.std.proofs.lemmas.Bool.{true≢false}
use Rattle.mu_model.specs.declared.event.Event.{Event}
use Rattle.mu_node.specs.Turns.{IsTurn}
use Rattle.std.specs.Prelude.{None}
use Rattle.std.specs.List.{slice_get}
use Rattle.mu_cluster.specs.Branches.{IsDriven}
use Rattle.mu_cluster.specs.Pauses.{IsNextPause}
use Rattle.mu_outcome.specs.Turns.{rounds_paused}
use Rattle.mu_cluster.specs.Resting.{StandForEvents}
use Rattle.mu_cluster.proofs.Branching.{ended_on, same_same, turned_on}
use Rattle.mu_cluster.proofs.branch.drive.Goals.{in-None, in-Some+in-Ended}
use Rattle.mu_cluster.proofs.branch.drive.Goals as goal

pub loop-init : goal.loop-init
loop-init g c =
    let script = c.args.script.now in
    let first = subst (λ p. IsNextPause p c.id.result 0 c.next_pause-next.result) c.as_slice-pauses.ensures c.next_pause-next.ensures in
    let own = subst (λ i. IsNextPause script.pauses i 0 c.next_pause-next.result) (c.id.ensures ∙ c.requires.drives.goes.follows.stands.beside.id) first in
    (tt, tt, c.requires.drives, record { table = refl; config = refl; id = refl }, subst (λ l. StandForEvents c.args.crowd l c.first_rests-rests.result) (sym c.requires.empty) c.first_rests-rests.ensures, subst (λ l. IsNextPause script.pauses c.args.branch.now.port.id (length l) c.next_pause-next.result) (sym c.requires.empty) own)

pub loop-preserved : goal.loop-preserved
loop-preserved g c =
    let script = c.args.script.now in
    let was = c.loop.invariant.2 in
    let told = c.turn_rested.ensures.turn script (sym was.goes.stops) in
    let p = c.loop.port in
    let q = c.turn_rested.new.port in
    let took = subst (λ u. IsTurn p.config script p.id p.part q.part None None u) c.in-Took.is told in
    let e : Event = record { by = p.id; verb = took.1.verb; answer = took.1.answer } in
    let now = c.turn_rested.ensures.follows.stands in
    let count = c.steps.ensures q.config q.id q.part now.beside in
    let id = c.id-in-Took.ensures ∙ now.beside.id ∙ c.turn_rested.ensures.same.id in
    let before = subst (λ l. IsNextPause l c.id-in-Took.result (length p.part) c.loop.next) (sym c.as_slice-pauses.ensures) (subst (λ i. IsNextPause script.pauses i (length p.part) c.loop.next) (sym id) c.loop.invariant.5) in
    let after = c.go_on.ensures (length p.part) (count ∙ (ap length took.1.part ∙ omega arith)) before in
    let later = subst (λ n. IsNextPause script.pauses q.id n c.go_on.new.next) count (subst (λ i. IsNextPause script.pauses i c.steps.result c.go_on.new.next) (c.id-in-Took.ensures ∙ now.beside.id) (subst (λ l. IsNextPause l c.id-in-Took.result c.steps.result c.go_on.new.next) c.as_slice-pauses.ensures after)) in (
      tt,
      tt,
      turned_on script c.loop.port c.turn_rested.new.port c.loop.node c.turn_rested.new.node c.turn_rested.result was c.turn_rested.ensures.same c.turn_rested.ensures.follows c.turn_rested.ensures.stops c.turn_rested.ensures.zeal told,
      same_same c.args.branch.now.port c.loop.port c.turn_rested.new.port c.loop.invariant.3 c.turn_rested.ensures.same,
      subst (λ l. StandForEvents c.args.crowd l c.take.new.rests) (sym took.1.part) (c.take.ensures e p.part c.args.crowd (c.newest.ensures ∙ ap (λ l. slice_get l 0) took.1.part) (c.rest-rested.ensures.stand c.args.crowd p.part c.loop.invariant.4)),
      later,
    )

pub returns : goal.returns
returns g c = elim c.match-next.branch [
  | in-None w ↦ absurd (true≢false (sym w.in-None.ensures.steps))
  | in-Some+in-Ended w ↦
      let script = c.args.script.now in
      let p = c.loop.port in
      let q = w.turn_rested.new.port in
      let was = c.loop.invariant.2 in
      let told = w.turn_rested.ensures.turn script (sym was.goes.stops) in
      let ended = subst (λ u. IsTurn p.config script p.id p.part q.part None None u) w.in-Ended.is told in
      subst (λ b. IsDriven script c.args.branch.now b) (sym w.branch'-is) (record {
        same = same_same c.args.branch.now.port p q c.loop.invariant.3 w.turn_rested.ensures.same;
        drives = turned_on script p q c.loop.node w.turn_rested.new.node w.turn_rested.result was w.turn_rested.ensures.same w.turn_rested.ensures.follows w.turn_rested.ensures.stops w.turn_rested.ensures.zeal told;
        ends = ended_on script p q _ w.turn_rested.ensures.same ended;
      })
]

pub turn_rested-requires-clause-yields : goal.turn_rested-requires-clause-yields
turn_rested-requires-clause-yields g c =
    let p = c.loop.port in
    let count = c.steps-steps.ensures p.config p.id p.part c.loop.invariant.2.goes.follows.stands.beside in
    let paused = c.rounds_at-paused.ensures c.args.script.now.pauses p.id (subst (λ n. IsNextPause c.args.script.now.pauses p.id n c.loop.next) (sym count) c.loop.invariant.5) in
    c.rest-rested.ensures.yields ∙ (paused ∙ ap (rounds_paused c.args.script.now.pauses p.id) count)

pub turn_rested-requires-clause-rest : goal.turn_rested-requires-clause-rest
turn_rested-requires-clause-rest g c = record {
  rests = c.loop.rests;
  stand = c.loop.invariant.4;
  rest = c.rest-rested.ensures.rest;
}
