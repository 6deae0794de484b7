use Rattle.std.proofs.Common.{rules, ◌≡◌, ◌≤◌, ◌+◌, ◌∙◌, ◌∷◌, ◌++◌, [], Some, ap, arith, length, refl, subst, sym, true}
use Rattle.mu_model.proofs.Basics.{same_some}
use Rattle.mu_model.specs.declared.event.Event.{Event}
use Rattle.mu_cluster.specs.declared.rounds.Seat.{Seat}
use Rattle.mu_node.specs.Following.{FollowsTurns}
use Rattle.mu_node.specs.Turns.{IsTurn}
use Rattle.mu_node.proofs.Following.{follows_on}
use Rattle.mu_node.proofs.Left.{steps_within}
use Rattle.mu_cluster.specs.Rounds.{Plays, one_if_going, part_of}
use Rattle.mu_outcome.specs.Turns.{rounds_paused}
use Rattle.mu_cluster.proofs.Seats.{ends_here, fewer_left, steps_here}
use Rattle.mu_cluster.proofs.Ports.{at_port, turned}
use Rattle.mu_cluster.proofs.rounds.Seat.play.Goals as goal
use Rattle.mu_cluster.specs.Pauses.{IsNextPause}

pub returns-in-Took-clause-plays : goal.returns-in-Took-clause-plays
returns-in-Took-clause-plays g c kind script rounds same sits =
    let before = c.args.self.now in
    let k = c.args.port.now.config in
    let old = c.args.port.now.events in
    let new = c.turn.new.port.events in
    let r = before.node.id in
    let p = c.pass_to.new.self in
    let q = c.turn.new.port in
    let held = at_port (λ k i l. FollowsTurns k i l before.node) k old p r c.id-id.result c.pass_to.ensures.replica c.id-id.ensures c.pass_to.ensures.config c.pass_to.ensures.events sits.follows in
    let told = c.turn.ensures.turn script (sym sits.stops) in
    let follows = follows_on p.config q.config script p.replica q.replica (part_of p.replica p.events) (part_of q.replica q.events) (Some p.events) (Some q.events) before.node c.turn.new.self c.turn.result c.turn.ensures.same.0 c.turn.ensures.same.1 held c.turn.ensures.stands c.turn.ensures.zeal told c.turn.ensures.placed c.turn.ensures.made in
    let t = turned k old new p q r c.id-id.result script c.turn.result c.turn.new.self c.pass_to.ensures.replica c.id-id.ensures c.pass_to.ensures.config c.pass_to.ensures.events c.turn.ensures.same.1 c.turn.ensures.same.0 refl
    (record { follows = follows; possible = c.turn.ensures.possible; did = told }) in
    let stops = ap (λ v. v.items) c.turn.ensures.stops ∙ sits.stops in
    let taken = c.steps.ensures k r (part_of r old) sits.follows.stands.beside in
    let paused = c.rounds_at.ensures script.pauses r (subst (λ n. IsNextPause script.pauses r n before.next) (sym taken) sits.next) ∙ ap (rounds_paused script.pauses r) taken in
    let long : rounds_paused script.pauses r (length (part_of r old)) ≤ before.waited = omega (arith, paused, c.if-self-rounds_at.false) in
    let did = subst (λ u. IsTurn k script r (part_of r old) (part_of r new) (Some old) (Some new) u) c.in-Took.is t.did in
    let e : Event = record { by = r; verb = did.1.verb; answer = did.1.answer } in
    let list = same_some new (old ++ e ∷ []) did.1.told.list in
    let later = c.steps-in-Took.ensures k r (part_of r new) t.follows.stands.beside in
    let next = subst (λ n. IsNextPause script.pauses r n c.go_on.new.next) later
    (subst (λ p. IsNextPause p r c.steps-in-Took.result c.go_on.new.next) same (subst (λ i. IsNextPause c.args.pauses.now i c.steps-in-Took.result c.go_on.new.next) c.id-id.ensures (c.go_on.ensures (length (part_of r old)) (later ∙ (ap length did.1.part ∙ omega arith)) (subst (λ i. IsNextPause c.args.pauses.now i (length (part_of r old)) before.next) (sym c.id-id.ensures) (subst (λ p. IsNextPause p r (length (part_of r old)) before.next) (sym same) sits.next))))) in
    steps_here k script r old new e before _ rounds sits c.if-self.false long c.if-self.false refl next t.follows stops (c.turn.ensures.zeal ∙ sits.zeal) did.0 list refl did.1.part

pub returns-in-Took-clause-left : goal.returns-in-Took-clause-left
returns-in-Took-clause-left g c kind script rounds sits =
    let before = c.args.self.now in
    let k = c.args.port.now.config in
    let old = c.args.port.now.events in
    let new = c.turn.new.port.events in
    let r = before.node.id in
    let p = c.pass_to.new.self in
    let q = c.turn.new.port in
    let held = at_port (λ k i l. FollowsTurns k i l before.node) k old p r c.id-id.result c.pass_to.ensures.replica c.id-id.ensures c.pass_to.ensures.config c.pass_to.ensures.events sits.follows in
    let told = c.turn.ensures.turn script (sym sits.stops) in
    let follows = follows_on p.config q.config script p.replica q.replica (part_of p.replica p.events) (part_of q.replica q.events) (Some p.events) (Some q.events) before.node c.turn.new.self c.turn.result c.turn.ensures.same.0 c.turn.ensures.same.1 held c.turn.ensures.stands c.turn.ensures.zeal told c.turn.ensures.placed c.turn.ensures.made in
    let t = turned k old new p q r c.id-id.result script c.turn.result c.turn.new.self c.pass_to.ensures.replica c.id-id.ensures c.pass_to.ensures.config c.pass_to.ensures.events c.turn.ensures.same.1 c.turn.ensures.same.0 refl
    (record { follows = follows; possible = c.turn.ensures.possible; did = told }) in
    let one = ap one_if_going c.if-self.false in
    let after : Seat = record { node = c.turn.new.self; waited = 0; ended = before.ended; next = c.go_on.new.next } in
    let did = subst (λ u. IsTurn k script r (part_of r old) (part_of r new) (Some old) (Some new) u) c.in-Took.is t.did in
    let more : length (part_of r new) ≡ length (part_of r old) + 1 = ap length did.1.part ∙ omega arith in
    let within = steps_within k r (part_of r new) t.possible in
    let fewer = fewer_left k r (part_of r old) (part_of r new) before after sits.follows.stands t.follows.stands more within c.if-self.false c.if-self.false (search rules) in
    omega (arith, fewer, one)

pub returns-in-Ended-clause-plays : goal.returns-in-Ended-clause-plays
returns-in-Ended-clause-plays g c kind script rounds same sits =
    let before = c.args.self.now in
    let k = c.args.port.now.config in
    let old = c.args.port.now.events in
    let new = c.turn.new.port.events in
    let r = before.node.id in
    let p = c.pass_to.new.self in
    let q = c.turn.new.port in
    let held = at_port (λ k i l. FollowsTurns k i l before.node) k old p r c.id-id.result c.pass_to.ensures.replica c.id-id.ensures c.pass_to.ensures.config c.pass_to.ensures.events sits.follows in
    let told = c.turn.ensures.turn script (sym sits.stops) in
    let follows = follows_on p.config q.config script p.replica q.replica (part_of p.replica p.events) (part_of q.replica q.events) (Some p.events) (Some q.events) before.node c.turn.new.self c.turn.result c.turn.ensures.same.0 c.turn.ensures.same.1 held c.turn.ensures.stands c.turn.ensures.zeal told c.turn.ensures.placed c.turn.ensures.made in
    let t = turned k old new p q r c.id-id.result script c.turn.result c.turn.new.self c.pass_to.ensures.replica c.id-id.ensures c.pass_to.ensures.config c.pass_to.ensures.events c.turn.ensures.same.1 c.turn.ensures.same.0 refl
    (record { follows = follows; possible = c.turn.ensures.possible; did = told }) in
    let stops = ap (λ v. v.items) c.turn.ensures.stops ∙ sits.stops in
    let did = subst (λ u. IsTurn k script r (part_of r old) (part_of r new) (Some old) (Some new) u) c.in-Ended.is t.did in
    let list : new ≡ old = same_some new old did.2 in
    let follows_same = subst (λ l. FollowsTurns k r (part_of r l) c.turn.new.self) list t.follows in
    let after : Seat = record { node = c.turn.new.self; waited = before.waited; ended = true; next = before.next } in
    subst (λ l. Plays kind k script r old l before after rounds) (sym list)
    (ends_here k script r old before after rounds _ sits c.if-self.false refl refl refl follows_same stops (c.turn.ensures.zeal ∙ sits.zeal) did.0)
