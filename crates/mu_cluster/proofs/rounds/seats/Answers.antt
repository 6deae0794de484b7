use Rattle.std.proofs.Common.{◌≡◌, ◌∙◌, ◌+◌, ℕ, [], List, Some, ap, arith, length, refl, subst, sym}
use Rattle.std.specs.List.{slice_get}
use Rattle.std.proofs.lemmas.List.{length_push}
use Rattle.mu_model.proofs.Lists.{each_pushed}
use Rattle.mu_cluster.specs.declared.rounds.Seat.{Seat}
use Rattle.mu_cluster.specs.Rounds.{Sits}
use Rattle.mu_node.proofs.Following.{follows_first}
use Rattle.mu_cluster.proofs.Seats.{sits_first}
use Rattle.mu_cluster.proofs.rounds.seats.Goals as goal
use Rattle.mu_cluster.specs.Pauses.{IsNextPause}

pub loop-id-preserved : goal.loop-id-preserved
loop-id-preserved c =
    let job = c.args.job.now in
    let kind = c.args.kind in
    let seat = c.new-in-loop-id.result in
    let n = c.loop-id.invariant.count in
    let sits = sits_first job.config job.script c.loop-id.id c.in_ok-new.field-0 seat (follows_first job.config c.loop-id.id c.in_ok-new.field-0 c.in_ok-new.ensures.stands c.in_ok-new.ensures.placed) c.in_ok-new.ensures.stops c.in_ok-new.ensures.zeal c.new-in-loop-id.ensures.node c.new-in-loop-id.ensures.going c.new-in-loop-id.ensures.waited (subst (IsNextPause job.script.pauses c.loop-id.id 0) (sym c.new-in-loop-id.ensures.next) (subst (λ p. IsNextPause p c.loop-id.id 0 c.next_pause.result) c.as_slice.ensures c.next_pause.ensures)) in
    record {
      room = omega (arith, c.loop-id.invariant.room, c.push_reserved.ensures.capacity);
      count = ap length c.push_reserved.ensures.items ∙ (length_push c.loop-id.seats.items seat ∙ ap (λ m. m + 1) n);
      each = subst (λ (l : List Seat). (r : ℕ) (s : Seat) → slice_get l r ≡ Some s → Sits kind job.config job.script r [] s 0) (sym c.push_reserved.ensures.items)
          (each_pushed (λ r s. Sits kind job.config job.script r [] s 0) c.loop-id.seats.items seat c.loop-id.invariant.each (subst (λ r. Sits kind job.config job.script r [] seat 0) (sym n) sits));
    }

pub returns-clause-played : goal.returns-clause-played
returns-clause-played c = record {
  count = omega (arith, c.loop-id.invariant.count, c.loop-id-test.false, c.loop-id.auto.id-end);
  played = λ r seat at low. absurd (omega (arith, low));
  waits = λ r seat at _. c.loop-id.invariant.each r seat at;
  ids = λ lengths may. refl;
  own = refl;
}
