use Rattle.std.proofs.Common.{◌≡◌, ◌∙◌, ◌+◌, ◌++◌, ◌∷◌, ℕ, [], List, Some, ap, arith, length, map, replicate, suc, subst, sym}
use Rattle.std.specs.List.{slice_get}
use Rattle.std.proofs.lemmas.List.{length_push, map-append}
use Rattle.mu_model.proofs.Lists.{each_pushed}
use Rattle.mu_engine.specs.declared.seat.Seat.{Seat}
use Rattle.mu_engine.specs.Live.{free}
use Rattle.mu_engine.specs.Seats.{Sits, hold_of}
use Rattle.mu_engine.proofs.First.{copies_push, sits_first}
use Rattle.mu_engine.proofs.seat.seats.Goals as goal

pub loop-id-preserved : goal.loop-id-preserved
loop-id-preserved c =
    let job = c.args.job.now in
    let node = c.in_ok-new.field-0 in
    let seat : Seat = record { node = node; hold = free } in
    let n = c.loop-id.invariant.count in
    let seats = c.loop-id.seats.items in
    let sits = sits_first job.config c.loop-id.id node free c.in_ok-new.ensures.stands (c.in_ok-new.ensures.stops ∙ c.requires.stops) c.in_ok-new.ensures.zeal in
    let one : suc c.loop-id.id ≡ c.loop-id.id + 1 = omega arith in
    record {
      room = omega (arith, c.loop-id.invariant.room, c.push_reserved.ensures.capacity);
      count = ap length c.push_reserved.ensures.items ∙ (length_push seats seat ∙ ap (λ m. m + 1) n);
      each = subst (λ (l : List Seat). (r : ℕ) (s : Seat) → slice_get l r ≡ Some s → Sits job.config r [] s) (sym c.push_reserved.ensures.items)
          (each_pushed (λ r s. Sits job.config r [] s) seats seat c.loop-id.invariant.each (subst (λ r. Sits job.config r [] seat) (sym n) sits));
      free =
          ap (map hold_of) c.push_reserved.ensures.items ∙ map-append hold_of seats (seat ∷ [])
          ∙ ap (λ l. l ++ free ∷ []) c.loop-id.invariant.free ∙ copies_push c.loop-id.id free ∙ ap (λ m. replicate m free) one;
    }

pub returns-clause-seated : goal.returns-clause-seated
returns-clause-seated c = record {
  count = omega (arith, c.loop-id.invariant.count, c.loop-id-test.false, c.loop-id.auto.id-end);
  each = c.loop-id.invariant.each;
}

pub returns-clause-free : goal.returns-clause-free
returns-clause-free c =
    let n = c.args.job.now.config.replicas in
    let all : c.loop-id.id ≡ n = omega (arith, c.loop-id-test.false, c.loop-id.auto.id-end) in
    c.loop-id.invariant.free ∙ ap (λ m. replicate m free) all
