use Rattle.std.proofs.Common.{◌≡◌, ◌∙◌, Some, ap, arith, inl, inr, subst, sym}
use Rattle.std.specs.List.{slice_get}
use Rattle.std.proofs.lemmas.Bool.{cases_lt}
use Rattle.std.proofs.lemmas.Option.{slice_get-get_or, slice_get_within}
use Rattle.mu_model.proofs.Basics.{same_some}
use Rattle.mu_cluster.specs.declared.rounds.Seat.{Seat}
use Rattle.mu_cluster.proofs.rounds.are_going.Goals as goal

pub returns-then-not-seat-clause-some : goal.returns-then-not-seat-clause-some
returns-then-not-seat-clause-some c _ =
    let seats = c.args.seats.now in
    let i = c.loop-seat.seat-index in
    let item = c.seat-item.result in
    (i, (item, (slice_get-get_or seats i item c.loop-seat-test.true ∙ ap (λ x. Some x) (sym c.seat-item.is), c.if-not-seat.true)))

pub loop-seat-preserved : goal.loop-seat-preserved
loop-seat-preserved c r seat at low =
    let seats = c.args.seats.now in
    let i = c.loop-seat.seat-index in
    let item = c.seat-item.result in
    elim (cases_lt r i) [
      | inl below ↦ c.loop-seat.invariant r seat at below
      | inr above ↦
          let here : i ≡ r = omega (arith, low, above) in
          let found = slice_get-get_or seats i item c.loop-seat-test.true ∙ ap (λ x. Some x) (sym c.seat-item.is) in
          let same = same_some item seat (sym found ∙ subst (λ n. slice_get seats n ≡ Some seat) (sym here) at) in
          ap (λ (s : Seat). s.ended) (sym same) ∙ c.if-not-seat.false
    ]

pub returns-clause-none : goal.returns-clause-none
returns-clause-none c _ r seat at = let low = slice_get_within c.args.seats.now r seat at in c.loop-seat.invariant r seat at (omega (arith, low, c.loop-seat-test.false))
