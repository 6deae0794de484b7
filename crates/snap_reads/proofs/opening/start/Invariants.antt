use Rattle.std.proofs.Common.{◌≡◌}
use Rattle.std.specs.Prelude.{replicate}
use Rattle.snap_reads.specs.Seats.{fresh_reader}
use Rattle.snap_reads.proofs.opening.start.Given as goal

abbrev pub invariant-loop : goal.invariant-loop
invariant-loop l =
    (l.seat.table_id ≡ l.initial.seat.table_id) × (l.seat.me ≡ l.initial.seat.me)
    × (l.all.items ≡ replicate l.counter (fresh_reader l.initial.seat.table_id l.commands))
