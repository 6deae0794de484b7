use Rattle.std.proofs.Common.{◌≡◌, All, vec_len}
use Rattle.std.specs.Arc.{arc_value}
use Rattle.shared_fabric.specs.Rooms.{IsRoom}
use Rattle.shared_fabric.proofs.rooms.rooms.Given as goal

abbrev pub invariant-loop : goal.invariant-loop
invariant-loop l = (vec_len l.rooms ≡ l.counter) × All (IsRoom (arc_value l.words) l.config) l.rooms.items
