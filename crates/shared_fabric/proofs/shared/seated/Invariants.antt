use Rattle.std.proofs.Common.{◌≡◌, ℕ, ◌+◌, ◌≤◌, ◌<◌, All, Some, [], vec_len, vec_capacity}
use Rattle.std.specs.Arc.{arc_value}
use Rattle.shared_steps.specs.Rule.{entry, entry_of}
use Rattle.shared_fabric.specs.Gathering.{fresh_ports}
use Rattle.shared_fabric.specs.Rooms.{IsRoom}
use Rattle.shared_fabric.proofs.shared.seated.Given as goal

abbrev pub invariant-loop-room : goal.invariant-loop-room
invariant-loop-room l =
    (l.id + vec_len l.rooms ≡ l.config.replicas)
    × (l.root.table ≡ l.initial.root.table)
    × (l.root.config ≡ l.initial.root.config)
    × All (IsRoom (arc_value l.words) l.config) l.rooms.items
    × (l.ports.items ≡ fresh_ports l.initial.root.table l.config l.id)
    × (vec_capacity l.ports ≡ l.config.replicas)
    × ((r : ℕ) → l.id ≤ r → r < l.config.replicas → entry_of r l.root.entries ≡ Some (entry r [] []))

abbrev pub decreases-loop-room : goal.decreases-loop-room
decreases-loop-room l = vec_len l.rooms
