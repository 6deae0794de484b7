-- A handle may go to another thread, as what is in its box may.
use Rattle.std.proofs.Common.{Option, None, Some}
use Rattle.std.specs.Global.{Global}
use mir.Raw.{raw}
use base.Shift.{Keyless}
use denote.Memory.{lone}
use denote.RawPtr.{Ptr}
use denote.Struct.Struct.{exits_of}
use denote.Struct.Owning.{shape, fields, to}
use denote.Param.Send.{IsSend, AllSend, owning_send, struct_send, sendable}
use Rattle.std.proofs.Crossing as heap
use Rattle.std_alloc.proofs.SendSync.{quiet, lies}
use Rattle.std_heap.proofs.Global.TheSendSync as handle
use Rattle.held_server.specs.contracts.holding.Held as Held
use Rattle.held_server.specs.declared.holding.Held as declared
use Rattle.held_server.proofs.holding.Held.TheSendSync.{the_send as sent}
use Rattle.held_server.specs.Held.{held_owns}
use Rattle.held_server.specs.contracts.handle.Handle.{the_row, the_type}

keyless : (alloc : Global) (at : Ptr) (held : Option declared.Held) → Keyless (held_owns alloc at held)
keyless alloc at (Some it) = (lies Held.the_row sent at it, heap.frees.frees alloc (raw (lone Held.the_row.mir)) at)
keyless alloc at None = tt

pub send : IsSend the_row
send =
    let all : AllSend (fields the_type) = (search sendable, (handle.the_field_send, tt)) in
    owning_send the_type all (λ d. keyless d.alloc d.at d.held)
    (λ k. quiet (to the_type) (exits_of k (fields the_type)) ((struct_send (shape the_type) all).leaving k))
