-- held: what a handle owns: the box of its server, or nothing, and then its pointer is null.
use Rattle.std.specs.Prelude.{None, Some}
use Rattle.std.specs.declared.option.Option.{Option}
use Rattle.std.specs.Box.Ownership.{box_owns}
use Rattle.std.specs.Coded.{Coded, coded_option}
use Rattle.std.specs.Global.{Global}
use Rattle.std_heap.specs.contracts.GlobalAllocator.TheImpl.{ghosts}
use Rattle.held_server.specs.contracts.holding.Held.{the_row}
use base.Fml.{Fml, feq}
use denote.RawPtr.{Ptr, null_ptr}

-- the block with what is held, and the right to free it; if there is none, the null pointer
abbrev pub held_owns : Global → Ptr → Option the_row.Denot → Fml
held_owns alloc at (Some held) = box_owns (ghosts.dealloc_token alloc) the_row at held
held_owns alloc at None = feq Ptr at null_ptr

abbrev pub held_coded : Coded (Option the_row.Denot)
held_coded = coded_option the_row.coded
