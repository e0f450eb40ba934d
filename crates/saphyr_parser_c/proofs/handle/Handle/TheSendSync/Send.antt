-- A handle may go to another thread: what it owns names no thread.
use mathlib.Core.Option.{Option, none, some}
use mir.Raw.{raw}
use base.Shift.{Keyless}
use denote.Memory.{lone}
use denote.RawPtr.{Ptr, block_ptr, null_ptr}
use denote.Struct.Struct.{exits_of}
use denote.Struct.Owning.{shape, fields, to}
use denote.Param.Send.{IsSend, AllSend, owning_send, struct_send, sendable}
use Rattle.std.proofs.Crossing as heap
use Rattle.std.specs.Global.{Global}
use Rattle.std_alloc.proofs.SendSync.{quiet, lies}
use Rattle.std_heap.proofs.Global.TheSendSync as handle
use Rattle.saphyr_parser_c.specs.Held.{handle_owns}
use Rattle.saphyr_parser_c.specs.contracts.inner.Inner as Inner
use Rattle.saphyr_parser_c.proofs.inner.Inner.TheSendSync.{the_send as inner}
use Rattle.saphyr_parser_c.specs.contracts.handle.Handle.{the_row, the_type}

owned : (a : Global) (p : Ptr) (x : Option Inner.the_row.Denot) → Keyless (handle_owns a p x)
owned a null_ptr none = tt
owned a null_ptr (some x) = tt
owned a (block_ptr b o) none = tt
owned a (block_ptr b o) (some x) =
    (lies Inner.the_row inner (block_ptr b o) x, heap.frees.frees a (raw (lone Inner.the_row.mir)) (block_ptr b o))

pub send : IsSend the_row
send =
    let all : AllSend (fields the_type) = (search sendable, (handle.the_field_send, tt)) in
    owning_send the_type all (λ d. owned d.alloc d.at d.value)
    (λ k. quiet (to the_type) (exits_of k (fields the_type)) ((struct_send (shape the_type) all).leaving k))
