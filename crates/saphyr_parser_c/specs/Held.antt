-- What C holds between calls: nothing, or a parser on the heap with the right to free it.
use base.Fml.{Fml, ftrue, ffalse}
use mathlib.Core.Option.{Option, none, some}
use denote.RawPtr.{Ptr, block_ptr, null_ptr}
use Rattle.std.specs.Box.Ownership.{box_owns}
use Rattle.std.specs.Global.{Global}
use Rattle.std_heap.specs.contracts.GlobalAllocator.TheImpl.{ghosts}
use Rattle.saphyr_parser_c.specs.contracts.inner.Inner.{the_row}

-- null stands for no value, and another pointer owns the box of its value
abbrev pub handle_owns : Global → Ptr → Option the_row.Denot → Fml
handle_owns alloc null_ptr none = ftrue
handle_owns alloc null_ptr (some x) = ffalse
handle_owns alloc (block_ptr b o) none = ffalse
handle_owns alloc (block_ptr b o) (some x) = box_owns (ghosts.dealloc_token alloc) the_row (block_ptr b o) x
