-- What a line buffer holds.
use Rattle.std.specs.Prelude.{ℕ, List, Option, take}
use Rattle.std.specs.Io.KnownBytes.{append_known}
use Rattle.dump_events.specs.declared.line_buffer.LineBuffer.{LineBuffer}

-- the bytes that the writer has, and those that wait
abbrev pub contents_of : {W : Type 0} → (W → Option (List ℕ)) → LineBuffer W → Option (List ℕ)
contents_of contents buffer = append_known (contents buffer.out) (take buffer.filled buffer.room)
