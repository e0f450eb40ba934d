use Rattle.saphyr_scalar.proofs.Common.{◌≡◌, length, string_bytes, cursor_of}
use Rattle.saphyr_scalar.specs.Steps.Quoted.{with_front}
use Rattle.saphyr_scalar.specs.Steps.Tag.{decoded_at}
use Rattle.saphyr_scalar.proofs.scalar.reader.Reader.read_uri_characters.Given as goal

abbrev pub invariant-loop-self : goal.invariant-loop-self
invariant-loop-self g l =
    with_front (string_bytes l.text) (decoded_at l.set l.start (cursor_of l.self))
    ≡ with_front (string_bytes l.fn.text) (decoded_at l.set l.start (cursor_of l.fn.self))

abbrev pub decreases-loop-self : goal.decreases-loop-self
decreases-loop-self g l = length (cursor_of l.self).rest
