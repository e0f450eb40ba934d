use Rattle.saphyr_scalar.proofs.Common.{◌≡◌, ◌<◌, ◌-◌, ◌*◌, ◌^◌, cursor_of}
use Rattle.saphyr_scalar.specs.Steps.Tag.{trailing_bytes}
use Rattle.saphyr_scalar.proofs.scalar.reader.Reader.read_trailing_bytes.Given as goal

abbrev pub invariant-loop : goal.invariant-loop
invariant-loop g l = record {
  same : trailing_bytes l.fn.start (l.fn.count - l.counter) l.value (cursor_of l.self)
      ≡ trailing_bytes l.fn.start l.fn.count l.fn.bits (cursor_of l.fn.self);
  below : l.value < 256 * 64 ^ l.counter;
}
