use Rattle.saphyr_scalar.proofs.Common.{◌≡◌, ◌≤◌, ◌<◌, ◌^◌, length, slice_index, cursor_of}
use Rattle.saphyr_scalar.specs.Steps.Directive.{number_from, number}
use Rattle.saphyr_scalar.proofs.scalar.reader.Reader.read_version_number.Given as goal

abbrev pub invariant-loop-c : goal.invariant-loop-c
invariant-loop-c g l = record {
  same : number_from l.start l.count l.value (cursor_of l.self).mark (cursor_of l.self).rest
      ≡ number l.start (cursor_of l.fn.self);
  few : l.count ≤ 9;
  below : l.value < 10 ^ l.count;
  read : l.c ≡ slice_index (cursor_of l.self).rest 0;
}

abbrev pub decreases-loop-c : goal.decreases-loop-c
decreases-loop-c g l = length (cursor_of l.self).rest
