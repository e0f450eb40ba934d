use Rattle.std.proofs.Common.{◌≡◌, ◌++◌}
use Rattle.saphyr_input.proofs.input.buffered.BufferedInputClone.clone.Given as goal

abbrev pub invariant-loop-c : goal.invariant-loop-c
invariant-loop-c g l = record {
  items : l.ring.items ++ l.c-iterator ≡ l.fn.self.ring.items;
  capacity : l.ring.capacity ≡ l.fn.self.ring.capacity;
}
