use Rattle.std.proofs.Common.{◌≡◌, ◌+◌, ◌≤◌, ◌++◌, drop}
use Rattle.saphyr_input.specs.Sources.{items}
use Rattle.saphyr_input.proofs.input.buffered.BufferedInputInput.skip_n.Given as goal

abbrev pub invariant-loop : goal.invariant-loop
invariant-loop g l = record {
  rest : l.self.ring.items ++ items l.self.source ≡ drop l.counter (l.fn.self.ring.items ++ items l.fn.self.source);
  loaded : l.fn.self.loaded ≤ l.self.loaded + l.counter;
}
