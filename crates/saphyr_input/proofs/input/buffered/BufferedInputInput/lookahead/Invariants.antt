use Rattle.std.proofs.Common.{◌≡◌, ◌-◌, ◌≤◌, ◌++◌, max}
use Rattle.saphyr_input.specs.Sources.{items}
use Rattle.saphyr_input.proofs.input.buffered.BufferedInputInput.lookahead.Given as goal

abbrev pub invariant-loop-self : goal.invariant-loop-self
invariant-loop-self g l = record {
  rest : l.self.ring.items ++ items l.self.source ≡ l.fn.self.ring.items ++ items l.fn.self.source;
  least : l.fn.self.loaded ≤ l.self.loaded;
  most : l.self.loaded ≤ max l.count l.fn.self.loaded;
}

abbrev pub decreases-loop-self : goal.decreases-loop-self
decreases-loop-self g l = l.count - l.self.loaded
