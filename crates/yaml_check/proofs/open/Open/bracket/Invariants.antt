use Rattle.std.proofs.Common.{◌≡◌, ◌≤◌, length, take, reverse}
use Rattle.yaml_check.specs.Opened.{innermost_bracket}
use Rattle.yaml_check.proofs.open.Open.bracket.Given as goal

abbrev pub invariant-loop-count : goal.invariant-loop-count
invariant-loop-count l = record {
  within : l.count ≤ length l.self.starts.items;
  rest : innermost_bracket l.text (reverse (take l.count l.self.starts.items))
      ≡ innermost_bracket l.text (reverse l.self.starts.items);
}

abbrev pub decreases-loop-count : goal.decreases-loop-count
decreases-loop-count l = l.count
