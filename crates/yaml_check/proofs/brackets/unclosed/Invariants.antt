use Rattle.std.proofs.Common.{◌≡◌, ◌+◌, ◌≤◌}
use Rattle.yaml_check.specs.Opened.{unclosed}
use Rattle.yaml_check.proofs.brackets.unclosed.Given as goal

abbrev pub invariant-loop-at : goal.invariant-loop-at
invariant-loop-at l = record {
  few : l.closed + l.at ≤ l.end;
  rest : unclosed l.text l.start l.at l.closed ≡ unclosed l.text l.start l.end 0;
}

abbrev pub decreases-loop-at : goal.decreases-loop-at
decreases-loop-at l = l.at
