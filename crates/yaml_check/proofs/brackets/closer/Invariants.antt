use Rattle.std.proofs.Common.{◌≡◌, ◌≤◌, drop}
use Rattle.yaml_check.specs.Opened.{closer}
use Rattle.yaml_check.proofs.brackets.closer.Given as goal

abbrev pub invariant-loop-at : goal.invariant-loop-at
invariant-loop-at l = record {
  few : l.inside ≤ l.at;
  rest : closer (drop l.at l.part) l.inside ≡ closer l.part 0;
}
