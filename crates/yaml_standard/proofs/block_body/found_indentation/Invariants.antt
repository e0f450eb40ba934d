use Rattle.std.proofs.Common.{◌≤◌}
use Rattle.yaml_standard.proofs.block_body.found_indentation.Given as goal

abbrev pub invariant-loop-c : goal.invariant-loop-c
invariant-loop-c l = l.indent ≤ l.most
