use Rattle.std.proofs.Common.{◌≡◌, drop}
use Rattle.yaml_check.specs.Opened.{opens_bracket}
use Rattle.yaml_check.proofs.brackets.opens_bracket.Given as goal

abbrev pub invariant-loop-c : goal.invariant-loop-c
invariant-loop-c l = opens_bracket (drop l.c-index l.part) ≡ opens_bracket l.part
