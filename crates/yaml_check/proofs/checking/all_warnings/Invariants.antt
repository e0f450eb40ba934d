use Rattle.std.proofs.Common.{◌≡◌, map, take}
use Rattle.yaml_check.specs.Found.{warned}
use Rattle.yaml_check.proofs.checking.all_warnings.Given as goal

abbrev pub invariant-loop-warning : goal.invariant-loop-warning
invariant-loop-warning l = l.list.items ≡ map warned (take l.warning-index l.warnings)
