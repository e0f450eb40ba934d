use Rattle.std.proofs.Common.{◌≡◌, map, take}
use Rattle.yaml_check.specs.Found.{departed}
use Rattle.yaml_check.proofs.standard.each_departure.Given as goal

abbrev pub invariant-loop-deviation : goal.invariant-loop-deviation
invariant-loop-deviation l = l.found.items ≡ map departed (take l.deviation-index l.told)
