use Rattle.std.proofs.Common.{◌≡◌, take}
use Rattle.yaml_check.specs.Statuses.{worst_status}
use Rattle.yaml_check.proofs.run.status_of.Given as goal

abbrev pub invariant-loop-answer : goal.invariant-loop-answer
invariant-loop-answer l = l.status ≡ worst_status l.strict (take l.answer-index l.answers)
