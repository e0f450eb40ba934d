-- What contracts see of what is told.
use Rattle.yaml_check.specs.declared.told.Told.{Told}
use Rattle.yaml_check.specs.Told as seen

abbrev pub told_of : Told → seen.ToldSeen
told_of t = record { span = t.span; severity = t.severity; rule = t.rule.now; message = t.message.now }
