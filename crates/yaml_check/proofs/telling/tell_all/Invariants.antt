use Rattle.std.proofs.Common.{take, string_bytes}
use Rattle.yaml_check.specs.Reports.{AddsAll}
use Rattle.yaml_check.proofs.telling.tell_all.Given as goal

abbrev pub invariant-loop-finding : goal.invariant-loop-finding
invariant-loop-finding l = AddsAll l.source.format l.source.name.now l.source.text.now l.found
    (take l.finding-index l.list) (string_bytes l.fn.out) (string_bytes l.out)
