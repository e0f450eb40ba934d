use Rattle.std.proofs.Common.{take}
use Rattle.yaml_check.specs.Folders.{AddsEntries}
use Rattle.yaml_check.proofs.folders.push_all.Given as goal

abbrev pub invariant-loop-entry : goal.invariant-loop-entry
invariant-loop-entry l = AddsEntries l.folder (take l.entry-index l.entries) l.fn.rest.items l.rest.items
