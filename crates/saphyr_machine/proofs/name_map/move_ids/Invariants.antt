use Rattle.std.proofs.Common.{◌≡◌, length}
use Rattle.saphyr_machine.specs.Names.{ids_of, laid_over}
use Rattle.saphyr_machine.proofs.name_map.move_ids.Given as goal

abbrev pub invariant-loop-entry : goal.invariant-loop-entry
invariant-loop-entry l =
    laid_over (ids_of l.from) (ids_of l.to) ≡ laid_over (ids_of l.initial.from) (ids_of l.initial.to)

abbrev pub decreases-loop-entry : goal.decreases-loop-entry
decreases-loop-entry l = length l.from.entries
