use Rattle.std.proofs.Common.{[]}
use Rattle.saphyr_parser.specs.Cursor.{to_come, count}
use Rattle.yaml_tree.specs.declared.tally.Limits.{Limits}
use Rattle.yaml_tree.specs.Leaving.{HasHandedOut}
use Rattle.yaml_tree.specs.TableSeen.{HasGrownWithin}
use Rattle.yaml_tree.proofs.DocumentRead.{ReadsOn}
use Rattle.yaml_tree.proofs.table_loading.Grower.take_events.Given as goal

abbrev pub invariant-events : goal.invariant-events
invariant-events g l = ((limits : Limits) → HasGrownWithin limits [] l.fn.self
    → ReadsOn l.fn.all (λ es. HasGrownWithin limits es l.self) (to_come l.fn.parser) (to_come l.parser))
    × HasHandedOut l.fn.parser l.parser

abbrev pub decreases-events : goal.decreases-events
decreases-events g l = count (to_come l.parser)
