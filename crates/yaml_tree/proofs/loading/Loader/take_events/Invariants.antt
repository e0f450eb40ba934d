use Rattle.std.proofs.Common.{[], List}
use Rattle.saphyr_parser.specs.Events.{Happening}
use Rattle.saphyr_parser.specs.Cursor.{to_come, count}
use Rattle.yaml_tree.specs.declared.tally.Limits.{Limits}
use Rattle.yaml_tree.specs.LoaderSeen.{HasTaken}
use Rattle.yaml_tree.specs.Leaving.{HasHandedOut}
use Rattle.yaml_tree.proofs.DocumentRead.{ReadsOn}
use Rattle.yaml_tree.proofs.loading.Loader.take_events.Given as goal

abbrev pub invariant-loop-read : goal.invariant-loop-read
invariant-loop-read g l = ((limits : Limits) (before : List Happening)
    → HasTaken g.K.Keep.HasKept limits before [] l.fn.self
    → ReadsOn l.fn.all (λ es. HasTaken g.K.Keep.HasKept limits before es l.self) (to_come l.fn.parser)
    (to_come l.parser))
    × HasHandedOut l.fn.parser l.parser

abbrev pub decreases-loop-read : goal.decreases-loop-read
decreases-loop-read g l = count (to_come l.parser)
