use Rattle.std.proofs.Common.{List}
use Rattle.saphyr_parser.specs.Nesting.{happenings}
use Rattle.yaml_tree.specs.declared.tally.Limits.{Limits}
use Rattle.yaml_tree.specs.Loading.{EndNoDocument}
use Rattle.yaml_tree.specs.TableSeen.{HasGrownWithin}
use Rattle.yaml_tree.specs.Tables.{Event}
use Rattle.saphyr_parser_c.specs.Growing.{AreBetween, StaysAbout, left_of, spot_of}
use Rattle.saphyr_parser_c.proofs.NextDocument.{TookSome}
use Rattle.saphyr_parser_c.proofs.inner.Inner.take_events.Given as goal

abbrev pub invariant-events : goal.invariant-events
invariant-events l = ((most : Limits) (es : List Event) → HasGrownWithin most es l.fn.grower
    → EndNoDocument (happenings es) → AreBetween es l.fn.self → TookSome most es (spot_of l.fn.self) l.self l.grower)
    × StaysAbout l.fn.self l.self

abbrev pub decreases-events : goal.decreases-events
decreases-events l = left_of l.self
