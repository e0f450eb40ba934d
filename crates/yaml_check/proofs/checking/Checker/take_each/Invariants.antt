use Rattle.std.proofs.Common.{◌≡◌, ◌++◌, length}
use Rattle.saphyr_parser.specs.Cursor.{to_come}
use Rattle.yaml_check.specs.CheckerSeen.{seen_of}
use Rattle.yaml_check.specs.OpenSeen.{open_of}
use Rattle.yaml_check.specs.Opened.{open_on}
use Rattle.yaml_check.specs.Warned.{warnings_on}
use Rattle.yaml_check.proofs.checking.Checker.take_each.Given as goal

abbrev pub invariant-loop-self : goal.invariant-loop-self
invariant-loop-self g l = record {
  fault : (to_come l.parser).fault ≡ (to_come l.fn.parser).fault;
  warned : l.self.warnings.list.items ++ warnings_on (to_come l.parser).events (seen_of l.self)
      ≡ l.fn.self.warnings.list.items ++ warnings_on (to_come l.fn.parser).events (seen_of l.fn.self);
  opened : open_on (to_come l.parser).events (open_of l.self.collections)
      ≡ open_on (to_come l.fn.parser).events (open_of l.fn.self.collections);
}

abbrev pub decreases-loop-self : goal.decreases-loop-self
decreases-loop-self g l = length (to_come l.parser).events
