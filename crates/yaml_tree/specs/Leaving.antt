-- Which parser loading documents leaves.
use Rattle.std.specs.Prelude.{◌≡◌, ◌⊎◌, List, Result, Ok, Err}
use Rattle.saphyr_scalar.specs.declared.scalar.position.Span.{Span}
use Rattle.saphyr_parser.specs.Events.{Happening}
use Rattle.saphyr_parser.specs.Cursor.{EventCursor, to_come}
use Rattle.saphyr_parser.specs.Calls.{AdvancesOver, FailsWith, IsOver, Looks}
use Rattle.yaml_tree.specs.declared.fault.TreeFault.{TreeFault}
use Rattle.yaml_tree.specs.declared.fault.TreeFault.TheVariants as fault
use Rattle.saphyr_parser.specs.Nesting.{IsAtStart}

-- Events were handed out, one after the other, after which the second parser is.
pub record HasHandedOut (first last : EventCursor) : Type 0 where
  pub handed : List (Happening × Span)
  pub over : AdvancesOver handed first last

-- Where loading begins at the first parser, the second one is left: after all events, after the fault that was met,
-- or after the event that could not be taken.
abbrev pub LeavesFrom : {X : Type 0} → Result X TreeFault → EventCursor → EventCursor → Type 0
LeavesFrom (Ok x) first last = AdvancesOver (to_come first).events first last × IsOver last
LeavesFrom (Err (fault.Parse f)) first last =
    (middle : EventCursor) × HasHandedOut first middle × FailsWith f middle last
LeavesFrom (Err f) first last = HasHandedOut first last

-- The same after a look at the first event; where that isn't the stream's start, nothing else is done.
abbrev pub LeavesLooked : {X : Type 0} → Result X TreeFault → EventCursor → EventCursor → Type 0
LeavesLooked (Err fault.NotFresh) looked new =
    (new ≡ looked) ⊎ (IsAtStart (to_come looked) × HasHandedOut looked new)
LeavesLooked r looked new = LeavesFrom r looked new

-- The parser that a call leaves.
pub record LeavesParser {X : Type 0} (result : Result X TreeFault) (old new : EventCursor) : Type 0 where
  pub looked : EventCursor
  pub looks : Looks old looked
  pub leaves : LeavesLooked result looked new
