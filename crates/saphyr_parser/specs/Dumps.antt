-- What printing the events that are still to come does to the parser and to the writer.
use Rattle.std.specs.Prelude.{◌≡◌, ℕ, ◌<◌, length, List, ◌∷◌, ◌++◌, Option, Some, None, Result, Ok, Err, string_bytes}
use Rattle.std.specs.Io.KnownBytes.{Appends}
use Rattle.saphyr_scalar.specs.declared.scalar.position.Span.{Span}
use Rattle.saphyr_machine.specs.declared.fault.Fault.TheVariants as fault
use Rattle.saphyr_parser.specs.declared.printing.fault.DumpFault.{DumpFault}
use Rattle.saphyr_parser.specs.declared.printing.fault.DumpFault.TheVariants as dump
use Rattle.saphyr_machine.specs.Events.{Happening}
use Rattle.saphyr_machine.specs.Answer.{Answer, Refused, empty_answer}
use Rattle.saphyr_machine.specs.Cursor.{EventCursor, count, to_come}
use Rattle.saphyr_machine.specs.Calls.{Advances, AdvancesOver, FailsWith, IsOver}
use Rattle.saphyr_parser.specs.Printed.{printed_line, printed_lines}
use Rattle.saphyr_parser.specs.Written.{TakesSome}

-- The lines of some events were taken, and those after are left.
pub record Prints (all left : Answer) (old new : Option (List ℕ)) : Type 0 where
  pub printed : List (Happening × Span)
  pub split : all.events ≡ printed ++ left.events
  pub fault : all.fault ≡ left.fault
  pub taken : Appends old new (printed_lines printed)

-- The lines of some events were taken, and of one more line a beginning that isn't all of it. The events after are
-- left.
pub record Cuts (all left : Answer) (old new : Option (List ℕ)) : Type 0 where
  pub printed : List (Happening × Span)
  pub event : Happening × Span
  pub split : all.events ≡ printed ++ (event ∷ left.events)
  pub fault : all.fault ≡ left.fault
  pub front : List ℕ
  pub back : List ℕ
  pub cut : printed_line event.0 ≡ front ++ back
  pub missing : 0 < length back
  pub taken : Appends old new (printed_lines printed ++ front)

-- Where a call of `dump` returns, what it says of the events that were still to come, of those that are left, and of
-- what the writer holds. Memory may run out before any of the events.
abbrev pub Dumps : Result (Unit {0}) DumpFault → Answer → Answer → Option (List ℕ) → Option (List ℕ) → Type 0
Dumps (Ok u) all left old new = (all.fault ≡ None) × Appends old new (printed_lines all.events) × (left ≡ empty_answer)
Dumps (Err (dump.Parse (fault.Scan e))) all left old new =
    (all.fault ≡ Some (Refused e.mark (string_bytes e.info))) × Appends old new (printed_lines all.events)
    × (left ≡ empty_answer)
Dumps (Err (dump.Parse fault.OutOfMemory)) all left old new =
    ((lost : Answer) × Prints all lost old new × (0 < count lost)) × (left ≡ empty_answer)
Dumps (Err (dump.Parse fault.Receiver)) all left old new = ⊥
Dumps (Err (dump.Parse fault.InsideDocument)) all left old new = ⊥
Dumps (Err dump.Write) all left old new = Cuts all left old new

-- ## The parser that is left

-- The lines of these events were taken, after which the second parser is.
pub record PrintsUpTo (first last : EventCursor) (old new : Option (List ℕ)) : Type 0 where
  pub printed : List (Happening × Span)
  pub over : AdvancesOver printed first last
  pub taken : Appends old new (printed_lines printed)

-- The line of one more event was taken in part alone, after which the second parser is.
pub record CutsAt (first last : EventCursor) (old new : Option (List ℕ)) : Type 0 where
  pub middle : EventCursor
  pub written : Option (List ℕ)
  pub prints : PrintsUpTo first middle old written
  pub event : Happening × Span
  pub advances : Advances event middle last
  pub cut : TakesSome written new (printed_line event.0)

-- The parser that a call of `dump` leaves: after all events, after the fault that was met, or after the event
-- whose line was cut.
abbrev pub Leaves : Result (Unit {0}) DumpFault → EventCursor → EventCursor → Option (List ℕ) → Option (List ℕ) → Type 0
Leaves (Ok u) first last old new = AdvancesOver (to_come first).events first last × IsOver last
Leaves (Err (dump.Parse f)) first last old new =
    (middle : EventCursor) × PrintsUpTo first middle old new × FailsWith f middle last
Leaves (Err dump.Write) first last old new = CutsAt first last old new
