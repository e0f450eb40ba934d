-- Where the spans of events lie.
use Rattle.std.specs.Prelude.{ℕ, ◌≤◌, Bool, List}
use Rattle.std.specs.List.{All}
use Rattle.saphyr_scalar.specs.declared.scalar.position.Span.{Span}
use Rattle.saphyr_scanner.specs.TokensTaken.{IsPlaceOf}
use Rattle.saphyr_machine.specs.declared.fault.Fault.{Fault}
use Rattle.saphyr_machine.specs.Events.{Happening}
use Rattle.saphyr_machine.specs.Answer.{Answer}
use Rattle.saphyr_machine.specs.Cursor.{EventCursor, keeping_tags}
use Rattle.saphyr_machine.specs.Calls.{Advances, FailsWith, Looks}

-- a span's start is at or before its end, and both are places of the text, with their lines and columns
abbrev pub IsIn : List ℕ → Span → Type 0
IsIn text span = (span.start.index ≤ span.end.index) × IsPlaceOf text span.start × IsPlaceOf text span.end

-- so are the spans of all events
abbrev pub HasSpansIn : List ℕ → Answer → Type 0
HasSpansIn text a = All (λ (e : Happening × Span). IsIn text e.1) a.events

-- From a parser to what calls make of it: an event or a fault is handed out, or read ahead, and prefixes of tags are
-- kept from then on or not, in any order.
pub data IsLater (start : EventCursor) : EventCursor → Type 0 where
  itself : IsLater start start
  advanced : (e : Happening × Span) (c d : EventCursor) → IsLater start c → Advances e c d → IsLater start d
  failed : (f : Fault) (c d : EventCursor) → IsLater start c → FailsWith f c d → IsLater start d
  looked : (c d : EventCursor) → IsLater start c → Looks c d → IsLater start d
  set : (keep : Bool) (c : EventCursor) → IsLater start c → IsLater start (keeping_tags keep c)
