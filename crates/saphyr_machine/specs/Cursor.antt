-- A parser as a cursor in the list of its events.
use Rattle.std.specs.Prelude.{◌≡◌, ℕ, ◌+◌, ◌<◌, length, is_some, Bool, true, false, Option, Some, None, Result, Ok, Err, if◌then◌else◌, ◌⊎◌, string_bytes}
use Rattle.std.specs.Borrow.{Bor}
use Rattle.saphyr_scalar.specs.declared.scalar.position.Span.{Span}
use Rattle.saphyr_scanner.specs.Views.Tokens.{Remaining}
use Rattle.saphyr_machine.specs.declared.event.Event.{Event}
use Rattle.saphyr_machine.specs.declared.fault.Fault.{Fault}
use Rattle.saphyr_machine.specs.declared.fault.Fault.TheVariants as fault
use Rattle.saphyr_machine.specs.Events as events
use Rattle.saphyr_machine.specs.Events.{Happening}
use Rattle.saphyr_machine.specs.Views.Machines.{happening}
use Rattle.saphyr_machine.specs.Steps.Machine.{Machine, fresh_machine}
use Rattle.saphyr_machine.specs.Answer.{Ending, Refused, OutOfMemory, Answer, empty_answer, fault_alone, with_first_event, remaining_answer}

-- the fault that ended the events, and whether it was handed out
pub record Kept : Type 0 where
  pub fault : Ending
  pub given : Bool

-- An event that was read ahead, the fault that ended the events, what is still to be read, whether a document was
-- handed out whose end wasn't, and the span of the stream's end where that was handed out.
pub record EventCursor : Type 0 where
  pub current : Option (Happening × Span)
  pub kept : Option Kept
  pub machine : Machine
  pub inside : Bool
  pub finished : Option Span

abbrev pub at_start : Remaining → EventCursor
at_start tokens =
    record { current = None; kept = None; machine = fresh_machine tokens; inside = false; finished = None }

-- whether the prefixes of tags hold for later documents too, from the next end of a document on that is read
abbrev pub keeping_tags : Bool → EventCursor → EventCursor
keeping_tags keep c = record c { machine = record c.machine { keep_tags = keep } }

-- ## The events still to come

abbrev pub answer_behind : Option Kept → Machine → Answer
answer_behind None m = remaining_answer m
answer_behind (Some k) m = if k.given then empty_answer else fault_alone k.fault

abbrev pub with_event_ahead : Option (Happening × Span) → Answer → Answer
with_event_ahead None a = a
with_event_ahead (Some e) a = with_first_event e a

abbrev pub to_come : EventCursor → Answer
to_come c = with_event_ahead c.current (answer_behind c.kept c.machine)

-- how many items are left
abbrev pub count : Answer → ℕ
count a = length a.events + (if is_some a.fault then 1 else 0)

-- ## What calls hand out

abbrev pub event_of : Event × Span → Happening × Span
event_of e = (happening e.0, e.1)

-- what ends the events; the last two faults are given by `load` alone
abbrev pub ending_of_fault : Fault → Ending
ending_of_fault (fault.Scan e) = Refused e.mark (string_bytes e.info)
ending_of_fault fault.OutOfMemory = OutOfMemory
ending_of_fault fault.Receiver = OutOfMemory
ending_of_fault fault.InsideDocument = OutOfMemory

-- Nothing is left but this fault. Memory may run out before anything that is left.
abbrev pub Refuses : Fault → Answer → Type 0
Refuses (fault.Scan e) a = a ≡ fault_alone (Refused e.mark (string_bytes e.info))
Refuses fault.OutOfMemory a = 0 < count a
Refuses fault.Receiver a = ⊥
Refuses fault.InsideDocument a = ⊥

-- What is handed out, and what remains; nothing remains after a fault.
abbrev pub HandsOutNext : Option (Result (Event × Span) Fault) → Answer → Answer → Type 0
HandsOutNext None old new = (old ≡ empty_answer) × (new ≡ empty_answer)
HandsOutNext (Some (Ok e)) old new = old ≡ with_first_event (event_of e) new
HandsOutNext (Some (Err f)) old new = Refuses f old × (new ≡ empty_answer)

-- Nothing was handed out; where memory ran out, that is what remains.
abbrev pub Stays : Answer → Answer → Type 0
Stays old new = (new ≡ old) ⊎ ((0 < count old) × (new ≡ fault_alone OutOfMemory))

-- a fault was kept
abbrev pub IsKept : Option Kept → Type 0
IsKept None = ⊥
IsKept (Some k) = Unit {0}

-- no event was handed out
abbrev pub IsUnmoved : EventCursor → EventCursor → Type 0
IsUnmoved old new = (new.inside ≡ old.inside) × (new.finished ≡ old.finished)

-- ## What is remembered of events that were handed out

abbrev pub inside_behind : Happening → Bool → Bool
inside_behind (events.DocumentStart explicit) inside = true
inside_behind events.DocumentEnd inside = false
inside_behind _ inside = inside

abbrev pub finished_behind : Happening → Span → Option Span → Option Span
finished_behind events.StreamEnd span finished = Some span
finished_behind _ span finished = finished

abbrev pub with_event_handed : Happening → Span → EventCursor → EventCursor
with_event_handed what span c =
    record c { inside = inside_behind what c.inside; finished = finished_behind what span c.finished }

-- a fault that ends the events was handed out
abbrev pub IsGiven : Option (Result (Event × Span) Fault) → Option Kept → Type 0
IsGiven None kept = Unit {0}
IsGiven (Some (Ok e)) kept = Unit {0}
IsGiven (Some (Err f)) kept = kept ≡ Some (record { fault = ending_of_fault f; given = true })

abbrev pub Remembers : Option (Result (Event × Span) Fault) → EventCursor → EventCursor → Type 0
Remembers (Some (Ok e)) old new =
    (new.inside ≡ inside_behind (happening e.0) old.inside)
    × (new.finished ≡ finished_behind (happening e.0) e.1 old.finished)
Remembers _ old new = IsUnmoved old new

-- what `peek` shows of what remains
abbrev pub Shows : Option (Result (Bor (Event × Span)) (Bor Fault)) → Answer → Type 0
Shows None a = a ≡ empty_answer
Shows (Some (Ok e)) a = (others : Answer) × (a ≡ with_first_event (event_of e.now) others)
Shows (Some (Err f)) a = a ≡ fault_alone (ending_of_fault f.now)
