-- What a call hands out, and the parser that it leaves.
use Rattle.std.specs.Prelude.{◌≡◌, ◌<◌, Bool, true, false, List, [], ◌∷◌, Option, Some, None, Result, Ok, Err, string_bytes}
use Rattle.std.specs.Borrow.{Bor}
use Rattle.saphyr_scalar.specs.declared.scalar.position.Span.{Span}
use Rattle.saphyr_machine.specs.declared.event.Event.{Event}
use Rattle.saphyr_machine.specs.declared.fault.Fault.{Fault}
use Rattle.saphyr_machine.specs.declared.fault.Fault.TheVariants as fault
use Rattle.saphyr_machine.specs.declared.progress.Progress.{Progress}
use Rattle.saphyr_machine.specs.declared.progress.Progress.TheVariants as progress
use Rattle.saphyr_machine.specs.declared.state.State.{State}
use Rattle.saphyr_machine.specs.declared.state.State.TheVariants as state
use Rattle.saphyr_machine.specs.Events as events
use Rattle.saphyr_machine.specs.Events.{Happening}
use Rattle.saphyr_machine.specs.Faults.{is_own}
use Rattle.saphyr_machine.specs.Views.Machines.{happening}
use Rattle.saphyr_machine.specs.Steps.Machine.{Machine, emit}
use Rattle.saphyr_machine.specs.Steps.Expected.{event_step}
use Rattle.saphyr_machine.specs.Answer.{Answer, Ending, Refused, OutOfMemory, fault_alone, empty_answer, remaining_answer}
use Rattle.saphyr_machine.specs.Cursor.{EventCursor, Kept, IsUnmoved, Refuses, Shows, Stays, count, ending_of_fault, event_of, keeping_tags, with_event_handed, to_come}

-- what was read, where an event or a fault is written into its place
abbrev pub item_at : Event × Span → Fault → Progress → Option (Result (Event × Span) Fault)
item_at next fault progress.Event = Some (Ok next)
item_at next fault progress.Fault = Some (Err fault)
item_at next fault progress.Over = None

-- ## A reading

-- What one reading gives, and the machine that it leaves: an event, by one step; the fault that ends the events, after
-- which the machine isn't read again; or nothing, once the stream is over.
abbrev pub Reads : Option (Result (Event × Span) Fault) → Machine → Machine → Type 0
Reads None old new = (old.state ≡ state.End) × (new ≡ old)
Reads (Some (Ok e)) old new = event_step old ≡ emit (happening e.0) e.1 new
Reads (Some (Err f)) old new = Refuses f (remaining_answer old)

-- nothing but this is still to come; memory may run out before anything that is
abbrev pub EndsEvents : Ending → Answer → Type 0
EndsEvents (Refused mark text) a = a ≡ fault_alone (Refused mark text)
EndsEvents OutOfMemory a = 0 < count a

-- ## Events that are handed out

-- as `Advances` says, by the event that was read ahead and the fault that is kept
abbrev pub AdvancesFrom : Option (Happening × Span) → Option Kept → Happening × Span → EventCursor → EventCursor
    → Type 0
AdvancesFrom (Some next) kept e old new = (next ≡ e) × (new ≡ with_event_handed e.0 e.1 (record old { current = None }))
AdvancesFrom None (Some k) e old new = ⊥
AdvancesFrom None None e old new =
    (event_step old.machine ≡ emit e.0 e.1 new.machine)
    × (new ≡ with_event_handed e.0 e.1 (record old { machine = new.machine }))

-- This event is handed out. It was read ahead, or the machine makes one step; nothing else changes but what is
-- remembered of it.
abbrev pub Advances : Happening × Span → EventCursor → EventCursor → Type 0
Advances e old new = AdvancesFrom old.current old.kept e old new

-- these events are handed out, one after the other
abbrev pub AdvancesOver : List (Happening × Span) → EventCursor → EventCursor → Type 0
AdvancesOver [] old new = new ≡ old
AdvancesOver (e ∷ es) old new = (middle : EventCursor) × Advances e old middle × AdvancesOver es middle new

-- ## The fault that ends the events

-- the fault as it was kept, or the lack of memory for a copy of it
abbrev pub IsReportedAs : Ending → Fault → Type 0
IsReportedAs kept (fault.Scan e) = kept ≡ Refused e.mark (string_bytes e.info)
IsReportedAs kept fault.OutOfMemory = Unit {0}
IsReportedAs kept fault.Receiver = ⊥
IsReportedAs kept fault.InsideDocument = ⊥

abbrev pub given_fault : Fault → Option Kept
given_fault f = Some (record { fault = ending_of_fault f; given = true })

-- as `FailsWith` says, by the event that was read ahead and the fault that is kept
abbrev pub FailsFrom : Option (Happening × Span) → Option Kept → Fault → EventCursor → EventCursor → Type 0
FailsFrom (Some next) kept f old new = ⊥
FailsFrom None (Some k) f old new = (k.given ≡ false) × IsReportedAs k.fault f
    × (new ≡ record old { kept = given_fault f })
FailsFrom None None f old new =
    Refuses f (remaining_answer old.machine) × (new ≡ record old { kept = given_fault f; machine = new.machine })

-- This fault is handed out, and kept as one that was.
abbrev pub FailsWith : Fault → EventCursor → EventCursor → Type 0
FailsWith f old new = FailsFrom old.current old.kept f old new

-- ## Where nothing is left

abbrev pub IsOverFrom : Option (Happening × Span) → Option Kept → Machine → Type 0
IsOverFrom (Some next) kept m = ⊥
IsOverFrom None (Some k) m = k.given ≡ true
IsOverFrom None None m = m.state ≡ state.End

-- Nothing is handed out any more: the fault that ended the events was, or the stream is over.
abbrev pub IsOver : EventCursor → Type 0
IsOver c = IsOverFrom c.current c.kept c.machine

-- What `next_event` answers, and the parser that it leaves.
abbrev pub GivesNext : Option (Result (Event × Span) Fault) → EventCursor → EventCursor → Type 0
GivesNext (Some (Ok e)) old new = Advances (event_of e) old new
GivesNext (Some (Err f)) old new = FailsWith f old new
GivesNext None old new = IsOver old × (new ≡ old)

-- Once the end of the stream was handed out nothing is to come, whether prefixes of tags are kept or not.
abbrev pub EndsTheStream : EventCursor → Type 0
EndsTheStream c = (span : Span) → c.finished ≡ Some span → (keep : Bool) → to_come (keeping_tags keep c) ≡ empty_answer

-- ## Reading ahead

-- what is read ahead: an event of the machine's one step, the fault in its place, or nothing after the stream's end
abbrev pub ReadsAhead : Option (Happening × Span) → Option Kept → EventCursor → EventCursor → Type 0
ReadsAhead (Some e) (Some k) old new = ⊥
ReadsAhead (Some e) None old new =
    (event_step old.machine ≡ emit e.0 e.1 new.machine)
    × (new ≡ record old { current = Some e; machine = new.machine })
ReadsAhead None (Some k) old new =
    (k.given ≡ false) × EndsEvents k.fault (remaining_answer old.machine)
    × (new ≡ record old { kept = Some k; machine = new.machine })
ReadsAhead None None old new = (old.machine.state ≡ state.End) × (new ≡ old)

abbrev pub LooksFrom : Option (Happening × Span) → Option Kept → EventCursor → EventCursor → Type 0
LooksFrom (Some next) kept old new = new ≡ old
LooksFrom None (Some k) old new = new ≡ old
LooksFrom None None old new = ReadsAhead new.current new.kept old new

-- What was read ahead stays, and so does a fault that is kept. Else the next event is read ahead, or the fault in
-- place of it kept.
abbrev pub Looks : EventCursor → EventCursor → Type 0
Looks old new = LooksFrom old.current old.kept old new

abbrev pub IsGivenOrNone : Option Kept → Type 0
IsGivenOrNone None = Unit {0}
IsGivenOrNone (Some k) = k.given ≡ true

-- what is shown of an event that was read ahead, or of a fault that reading gave and that wasn't handed out
abbrev pub IsShown : Option (Result (Bor (Event × Span)) (Bor Fault)) → EventCursor → Type 0
IsShown None c = (c.current ≡ None) × IsGivenOrNone c.kept
IsShown (Some (Ok e)) c = c.current ≡ Some (event_of e.now)
IsShown (Some (Err f)) c = (c.current ≡ None) × (is_own f.now ≡ true)
    × (c.kept ≡ Some (record { fault = ending_of_fault f.now; given = false }))

-- What `peek` shows, and the parser that it leaves.
pub record Peeks (old : EventCursor) (shown : Option (Result (Bor (Event × Span)) (Bor Fault)))
    (new : EventCursor) : Type 0 where
  pub looks : Looks old new
  pub shows : IsShown shown new
  pub stays : Stays (to_come old) (to_come new)
  pub head : Shows shown (to_come new)
  pub same : IsUnmoved old new
  pub over : EndsTheStream new

-- ## What holds of each parser

-- after the end of the stream nothing is read
abbrev pub LeavesEnd : Happening → State → Type 0
LeavesEnd events.StreamEnd s = s ≡ state.End
LeavesEnd _ s = Unit {0}

abbrev pub IsAhead : Option (Happening × Span) → Option Kept → State → Type 0
IsAhead None kept s = Unit {0}
IsAhead (Some e) (Some k) s = ⊥
IsAhead (Some e) None s = LeavesEnd e.0 s

abbrev pub HasFinished : Option Span → EventCursor → Type 0
HasFinished None c = Unit {0}
HasFinished (Some span) c = (c.current ≡ None) × (c.kept ≡ None) × (c.machine.state ≡ state.End)

-- No fault is kept after an event that was read ahead, and nothing is read after the end of the stream.
pub record IsSound (c : EventCursor) : Type 0 where
  pub ahead : IsAhead c.current c.kept c.machine.state
  pub finished : HasFinished c.finished c
