-- What `load` hands to a receiver, and where it leaves the parser.
use Rattle.std.specs.Prelude.{◌≡◌, ◌<◌, Bool, true, false, List, [], ◌∷◌, ◌++◌, Option, Some, None, Result, Ok, Err, if◌then◌else◌, ◌⊎◌, string_bytes}
use Rattle.saphyr_scalar.specs.declared.scalar.position.Span.{Span}
use Rattle.saphyr_machine.specs.declared.event.Event.{Event}
use Rattle.saphyr_machine.specs.declared.fault.Fault.{Fault}
use Rattle.saphyr_machine.specs.declared.fault.Fault.TheVariants as faults
use Rattle.saphyr_machine.specs.declared.receiver.Refused.{Refused}
use Rattle.saphyr_machine.specs.Events as events
use Rattle.saphyr_machine.specs.Events.{Happening}
use Rattle.saphyr_machine.specs.Answer as answer
use Rattle.saphyr_machine.specs.Answer.{Ending}
use Rattle.saphyr_machine.specs.Cursor.{EventCursor, Kept, IsKept, count, event_of, finished_behind, inside_behind, to_come}
use Rattle.saphyr_machine.specs.Calls.{Advances, AdvancesOver, Looks}

-- ## Which events one call hands over

-- the events that one call hands over, and the fault that it meets after them, if it meets one
pub record Portion : Type 0 where
  pub sent : List (Happening × Span)
  pub fault : Option Ending

-- A call stops after the end of a document, unless all documents are asked for.
abbrev pub is_last : Bool → Happening → Bool
is_last false events.DocumentEnd = true
is_last multi _ = false

abbrev pub with_event : Happening × Span → Portion → Portion
with_event e p = record { sent = e ∷ p.sent; fault = p.fault }

-- of the events still to come, and the fault after them
abbrev pub portion : Bool → List (Happening × Span) → Option Ending → Portion
portion multi [] fault = record { sent = []; fault = fault }
portion multi (e ∷ es) fault =
    if is_last multi e.0 then (record { sent = e ∷ []; fault = None }) else with_event e (portion multi es fault)

-- what one call hands over where it begins between documents
abbrev pub portion_to_send : Bool → EventCursor → Portion
portion_to_send multi c = portion multi (to_come c).events (to_come c).fault

-- ## Where the parser is after events

abbrev pub inside_over : List (Happening × Span) → Bool → Bool
inside_over [] inside = inside
inside_over (e ∷ es) inside = inside_over es (inside_behind e.0 inside)

abbrev pub finished_over : List (Happening × Span) → Option Span → Option Span
finished_over [] finished = finished
finished_over (e ∷ es) finished = finished_over es (finished_behind e.0 e.1 finished)

-- what is remembered of these events
pub record Remembered (old : EventCursor) (passed : List (Happening × Span)) (new : EventCursor) : Type 0 where
  pub inside : new.inside ≡ inside_over passed old.inside
  pub finished : new.finished ≡ finished_over passed old.finished

-- these events were passed, and all others are still to come
pub record PassedOver (old : EventCursor) (passed : List (Happening × Span)) (new : EventCursor) : Type 0 where
  pub events : (to_come old).events ≡ passed ++ (to_come new).events
  pub fault : (to_come old).fault ≡ (to_come new).fault
  pub remembered : Remembered old passed new

-- after these events a fault was met in reading ahead
abbrev pub MeetsBehind : List (Happening × Span) → EventCursor → EventCursor → Type 0
MeetsBehind es old new = (middle : EventCursor) × AdvancesOver es old middle × Looks middle new

-- nothing but this fault is still to come, which is kept and wasn't given yet
pub record Keeps (fault : Ending) (c : EventCursor) : Type 0 where
  pub current : c.current ≡ None
  pub kept : c.kept ≡ Some (record { fault = fault; given = false })

-- the fault that ended the events, as it is reported; memory may run out while it is copied
abbrev pub ReportsFault : Result (Unit {0}) Fault → Option Kept → Type 0
ReportsFault (Ok u) kept = kept ≡ None
ReportsFault (Err (faults.Scan e)) kept =
    (given : Bool) × (kept ≡ Some (record { fault = answer.Refused e.mark (string_bytes e.info); given = given }))
ReportsFault (Err faults.OutOfMemory) kept = IsKept kept
ReportsFault (Err faults.Receiver) kept = ⊥
ReportsFault (Err faults.InsideDocument) kept = ⊥

-- ## What the receiver took

module _ {R : Type 0} (receives : R → Happening × Span → Result (Unit {0}) Refused → R → Type 0) where
  -- the events, each taken, led from the first receiver to the second
  abbrev pub Sends : R → List (Happening × Span) → R → Type 0
  Sends r [] s = s ≡ r
  Sends r (e ∷ es) s = (q : R) × receives r e (Ok tt) q × Sends q es s

  -- the receiver refused one of the events, after which the parser is
  pub record Stopped (p : Portion) (old : EventCursor) (first last : R) (new : EventCursor) : Type 0 where
    pub sent : List (Happening × Span)
    pub event : Happening × Span
    pub unsent : List (Happening × Span)
    pub middle : R
    pub part : p.sent ≡ sent ++ (event ∷ unsent)
    pub sends : Sends first sent middle
    pub refused : receives middle event (Err (record {})) last
    pub passed : PassedOver old (sent ++ (event ∷ [])) new
    pub leaves : AdvancesOver (sent ++ (event ∷ [])) old new
    pub kept : new.kept ≡ None

  -- Memory ran out: in reading, before something that was still to be sent or told, which is kept as a fault of its
  -- own; or while the fault after all events was copied.
  pub record Lost (p : Portion) (old : EventCursor) (first last : R) (new : EventCursor) : Type 0 where
    pub sent : List (Happening × Span)
    pub unsent : List (Happening × Span)
    pub fault : Ending
    pub part : p.sent ≡ sent ++ unsent
    pub left : 0 < count (record { events = unsent; fault = p.fault })
    pub cause : (fault ≡ answer.OutOfMemory) ⊎ ((unsent ≡ []) × (p.fault ≡ Some fault))
    pub sends : Sends first sent last
    pub remembered : Remembered old sent new
    pub leaves : MeetsBehind sent old new
    pub keeps : Keeps fault new

  -- all events of the portion were sent, and no fault was met
  pub record Finished (p : Portion) (old : EventCursor) (first last : R) (new : EventCursor) : Type 0 where
    pub fault : p.fault ≡ None
    pub sends : Sends first p.sent last
    pub passed : PassedOver old p.sent new
    pub leaves : AdvancesOver p.sent old new
    pub kept : new.kept ≡ None

  -- all events of the portion were sent, and then this fault was met
  pub record Faulted (fault : Ending) (p : Portion) (old : EventCursor) (first last : R)
      (new : EventCursor) : Type 0 where
    pub met : p.fault ≡ Some fault
    pub sends : Sends first p.sent last
    pub passed : PassedOver old p.sent new
    pub leaves : MeetsBehind p.sent old new
    pub keeps : Keeps fault new

  -- a call that begins between documents
  abbrev pub Loads : Result (Unit {0}) Fault → Portion → EventCursor → R → R → EventCursor → Type 0
  Loads (Ok u) p old first last new = Finished p old first last new
  Loads (Err (faults.Scan e)) p old first last new =
      Faulted (answer.Refused e.mark (string_bytes e.info)) p old first last new
  Loads (Err faults.OutOfMemory) p old first last new = Lost p old first last new
  Loads (Err faults.Receiver) p old first last new = Stopped p old first last new
  Loads (Err faults.InsideDocument) p old first last new = ⊥

  -- this one event was sent
  abbrev pub SendsOne : Result (Unit {0}) Fault → Happening × Span → R → R → Type 0
  SendsOne (Ok u) e first last = receives first e (Ok tt) last
  SendsOne (Err faults.Receiver) e first last = receives first e (Err (record {})) last
  SendsOne (Err (faults.Scan _)) e first last = ⊥
  SendsOne (Err faults.OutOfMemory) e first last = ⊥
  SendsOne (Err faults.InsideDocument) e first last = ⊥

-- ## One event

-- the next event was passed, or there is none
abbrev pub Passes : Option (Event × Span) → EventCursor → EventCursor → Type 0
Passes (Some e) old new = Advances (event_of e) old new × (new.kept ≡ None)
Passes None old new = Looks old new × (new.current ≡ None)
