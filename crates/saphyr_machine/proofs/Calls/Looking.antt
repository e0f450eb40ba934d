-- What reading ahead leaves is still to come, and what was read ahead is handed out.
use Rattle.std.specs.Prelude.{if◌then◌else◌}
use Rattle.std.proofs.Common.{◌≡◌, Bool, false, Option, Some, None, Result, refl, sym, inl, inr, arith}
use Rattle.std.specs.Borrow.{Bor}
use Rattle.saphyr_scalar.specs.declared.scalar.position.Span.{Span}
use Rattle.saphyr_machine.specs.declared.event.Event.{Event}
use Rattle.saphyr_machine.specs.declared.fault.Fault.{Fault}
use Rattle.saphyr_machine.specs.Events.{Happening}
use Rattle.saphyr_machine.specs.Steps.Machine.{Machine}
use Rattle.saphyr_machine.specs.Answer as answer
use Rattle.saphyr_machine.specs.Answer.{Answer, Ending, empty_answer, fault_alone, with_first_event}
use Rattle.saphyr_machine.specs.Cursor.{EventCursor, Kept, IsUnmoved, Shows, Stays, answer_behind, with_event_handed, to_come}
use Rattle.saphyr_machine.specs.Calls.{Advances, EndsEvents, IsGivenOrNone, IsShown, Looks, LooksFrom, ReadsAhead}
use Rattle.saphyr_machine.proofs.Unroll.{over}
use Rattle.saphyr_machine.proofs.Calls.Handing.{moves}

-- what remains where no event was read ahead and none can be
abbrev pub kept_answer : Option Kept → Answer
kept_answer None = empty_answer
kept_answer (Some k) = if k.given then empty_answer else fault_alone k.fault

-- a fault that is kept wasn't given yet, and no event comes before it
abbrev pub IsUnreported : Option (Happening × Span) → Option Kept → Type 0
IsUnreported current None = Unit {0}
IsUnreported None (Some k) = k.given ≡ false
IsUnreported (Some e) (Some k) = ⊥

ends_stays : (f : Ending) (a : Answer) → EndsEvents f a → Stays a (fault_alone f)
ends_stays (answer.Refused mark text) a h = inl (sym h)
ends_stays answer.OutOfMemory a h = inr (h, refl)

not_given : (k : Kept) → k.given ≡ false → kept_answer (Some k) ≡ fault_alone k.fault
not_given k e = rw e refl

-- what one reading ahead leaves
abbrev pub LeavesAhead : EventCursor → EventCursor → Type 0
LeavesAhead old new = Stays (to_come old) (to_come new) × IsUnmoved old new
    × (new.current ≡ None → to_come new ≡ kept_answer new.kept) × IsUnreported new.current new.kept

reads_ahead : (d : Option (Happening × Span)) (l : Option Kept) (m : Machine) (i : Bool) (s : Option Span)
    (new : EventCursor) → new.current ≡ d → new.kept ≡ l
    → ReadsAhead d l (record { current = None; kept = None; machine = m; inside = i; finished = s }) new
    → LeavesAhead (record { current = None; kept = None; machine = m; inside = i; finished = s }) new
reads_ahead u0 u1 m i s new is fault h = grind (arith, moves, not_given, ends_stays, over)

-- an event that was read ahead, or a fault that is kept, is shown again
stays_so : (old new : EventCursor) → new ≡ old → Stays (to_come old) (to_come new) × IsUnmoved old new
stays_so old new same = grind arith

looking : (c : Option (Happening × Span)) (k : Option Kept) (m : Machine) (i : Bool) (s : Option Span)
    (new : EventCursor)
    → Looks (record { current = c; kept = k; machine = m; inside = i; finished = s }) new
    → Stays (to_come (record { current = c; kept = k; machine = m; inside = i; finished = s })) (to_come new)
    × IsUnmoved (record { current = c; kept = k; machine = m; inside = i; finished = s }) new
looking u0 k m i s new same = grind (arith, stays_so, reads_ahead)

pub looks_stays : (old new : EventCursor) → Looks old new → Stays (to_come old) (to_come new) × IsUnmoved old new
looks_stays old new h = looking old.current old.kept old.machine old.inside old.finished new h

-- where no event could be read ahead, what is left is what was kept
left_kept : (c : Option (Happening × Span)) (k : Option Kept) (m : Machine) (i : Bool) (s : Option Span)
    (new : EventCursor)
    → Looks (record { current = c; kept = k; machine = m; inside = i; finished = s }) new → new.current ≡ None
    → to_come new ≡ kept_answer new.kept
left_kept u0 k m i s new same gone = grind (arith, reads_ahead)

pub looked : (old new : EventCursor) → Looks old new → new.current ≡ None → to_come new ≡ kept_answer new.kept
looked old new h gone = left_kept old.current old.kept old.machine old.inside old.finished new h gone

unreported_by : (c : Option (Happening × Span)) (k : Option Kept) (m : Machine) (i : Bool) (s : Option Span)
    (new : EventCursor)
    → k ≡ None
    → Looks (record { current = c; kept = k; machine = m; inside = i; finished = s }) new
    → IsUnreported new.current new.kept
unreported_by u0 k m i s new free same = grind arith

-- a fault that was met in reading ahead wasn't handed out
pub unreported : (old new : EventCursor) → old.kept ≡ None → Looks old new → IsUnreported new.current new.kept
unreported old new free h = unreported_by old.current old.kept old.machine old.inside old.finished new free h

-- ## What is shown

shown_fault : (k : Option Kept) → IsGivenOrNone k → kept_answer k ≡ empty_answer
shown_fault None h = refl
shown_fault (Some k) h = rw h refl

event_first : (c : EventCursor) (e : Happening × Span) → c.current ≡ Some e
    → to_come c ≡ with_first_event e (answer_behind c.kept c.machine)
event_first c e is = rw is refl

fault_first : (c : EventCursor) (f : Ending) → c.current ≡ None → c.kept ≡ Some (record { fault = f; given = false })
    → to_come c ≡ fault_alone f
fault_first c f gone is = rw (gone, is) refl

pub shows_head : (r : Option (Result (Bor (Event × Span)) (Bor Fault))) (old new : EventCursor) → Looks old new
    → IsShown r new → Shows r (to_come new)
shows_head u0 old new h u1 = grind (arith, looked, shown_fault, event_first, fault_first)

-- ## What was read ahead is handed out

handing : (c : Option (Happening × Span)) (k : Option Kept) (m : Machine) (i : Bool) (s : Option Span)
    (e : Happening × Span) (middle new : EventCursor)
    → Looks (record { current = c; kept = k; machine = m; inside = i; finished = s }) middle → middle.current ≡ Some e
    → new ≡ with_event_handed e.0 e.1 (record middle { current = None })
    → Advances e (record { current = c; kept = k; machine = m; inside = i; finished = s }) new
handing u0 k m i s e middle new same is left = grind arith

pub hands_what_was_read : (e : Happening × Span) (old middle new : EventCursor) → Looks old middle
    → middle.current ≡ Some e
    → new ≡ with_event_handed e.0 e.1 (record middle { current = None }) → Advances e old new
hands_what_was_read e old middle new h is left =
    handing old.current old.kept old.machine old.inside old.finished e middle new h is left

-- ## Where nothing was read ahead

over_looked : (c : Option (Happening × Span)) (k : Option Kept) (old new : EventCursor) → LooksFrom c k old new
    → new.current ≡ None → new.kept ≡ None → new ≡ old
over_looked u0 k old new same gone free = grind arith

pub looked_over : (old new : EventCursor) → Looks old new → new.current ≡ None → new.kept ≡ None → new ≡ old
looked_over old new h gone free = over_looked old.current old.kept old new h gone free
