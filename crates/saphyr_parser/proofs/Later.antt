-- What calls leave is a later parser.
use Rattle.std.proofs.Common.{◌≡◌, ℕ, Bool, true, false, List, [], ◌∷◌, ◌++◌, Option, Some, None, refl, sym, subst}
use Rattle.std.specs.Prelude.{Result, Ok, Err}
use Rattle.saphyr_scalar.specs.declared.scalar.position.Span.{Span}
use Rattle.saphyr_machine.specs.declared.event.Event.{Event}
use Rattle.saphyr_machine.specs.declared.fault.Fault.{Fault}
use Rattle.saphyr_machine.specs.declared.fault.Fault.TheVariants as fault
use Rattle.saphyr_machine.specs.declared.receiver.Refused.{Refused}
use Rattle.saphyr_machine.specs.Events.{Happening}
use Rattle.saphyr_machine.specs.Cursor.{EventCursor, Kept, IsKept, event_of}
use Rattle.saphyr_machine.specs.Calls.{AdvancesOver, GivesNext, Looks}
use Rattle.saphyr_machine.specs.Loading.{Loads, MeetsBehind, Portion}
use Rattle.saphyr_parser.specs.declared.printing.fault.DumpFault.{DumpFault}
use Rattle.saphyr_parser.specs.declared.printing.fault.DumpFault.TheVariants as dump
use Rattle.saphyr_parser.specs.Dumps.{Leaves}
use Rattle.event_laws.specs.Promises.{KeepsSpans}
use Rattle.event_laws.specs.SpansWithin.{IsLater, itself, advanced, failed, looked, set}

pub later_behind : (first middle last : EventCursor) → IsLater first middle → IsLater middle last → IsLater first last
later_behind first middle _ a itself = a
later_behind first middle _ a (advanced e c d l m) = advanced e c d (later_behind first middle c a l) m
later_behind first middle _ a (failed f c d l m) = failed f c d (later_behind first middle c a l) m
later_behind first middle _ a (looked c d l m) = looked c d (later_behind first middle c a l) m
later_behind first middle _ a (set keep c l) = set keep c (later_behind first middle c a l)

pub same_later : (old new : EventCursor) → new ≡ old → IsLater old new
same_later old new e = subst (λ c. IsLater old c) (sym e) itself

pub next_later : (item : Option (Result (Event × Span) Fault)) (old new : EventCursor) → GivesNext item old new
    → IsLater old new
next_later (Some (Ok e)) old new h = advanced (event_of e) old new itself h
next_later (Some (Err f)) old new h = failed f old new itself h
next_later None old new h = same_later old new h.1

pub look_later : (old new : EventCursor) → Looks old new → IsLater old new
look_later old new h = looked old new itself h

pub events_later : (es : List (Happening × Span)) (old new : EventCursor) → AdvancesOver es old new → IsLater old new
events_later [] old new h = same_later old new h
events_later (e ∷ es) old new (middle, moved, h) =
    later_behind old middle new (advanced e old middle itself moved) (events_later es middle new h)

pub meets_later : (es : List (Happening × Span)) (old new : EventCursor) → MeetsBehind es old new → IsLater old new
meets_later es old new (middle, moved, h) = looked middle new (events_later es old middle moved) h

-- ## Loading

module _ {R : Type 0} (receives : R → Happening × Span → Result (Unit {0}) Refused → R → Type 0) where
  loads_later : (answer : Result (Unit {0}) Fault) (p : Portion) (old new : EventCursor) (first last : R)
      → Loads receives answer p old first last new → IsLater old new
  loads_later (Ok u) p old new first last h = events_later p.sent old new h.leaves
  loads_later (Err (fault.Scan e)) p old new first last h = meets_later p.sent old new h.leaves
  loads_later (Err fault.OutOfMemory) p old new first last h = meets_later h.sent old new h.leaves
  loads_later (Err fault.Receiver) p old new first last h = events_later (h.sent ++ (h.event ∷ [])) old new h.leaves
  loads_later (Err fault.InsideDocument) p old new first last h = absurd h

  pub load_later : (answer : Result (Unit {0}) Fault) (p : Portion) (old new : EventCursor) (first last : R)
      → (IsKept old.kept → new ≡ old)
      → (old.kept ≡ None → (span : Span) → old.finished ≡ Some span → new ≡ old)
      → (old.kept ≡ None → old.finished ≡ None → old.inside ≡ true → new ≡ old)
      → (old.kept ≡ None → old.finished ≡ None → old.inside ≡ false → Loads receives answer p old first last new)
      → IsLater old new
  load_later answer p old new first last ended finished inside between = by old.kept refl
    where
      by_place : (there : Bool) → old.kept ≡ None → old.finished ≡ None → old.inside ≡ there → IsLater old new
      by_place true k f i = same_later old new (inside k f i)
      by_place false k f i = loads_later answer p old new first last (between k f i)

      by_end : (end : Option Span) → old.kept ≡ None → old.finished ≡ end → IsLater old new
      by_end (Some span) k f = same_later old new (finished k span f)
      by_end None k f = by_place old.inside k f refl

      by : (k : Option Kept) → old.kept ≡ k → IsLater old new
      by (Some k) e = same_later old new (ended (subst IsKept (sym e) tt))
      by None e = by_end old.finished e refl

-- ## Printing

pub dump_later : (answer : Result (Unit {0}) DumpFault) (old new : EventCursor) (held written : Option (List ℕ))
    → Leaves answer old new held written → IsLater old new
dump_later (Ok u) old new held written h = events_later _ old new h.0
dump_later (Err (dump.Parse f)) old new held written (middle, prints, moved) =
    failed f middle new (events_later prints.printed old middle prints.over) moved
dump_later (Err dump.Write) old new held written h =
    advanced h.event h.middle new (events_later h.prints.printed old h.middle h.prints.over) h.advances

-- ## Spans

pub keeps_spans_later : (text : List ℕ) (old new : EventCursor) → KeepsSpans text old → IsLater old new
    → KeepsSpans text new
keeps_spans_later text old new k l later is = k later (later_behind old new later l is)
