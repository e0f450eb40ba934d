-- What holds of each parser after a call of `load`.
use Rattle.std.proofs.Common.{◌≡◌, Bool, true, false, Option, Some, None, Result, Ok, Err, refl, sym, subst}
use Rattle.saphyr_scalar.specs.declared.scalar.position.Span.{Span}
use Rattle.saphyr_machine.specs.declared.fault.Fault.{Fault}
use Rattle.saphyr_machine.specs.declared.fault.Fault.TheVariants as faults
use Rattle.saphyr_machine.specs.declared.receiver.Refused.{Refused}
use Rattle.saphyr_machine.specs.Events.{Happening}
use Rattle.saphyr_machine.specs.Cursor.{EventCursor, IsKept, Kept}
use Rattle.saphyr_machine.specs.Calls.{IsSound}
use Rattle.saphyr_machine.specs.Loading.{Loads, MeetsBehind, Portion}
use Rattle.saphyr_parser.proofs.Calls.Soundness.{sound_looks, sound_over}

met : (es : _) (old new : EventCursor) → MeetsBehind es old new → IsSound old → IsSound new
met es old new (middle, over, looks) s = sound_looks middle new looks (sound_over es old middle over s)

module _ {R : Type 0} (receives : R → Happening × Span → Result (Unit {0}) Refused → R → Type 0) where
  loads : (r : Result (Unit {0}) Fault) (p : Portion) (old : EventCursor) (first last : R) (new : EventCursor)
      → Loads receives r p old first last new → IsSound old → IsSound new
  loads (Ok u) p old first last new h s = sound_over p.sent old new h.leaves s
  loads (Err (faults.Scan e)) p old first last new h s = met p.sent old new h.leaves s
  loads (Err faults.OutOfMemory) p old first last new h s = met h.sent old new h.leaves s
  loads (Err faults.Receiver) p old first last new h s = sound_over _ old new h.leaves s
  loads (Err faults.InsideDocument) p old first last new h s = absurd h

  -- in each state of the parser
  between : (f : Option Span) (i : Bool) (r : Result (Unit {0}) Fault) (p : Portion) (old : EventCursor)
      (first last : R)
      (new : EventCursor)
      → ((span : Span) → f ≡ Some span → new ≡ old) → (f ≡ None → i ≡ true → new ≡ old)
      → (f ≡ None → i ≡ false → Loads receives r p old first last new) → IsSound old → IsSound new
  between (Some span) i r p old first last new finished inside loading s = subst IsSound (sym (finished span refl)) s
  between None true r p old first last new finished inside loading s = subst IsSound (sym (inside refl refl)) s
  between None false r p old first last new finished inside loading s =
      loads r p old first last new (loading refl refl) s

  pub sound_loads : (k : Option Kept) (f : Option Span) (i : Bool) (r : Result (Unit {0}) Fault) (p : Portion)
      (old : EventCursor) (first last : R) (new : EventCursor)
      → (IsKept k → new ≡ old) → (k ≡ None → (span : Span) → f ≡ Some span → new ≡ old)
      → (k ≡ None → f ≡ None → i ≡ true → new ≡ old)
      → (k ≡ None → f ≡ None → i ≡ false → Loads receives r p old first last new) → IsSound old → IsSound new
  sound_loads (Some k) f i r p old first last new kept finished inside loading s = subst IsSound (sym (kept tt)) s
  sound_loads None f i r p old first last new kept finished inside loading s =
      between f i r p old first last new (finished refl) (inside refl) (loading refl) s
