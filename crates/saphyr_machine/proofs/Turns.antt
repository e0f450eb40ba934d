-- What a reading that failed says of the events still to come, and that something is, where that is refused.
use Rattle.std.proofs.Common.{◌≢◌, ◌<◌, Result, Ok, Err, refl, ap, ◌∙◌, arith}
use Rattle.saphyr_scalar.specs.declared.scalar.fault.Refusal.{Refusal}
use Rattle.saphyr_scalar.specs.declared.scalar.fault.Stop.{Stop}
use Rattle.saphyr_scalar.specs.declared.scalar.fault.Stop.TheVariants as stop
use Rattle.saphyr_scalar.specs.Views.Reader.{Fails}
use Rattle.saphyr_machine.specs.declared.state.State.TheVariants.{End}
use Rattle.saphyr_machine.specs.declared.fault.Fault.{Fault}
use Rattle.saphyr_machine.specs.declared.fault.Fault.TheVariants as fault
use Rattle.saphyr_machine.specs.Steps.Machine.{Machine, Emitted}
use Rattle.saphyr_machine.specs.Steps.Expected.{event_step}
use Rattle.saphyr_machine.specs.Answer.{Answer, answer_of_step, remaining_answer}
use Rattle.saphyr_machine.specs.Faults.{IsFaultOf}
use Rattle.saphyr_machine.specs.Cursor.{Refuses, count}
use Rattle.saphyr_machine.proofs.Unroll.{unroll}

something : (r : Result Emitted Refusal) → 0 < count (answer_of_step r remaining_answer)
something (Ok x) = omega arith
something (Err f) = omega arith

pub refused : (m : Machine) (s : Stop) (f : Fault) → m.state ≢ End → Fails s (event_step m) → IsFaultOf s f
    → Refuses f (remaining_answer m)
refused m s fault.OutOfMemory more h w = rw (unroll m more) (something (event_step m))
refused m stop.OutOfMemory (fault.Scan e) more h w = absurd w
refused m (stop.Refused r) (fault.Scan e) more h w =
    unroll m more ∙ ap (λ (q : Result Emitted Refusal). answer_of_step q remaining_answer) h ∙ rw (w.place, w.text) refl
refused m s fault.Receiver more h w = absurd w
refused m s fault.InsideDocument more h w = absurd w

pub some_refused : (f : Fault) (a : Answer) → Refuses f a → 0 < count a
some_refused (fault.Scan e) a h = omega (arith, ap count h)
some_refused fault.OutOfMemory a h = h
some_refused fault.Receiver a h = absurd h
some_refused fault.InsideDocument a h = absurd h
