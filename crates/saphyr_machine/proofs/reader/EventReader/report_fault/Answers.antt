use Rattle.std.proofs.Common.{◌≡◌, Bool, true, Err, Some, refl}
use Rattle.saphyr_machine.specs.declared.fault.Fault.{Fault}
use Rattle.saphyr_machine.specs.declared.fault.Fault.TheVariants as fault
use Rattle.saphyr_machine.specs.Cursor.{ending_of_fault}
use Rattle.saphyr_machine.specs.Faults.{is_own, IsCopy}
use Rattle.saphyr_machine.specs.Loading.{ReportsFault}
use Rattle.saphyr_machine.proofs.reader.EventReader.report_fault.Goals as goal

copy_reports : (f g : Fault) (given : Bool) → is_own g ≡ true → IsCopy f g
    → ReportsFault (Err f) (Some (record { fault = ending_of_fault g; given = given }))
copy_reports (fault.Scan e) (fault.Scan d) given own h = (given, rw (h.place, h.text) refl)
copy_reports fault.OutOfMemory g given own h = tt
copy_reports fault.Receiver fault.Receiver given own h = absurd (cc)
copy_reports fault.InsideDocument fault.InsideDocument given own h = absurd (cc)
copy_reports _ _ given own h = absurd h

pub returns-in-Ok : goal.returns-in-Ok
returns-in-Ok g c =
    rw c.in-Some.is
    (copy_reports c.in-Ok.fault c.in-Some.kept.fault c.in-Some.kept.given c.in-Some.kept.own c.in-Ok.ensures)
