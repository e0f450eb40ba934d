-- What contracts see of a fault that is kept.
use Rattle.saphyr_machine.specs.declared.kept.Kept as code
use Rattle.saphyr_machine.specs.Cursor.{Kept, ending_of_fault}

abbrev pub kept_of : code.Kept → Kept
kept_of k = record { fault = ending_of_fault k.fault; given = k.given }
