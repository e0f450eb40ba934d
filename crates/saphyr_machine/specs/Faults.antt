-- What faults say.
use Rattle.std.specs.Prelude.{Bool, true, false, not, Option, Some, None, Result, Ok, Err, string_bytes}
use Rattle.saphyr_scalar.specs.Faults.{Says}
use Rattle.saphyr_scalar.specs.Texts.{fault_text}
use Rattle.saphyr_scalar.specs.declared.scalar.fault.Stop.{Stop}
use Rattle.saphyr_scalar.specs.declared.scalar.fault.Stop.TheVariants as stop
use Rattle.saphyr_machine.specs.declared.fault.Fault.{Fault}
use Rattle.saphyr_machine.specs.declared.fault.Fault.TheVariants as fault

-- the fault that a reading ended with; memory may run out while its text is made
abbrev pub IsFaultOf : Stop → Fault → Type 0
IsFaultOf s fault.OutOfMemory = Unit {0}
IsFaultOf (stop.Refused e) (fault.Scan error) = Says e.mark (fault_text e.text) error
IsFaultOf _ _ = ⊥

-- an equal fault
abbrev pub IsCopy : Fault → Fault → Type 0
IsCopy (fault.Scan copy) (fault.Scan error) = Says error.mark (string_bytes error.info) copy
IsCopy fault.OutOfMemory fault.OutOfMemory = Unit {0}
IsCopy fault.Receiver fault.Receiver = Unit {0}
IsCopy fault.InsideDocument fault.InsideDocument = Unit {0}
IsCopy _ _ = ⊥

-- a fault that reading gives
abbrev pub is_own : Fault → Bool
is_own (fault.Scan error) = true
is_own fault.OutOfMemory = true
is_own fault.Receiver = false
is_own fault.InsideDocument = false

-- a fault that reading doesn't give
abbrev pub is_foreign : {X : Type 0} → Option (Result X Fault) → Bool
is_foreign None = false
is_foreign (Some (Ok x)) = false
is_foreign (Some (Err f)) = not (is_own f)
