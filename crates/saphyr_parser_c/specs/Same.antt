-- Faults that tell the same, wherever their texts are.
use Rattle.std.specs.Prelude.{◌≡◌, string_bytes}
use Rattle.saphyr_parser.specs.Types.Fault.{Fault}
use Rattle.saphyr_parser.specs.Types.Fault.TheVariants as fault

abbrev pub IsSameFault : Fault → Fault → Type 0
IsSameFault (fault.Scan old) (fault.Scan new) =
    (new.mark ≡ old.mark) × (string_bytes new.info ≡ string_bytes old.info)
IsSameFault fault.OutOfMemory new = new ≡ fault.OutOfMemory
IsSameFault fault.Receiver new = new ≡ fault.Receiver
IsSameFault fault.InsideDocument new = new ≡ fault.InsideDocument
IsSameFault _ _ = ⊥
