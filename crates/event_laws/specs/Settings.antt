-- What a step does where the setting of prefixes is another.
use Rattle.std.specs.Prelude.{Bool, Result, Ok, Err}
use Rattle.saphyr_scalar.specs.declared.scalar.fault.Refusal.{Refusal}
use Rattle.saphyr_machine.specs.Steps.Machine.{Machine, Emitted}

-- with the setting whether prefixes are kept for later documents
abbrev pub with_keep_tags : Bool → Machine → Machine
with_keep_tags keep m = record m { keep_tags = keep }

-- the same event, and the machine after it with this setting
abbrev pub with_setting : Bool → Result Emitted Refusal → Result Emitted Refusal
with_setting keep (Ok x) = Ok (record x { machine = with_keep_tags keep x.machine })
with_setting keep (Err e) = Err e
