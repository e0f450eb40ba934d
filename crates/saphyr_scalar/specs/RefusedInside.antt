-- Where a refusal is (YAML 1.2.2, 5.4).
use Rattle.std.specs.Prelude.{ℕ, List}
use Rattle.saphyr_scalar.specs.declared.scalar.fault.Refusal.{Refusal}
use Rattle.saphyr_scalar.specs.Views.Cursor.{Cursor}
use Rattle.saphyr_scalar.specs.Passing.{IsPassed}

-- at a place on the way from s
abbrev pub IsRefusedInside : Cursor → Refusal → Type 0
IsRefusedInside s e = (behind : List ℕ) × IsPassed s.mark s.rest e.mark behind
