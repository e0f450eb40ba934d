-- The names of anchors and aliases (YAML 1.2.2, 6.9.2 and 7.1).
use Rattle.std.specs.Prelude.{ℕ, ◌==◌, List, [], length, Result, Ok, if◌then◌else◌}
use Rattle.saphyr_input.specs.Classes.{is_anchor_char}
use Rattle.saphyr_scalar.specs.declared.scalar.position.Marker.{Marker}
use Rattle.saphyr_scalar.specs.declared.scalar.fault.Refusal.{Refusal}
use Rattle.saphyr_scalar.specs.declared.scalar.fault.FaultText.TheVariants as fault
use Rattle.saphyr_scalar.specs.Views.Cursor.{Cursor, refuse_open, is_missing, pass}
use Rattle.saphyr_scalar.specs.Steps.Quoted.{with_run}

-- a name has a character
unfoldable pub anchor_name_of : Marker → List ℕ × Cursor → Result (List ℕ × Cursor) Refusal
anchor_name_of start x =
    if length x.0 == 0 then refuse_open (is_missing 0 x.1.rest) fault.AnchorNameExpected start else Ok x

-- the name after the `&` or the `*`, and what comes after the name
unfoldable pub anchor : Cursor → Result (List ℕ × Cursor) Refusal
anchor s = anchor_name_of s.mark (with_run is_anchor_char [] (pass 1 s))
