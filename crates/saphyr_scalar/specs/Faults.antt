-- What a fault says, and what it prints.
use Rattle.std.specs.Prelude.{◌≡◌, ℕ, ◌+◌, List, ◌++◌, codes, string_bytes}
use Rattle.std.specs.Fmt.{decimal}
use Rattle.saphyr_scalar.specs.declared.scalar.fault.ScanError.{ScanError}
use Rattle.saphyr_scalar.specs.declared.scalar.position.Marker.{Marker}

-- a fault has this place and this text
pub record Says (mark : Marker) (info : List ℕ) (e : ScanError) : Type 0 where
  pub place : e.mark ≡ mark
  pub text : string_bytes e.info ≡ info

abbrev pub error_text : ScanError → List ℕ
error_text e = string_bytes e.info ++ codes " at byte " ++ decimal e.mark.index ++ codes " line " ++ decimal e.mark.line
    ++ codes " column " ++ decimal (e.mark.col + 1)

-- a place as editors tell it: its line and its column, both counted from 1
abbrev pub line_and_column : Marker → List ℕ
line_and_column m = decimal m.line ++ codes ":" ++ decimal (m.col + 1)
