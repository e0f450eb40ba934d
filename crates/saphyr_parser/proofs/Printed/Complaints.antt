-- How a fault is printed, in pieces.
use Rattle.std.proofs.Common.{◌≡◌, ℕ, ◌+◌, List, ◌++◌, codes, string_bytes, append_assoc}
use Rattle.std.specs.Fmt.{decimal}
use Rattle.saphyr_scalar.specs.declared.scalar.fault.ScanError.{ScanError}
use Rattle.saphyr_scalar.specs.Faults.{error_text}
use Rattle.saphyr_parser.specs.Runs.{place_text}

regroup : (info a i b l d c e : List ℕ)
    → ((((((info ++ a) ++ i) ++ b) ++ l) ++ d) ++ c) ++ e ≡ info ++ (((a ++ i) ++ ((b ++ l) ++ (d ++ c))) ++ e)
regroup info a i b l d c e = simp append_assoc

pub error_line : (e : ScanError) → error_text e ++ codes "\n" ≡ string_bytes e.info ++ (place_text e.mark ++ codes "\n")
error_line e = regroup (string_bytes e.info) (codes " at byte ") (decimal e.mark.index) (codes " line ")
    (decimal e.mark.line) (codes " column ") (decimal (e.mark.col + 1)) (codes "\n")
