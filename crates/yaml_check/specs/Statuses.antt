-- The status of a program that checks files.
use Rattle.std.specs.Prelude.{ℕ, Bool, false, if◌then◌else◌, List, [], ◌∷◌, max, Result, Ok, Err, ◌≡◌, ◌⊎◌}
use Rattle.yaml_check.specs.declared.run.CheckFault.{CheckFault}
use Rattle.yaml_check.specs.declared.finding.Verdict.{Verdict}
use Rattle.yaml_check.specs.declared.finding.Verdict.TheVariants as verdict

abbrev pub status_of_one : Bool → Result Verdict CheckFault → ℕ
status_of_one strict (Ok verdict.Right) = 0
status_of_one strict (Ok verdict.Warned) = if strict then 1 else 0
status_of_one strict (Ok verdict.Wrong) = 1
status_of_one strict (Err f) = 2

abbrev pub worst_status : Bool → List (Result Verdict CheckFault) → ℕ
worst_status strict [] = 0
worst_status strict (answer ∷ answers) = max (status_of_one strict answer) (worst_status strict answers)

-- a file is right, or has warnings alone, which a strict call doesn't let pass
abbrev pub IsLetPass : Bool → Result Verdict CheckFault → Type 0
IsLetPass strict (Ok verdict.Right) = Unit {0}
IsLetPass strict (Ok verdict.Warned) = strict ≡ false
IsLetPass strict (Ok verdict.Wrong) = ⊥
IsLetPass strict (Err f) = ⊥

-- each file passes
abbrev pub AllPass : Bool → List (Result Verdict CheckFault) → Type 0
AllPass strict [] = Unit {0}
AllPass strict (answer ∷ answers) = IsLetPass strict answer × AllPass strict answers

abbrev pub IsUnchecked : Result Verdict CheckFault → Type 0
IsUnchecked (Ok v) = ⊥
IsUnchecked (Err f) = Unit {0}

-- one of the files was not checked
abbrev pub OneUnchecked : List (Result Verdict CheckFault) → Type 0
OneUnchecked [] = ⊥
OneUnchecked (answer ∷ answers) = IsUnchecked answer ⊎ OneUnchecked answers
