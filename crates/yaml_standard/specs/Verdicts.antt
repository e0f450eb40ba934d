-- What a validator says of a text.
use Rattle.std.specs.Prelude.{◌≡◌, ℕ, ◌≤◌, All, List, length, Option, Some, None}
use Rattle.std.specs.List.Sorted.{IsNonDecreasingBy}
use Rattle.std.specs.Str.{chars}
use Rattle.saphyr_parser.specs.Answer.{Answer}
use Rattle.saphyr_parser.specs.Cursor.{ending_of_fault}
use Rattle.saphyr_parser.specs.Runs.{answer_of_text}
use Rattle.saphyr_parser.specs.Types.Fault.{Fault}
use Rattle.saphyr_parser.specs.Types.Fault.TheVariants as fault
use Rattle.saphyr_scalar.specs.declared.scalar.fault.ScanError.{ScanError}
use Rattle.saphyr_scanner.specs.Grammar.Forest.{Forest}
use Rattle.saphyr_scanner.specs.Limits.{most_open}
use Rattle.saphyr_scanner.specs.TokensTaken.{IsPlaceOf}
use Rattle.yaml_laws.specs.Grammar.Yaml.{IsYamlText}
use Rattle.yaml_standard.specs.Strict.{IsStrict}
use Rattle.yaml_standard.specs.declared.verdict.Deviation.{Deviation}
use Rattle.yaml_standard.specs.declared.verdict.Verdict.{Verdict}
use Rattle.yaml_standard.specs.declared.verdict.Verdict.TheVariants as verdict

-- A text that YAML's grammar derives, where it is as strict as the standard. That each such text is called standard no
-- clause says.
abbrev pub IsStandard : List ℕ → Type 0
IsStandard t = ((forest : Forest) × IsYamlText most_open forest t) × IsStrict t

-- no fault ends the events, or this one does, with its words and its place
abbrev pub EndsWithFault : Answer → Option ScanError → Type 0
EndsWithFault a None = a.fault ≡ None
EndsWithFault a (Some e) = a.fault ≡ Some (ending_of_fault (fault.Scan e))

-- the fault that ends the events, as it is handed out: memory may run out before any of them
abbrev pub IsLastFault : Answer → Option Fault → Type 0
IsLastFault a None = EndsWithFault a None
IsLastFault a (Some (fault.Scan e)) = EndsWithFault a (Some e)
IsLastFault a (Some _) = Unit {0}

-- What a verdict tells of a text in UTF-8. Of one that deviates, no clause tells which rule it breaks, nor that it
-- breaks one at that place.
abbrev pub IsVerdictOn : List ℕ → Verdict → Type 0
IsVerdictOn bytes verdict.Standard = IsStandard (chars bytes)
IsVerdictOn bytes (verdict.Deviates d) = EndsWithFault (answer_of_text bytes) None × IsPlaceOf (chars bytes) d.place
IsVerdictOn bytes (verdict.Refused e) = EndsWithFault (answer_of_text bytes) (Some e)

-- places where a text deviates, so many at most, in their order
pub record AreDeviations (text : List ℕ) (most : ℕ) (found : List Deviation) : Type 0 where
  pub few : length found ≤ most
  pub places : All (λ (d : Deviation). IsPlaceOf text d.place) found
  pub rise : IsNonDecreasingBy (λ (d : Deviation). d.place.index) found
