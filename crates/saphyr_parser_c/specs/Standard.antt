-- What C is told of a text that is tested for YAML 1.2.2.
use Rattle.std.specs.Prelude.{◌≡◌, ℕ, ℤ, List, Some, None}
use Rattle.saphyr_scalar.specs.declared.scalar.position.Marker.{Marker}
use Rattle.saphyr_scalar.specs.declared.scalar.fault.ScanError.{ScanError}
use Rattle.yaml_standard.specs.Rules.{rule_name, rule_sentence}
use Rattle.yaml_standard.specs.Verdicts.{IsVerdictOn}
use Rattle.yaml_standard.specs.declared.verdict.Deviation.{Deviation}
use Rattle.yaml_standard.specs.declared.verdict.Verdict.TheVariants as verdict
use Rattle.saphyr_parser_c.specs.declared.standard.CDeviation.{CDeviation}
use Rattle.saphyr_parser_c.specs.declared.status.Status.{Status}
use Rattle.saphyr_parser_c.specs.declared.status.Status.TheVariants as status
use Rattle.saphyr_parser_c.specs.Shown.{HasText, IsMarkerOfC, nowhere}
use Rattle.saphyr_parser_c.specs.Status.{code_of}

-- a place, and no rule
abbrev pub HasPlace : Marker → CDeviation → Type 0
HasPlace place c = IsMarkerOfC place c.place × HasText None c.rule × HasText None c.sentence

-- a place, and a rule by its name and what it asks
pub record HasRule (d : Deviation) (c : CDeviation) : Type 0 where
  pub place : IsMarkerOfC d.place c.place
  pub rule : HasText (Some (rule_name d.rule)) c.rule
  pub sentence : HasText (Some (rule_sentence d.rule)) c.sentence

-- what is told with each status of a text in UTF-8: where it deviates, or the place of the parser's fault
abbrev pub TellsOfText : List ℕ → Status → CDeviation → Type 0
TellsOfText text status.Done c = HasPlace nowhere c
TellsOfText text status.Deviates c = (d : Deviation) × IsVerdictOn text (verdict.Deviates d) × HasRule d c
TellsOfText text status.Refused c = (e : ScanError) × IsVerdictOn text (verdict.Refused e) × HasPlace e.mark c
TellsOfText text status.NoMemory c = HasPlace nowhere c
TellsOfText text _ c = ⊥

-- and of any bytes
abbrev pub Tells : List ℕ → Status → CDeviation → Type 0
Tells bytes status.NotUtf8 c = HasPlace nowhere c
Tells bytes status.Utf16 c = HasPlace nowhere c
Tells bytes s c = TellsOfText bytes s c

abbrev pub Answers : List ℕ → ℤ → CDeviation → Type 0
Answers bytes code c = (s : Status) × (code ≡ code_of s) × Tells bytes s c
