-- What is found in a text: each finding by itself, what is told of a fault, and all of them by their places.
use Rattle.std.specs.Prelude.{◌≡◌, ℕ, ◌-◌, ◌≤◌, max, true, false, if◌then◌else◌, nat_eq, List, [], ◌∷◌, ◌++◌, length, drop, take, map, slice_get, All, Option, None, Some, option_map, codes, string_bytes, IsPermutation}
use Rattle.std.specs.Fmt.{decimal}
use Rattle.std.specs.List.Sorted.{IsNonDecreasingBy}
use Rattle.saphyr_parser.specs.Words.Marker.{Marker}
use Rattle.saphyr_parser.specs.Answer.{Ending, OutOfMemory, Refused}
use Rattle.saphyr_parser.specs.Words.TokensTaken.{IsPlaceOf}
use Rattle.saphyr_scalar.specs.declared.scalar.fault.ScanError.{ScanError}
use Rattle.yaml_standard.specs.declared.verdict.Deviation.{Deviation}
use Rattle.yaml_standard.specs.Rules.{rule_name, rule_sentence}
use Rattle.yaml_standard.specs.Verdicts.{IsStandard}
use Rattle.yaml_check.specs.declared.arguments.Options.{Options}
use Rattle.yaml_check.specs.declared.finding.Finding.{Finding}
use Rattle.yaml_check.specs.declared.finding.Findings.{Findings}
use Rattle.yaml_check.specs.declared.finding.Notes.{Notes}
use Rattle.yaml_check.specs.declared.finding.Problem.{Problem}
use Rattle.yaml_check.specs.declared.finding.Problem.TheVariants as problem
use Rattle.yaml_check.specs.declared.finding.Severity.{Severity}
use Rattle.yaml_check.specs.declared.finding.Severity.TheVariants as severity
use Rattle.yaml_check.specs.declared.finding.Verdict.{Verdict}
use Rattle.yaml_check.specs.declared.finding.Verdict.TheVariants as verdict
use Rattle.yaml_check.specs.declared.mended.FaultTold.{FaultTold}
use Rattle.yaml_check.specs.declared.note.Note.{Note}
use Rattle.yaml_check.specs.declared.warning.PlacedWarning.{PlacedWarning}
use Rattle.yaml_check.specs.Helps.{Helps}
use Rattle.yaml_check.specs.Mended.{mends}
use Rattle.yaml_check.specs.Opened.{OpenStarts, closer, is_closed_by, opened_note}
use Rattle.yaml_check.specs.Rules.{warning_name}
use Rattle.yaml_check.specs.Shown.{place_index}
use Rattle.yaml_check.specs.Texts.{remark_text, warning_text}
use Rattle.yaml_check.specs.Warned.{rule_of}

-- ## One finding

abbrev pub severity_of : Problem → Severity
severity_of (problem.Warning w) = severity.Warning
severity_of problem.Stop = severity.Note
severity_of (problem.Remark r) = severity.Note
severity_of (problem.More count) = severity.Note
severity_of _ = severity.Error

-- the name of its rule
abbrev pub rule_of_problem : Problem → List ℕ
rule_of_problem (problem.Warning w) = warning_name (rule_of w)
rule_of_problem (problem.More count) = codes "max-findings"
rule_of_problem (problem.Departure r) = rule_name r
rule_of_problem problem.NotUtf8 = codes "encoding"
rule_of_problem problem.Utf16 = codes "encoding"
rule_of_problem _ = codes "syntax"

-- what it says, where the fault of the parser has some words
abbrev pub message_of : List ℕ → Problem → List ℕ
message_of words problem.Fault = words
message_of words (problem.Mistake r) = remark_text r
message_of words problem.Stop = codes "the parser stops here: " ++ words
message_of words (problem.Remark r) = remark_text r
message_of words (problem.Warning w) = warning_text w
message_of words (problem.More count) = decimal count ++ codes " more warnings begin here"
message_of words (problem.Departure r) = rule_sentence r
message_of words problem.NotUtf8 = codes "the text is not UTF-8 from here on"
message_of words problem.Utf16 = codes "the text is UTF-16, and not UTF-8"

abbrev pub words_of : Option ScanError → List ℕ
words_of None = []
words_of (Some e) = string_bytes e.info

abbrev pub at_place : Marker → Problem → Finding
at_place place p = record { span = record { start = place; end = place }; problem = p }

abbrev pub warned : PlacedWarning → Finding
warned w = record { span = w.span; problem = problem.Warning w.warning }

abbrev pub noted : Note → Finding
noted n = at_place n.place (problem.Remark n.remark)

abbrev pub departed : Deviation → Finding
departed d = at_place d.place (problem.Departure d.rule)

-- ## A fault

abbrev pub no_notes : Notes
no_notes = record { first = None; second = None }

-- there are notes on the fault of the parser alone
abbrev pub notes_on : Notes → Problem → Notes
notes_on notes problem.Fault = notes
notes_on notes (problem.Mistake r) = notes
notes_on notes _ = no_notes

-- the error is at the fault, with the parser's words
abbrev pub told_here : Marker → Option Note → Option Note → FaultTold
told_here fault first second = record {
  error = at_place fault problem.Fault;
  notes = record { first = option_map noted first; second = option_map noted second };
}

-- the error is where a person mends the text, and the fault is a note on it
abbrev pub told_elsewhere : Marker → Note → Option Note → FaultTold
told_elsewhere fault n other = record {
  error = at_place n.place (problem.Mistake n.remark);
  notes = record { first = Some (at_place fault problem.Stop); second = option_map noted other };
}

-- the help is at the fault, or elsewhere
abbrev pub told_by_help : Marker → Option Note → Note → FaultTold
told_by_help fault opened n =
    if nat_eq n.place.index fault.index then told_here fault (Some n) opened else told_elsewhere fault n opened

-- no help tells where the text is mended: then a bracket does that is open, if no closing one of its kind comes later
abbrev pub told_by_bracket : Marker → Option Note → Option ℕ → Option Note → FaultTold
told_by_bracket fault None closer help = told_here fault help None
told_by_bracket fault (Some n) closer help =
    if is_closed_by n closer then told_here fault (Some n) help else told_elsewhere fault n help

-- what is told of a fault, of the bracket that is open there and the one that closes it, and of the help on the fault
abbrev pub fault_told : Marker → Option Note → Option ℕ → Option Note → FaultTold
fault_told fault opened closer None = told_by_bracket fault opened closer None
fault_told fault opened closer (Some n) =
    if mends n.remark then told_by_help fault opened n else told_by_bracket fault opened closer (Some n)

-- help on a fault, where there is one
abbrev pub IsHelp : List ℕ → OpenStarts → Marker → List ℕ → Option Note → Type 0
IsHelp text o place message None = Unit {0}
IsHelp text o place message (Some n) = Helps text o place message n

-- what is told of a fault with these words at a place, by what is open there
pub record IsToldOf (text : List ℕ) (o : OpenStarts) (place : Marker) (message : List ℕ) (told : FaultTold) :
    Type 0 where
  pub help : Option Note
  pub is_help : IsHelp text o place message help
  pub is : told ≡ fault_told place (opened_note text o place) (closer (drop (place_index text place.index) text) 0) help

-- ## All of them

-- so many of the warnings, if there is one behind them, and how many more there are
abbrev pub most_before : Option PlacedWarning → ℕ → List PlacedWarning → List Finding
most_before None most ws = map warned ws
most_before (Some next) most ws =
    map warned (take most ws) ++ (record { span = next.span; problem = problem.More (length ws - most) } ∷ [])

abbrev pub most_warned : ℕ → List PlacedWarning → List Finding
most_warned most ws = most_before (slice_get ws most) most ws

-- a list has these findings, each once, in the order of their places
pub record IsByPlace (all list : List Finding) : Type 0 where
  pub same : IsPermutation all list
  pub rise : IsNonDecreasingBy (λ (f : Finding). f.span.start.index) list

-- what is found where the parser refuses a text: the warnings on the events before the fault, and one error
pub record TellsRefusal (options : Options) (text : List ℕ) (ws : List PlacedWarning) (o : OpenStarts) (place : Marker)
    (message : List ℕ) (found : Findings) : Type 0 where
  pub told : FaultTold
  pub is_told : IsToldOf text o place message told
  pub list : IsByPlace (most_warned options.max_findings ws ++ (told.error ∷ [])) found.list.items
  pub notes : found.notes ≡ told.notes
  pub verdict : found.verdict ≡ verdict.Wrong

-- at a place of the text some rule of the standard is broken
abbrev pub IsDeparture : List ℕ → Finding → Type 0
IsDeparture text f = (d : Deviation) × (f ≡ departed d) × IsPlaceOf text d.place

abbrev pub verdict_of : List PlacedWarning → List Finding → Verdict
verdict_of [] [] = verdict.Right
verdict_of (w ∷ ws) [] = verdict.Warned
verdict_of ws (d ∷ ds) = verdict.Wrong

-- where a text is not YAML 1.2.2, if that is asked for: so many places at most, but one. It is where nothing is found.
pub record AreDepartures (options : Options) (text : List ℕ) (found : List Finding) : Type 0 where
  pub are : All (IsDeparture text) found
  pub asked : options.standard ≡ false → found ≡ []
  pub few : length found ≤ max 1 options.max_findings
  pub standard : options.standard ≡ true → found ≡ [] → IsStandard text

-- what is found where the parser reads a text: the warnings on its events, and these
pub record IsAccepted (options : Options) (text : List ℕ) (ws : List PlacedWarning) (found : Findings) : Type 0 where
  pub departures : List Finding
  pub are : AreDepartures options text departures
  pub list : IsByPlace (most_warned options.max_findings ws ++ departures) found.list.items
  pub notes : found.notes ≡ no_notes
  pub verdict : found.verdict ≡ verdict_of ws departures

-- what is found, by the warnings on the events, by what is open behind them, and by the fault that ends them
abbrev pub AreFindings : Options → List ℕ → List PlacedWarning → OpenStarts → Option Ending → Findings → Type 0
AreFindings options text ws o None found = IsAccepted options text ws found
AreFindings options text ws o (Some (Refused place message)) found = TellsRefusal options text ws o place message found
AreFindings options text ws o (Some OutOfMemory) found = ⊥
