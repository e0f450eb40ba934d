-- What is found in a text, as it is handed out to C: what is left of it, and what is written of a finding.
use Rattle.std.specs.Prelude.{◌≡◌, ℕ, ℤ, pos, ◌-◌, ◌^◌, not, List, [], ◌∷◌, drop, Option, Some, None, Result, Ok, Err, string_bytes}
use Rattle.std.specs.String.{string_vec}
use Rattle.std.specs.declared.alloc.AllocError.{AllocError}
use Rattle.yaml_check.specs.declared.arguments.Options.{Options}
use Rattle.yaml_check.specs.declared.finding.Finding.{Finding}
use Rattle.yaml_check.specs.declared.finding.Findings.{Findings}
use Rattle.yaml_check.specs.declared.finding.Notes.{Notes}
use Rattle.yaml_check.specs.declared.finding.Severity.{Severity}
use Rattle.yaml_check.specs.declared.finding.Severity.TheVariants as severity
use Rattle.yaml_check.specs.declared.rules.RuleSet.{RuleSet}
use Rattle.yaml_check.specs.Found.{message_of, notes_on, rule_of_problem, severity_of, words_of}
use Rattle.saphyr_parser_c.specs.declared.found.CFinding.{CFinding}
use Rattle.saphyr_parser_c.specs.declared.found.COptions.{COptions}
use Rattle.saphyr_parser_c.specs.declared.found.CRules.{CRules}
use Rattle.saphyr_parser_c.specs.declared.found.Found.{Found}
use Rattle.saphyr_parser_c.specs.declared.status.Status.{Status}
use Rattle.saphyr_parser_c.specs.declared.status.Status.TheVariants as status
use Rattle.saphyr_parser_c.specs.Coming.{bounded}
use Rattle.saphyr_parser_c.specs.Shown.{BytesStand, HasText, IsMarkerOfC, nowhere}

-- ## Options

abbrev pub rules_without : CRules → RuleSet
rules_without c = record {
  alias_in_itself = not c.alias_in_itself;
  duplicate_key = not c.duplicate_key;
  empty_document = not c.empty_document;
  max_depth = not c.max_depth;
  max_nodes = not c.max_nodes;
  wide_alias = not c.wide_alias;
}

-- the options of a check, as a caller sets them
pub record AreOptions (c : COptions) (options : Options) : Type 0 where
  pub standard : options.standard ≡ c.standard
  pub strict : options.strict ≡ c.strict
  pub rules : options.rules ≡ rules_without c.disable
  pub depth : options.limits.depth ≡ bounded c.max_depth (2 ^ 64 - 1)
  pub most : options.max_findings ≡ bounded c.max_findings (2 ^ 64 - 1)
  pub nodes : options.limits.nodes ≡ bounded c.max_nodes (2 ^ 64 - 1)

-- ## What is left

-- the findings that are not handed out
abbrev pub findings_left : Found → List Finding
findings_left found = drop found.count found.findings.list.items

abbrev pub and_then : Option Finding → List Finding → List Finding
and_then None fs = fs
and_then (Some f) fs = f ∷ fs

abbrev pub list_of : Notes → List Finding
list_of notes = and_then notes.first (and_then notes.second [])

-- the notes that are not handed out, on the finding that was handed out last
abbrev pub notes_left : Found → List Finding
notes_left found = list_of found.notes

-- all findings are left
abbrev pub HasAllLeft : Findings → Found → Type 0
HasAllLeft findings found =
    (found.findings ≡ findings) × (findings_left found ≡ findings.list.items) × (notes_left found ≡ [])

-- ## What is written

abbrev pub severity_code : Severity → ℤ
severity_code severity.Error = pos 1
severity_code severity.Warning = pos 2
severity_code severity.Note = pos 3

abbrev pub IsNoFinding : CFinding → Type 0
IsNoFinding c = (c.severity ≡ pos 0) × IsMarkerOfC nowhere c.start × IsMarkerOfC nowhere c.end × HasText None c.rule
    × HasText None c.message

-- a finding or a note: each field, with the message in the memory in which it is kept
pub record WritesFinding (found : Found) (f : Finding) (c : CFinding) : Type 0 where
  pub severity : c.severity ≡ severity_code (severity_of f.problem)
  pub start : IsMarkerOfC f.span.start c.start
  pub end : IsMarkerOfC f.span.end c.end
  pub name : List ℕ
  pub is_name : name ≡ rule_of_problem f.problem
  pub rule : HasText (Some name) c.rule
  pub is_message : string_bytes found.message ≡ message_of (words_of found.findings.fault) f.problem
  pub message : BytesStand (string_vec found.message) c.message

-- it is written, or memory ran out and nothing changes
abbrev pub TellsFinding : Finding → Found → Result (Unit {0}) AllocError → CFinding → Found → Type 0
TellsFinding f old (Ok done) c new = WritesFinding new f c × (new ≡ record old { message = new.message })
TellsFinding f old (Err e) c new = IsNoFinding c × (new ≡ old)

-- The first finding that is left is handed out, and its notes are left. If memory runs out, or none is left, nothing
-- changes.
abbrev pub HandsOutFinding : Found → Status → CFinding → Found → Type 0
HandsOutFinding old status.Finding c new =
    (f : Finding) × (findings_left old ≡ f ∷ findings_left new) × WritesFinding new f c
    × (notes_left new ≡ list_of (notes_on old.findings.notes f.problem)) × (new.findings ≡ old.findings)
HandsOutFinding old status.End c new = (findings_left old ≡ []) × IsNoFinding c × (new ≡ old)
HandsOutFinding old status.NoMemory c new = IsNoFinding c × (new ≡ old)
HandsOutFinding old _ c new = ⊥

-- The first note that is left is handed out, and the findings that are left stay.
abbrev pub HandsOutNote : Found → Status → CFinding → Found → Type 0
HandsOutNote old status.Finding c new =
    (f : Finding) × (notes_left old ≡ f ∷ notes_left new) × WritesFinding new f c
    × (findings_left new ≡ findings_left old) × (new.findings ≡ old.findings)
HandsOutNote old status.End c new = (notes_left old ≡ []) × IsNoFinding c × (new ≡ old)
HandsOutNote old status.NoMemory c new = IsNoFinding c × (new ≡ old)
HandsOutNote old _ c new = ⊥
