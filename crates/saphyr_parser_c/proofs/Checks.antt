-- What is found in a text is held, and whether the text passes is told.
use Rattle.std.proofs.Common.{◌≡◌, ◌∙◌, ℤ, Bool, true, false, List, ℕ, Ok, ap, refl}
use Rattle.std.specs.Prelude.{◌↔◌, IsTrue}
use Rattle.std.proofs.lemmas.Bool.{false≢true}
use mathlib.Core.Option.{Option, none, some}
use Rattle.yaml_check.specs.declared.arguments.Options.{Options}
use Rattle.yaml_check.specs.declared.finding.Findings.{Findings}
use Rattle.yaml_check.specs.Checked.{IsFoundIn}
use Rattle.yaml_check.specs.Statuses.{IsLetPass}
use Rattle.saphyr_parser_c.specs.declared.found.COptions.{COptions}
use Rattle.saphyr_parser_c.specs.declared.inner.Inner.{Inner}
use Rattle.saphyr_parser_c.specs.declared.status.Status.{Status}
use Rattle.saphyr_parser_c.specs.Check.{ChecksText, HoldsAtStart, KeepsFindings, TellsVerdict, status_of_check}
use Rattle.saphyr_parser_c.specs.Found.{AreOptions}
use Rattle.saphyr_parser_c.specs.Status.{code_of}

-- what is held is kept, with the status of whether the text passes
pub kept : (findings : Findings) (passed : Bool) (inner : Inner) (held : Option Inner) → held ≡ some inner
    → HoldsAtStart findings inner → KeepsFindings findings passed (status_of_check passed) held
kept findings passed inner held e holds = rw e (refl, holds)

tells : (strict : Bool) (findings : Findings) (passed : Bool)
    → IsTrue passed ↔ IsLetPass strict (Ok findings.verdict) → TellsVerdict strict findings (status_of_check passed)
tells strict findings true passes = passes.0 refl
tells strict findings false passes = λ lets. false≢true (passes.1 lets)

module _ (c : COptions) (text : List ℕ) (options : Options) (findings : Findings) where
  pub checks : (passed : Bool) (s : Status) (held : Option Inner) (code : ℤ) → AreOptions c options
      → IsFoundIn options text findings → IsTrue passed ↔ IsLetPass c.strict (Ok findings.verdict)
      → KeepsFindings findings passed s held → code ≡ code_of s → ChecksText c text code held
  checks passed s none code asked found passes keeps is = is ∙ ap code_of keeps
  checks passed s (some inner) code asked found passes keeps is = (
    status_of_check passed,
    is ∙ ap code_of keeps.0,
    record {
      options = options;
      findings = findings;
      asked = asked;
      found = found;
      verdict = tells c.strict findings passed passes;
      held = keeps.1;
    },
  )
