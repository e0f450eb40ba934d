-- What C's calls that check a text do to the handle that holds what is found.
use Rattle.std.specs.Prelude.{◌≡◌, ℤ, Bool, true, false, List, ℕ, Ok, Some, None}
use Rattle.std.specs.Prelude as std
use mathlib.Core.Option.{Option, none, some}
use Rattle.std.specs.declared.boxed.Box.{Box}
use Rattle.std.specs.Global.{Global}
use Rattle.yaml_check.specs.declared.arguments.Options.{Options}
use Rattle.yaml_check.specs.declared.finding.Findings.{Findings}
use Rattle.yaml_check.specs.Checked.{IsFoundIn}
use Rattle.yaml_check.specs.Statuses.{IsLetPass}
use Rattle.saphyr_parser_c.specs.declared.found.CFinding.{CFinding}
use Rattle.saphyr_parser_c.specs.declared.found.COptions.{COptions}
use Rattle.saphyr_parser_c.specs.declared.found.Found.{Found}
use Rattle.saphyr_parser_c.specs.declared.inner.Inner.{Inner}
use Rattle.saphyr_parser_c.specs.declared.status.Status.{Status}
use Rattle.saphyr_parser_c.specs.declared.status.Status.TheVariants as status
use Rattle.saphyr_parser_c.specs.Found.{AreOptions, HasAllLeft, IsNoFinding}
use Rattle.saphyr_parser_c.specs.Status.{code_of}

-- findings are held, and all of them are left
abbrev pub HoldsAtStart : Findings → Inner → Type 0
HoldsAtStart findings inner =
    (b : Box Found Global) × (inner.found ≡ Some b) × HasAllLeft findings b.value

abbrev pub status_of_check : Bool → Status
status_of_check true = status.Done
status_of_check false = status.Wrong

-- They are held now, or memory ran out.
abbrev pub KeepsFindings : Findings → Bool → Status → Option Inner → Type 0
KeepsFindings findings passed s none = s ≡ status.NoMemory
KeepsFindings findings passed s (some inner) = (s ≡ status_of_check passed) × HoldsAtStart findings inner

-- whether the text passes
abbrev pub TellsVerdict : Bool → Findings → Status → Type 0
TellsVerdict strict findings status.Done = IsLetPass strict (Ok findings.verdict)
TellsVerdict strict findings status.Wrong = IsLetPass strict (Ok findings.verdict) → ⊥
TellsVerdict strict findings _ = ⊥

-- What is held is what `check_bytes` finds in the text with these options, and all of it is left.
pub record IsChecked (c : COptions) (text : List ℕ) (s : Status) (inner : Inner) : Type 0 where
  pub options : Options
  pub findings : Findings
  pub asked : AreOptions c options
  pub found : IsFoundIn options text findings
  pub verdict : TellsVerdict c.strict findings s
  pub held : HoldsAtStart findings inner

abbrev pub ChecksText : COptions → List ℕ → ℤ → Option Inner → Type 0
ChecksText c text code none = code ≡ code_of status.NoMemory
ChecksText c text code (some inner) = (s : Status) × (code ≡ code_of s) × IsChecked c text s inner

-- What is done with what is held. If no text is checked, that is told.
abbrev pub HandsOutFrom : (Found → Status → CFinding → Found → Type 0) → std.Option (Box Found Global) → Inner
    → Status → CFinding → Inner → Type 0
HandsOutFrom hands None before s c after = (s ≡ status.NotChecked) × IsNoFinding c × (after ≡ before)
HandsOutFrom hands (Some old) before s c after =
    (new : Box Found Global) × (after ≡ record before { found = Some new }) × hands old.value s c new.value

abbrev pub HandsOutHeld : (Found → Status → CFinding → Found → Type 0) → Inner → Status → CFinding → Inner → Type 0
HandsOutHeld hands before s c after = HandsOutFrom hands before.found before s c after

abbrev pub HandsOutIfChecked : (Found → Status → CFinding → Found → Type 0) → Option Inner → ℤ → CFinding → Option Inner
    → Type 0
HandsOutIfChecked hands none code c new = (code ≡ code_of status.NotChecked) × IsNoFinding c × (new ≡ none)
HandsOutIfChecked hands (some old) code c new =
    (inner : Inner) × (s : Status) × (new ≡ some inner) × (code ≡ code_of s) × HandsOutHeld hands old s c inner
