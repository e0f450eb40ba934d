-- What is found by the parser's answer on a text, from what is found by its events and its fault; and in bytes.
use Rattle.std.proofs.Common.{◌≡◌, ◌∙◌, List, ℕ, Option, Result, Ok, Err, ap, subst, inl, inr}
use Rattle.std.specs.Prelude.{IfOk}
use Rattle.std.specs.Str.{IsUtf8}
use Rattle.std.specs.declared.alloc.AllocError.{AllocError}
use Rattle.saphyr_parser.specs.Answer.{Answer, Ending}
use Rattle.saphyr_parser.specs.Runs.{answer_of_text}
use Rattle.saphyr_scalar.specs.declared.scalar.fault.ScanError.{ScanError}
use Rattle.yaml_check.specs.declared.arguments.Options.{Options}
use Rattle.yaml_check.specs.declared.finding.Findings.{Findings}
use Rattle.yaml_check.specs.declared.warning.PlacedWarning.{PlacedWarning}
use Rattle.yaml_check.specs.Checked.{IsFound, IsFoundIn, NamesFault, NamesFindings, fault_found}
use Rattle.yaml_check.specs.Encoding.{IsFoundInOther}
use Rattle.yaml_check.specs.Found.{AreFindings}
use Rattle.yaml_check.specs.Opened.{OpenStarts}

pub names_fault : (r : Result Findings AllocError) (f : Option ScanError) (a : Answer) → fault_found f ≡ a.fault
    → IfOk r (λ found. found.fault ≡ f) → IfOk r (NamesFault a)
names_fault (Ok found) f a is h = ap fault_found h ∙ is
names_fault (Err e) f a is h = tt

pub names_findings : (r : Result Findings AllocError) (options : Options) (text : List ℕ) (ws vs : List PlacedWarning)
    (o p : OpenStarts) (f g : Option Ending) → ws ≡ vs → o ≡ p → f ≡ g
    → IfOk r (AreFindings options text ws o f) → IfOk r (AreFindings options text vs p g)
names_findings r options text ws vs o p f g ws_is o_is f_is h = rw (← ws_is, ← o_is, ← f_is) h

pub found_in : (r : Result Findings AllocError) (options : Options) (text bytes : List ℕ) → text ≡ bytes
    → IsUtf8 bytes → IfOk r (NamesFault (answer_of_text text)) → IfOk r (NamesFindings options text)
    → IfOk r (IsFoundIn options bytes)
found_in (Ok found) options text bytes same utf8 fault findings = inl (
  utf8,
  subst (λ (b : List ℕ). IsFound options b found) same (record { fault = fault; findings = findings }),
)
found_in (Err e) options text bytes same utf8 fault findings = tt

pub wrong_in : (r : Result Findings AllocError) (options : Options) (bytes : List ℕ) → ¬ IsUtf8 bytes
    → IfOk r (IsFoundInOther bytes) → IfOk r (IsFoundIn options bytes)
wrong_in (Ok found) options bytes other wrong = inr (other, wrong)
wrong_in (Err e) options bytes other wrong = tt
