-- What a check says of the events of a text and of the fault that may end them.
use Rattle.std.specs.Prelude.{◌≡◌, ◌⊎◌, ℕ, List, Option, None, Some, Result, Ok, Err, option_map}
use Rattle.std.specs.Str.{chars, IsUtf8}
use Rattle.saphyr_parser.specs.Types.Fault.{Fault}
use Rattle.saphyr_parser.specs.Types.Fault.TheVariants as fault
use Rattle.saphyr_parser.specs.Answer.{Answer, Ending}
use Rattle.saphyr_parser.specs.Cursor.{ending_of_fault}
use Rattle.saphyr_parser.specs.Runs.{answer_of_text}
use Rattle.saphyr_scalar.specs.declared.scalar.fault.ScanError.{ScanError}
use Rattle.yaml_check.specs.declared.arguments.Options.{Options}
use Rattle.yaml_check.specs.declared.finding.Findings.{Findings}
use Rattle.yaml_check.specs.Encoding.{IsFoundInOther}
use Rattle.yaml_check.specs.Found.{AreFindings}
use Rattle.yaml_check.specs.Opened.{nothing_open, open_on}
use Rattle.yaml_check.specs.Warned.{nothing_seen, warnings_on}

-- a fault that was found, as the parser's list ends with it
abbrev pub fault_found : Option ScanError → Option Ending
fault_found found = option_map (λ e. ending_of_fault (fault.Scan e)) found

-- the fault is the parser's: the same place and the same words, or none at all
abbrev pub NamesFault : Answer → Findings → Type 0
NamesFault a found = fault_found found.fault ≡ a.fault

-- what is found by the parser's answer on a text: the warnings of the rules that are on, on its events, and what is
-- told of the fault that ends them by the collections that are open there
abbrev pub NamesFindings : Options → List ℕ → Findings → Type 0
NamesFindings options bytes found = AreFindings options (chars bytes)
    (warnings_on (answer_of_text bytes).events (nothing_seen options.rules options.limits))
    (open_on (answer_of_text bytes).events nothing_open) (answer_of_text bytes).fault found

pub record IsFound (options : Options) (bytes : List ℕ) (found : Findings) : Type 0 where
  pub fault : NamesFault (answer_of_text bytes) found
  pub findings : NamesFindings options bytes found

-- The same of bytes: in those that are no text one error is found.
abbrev pub IsFoundIn : Options → List ℕ → Findings → Type 0
IsFoundIn options bytes found =
    (IsUtf8 bytes × IsFound options bytes found) ⊎ ((¬ IsUtf8 bytes) × IsFoundInOther bytes found)

-- How reading all events ends. Memory may run out before any of them.
abbrev pub EndsAs : Result (Unit {0}) Fault → Answer → Type 0
EndsAs (Ok u) a = a.fault ≡ None
EndsAs (Err (fault.Scan e)) a = a.fault ≡ Some (ending_of_fault (fault.Scan e))
EndsAs (Err fault.OutOfMemory) a = Unit {0}
EndsAs (Err fault.Receiver) a = ⊥
EndsAs (Err fault.InsideDocument) a = ⊥

-- where the end of the events was met, or the fault that ends them, this is so
abbrev pub OnceEnded : Result (Unit {0}) Fault → Type 0 → Type 0
OnceEnded (Ok u) P = P
OnceEnded (Err (fault.Scan e)) P = P
OnceEnded (Err _) P = Unit {0}
