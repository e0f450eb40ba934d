-- What the check of a source reads and writes, and what its verdict means.
use Rattle.std.specs.Prelude.{◌≡◌, ℕ, ◌⊎◌, true, if◌then◌else◌, List, [], ◌++◌, take, Option, None, Result, Ok, Err}
use Rattle.std.specs.Str.{chars, IsUtf8}
use Rattle.std.specs.Str.Lossy.{utf8_valid_len}
use Rattle.std.specs.Io.KnownBytes.{Appends}
use Rattle.saphyr_parser.specs.Answer.{Answer}
use Rattle.saphyr_parser.specs.Printed.{printed_lines}
use Rattle.saphyr_parser.specs.Runs.{answer_of_text, ReadsAll, TakesBeginning}
use Rattle.yaml_check.specs.declared.arguments.Options.{Options}
use Rattle.yaml_check.specs.declared.finding.Findings.{Findings}
use Rattle.yaml_check.specs.declared.run.CheckFault.{CheckFault}
use Rattle.yaml_check.specs.declared.run.CheckFault.TheVariants as fault
use Rattle.yaml_check.specs.declared.finding.Verdict.{Verdict}
use Rattle.yaml_check.specs.declared.finding.Verdict.TheVariants as verdict
use Rattle.yaml_check.specs.Checked.{IsFound}
use Rattle.yaml_check.specs.Encoding.{IsFoundInOther}
use Rattle.yaml_check.specs.Warned.{nothing_seen, warnings_on}
use Rattle.yaml_check.specs.Reports.{IsReport, name_in, unread}
use Rattle.yaml_standard.specs.Verdicts.{IsStandard}

-- the lines of the events, where they are asked for
abbrev pub events_asked : Options → Answer → List ℕ
events_asked options a = if options.events then printed_lines a.events else []

-- what is told, unless it isn't asked for
abbrev pub told_unless_quiet : Options → List ℕ → List ℕ
told_unless_quiet options told = if options.quiet then [] else told

-- A text is right: no fault ends its events, no warning is on one of them, it is YAML 1.2.2 if that is asked, and
-- nothing is told of it.
pub record IsRight (options : Options) (bytes : List ℕ) (old new : Option (List ℕ)) : Type 0 where
  pub fault : (answer_of_text bytes).fault ≡ None
  pub warnings : warnings_on (answer_of_text bytes).events (nothing_seen options.rules options.limits) ≡ []
  pub standard : options.standard ≡ true → IsStandard (chars bytes)
  pub written : Appends old new (events_asked options (answer_of_text bytes))

-- What is told of what is found in a text, which has this verdict.
pub record IsReported (v : Verdict) (name : List ℕ) (options : Options) (bytes : List ℕ) (old new : Option (List ℕ)) :
    Type 0 where
  pub found : Findings
  pub is_found : IsFound options bytes found
  pub verdict : found.verdict ≡ v
  pub told : List ℕ
  pub report : IsReport options.format (name_in options.format name) (chars bytes) found told
  pub middle : Option (List ℕ)
  pub events : Appends old middle (events_asked options (answer_of_text bytes))
  pub written : Appends middle new (told_unless_quiet options told)

-- What was written before memory ran out or the writer failed is a beginning of the events' lines and, where nothing
-- else is told, of such a report.
pub record IsCutShort (name : List ℕ) (options : Options) (bytes : List ℕ) (old new : Option (List ℕ)) : Type 0 where
  pub told : List ℕ
  pub report : (told ≡ []) ⊎ ((found : Findings) × IsFound options bytes found
      × IsReport options.format (name_in options.format name) (chars bytes) found told)
  pub taken : TakesBeginning old new (events_asked options (answer_of_text bytes) ++ told_unless_quiet options told)

-- What the verdict on a text says of it.
abbrev pub Judges : Result Verdict CheckFault → List ℕ → Options → List ℕ → Option (List ℕ) → Option (List ℕ) → Type 0
Judges (Ok verdict.Right) name options bytes old new = IsRight options bytes old new
Judges (Ok verdict.Warned) name options bytes old new = IsReported verdict.Warned name options bytes old new
Judges (Ok verdict.Wrong) name options bytes old new = IsReported verdict.Wrong name options bytes old new
Judges (Err (fault.CantRead e)) name options bytes old new = ⊥
Judges (Err fault.CantWrite) name options bytes old new = IsCutShort name options bytes old new
Judges (Err fault.OutOfMemory) name options bytes old new =
    TakesBeginning old new (events_asked options (answer_of_text bytes))

-- What is told of bytes that are no text: one error, at the first that begins no character, in the text before that.
pub record IsReportOfOther (name : List ℕ) (options : Options) (bytes told : List ℕ) : Type 0 where
  pub found : Findings
  pub is_found : IsFoundInOther bytes found
  pub report : IsReport options.format (name_in options.format name) (chars (take (utf8_valid_len bytes) bytes)) found told

-- Bytes that are no text are wrong, and that is told.
abbrev pub JudgesOther : Result Verdict CheckFault → List ℕ → Options → List ℕ → Option (List ℕ) → Option (List ℕ)
    → Type 0
JudgesOther (Ok v) name options bytes old new = (v ≡ verdict.Wrong)
    × ((told : List ℕ) × IsReportOfOther name options bytes told × Appends old new (told_unless_quiet options told))
JudgesOther (Err (fault.CantRead e)) name options bytes old new = ⊥
JudgesOther (Err fault.CantWrite) name options bytes old new =
    (told : List ℕ) × IsReportOfOther name options bytes told × TakesBeginning old new (told_unless_quiet options told)
JudgesOther (Err fault.OutOfMemory) name options bytes old new = new ≡ old

-- What the verdict says of bytes.
abbrev pub JudgesBytes : Result Verdict CheckFault → List ℕ → Options → List ℕ → Option (List ℕ) → Option (List ℕ)
    → Type 0
JudgesBytes r name options bytes old new =
    (IsUtf8 bytes × Judges r name options bytes old new) ⊎ ((¬ IsUtf8 bytes) × JudgesOther r name options bytes old new)

-- What a check of a source answers: the bytes that it has left, and those that the writer holds, before and after.
-- Where the source can't be read, nothing is written.
abbrev pub Checks : Result Verdict CheckFault → List ℕ → Options → Option (List ℕ) → Option (List ℕ)
    → Option (List ℕ) → Option (List ℕ) → Type 0
Checks (Err (fault.CantRead e)) name options unread left old new = new ≡ old
Checks r name options unread left old new =
    (bytes : List ℕ) × ReadsAll unread left bytes × JudgesBytes r name options bytes old new

-- ## Writing

abbrev unread_told : Options → List ℕ → List ℕ → List ℕ
unread_told options name message =
    told_unless_quiet options (unread options.format (name_in options.format name) message)

-- Lines of events were written, or a beginning of them.
abbrev pub WritesLines : Result (Unit {0}) CheckFault → List ℕ → Option (List ℕ) → Option (List ℕ) → Type 0
WritesLines (Ok u) lines old new = Appends old new lines
WritesLines (Err (fault.CantRead e)) lines old new = ⊥
WritesLines (Err _) lines old new = TakesBeginning old new lines

-- A text was written, or the writer failed and took a beginning of it.
abbrev pub WritesTold : Result (Unit {0}) CheckFault → List ℕ → Option (List ℕ) → Option (List ℕ) → Type 0
WritesTold (Ok u) told old new = Appends old new told
WritesTold (Err fault.CantWrite) told old new = TakesBeginning old new told
WritesTold (Err _) told old new = ⊥

-- That a file can't be read was written, and why in some words, or a beginning of that.
abbrev pub TellsUnread : Result (Unit {0}) CheckFault → List ℕ → Options → Option (List ℕ) → Option (List ℕ) → Type 0
TellsUnread (Ok u) name options old new = (message : List ℕ) × Appends old new (unread_told options name message)
TellsUnread (Err (fault.CantRead e)) name options old new = ⊥
TellsUnread (Err fault.OutOfMemory) name options old new = new ≡ old
TellsUnread (Err fault.CantWrite) name options old new =
    (message : List ℕ) × TakesBeginning old new (unread_told options name message)
