-- What a run of the program does: what it reads and prints, its message and its status.
use Rattle.std.specs.Prelude.{◌≡◌, ℕ, ◌+◌, ◌<◌, List, ◌++◌, Option, Some, None, Result, Ok, Err, codes, string_bytes}
use Rattle.std.specs.Str.{chars, IsUtf8}
use Rattle.std.specs.Io.KnownBytes.{Appends, Consumes, IsAtEnd, Keeps}
use Rattle.std.specs.Fmt.{decimal}
use Rattle.saphyr_scalar.specs.declared.scalar.position.Marker.{Marker}
use Rattle.saphyr_scalar.specs.Faults.{error_text}
use Rattle.saphyr_scanner.specs.Steps.Remaining.{scan}
use Rattle.event_laws.specs.Limits.{most_characters}
use Rattle.saphyr_machine.specs.declared.fault.Fault.{Fault}
use Rattle.saphyr_machine.specs.declared.fault.Fault.TheVariants as fault
use Rattle.saphyr_parser.specs.declared.printing.fault.DumpFault.{DumpFault}
use Rattle.saphyr_parser.specs.declared.printing.fault.DumpFault.TheVariants as dump
use Rattle.saphyr_parser.specs.declared.printing.run.RunFault.{RunFault}
use Rattle.saphyr_parser.specs.declared.printing.run.RunFault.TheVariants as run
use Rattle.saphyr_machine.specs.Answer.{Answer, Refused}
use Rattle.saphyr_machine.specs.Cursor.{at_start, to_come, count}
use Rattle.saphyr_parser.specs.Printed.{printed_lines}
use Rattle.saphyr_parser.specs.Dumps.{Prints, Dumps}

-- the events of a text in UTF-8, and the fault that may end them
abbrev pub answer_of_text : List ℕ → Answer
answer_of_text bytes = to_come (at_start (scan most_characters (chars bytes)))

-- a beginning of the bytes was taken, and maybe all of them
pub record TakesBeginning (old new : Option (List ℕ)) (bytes : List ℕ) : Type 0 where
  pub front : List ℕ
  pub back : List ℕ
  pub split : bytes ≡ front ++ back
  pub taken : Appends old new front

-- What a run does with a text that it has read, and what the writer holds before and after.
abbrev pub PrintsText : Result (Unit {0}) RunFault → Answer → Option (List ℕ) → Option (List ℕ) → Type 0
PrintsText (Ok u) a old new = (a.fault ≡ None) × Appends old new (printed_lines a.events)
PrintsText (Err (run.Parse (fault.Scan e))) a old new =
    (a.fault ≡ Some (Refused e.mark (string_bytes e.info))) × Appends old new (printed_lines a.events)
PrintsText (Err (run.Parse fault.OutOfMemory)) a old new = (lost : Answer) × Prints a lost old new × (0 < count lost)
PrintsText (Err (run.Parse fault.Receiver)) a old new = ⊥
PrintsText (Err (run.Parse fault.InsideDocument)) a old new = ⊥
PrintsText (Err run.CantWrite) a old new = TakesBeginning old new (printed_lines a.events)
PrintsText (Err run.CantRead) a old new = ⊥
PrintsText (Err run.NotUtf8) a old new = ⊥

abbrev pub DumpsText : Result (Unit {0}) DumpFault → Answer → Option (List ℕ) → Option (List ℕ) → Type 0
DumpsText dumped a old new = (left : Answer) × Dumps dumped a left old new

-- How a call of `dump` makes a run end. The lines that the writer holds may be lost after a fault too.
abbrev pub Becomes : Result (Unit {0}) DumpFault → Result (Unit {0}) RunFault → Type 0
Becomes (Ok u) (Ok v) = Unit {0}
Becomes (Err (dump.Parse f)) (Err (run.Parse g)) = g ≡ f
Becomes dumped (Err run.CantWrite) = Unit {0}
Becomes _ _ = ⊥

-- all bytes were read
abbrev pub ReadsAll : Option (List ℕ) → Option (List ℕ) → List ℕ → Type 0
ReadsAll old new bytes = Consumes old new bytes × IsAtEnd new

abbrev pub ReadsText : Result (Unit {0}) RunFault → Option (List ℕ) → Option (List ℕ) → Option (List ℕ)
    → Option (List ℕ) → Type 0
ReadsText outcome unread left old new =
    (bytes : List ℕ) × ReadsAll unread left bytes × IsUtf8 bytes × PrintsText outcome (answer_of_text bytes) old new

-- What a run does with what it reads: the bytes that the reader has left, and those that the writer holds, before and
-- after.
abbrev pub PrintsSource : Result (Unit {0}) RunFault → Option (List ℕ) → Option (List ℕ) → Option (List ℕ)
    → Option (List ℕ) → Type 0
PrintsSource (Err run.CantRead) unread left old new = Keeps old new
PrintsSource (Err run.NotUtf8) unread left old new =
    ((bytes : List ℕ) × ReadsAll unread left bytes × (¬ IsUtf8 bytes)) × Keeps old new
PrintsSource (Err (run.Parse f)) unread left old new = ReadsText (Err (run.Parse f)) unread left old new
PrintsSource (Err run.CantWrite) unread left old new = ReadsText (Err run.CantWrite) unread left old new
PrintsSource (Ok u) unread left old new = ReadsText (Ok u) unread left old new

-- ## Messages

-- how a fault's place is printed
abbrev pub place_text : Marker → List ℕ
place_text m = (codes " at byte " ++ decimal m.index)
    ++ ((codes " line " ++ decimal m.line) ++ (codes " column " ++ decimal (m.col + 1)))

abbrev pub fault_line : Fault → List ℕ
fault_line (fault.Scan e) = error_text e ++ codes "\n"
fault_line fault.OutOfMemory = codes "out of memory\n"
fault_line fault.Receiver = codes "the receiver refused an event\n"
fault_line fault.InsideDocument = codes "load was called inside a document\n"

-- the message of a run with an input of this name
abbrev pub message : List ℕ → RunFault → List ℕ
message name run.CantRead = codes "dump_events: can't read " ++ (name ++ codes "\n")
message name run.NotUtf8 = codes "dump_events: " ++ (name ++ codes " is not UTF-8\n")
message name (run.Parse f) = fault_line f
message name run.CantWrite = codes "dump_events: can't write\n"

abbrev pub Complains : Result (Unit {0}) RunFault → List ℕ → Option (List ℕ) → Option (List ℕ) → Type 0
Complains (Ok u) name old new = Keeps old new
Complains (Err f) name old new = TakesBeginning old new (message name f)

abbrev pub status_of : Result (Unit {0}) RunFault → ℕ
status_of (Ok u) = 0
status_of (Err f) = 1

-- A run with its status and the name of its input: what it reads, what it prints and what it complains of, where the
-- bytes are known that are unread and left, printed before and after, and complained of before and after.
pub record Runs (status : ℕ) (name : List ℕ) (unread left printed now_printed said now_said : Option (List ℕ)) : Type
    0 where
  pub outcome : Result (Unit {0}) RunFault
  pub answers : status ≡ status_of outcome
  pub prints : PrintsSource outcome unread left printed now_printed
  pub complains : Complains outcome name said now_said
