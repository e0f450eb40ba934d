-- What contracts see of a reader.
use Rattle.std.specs.Prelude.{ℕ, List, [], option_map}
use Rattle.saphyr_scanner.specs.Views.Scanning.{Scanning}
use Rattle.saphyr_machine.specs.declared.reader.EventReader.{EventReader}
use Rattle.saphyr_machine.specs.Steps.Machine.{Machine}
use Rattle.saphyr_machine.specs.Views.Machines.{machine_in, machine_over}
use Rattle.saphyr_machine.specs.Cursor.{EventCursor, event_of}
use Rattle.saphyr_machine.specs.Views.Kept.{kept_of}

-- the scanner of a reader
abbrev pub scanning_of : {T : Type 0} → EventReader T → Scanning
scanning_of r = r.machine.scanner

-- a reader with this machine
abbrev pub cursor_at : {T : Type 0} → Machine → EventReader T → EventCursor
cursor_at m r = record {
  current = option_map event_of r.current;
  kept = option_map kept_of r.kept;
  machine = m;
  inside = r.inside;
  finished = r.finished;
}

-- a reader, if this is left of the text
abbrev pub cursor_over : {T : Type 0} → List ℕ → EventReader T → EventCursor
cursor_over rest r = cursor_at (machine_over rest r.machine) r

-- a reader, if these characters come behind what came
abbrev pub cursor_in : {T : Type 0} → List ℕ → EventReader T → EventCursor
cursor_in more r = cursor_at (machine_in more r.machine) r

-- a reader, if nothing more comes
abbrev pub cursor : {T : Type 0} → EventReader T → EventCursor
cursor = cursor_in []
