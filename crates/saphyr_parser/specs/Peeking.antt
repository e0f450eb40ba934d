-- The parser that `peek` leaves, once what it shows is no longer borrowed.
use Rattle.std.specs.Prelude.{Option, Result, []}
use Rattle.std.specs.Borrow.{Fml, RattleType, Bor, MutBor}
use Rattle.std.specs.Io.BufRead.{Rests}
use mir.Syntax.{named}
use Rattle.saphyr_scalar.specs.declared.scalar.position.Span.{Span}
use Rattle.saphyr_input.specs.declared.input.Input.{Ghosts}
use Rattle.saphyr_machine.specs.declared.event.Event.{Event}
use Rattle.saphyr_machine.specs.declared.fault.Fault.{Fault}
use Rattle.saphyr_parser.specs.contracts.cursor.Parser.{the_row}
use Rattle.saphyr_machine.specs.Cursor.{EventCursor}
use Rattle.saphyr_machine.specs.Calls.{Peeks}

-- The parser lends what comes next, and is then as `Peeks` says. S is its input's type.
abbrev pub LendsNext : (S : RattleType) (g : Ghosts S.Denot) → MutBor EventCursor
    → Option (Result (Bor (Event × Span)) (Bor Fault)) → Fml
LendsNext S g parser shown = Rests (the_row (record { mir = named 1; lft = [] }) S g) parser (Peeks parser.now shown)
