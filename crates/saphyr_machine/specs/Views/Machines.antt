-- What contracts see of a machine and of events.
use Rattle.std.specs.Prelude.{◌≡◌, ℕ, List, [], reverse, Result, Ok, Err}
use Rattle.saphyr_scalar.specs.declared.scalar.fault.Refusal.{Refusal}
use Rattle.saphyr_scalar.specs.declared.scalar.position.Span.{Span}
use Rattle.saphyr_scalar.specs.Views.Reader.{Fails, Moves}
use Rattle.saphyr_scanner.specs.declared.stopped.Stopped.{Stopped}
use Rattle.saphyr_scanner.specs.declared.token.TokenKind.{TokenKind}
use Rattle.saphyr_scanner.specs.Views.Engine.{stopped_by}
use Rattle.saphyr_scanner.specs.Views.Scanning.{IsReady, tokens_in, tokens_over}
use Rattle.saphyr_scanner.specs.Views.Tokens.{Parts, Remaining, Piece, piece_with}
use Rattle.saphyr_machine.specs.declared.event.Event.{Event}
use Rattle.saphyr_machine.specs.declared.machine.Machine as declared
pub use Rattle.saphyr_machine.specs.Views.Events.{happening, resolved_tag}
use Rattle.saphyr_machine.specs.Steps.Machine.{Machine, Emitted, taken_token}

-- a machine before these tokens
abbrev pub machine_before : {T : Type 0} → Remaining → declared.Machine T → Machine
machine_before tokens m = record {
  tokens = tokens;
  state = m.state;
  states = reverse m.states.items;
  pair_ends = reverse m.pair_ends.items;
  anchors = m.anchors;
  prefixes = m.prefixes;
  keep_tags = m.keep_tags;
}

-- a machine, if this is left of the text
abbrev pub machine_over : {T : Type 0} → List ℕ → declared.Machine T → Machine
machine_over rest m = machine_before (tokens_over rest m.scanner) m

-- a machine, if these characters come behind what came
abbrev pub machine_in : {T : Type 0} → List ℕ → declared.Machine T → Machine
machine_in more m = machine_before (tokens_in more m.scanner) m

-- a machine, if nothing more comes
abbrev pub machine_of : {T : Type 0} → declared.Machine T → Machine
machine_of = machine_in []

-- an event with its span, and the machine that it leaves
abbrev pub emitted_of : Machine → Event × Span → Emitted
emitted_of m e = record { what = happening e.0; span = e.1; machine = m }

-- What a call returned, and the event and the machine that it left, are what the function gives, whatever comes behind
-- what came, unless memory ran out.
abbrev pub EmitsBy
    : {T : Type 0}
    → (Machine → Result Emitted Refusal) → declared.Machine T → Result Unit Stopped → Event × Span
    → declared.Machine T → Type 0
EmitsBy f old result next new =
    (more : List ℕ) → Moves (λ _. emitted_of (machine_in more new) next) (stopped_by result new.scanner.stop)
    (f (machine_in more old))

-- The next token is of this kind, whatever comes behind what came, and can be taken.
abbrev pub IsNext : {T : Type 0} → TokenKind → declared.Machine T → Type 0
IsNext kind m =
    ((span : List ℕ → Span) × (x : List ℕ → Parts) × (left : List ℕ → Machine)
    × ((more : List ℕ) → taken_token (machine_in more m) ≡ Ok (piece_with (span more) kind (x more), left more)))
    × IsReady m.scanner

-- The token that comes next after a call is the one that the function takes, whatever comes, unless memory ran out.
abbrev pub ComesTo
    : {T : Type 0}
    → (Machine → Result (Piece × Machine) Refusal) → declared.Machine T → Result TokenKind Stopped → declared.Machine T
    → Type 0
ComesTo f old (Ok kind) new =
    IsNext kind new × ((more : List ℕ) → f (machine_in more old) ≡ taken_token (machine_in more new))
ComesTo f old (Err e) new = (more : List ℕ) → Fails new.scanner.stop (f (machine_in more old))

-- What a call showed of the next token, which stays, unless there is none or memory ran out.
abbrev pub PeeksBy : {T : Type 0} → declared.Machine T → Result TokenKind Stopped → declared.Machine T → Type 0
PeeksBy = ComesTo taken_token
