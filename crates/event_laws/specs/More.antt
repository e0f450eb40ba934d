-- More tokens after those of a machine, and the answers of both.
use Rattle.std.specs.Prelude.{◌≡◌, ◌⊎◌, List, ◌++◌, Option, Some}
use Rattle.saphyr_scalar.specs.declared.scalar.position.Span.{Span}
use Rattle.saphyr_scalar.specs.declared.scalar.fault.Refusal.{Refusal}
use Rattle.saphyr_scanner.specs.Views.Tokens.{Piece}
use Rattle.saphyr_machine.specs.Events.{Happening}
use Rattle.saphyr_machine.specs.Steps.Machine.{Machine}
use Rattle.saphyr_machine.specs.Answer.{Answer, ending_of}
pub use Rattle.yaml_laws.specs.Grammar.ClosedTexts.{marker_token}

-- more tokens come after those of the machine, and the refusal ends them all
abbrev pub with_more : List Piece → Option Refusal → Machine → Machine
with_more us e m = record m { tokens = record { pieces = m.tokens.pieces ++ us; refusal = e } }

-- The answers are the same; or e is the fault of the first, and all of its events come first in the second.
abbrev pub BeginsAs : Refusal → Answer → Answer → Type 0
BeginsAs e a b = (b ≡ a)
    ⊎ ((a.fault ≡ Some (ending_of e)) × ((others : List (Happening × Span)) × (b.events ≡ a.events ++ others)))
