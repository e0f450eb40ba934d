-- Tokens between documents that make no event.
use Rattle.std.specs.Prelude.{◌≡◌, List, None}
use Rattle.saphyr_scanner.specs.Longer.{before_all}
use Rattle.saphyr_scanner.specs.Views.Tokens.{Piece, Remaining, parts_view, piece_with}
use Rattle.saphyr_machine.specs.declared.idle.PassedToken.{PassedToken}
use Rattle.saphyr_machine.specs.declared.state.State.TheVariants.{ImplicitDocumentStart}
use Rattle.saphyr_machine.specs.Cursor.{EventCursor}
use Rattle.saphyr_machine.specs.Steps.Documents.{implicit_start}
use Rattle.saphyr_machine.specs.Steps.Machine.{Machine}

abbrev pub piece_of : PassedToken → Piece
piece_of t = piece_with t.span t.kind (parts_view t.parts)

-- a cursor, before these tokens and its own
abbrev pub before_tokens : List Piece → EventCursor → EventCursor
before_tokens ts c = record c { machine = record c.machine { tokens = before_all ts c.machine.tokens } }

-- Where a document may begin without `---`, the next event, or the refusal in its place, is the same without these
-- tokens in front of the others.
abbrev pub MakeNoEvent : List Piece → Remaining → Type 0
MakeNoEvent ts r =
    (m : Machine) → implicit_start (record m { tokens = before_all ts r }) ≡ implicit_start (record m { tokens = r })

-- nothing was read ahead, and a document may begin next without `---`
abbrev pub IsBetweenDocuments : EventCursor → Type 0
IsBetweenDocuments c = (c.current ≡ None) × (c.kept ≡ None) × (c.machine.state ≡ ImplicitDocumentStart)

-- the next event is the same without these tokens before the cursor
pub record AreIdle (ts : List Piece) (c : EventCursor) : Type 0 where
  pub between : IsBetweenDocuments c
  pub none : MakeNoEvent ts c.machine.tokens

-- These tokens are passed, and the next event stays.
abbrev pub PassesIdle : List Piece → EventCursor → EventCursor → Type 0
PassesIdle ts old new = (old ≡ before_tokens ts new) × AreIdle ts new
