-- What contracts see of a reader of events over a text that comes in pieces.
use Rattle.std.specs.Prelude.{◌≡◌, ◌⊎◌, ◌++◌, ℕ, zero, suc, true, List, [], ◌∷◌, Option, Some, None, string_bytes}
use Rattle.std.specs.Str.{chars}
use Rattle.saphyr_scalar.specs.declared.scalar.position.Span.{Span}
use Rattle.saphyr_scanner.specs.declared.growth.Growth.{Growth}
use Rattle.saphyr_scanner.specs.Views.Scanning.{text_in}
use Rattle.saphyr_scanner.specs.Views.Tokens.{Piece}
use Rattle.saphyr_machine.specs.declared.fault.Fault.{Fault}
use Rattle.saphyr_machine.specs.declared.fault.Fault.TheVariants as fault
use Rattle.saphyr_machine.specs.declared.progress.Progress.{Progress}
use Rattle.saphyr_machine.specs.declared.progress.Progress.TheVariants as progress
use Rattle.saphyr_machine.specs.declared.reader.EventReader.{EventReader}
use Rattle.saphyr_machine.specs.Answer.{OutOfMemory}
use Rattle.saphyr_machine.specs.Calls.{Advances}
use Rattle.saphyr_machine.specs.Cursor.{EventCursor}
use Rattle.saphyr_machine.specs.Events.{Happening}
use Rattle.saphyr_machine.specs.Passed.{AreIdle, before_tokens}
use Rattle.saphyr_machine.specs.Views.Readers.{cursor, cursor_in, scanning_of}
use Rattle.saphyr_pieces.specs.declared.owned.OwnedText.{OwnedText}
use Rattle.saphyr_pieces.specs.declared.pieces.PieceReader.{PieceReader}
use Rattle.saphyr_pieces.specs.declared.pieces.Source.{Source}
use Rattle.saphyr_pieces.specs.declared.pieces.Source.TheVariants as source
use Rattle.saphyr_pieces.specs.Passed.{passed_tokens}
use Rattle.saphyr_pieces.specs.Pieces.{Pieces}

abbrev pub pieces_of : PieceReader → Pieces
pieces_of p = record {
  source = p.source;
  more = chars (string_bytes p.more);
  scanner = scanning_of p.reader;
  reader = cursor p.reader;
  passed = passed_tokens p.passed;
}

-- so many events are handed out, one after the other
abbrev pub AdvancesBy : ℕ → EventCursor → EventCursor → Type 0
AdvancesBy zero old new = new ≡ old
AdvancesBy (suc n) old new =
    (middle : EventCursor) × AdvancesBy n old middle × ((e : Happening × Span) × Advances e middle new)

-- a reader hands out so many events, whatever comes behind what came
abbrev pub ReadsOnBy : ℕ → EventReader OwnedText → EventReader OwnedText → Type 0
ReadsOnBy n old new = (more : List ℕ) → AdvancesBy n (cursor_in more old) (cursor_in more new)

-- a reader hands out so many events, whatever comes, if these characters come behind its text first
abbrev pub ReadsOnOver : List ℕ → ℕ → EventReader OwnedText → EventReader OwnedText → Type 0
ReadsOnOver since n old new = (more : List ℕ) → AdvancesBy n (cursor_in (since ++ more) old) (cursor_in more new)

-- where a reader would be that had not passed these tokens, if these characters come behind what came
abbrev pub place_in : List ℕ → List Piece → EventReader OwnedText → EventCursor
place_in more ts reader = before_tokens ts (cursor_in more reader)

-- the tokens that were passed change no event, whatever comes behind what came
abbrev pub AreIdleBefore : List Piece → EventReader OwnedText → Type 0
AreIdleBefore [] reader = Unit {0}
AreIdleBefore (t ∷ ts) reader = (more : List ℕ) → AreIdle (t ∷ ts) (cursor_in more reader)

-- the reader passes tokens that change no event
pub record PassesIdleOn (before : List Piece) (old : EventReader OwnedText) (after : List Piece)
    (new : EventReader OwnedText) : Type 0 where
  pub place : (more : List ℕ) → place_in more after new ≡ place_in more before old
  pub idle : AreIdleBefore before old → AreIdleBefore after new

abbrev pub IsReachedFrom : Option (EventReader OwnedText) → List ℕ → ℕ → EventReader OwnedText → Type 0
IsReachedFrom None since n reader = Unit {0}
IsReachedFrom (Some copy) since n reader = ReadsOnOver since n copy reader

-- the copy, if there is one, leads to a reader by the events, over what came since
abbrev pub LeadsCopyTo : PieceReader → EventReader OwnedText → Type 0
LeadsCopyTo p reader = IsReachedFrom p.copy (chars (string_bytes p.since)) p.events reader

abbrev pub GoesBackFrom : Option (EventReader OwnedText) → List ℕ → ℕ → List Piece → PieceReader → Type 0
GoesBackFrom None since n ts new = ⊥
GoesBackFrom (Some copy) since n ts new =
    (middle : EventReader OwnedText) × ReadsOnOver since n copy middle
    × PassesIdleOn ts middle (passed_tokens new.passed) new.reader

-- the reader is where the copy leads by its events, and behind tokens that it passed there
abbrev pub GoesBack : PieceReader → PieceReader → Type 0
GoesBack old new =
    GoesBackFrom old.copy (chars (string_bytes old.since)) old.events (passed_tokens old.passed) new

-- the reader hands out one more event, or there is no copy any more
abbrev pub CountsOne : PieceReader → PieceReader → Type 0
CountsOne old new =
    (from to : EventReader OwnedText) → LeadsCopyTo old from
    → ((more : List ℕ) → (e : Happening × Span) × Advances e (cursor_in more from) (cursor_in more to)) → LeadsCopyTo new to

-- a reader goes on over its text and these characters behind it
abbrev pub GoesOnOver : List ℕ → EventReader OwnedText → EventReader OwnedText → Type 0
GoesOnOver more old new = (later : List ℕ) → cursor_in later new ≡ cursor_in (more ++ later) old

-- What came comes behind the text of a reader and of its copy, or there is no copy any more.
abbrev pub Extends : Growth → PieceReader → PieceReader → Type 0
Extends growth old new =
    (from to : EventReader OwnedText) → LeadsCopyTo old from
    → ((later : List ℕ)
    → cursor_in later to ≡ cursor_in (chars (string_bytes old.more) ++ text_in growth later []) from)
    → LeadsCopyTo new to

-- memory ran out, and a call said so
abbrev pub failed : EventCursor → EventCursor
failed c = record c { kept = Some (record { fault = OutOfMemory; given = true }) }

-- a call says that memory ran out
abbrev pub IsLack : Progress → Fault → Type 0
IsLack p f = (p ≡ progress.Fault) × (f ≡ fault.OutOfMemory)

-- A fault is told and ends the text, or memory ran out. Or the reader went back, and waits.
abbrev pub FailsOrWaits : Option Progress → Fault → Fault → PieceReader → PieceReader → Type 0
FailsOrWaits None f g old new =
    GoesBack old new × (new.copy ≡ None) × (new.more ≡ old.more) × (new.source ≡ old.source)
FailsOrWaits (Some p) f g old new =
    (p ≡ progress.Fault) × (new.source ≡ source.Given) × (passed_tokens new.passed ≡ [])
    × (((g ≡ f) × (new.reader ≡ old.reader))
    ⊎ ((g ≡ fault.OutOfMemory) × (cursor new.reader ≡ failed (cursor old.reader))))

abbrev pub IsSoundFrom : Source → PieceReader → Type 0
IsSoundFrom source.Text p = ((cursor p.reader).kept ≡ None) × LeadsCopyTo p p.reader
IsSoundFrom source.Given p = Unit {0}
IsSoundFrom source.Lost p = Unit {0}

-- what holds of each reader
pub record IsSoundReader (p : PieceReader) : Type 0 where
  pub source : IsSoundFrom p.source p
  pub current : (cursor p.reader).current ≡ None
  pub idle : AreIdleBefore (passed_tokens p.passed) p.reader
