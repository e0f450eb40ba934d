-- What C's calls do to the parser that a handle holds, or to a handle that holds none.
use Rattle.std.specs.Prelude.{◌≡◌, ℕ, ℤ, pos, ◌⊎◌, Bool, List, Some, None}
use Rattle.std.specs.Prelude as std
use mathlib.Core.Option.{Option, none, some}
use Rattle.std.specs.declared.boxed.Box.{Box}
use Rattle.std.specs.Global.{Global}
use Rattle.saphyr_parser_c.specs.declared.inner.Inner.{Inner}
use Rattle.saphyr_parser_c.specs.declared.shown.CEvent.{CEvent}
use Rattle.saphyr_parser_c.specs.declared.status.Status.{Status}
use Rattle.saphyr_parser_c.specs.declared.status.Status.TheVariants as status
use Rattle.saphyr_parser_c.specs.Inner as spec
use Rattle.saphyr_parser_c.specs.Inner.{IsOverText, IsOfPieces, AddsToC, ShowsToC, HandsToC}
use Rattle.saphyr_parser_c.specs.Shown.{HasFields, no_fields, nowhere}
use Rattle.saphyr_parser_c.specs.Status.{code_of}

-- what was taken out of a handle
abbrev pub IsTakenOut : std.Option (Box Inner Global) → Option Inner → Type 0
IsTakenOut None held = held ≡ none
IsTakenOut (Some b) held = held ≡ some b.value

-- ## An empty handle

-- it stays empty, and no event is written
abbrev pub WritesNone : ℤ → CEvent → Option Inner → Type 0
WritesNone code c new = (code ≡ code_of status.NoParser) × HasFields no_fields nowhere nowhere c × (new ≡ none)

-- ## Each call

-- a parser at the start of the text was made
abbrev pub IsMade : List ℕ → Bool → Option Inner → Type 0
IsMade text keep none = ⊥
IsMade text keep (some inner) = IsOverText text keep inner

abbrev pub MakesOrNot : ℤ → Type 0
MakesOrNot code = (code ≡ pos 0) ⊎ ((code ≡ code_of status.NotUtf8)
    ⊎ ((code ≡ code_of status.Utf16) ⊎ (code ≡ code_of status.NoMemory)))

-- a parser of a text of which nothing came was made
abbrev pub IsMadeOfPieces : Bool → ℕ → ℕ → Option Inner → Type 0
IsMadeOfPieces keep characters bytes none = ⊥
IsMadeOfPieces keep characters bytes (some inner) = IsOfPieces keep characters bytes inner

abbrev pub HasMemoryOrNot : ℤ → Type 0
HasMemoryOrNot code = (code ≡ pos 0) ⊎ (code ≡ code_of status.NoMemory)

abbrev pub AddsTo : List ℕ → Option Inner → ℤ → Option Inner → Type 0
AddsTo bytes none code new = (code ≡ code_of status.NoParser) × (new ≡ none)
AddsTo bytes (some old) code new =
    (inner : Inner) × (s : Status) × (new ≡ some inner) × (code ≡ code_of s) × AddsToC bytes old s inner

abbrev pub Nexts : Option Inner → ℤ → CEvent → Option Inner → Type 0
Nexts none code c new = WritesNone code c new
Nexts (some old) code c new =
    (inner : Inner) × (s : Status) × (new ≡ some inner) × (code ≡ code_of s) × HandsToC old s c inner

abbrev pub PeeksAt : Option Inner → ℤ → CEvent → Option Inner → Type 0
PeeksAt none code c new = WritesNone code c new
PeeksAt (some old) code c new =
    (inner : Inner) × (s : Status) × (new ≡ some inner) × (code ≡ code_of s) × ShowsToC old s c inner

-- a copy, if one is made, is at the parser's place
abbrev pub Copies : Inner → ℤ → Option Inner → Type 0
Copies old code none = code ≡ code_of status.NoMemory
Copies old code (some copy) = (code ≡ pos 0) × spec.IsCopyOfParser old copy

abbrev pub Clones : Option Inner → ℤ → Option Inner → Type 0
Clones none code copy = (code ≡ code_of status.NoParser) × (copy ≡ none)
Clones (some old) code copy = Copies old code copy

abbrev pub KeepsTags : Bool → Option Inner → ℤ → Option Inner → Type 0
KeepsTags keep none code new = (code ≡ code_of status.NoParser) × (new ≡ none)
KeepsTags keep (some old) code new =
    (inner : Inner) × (new ≡ some inner) × (code ≡ pos 0) × spec.SetsKeepTags keep old inner
