-- Help on faults: what it says, and of which place.
use Rattle.std.specs.Prelude.{ℕ, ◌+◌, ◌-◌, ◌<◌, ◌≤◌, ◌≡◌, ◌≢◌, ◌⊎◌, ◌==◌, ◌&&◌, ◌||◌, Bool, true, false, nat_le, List, length, drop, slice_get, slice_index, Some, is_some}
use Rattle.saphyr_parser.specs.Words.Marker.{Marker}
use Rattle.yaml_check.specs.declared.open.Start.{Start}
use Rattle.yaml_check.specs.declared.note.Note.{Note}
use Rattle.yaml_check.specs.declared.note.Remark.{Remark}
use Rattle.yaml_check.specs.declared.note.Remark.TheVariants as remark
use Rattle.yaml_check.specs.Mended.{is_at_fault, is_of_collection}
use Rattle.yaml_check.specs.Opened.{OpenStarts, closer, innermost, opened_note}
use Rattle.yaml_check.specs.Places.{IsLineStart, begins_line, is_space_or_tab, place_of_index}
use Rattle.yaml_check.specs.Remarks.{remarks_on}
use Rattle.yaml_check.specs.Shown.{is_end_of_line, place_index}

-- ## Places of the text

abbrev pub is_marker_character : ℕ → Bool
is_marker_character c = (c == 60) || ((c == 61) || (c == 62))

-- the marker of a conflict begins a line
pub record IsMarkerLine (line : List ℕ) : Type 0 where
  pub long : 7 ≤ length line
  pub first : is_marker_character (slice_index line 0) ≡ true
  pub same : (k : ℕ) → k < 7 → slice_index line k ≡ slice_index line 0

-- one begins at an index
abbrev pub IsConflictMarker : List ℕ → ℕ → Type 0
IsConflictMarker text i = (begins_line text i ≡ true) × IsMarkerLine (drop i text)

-- up to a place
abbrev pub IsConflictBefore : List ℕ → ℕ → ℕ → Type 0
IsConflictBefore text end i = (i ≤ end) × IsConflictMarker text i

-- a character that is no blank and begins no comment, behind nothing but blanks
pub record IsLineContent (text : List ℕ) (start end at : ℕ) : Type 0 where
  pub within : (start ≤ at) × (at < end)
  pub blanks : (k : ℕ) → start ≤ k → k < at → is_space_or_tab (slice_index text k) ≡ true
  pub shown : is_space_or_tab (slice_index text at) ≡ false
  pub more : (is_end_of_line (slice_index text at) || (slice_index text at == 35)) ≡ false

-- the first of these of a line before a place
pub record BeginsContent (text : List ℕ) (end at : ℕ) : Type 0 where
  pub start : ℕ
  pub last : ℕ
  pub line : IsLineStart text last start
  pub content : IsLineContent text start (last + 1) at
  pub before : last < end

-- a backslash behind a place
pub record IsBadEscape (text : List ℕ) (quote at : ℕ) : Type 0 where
  pub within : (quote < at) × (at < length text)
  pub is : slice_index text at ≡ 92

abbrev pub IsQuoteBefore : List ℕ → ℕ → ℕ → ℕ → Type 0
IsQuoteBefore text close quote at = (at < close) × (slice_index text at ≡ quote)

-- one of two equal quotes before a place
abbrev pub IsQuote : List ℕ → ℕ → ℕ → Type 0
IsQuote text end at = (at < end) × ((slice_index text at ≡ 34) ⊎ (slice_index text at ≡ 39))

-- a character is at an index
abbrev pub IsCharacter : ℕ → List ℕ → ℕ → Type 0
IsCharacter c text at = (at < length text) × (slice_index text at ≡ c)

abbrev pub IsTab : List ℕ → ℕ → Type 0
IsTab text at = IsCharacter 9 text at

-- no character, a blank or a break follows
abbrev pub is_blank_behind : List ℕ → ℕ → Bool
is_blank_behind text at = nat_le (length text) (at + 1) || (is_space_or_tab (slice_index text (at + 1))
    || is_end_of_line (slice_index text (at + 1)))

-- a character without a blank behind it
abbrev pub IsTight : ℕ → List ℕ → ℕ → Type 0
IsTight c text at = IsCharacter c text at × (is_blank_behind text at ≡ false)

-- the dashes of entries, and blanks, are all that is between two indexes
pub record IsBehindDashes (text : List ℕ) (start at : ℕ) : Type 0 where
  pub within : at < length text
  pub behind : start ≤ at
  pub dashes : (k : ℕ) → start ≤ k → k < at
      → ((slice_index text k == 45) || is_space_or_tab (slice_index text k)) ≡ true

-- a colon, or the sign of a block scalar, before an index
abbrev pub IsEarlierColon : List ℕ → ℕ → ℕ → Type 0
IsEarlierColon text end at = (at < end) × (slice_index text at ≡ 58)

abbrev pub IsBlockScalarSign : List ℕ → ℕ → Type 0
IsBlockScalarSign text at = (slice_index text at ≡ 124) ⊎ (slice_index text at ≡ 62)

abbrev pub IsBlockScalarBefore : List ℕ → ℕ → ℕ → Type 0
IsBlockScalarBefore text end at = (at < end) × IsBlockScalarSign text at

-- the sign of a block scalar is before an index
abbrev pub IsBehindBlockScalar : List ℕ → ℕ → Type 0
IsBehindBlockScalar text at = (sign : ℕ) × IsBlockScalarBefore text at sign

-- the first character of the line of a place that is no blank
pub record BeginsLineOf (text : List ℕ) (end at : ℕ) : Type 0 where
  pub start : ℕ
  pub last : ℕ
  pub line : IsLineStart text end start
  pub content : IsLineContent text start last at

-- that of some line
abbrev pub BeginsSomeLine : List ℕ → ℕ → Type 0
BeginsSomeLine text at = (near : ℕ) × BeginsLineOf text near at

-- the first of the line of a place, or of one before
abbrev pub IsNearLine : List ℕ → ℕ → ℕ → Type 0
IsNearLine text end at = BeginsContent text end at ⊎ BeginsLineOf text end at

-- Characters that look like another: spaces and colons with another width, spaces with none, and quotes.
abbrev pub is_between : ℕ → ℕ → ℕ → Bool
is_between first last c = nat_le first c && nat_le c last

abbrev pub is_sign : Remark → ℕ → Bool
is_sign remark.NoBreakSpace c = (c == 0xa0) || (c == 0x202f)
is_sign remark.IdeographicSpace c = c == 0x3000
is_sign remark.OtherSpace c = is_between 0x2000 0x200a c
is_sign remark.ZeroWidth c = is_between 0x200b 0x200d c || (c == 0xfeff)
is_sign remark.TypographersQuote c = is_between 0x2018 0x201f c
is_sign remark.WideColon c = (c == 0xff1a) || (c == 0xfe55)
is_sign _ c = false

abbrev pub IsSignAt : Remark → List ℕ → ℕ → Type 0
IsSignAt r text at = (at < length text) × (is_sign r (slice_index text at) ≡ true)

abbrev pub IsTypographersQuote : List ℕ → ℕ → Type 0
IsTypographersQuote text at = IsSignAt remark.TypographersQuote text at

abbrev pub IsWideColon : List ℕ → ℕ → Type 0
IsWideColon text at = IsSignAt remark.WideColon text at

-- so many characters are before an index on its line
abbrev pub IsColumn : List ℕ → ℕ → ℕ → Type 0
IsColumn text at count = (start : ℕ) × IsLineStart text at start × (count ≡ at - start)

-- an index is in another column than the line of a place begins
pub record IsInOtherColumn (text : List ℕ) (end at : ℕ) : Type 0 where
  pub line : ℕ
  pub begins : BeginsLineOf text end line
  pub here : ℕ
  pub there : ℕ
  pub is_here : IsColumn text line here
  pub is_there : IsColumn text at there
  pub other : here ≢ there

-- the line of a place begins with a dash
abbrev pub IsDashLine : List ℕ → ℕ → Type 0
IsDashLine text end = (line : ℕ) × BeginsLineOf text end line × IsCharacter 45 text line

-- a comment as other languages have it
abbrev pub IsOtherComment : List ℕ → ℕ → Type 0
IsOtherComment text at = (IsCharacter 47 text at × (at + 1 < length text))
    × ((slice_index text (at + 1) ≡ 47) ⊎ (slice_index text (at + 1) ≡ 42))

-- the brackets of a template
abbrev pub IsTemplate : List ℕ → ℕ → Type 0
IsTemplate text at = (IsCharacter 123 text at × (at + 1 < length text))
    × ((slice_index text (at + 1) ≡ 123) ⊎ (slice_index text (at + 1) ≡ 37))

-- from an index on a bracket closes one before it
abbrev pub has_closer : List ℕ → ℕ → Bool
has_closer text end = is_some (closer (drop end text) 0)

-- ## What help says

-- the place of help: an index with this property
abbrev pub IsAtSome : List ℕ → Marker → (ℕ → Type 0) → Type 0
IsAtSome text place P = (i : ℕ) × P i × (place ≡ place_of_index text i)

-- what is at the index that a remark tells of, for a fault before another
abbrev pub IsIndexOfHelp : Remark → List ℕ → ℕ → ℕ → Type 0
IsIndexOfHelp remark.ConflictMarker text end at = IsConflictBefore text end at
IsIndexOfHelp remark.NoColon text end at =
    (start : ℕ) × BeginsContent text end start × IsBehindDashes text start at
IsIndexOfHelp remark.ValueColumn text end at =
    BeginsContent text end at × ((colon : ℕ) × IsEarlierColon text at colon)
IsIndexOfHelp remark.BlockScalarColumn text end at = IsNearLine text end at × IsBehindBlockScalar text at
IsIndexOfHelp remark.NoBlankBehindDash text end at = IsNearLine text end at × IsTight 45 text at
IsIndexOfHelp remark.NoBlankBehindColon text end at = IsTight 58 text at
IsIndexOfHelp remark.TooFarRight text end at = BeginsLineOf text end at
IsIndexOfHelp remark.OtherColumn text end at = (at < end) × BeginsSomeLine text at × IsInOtherColumn text end at
IsIndexOfHelp remark.NoDash text end at = (at < end) × BeginsSomeLine text at × IsDashLine text end
IsIndexOfHelp remark.OtherComment text end at =
    IsOtherComment text at × ((at ≡ end) ⊎ ((at < end) × BeginsSomeLine text at))
IsIndexOfHelp remark.WideColon text end at = (at < end) × IsWideColon text at
IsIndexOfHelp remark.Template text end at = (at < end) × IsTemplate text at
IsIndexOfHelp remark.QuotesEnd text end at = IsQuote text end at
IsIndexOfHelp remark.Apostrophe text end at = (at + 1 ≡ end) × IsCharacter 39 text at
IsIndexOfHelp remark.JsonText text end at = (at < end) × IsCharacter 34 text at
IsIndexOfHelp remark.Escape text end at = IsBadEscape text end at
IsIndexOfHelp remark.Tab text end at = ((at + 1 ≡ end) ⊎ (end ≤ at)) × IsTab text at
IsIndexOfHelp remark.AllowedTab text end at = ((at + 1 ≡ end) ⊎ (at ≡ end)) × IsTab text at
IsIndexOfHelp remark.AllowedFirstTab text end at = ((at + 1 ≡ end) ⊎ (end ≤ at)) × IsTab text at
IsIndexOfHelp remark.AllowedColonBehindTag text end at = (end < at) × IsCharacter 58 text at
IsIndexOfHelp r text end at = IsSignAt r text at

-- the innermost collection begins here
abbrev pub IsInnermost : OpenStarts → Marker → Type 0
IsInnermost o place = (s : Start) × (innermost o.starts ≡ Some s) × (place ≡ s.span.start)

-- the same, with a dash where a remark tells of one
abbrev pub IsPlaceOfCollection : Remark → List ℕ → OpenStarts → Marker → Type 0
IsPlaceOfCollection remark.KeyBeginsWithDash text o place =
    IsInnermost o place × IsTight 45 text (place_index text place.index)
IsPlaceOfCollection r text o place = IsInnermost o place

-- what is so where a remark is told at the fault
abbrev pub IsAtFault : Remark → List ℕ → OpenStarts → Marker → Type 0
IsAtFault remark.Mixed text o fault = (s : Start) × (innermost o.starts ≡ Some s) × (s.span.start.col ≡ fault.col)
IsAtFault remark.BracketColumn text o fault = has_closer text (place_index text fault.index) ≡ true
IsAtFault remark.MissingComma text o fault =
    (is_some (opened_note text o fault) ≡ true) × (has_closer text (place_index text fault.index) ≡ true)
IsAtFault remark.CommaBehind text o fault =
    (is_some (opened_note text o fault) ≡ false) × IsCharacter 44 text (place_index text fault.index)
IsAtFault remark.AllowedColon text o fault = IsCharacter 58 text (place_index text fault.index)
IsAtFault remark.AllowedDash text o fault = IsCharacter 45 text (place_index text fault.index)
IsAtFault remark.AllowedQuestionMark text o fault =
    (place_index text fault.index ≡ length text) × IsCharacter 63 text (length text - 1)
IsAtFault _ text o fault = Unit {0}

-- where a remark is told, of a fault at this place
pub record IsPlaceOfHelp (r : Remark) (text : List ℕ) (o : OpenStarts) (fault place : Marker) : Type 0 where
  pub collection : is_of_collection r ≡ true → IsPlaceOfCollection r text o place
  pub at_fault : is_of_collection r ≡ false → is_at_fault r ≡ true → (place ≡ fault) × IsAtFault r text o fault
  pub index : is_of_collection r ≡ false → is_at_fault r ≡ false
      → IsAtSome text place (IsIndexOfHelp r text (place_index text fault.index))

-- A sentence of help: one of the message, or one on a conflict that is near, and its place. Which of those that have
-- a place, no clause says.
pub record Helps (text : List ℕ) (o : OpenStarts) (fault : Marker) (message : List ℕ) (n : Note) : Type 0 where
  pub says : (n.remark ≡ remark.ConflictMarker)
      ⊎ ((k : ℕ) × (slice_get (remarks_on message) k ≡ Some n.remark))
  pub place : IsPlaceOfHelp n.remark text o fault n.place
