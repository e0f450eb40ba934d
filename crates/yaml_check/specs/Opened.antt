-- The collections that are open after events, and brackets that are open behind them.
use Rattle.std.specs.Prelude.{ℕ, zero, suc, ◌+◌, ◌-◌, ◌==◌, ◌&&◌, ◌||◌, Bool, false, nat_lt, nat_le, if◌then◌else◌, List, [], ◌∷◌, length, min, slice_index, slice_range, Option, Some, None, is_some, option_map}
use Rattle.saphyr_parser.specs.Words.Marker.{Marker}
use Rattle.saphyr_parser.specs.Words.Span.{Span}
use Rattle.saphyr_parser.specs.Events.{Happening, SequenceStart, SequenceEnd, MappingStart, MappingEnd}
use Rattle.yaml_check.specs.declared.open.Shape.{Shape}
use Rattle.yaml_check.specs.declared.open.Shape.TheVariants as shape
use Rattle.yaml_check.specs.declared.open.Start.{Start}
use Rattle.yaml_check.specs.declared.note.Note.{Note}
use Rattle.yaml_check.specs.declared.note.Remark.{Remark}
use Rattle.yaml_check.specs.declared.note.Remark.TheVariants as remark
use Rattle.yaml_check.specs.Places.{is_space_or_tab, place_of_index}
use Rattle.yaml_check.specs.Shown.{is_end_of_line, place_index}

-- The starts of the collections that no event has ended, the innermost first, and where the last event ends.
pub record OpenStarts : Type 0 where
  pub starts : List Start
  pub behind : Marker

abbrev pub nothing_open : OpenStarts
nothing_open = record { starts = []; behind = record { index = 0; line = 1; col = 0 } }

abbrev pub with_start : Shape → Span → OpenStarts → OpenStarts
with_start s span o = record { starts = record { shape = s; span = span } ∷ o.starts; behind = o.behind }

abbrev pub outer_starts : List Start → List Start
outer_starts [] = []
outer_starts (s ∷ ss) = ss

abbrev pub starts_behind : Happening → Span → List Start → List Start
starts_behind (SequenceStart id tag) span ss = record { shape = shape.Sequence; span = span } ∷ ss
starts_behind (MappingStart id tag) span ss = record { shape = shape.Mapping; span = span } ∷ ss
starts_behind SequenceEnd span ss = outer_starts ss
starts_behind MappingEnd span ss = outer_starts ss
starts_behind _ span ss = ss

abbrev pub opened_behind : Happening → Span → OpenStarts → OpenStarts
opened_behind what span o = record { starts = starts_behind what span o.starts; behind = span.end }

-- what is open behind events
abbrev pub open_on : List (Happening × Span) → OpenStarts → OpenStarts
open_on [] o = o
open_on (e ∷ es) o = open_on es (opened_behind e.0 e.1 o)

abbrev pub innermost : List Start → Option Start
innermost [] = None
innermost (s ∷ ss) = Some s

-- ## Brackets

abbrev pub bracket_of : Shape → ℕ
bracket_of shape.Sequence = 91
bracket_of shape.Mapping = 123

-- A collection begins with its bracket: what a block collection's start covers doesn't begin with one.
abbrev pub begins_with_bracket : List ℕ → Start → Bool
begins_with_bracket text s = nat_lt s.span.start.index s.span.end.index && (nat_lt s.span.start.index (length text)
    && (slice_index text s.span.start.index == bracket_of s.shape))

abbrev pub innermost_bracket : List ℕ → List Start → Option Start
innermost_bracket text [] = None
innermost_bracket text (s ∷ ss) = if begins_with_bracket text s then Some s else innermost_bracket text ss

abbrev pub is_left_bracket : ℕ → Bool
is_left_bracket c = (c == 91) || (c == 123)

abbrev pub is_right_bracket : ℕ → Bool
is_right_bracket c = (c == 93) || (c == 125)

-- The last bracket from one index on and before another that no later one closes, where so many more brackets close
-- than open behind it.
abbrev pub unclosed_step : List ℕ → ℕ → ℕ → (ℕ → Option ℕ) → Option ℕ
unclosed_step text at closed others = if is_right_bracket (slice_index text at) then others (closed + 1)
    else (if is_left_bracket (slice_index text at) then (if closed == 0 then Some at else others (closed - 1))
    else others closed)

abbrev pub unclosed : List ℕ → ℕ → ℕ → ℕ → Option ℕ
unclosed text start zero closed = None
unclosed text start (suc at) closed =
    if nat_le start at then unclosed_step text at closed (λ k. unclosed text start at k) else None

-- the bracket in a text that closes one before it, where so many are open inside that one
abbrev pub closer : List ℕ → ℕ → Option ℕ
closer [] inside = None
closer (c ∷ cs) inside = if is_left_bracket c then closer cs (inside + 1)
    else (if is_right_bracket c then (if inside == 0 then Some c else closer cs (inside - 1)) else closer cs inside)

-- the first character that is no blank, no part of a break, no dash and no question mark opens a bracket
abbrev pub is_passed : ℕ → Bool
is_passed c = is_space_or_tab c || (is_end_of_line c || ((c == 45) || (c == 63)))

abbrev pub opens_bracket : List ℕ → Bool
opens_bracket [] = false
opens_bracket (c ∷ cs) = if is_passed c then opens_bracket cs else is_left_bracket c

-- ## What is told

abbrev pub open_remark : Shape → Remark
open_remark shape.Sequence = remark.SequenceOpen
open_remark shape.Mapping = remark.MappingOpen

-- brackets of one kind, where the first is told of
abbrev pub is_pair : Remark → ℕ → Bool
is_pair remark.SequenceOpen c = c == 93
is_pair remark.MappingOpen c = c == 125
is_pair _ c = false

-- a bracket that is told of is closed by one of its kind
abbrev pub is_closed_by : Note → Option ℕ → Bool
is_closed_by n None = false
is_closed_by n (Some c) = is_pair n.remark c

abbrev pub shape_of : ℕ → Shape
shape_of c = if c == 91 then shape.Sequence else shape.Mapping

abbrev pub start_note : Start → Note
start_note s = record { place = s.span.start; remark = open_remark s.shape }

abbrev pub bracket_note : List ℕ → ℕ → Note
bracket_note text at = record { place = place_of_index text at; remark = open_remark (shape_of (slice_index text at)) }

-- Of brackets whose events haven't come: there are none but in brackets, or at the start of a node.
abbrev pub hidden_bracket : List ℕ → Option Start → ℕ → ℕ → Option ℕ
hidden_bracket text known start end =
    if is_some known || opens_bracket (slice_range text start end) then unclosed text start end 0 else None

abbrev pub note_of : List ℕ → Option ℕ → Option Start → Option Note
note_of text (Some at) known = Some (bracket_note text at)
note_of text None known = option_map start_note known

-- the innermost bracket that is open before an index
abbrev pub opened_before : List ℕ → OpenStarts → ℕ → Option Note
opened_before text o end = let known = innermost_bracket text o.starts in
    note_of text (hidden_bracket text known (min o.behind.index end) end) known

-- the same at a place; one after the end is the end
abbrev pub opened_note : List ℕ → OpenStarts → Marker → Option Note
opened_note text o place = opened_before text o (place_index text place.index)
