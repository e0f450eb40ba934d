-- What is said of a piece of a text at block level, and of the states before it and after it. Block collections may be
-- open.
use Rattle.yaml_laws.proofs.Common.{Bool, IsFalse, List, [], arith, false, slice_index, true, ℕ, ◌+◌, ◌<◌, ◌∷◌, ◌≡◌, ◌≤◌, ◌⊎◌, spaces, None, Option, if◌then◌else◌, ◌&&◌, ◌==◌, ◌||◌, is_blank, is_break, is_yaml_non_break, Marker, Cursor, along, next_line, Kind, Place, Core, is_too_far, Candidate, State, is_tab_indentation, fetch, LeadsTo, cursor_at, place_kinds, queue_of}
use Rattle.saphyr_scanner.specs.declared.engine.level.Context.TheVariants as context
use Rattle.yaml_laws.specs.Grammar.BlockNodes as yaml
use Rattle.yaml_laws.specs.Grammar.BlockNodes.{Position as Position}
use Rattle.yaml_laws.proofs.InFlow.States.{FlowMoment, moment}
pub use Rattle.yaml_laws.proofs.Flow.States.{EndsDocument, crosses, crosses_comment, FitsAround, IsBehindRoot, IsClear}
pub use Rattle.yaml_laws.proofs.Flow.States.{IsContentStart, IsLeft, ReaderPromises, Since, marks_line, moved, past}

-- ## The block collections that are open

-- `indent` is the first column to the right of the innermost one, and 0 where there is none; `outers` are those of the
-- others.
pub record Frame : Type 0 where
  pub indent : ℕ
  pub outers : List ℕ

abbrev pub root : Frame
root = record { indent = 0; outers = [] }

-- a further collection inside, at a column
abbrev pub frame_at_column : ℕ → Frame → Frame
frame_at_column column f = record { indent = column + 1; outers = f.indent ∷ f.outers }

-- ## States at block level

-- what changes from token to token
pub record Moment : Type 0 where
  pub cursor : Cursor
  pub key : Option Candidate
  pub allowed : Bool
  pub adjacent : ℕ
  pub deeper : Bool
  pub required : Bool
  pub comment : Option Marker

-- right at a token: no comment has ended a scalar
abbrev pub moment_with : Bool → Marker → List ℕ → Bool → Option Candidate → Bool → ℕ → Bool → Moment
moment_with required m y blank key allowed adjacent deeper =
    record {
      cursor = cursor_at y m blank;
      key = key;
      allowed = allowed;
      adjacent = adjacent;
      deeper = deeper;
      required = required;
      comment = None;
    }

-- the same, where nothing is required
abbrev pub moment_at : Marker → List ℕ → Bool → Option Candidate → Bool → ℕ → Bool → Moment
moment_at = moment_with false

abbrev pub core_of : Frame → Moment → Core
core_of f n =
    record {
      cursor = n.cursor;
      level = record { context = context.Block; key = n.key };
      outer = [];
      required = n.required;
      key_allowed = n.allowed;
      adjacent = n.adjacent;
      indent = f.indent;
      deeper = n.deeper;
      outer_indents = f.outers;
      comment = n.comment;
      started = true;
      ended = false;
    }

abbrev pub state_of : Frame → Moment → List Place → State
state_of f n ps = record { core = core_of f n; queue = queue_of ps }

-- ## Tabs

-- Whether a tab is left of a column, with blanks alone before it, on the line of the next token: what `gap` knows
-- where it stops. At the text's end it is no matter.
abbrev mutual
  pub tabbed : ℕ → Marker → Bool → Bool → List ℕ → Bool
  tabbed least m blank tab [] = false
  tabbed least m blank tab (c ∷ cs) =
      if is_blank c || ((c == 13) && (slice_index cs 0 == 10)) then tabbed least (along m 1) blank
      (is_tab_indentation least m blank c || tab) cs else if is_break c then tabbed least (next_line m 1) true false cs
      else if c == 35 then tabbed_comment least (along m 1) blank tab cs else tab

  pub tabbed_comment : ℕ → Marker → Bool → Bool → List ℕ → Bool
  tabbed_comment least m blank tab [] = false
  tabbed_comment least m blank tab (c ∷ cs) = if is_yaml_non_break c then tabbed_comment least (along m 1) blank tab cs
      else if (c == 13) && (slice_index cs 0 == 10) then tabbed least (along m 1) blank tab cs
      else if is_break c then tabbed least (next_line m 1) true false cs else tab

-- no tab is in the indentation before the next token
abbrev pub IsUntabbed : ℕ → Cursor → Type 0
IsUntabbed least s = tabbed least s.mark s.blank_so_far false s.rest ≡ false

-- ## What comes after

-- the text's end, or a character that is passed in no gap
abbrev pub IsStop : List ℕ → Type 0
IsStop [] = Unit {0}
IsStop (c ∷ cs) = (is_blank c ≡ false) × (is_break c ≡ false) × ((c == 35) ≡ false)

-- The next token ends the document, or is left of a column.
abbrev pub IsLeftOf : ℕ → Marker → List ℕ → Type 0
IsLeftOf column m y = EndsDocument m y ⊎ (m.col < column)

-- ## Runs

-- A state from which the scanner goes on as from one that it comes to.
pub record GoesOnAs (limit : ℕ) (start s : State) : Type 0 where
  pub reached : State
  pub leads : LeadsTo limit reached start
  pub same : fetch reached ≡ fetch s
  pub running : reached.core.ended ≡ s.core.ended

-- The scanner comes before the token at m, where the text is y, and has read these tokens. Nothing is required there,
-- and no comment has ended a scalar.
pub record At (limit : ℕ) (start : State) (f : Frame) (m : Marker) (y : List ℕ) (ts : List Kind) : Type 0 where
  pub blank : Bool
  pub key : Option Candidate
  pub allowed : Bool
  pub adjacent : ℕ
  pub deeper : Bool
  pub places : List Place
  pub follows : GoesOnAs limit start (state_of f (moment_at m y blank key allowed adjacent deeper) places)
  pub stop : IsStop y
  pub near : is_too_far key m ≡ false
  pub are : place_kinds places ≡ ts
  pub low : adjacent ≤ m.index

-- the same where a key may begin, and none is a candidate
pub record FreeAt (limit : ℕ) (start : State) (f : Frame) (m : Marker) (y : List ℕ) (ts : List Kind) : Type 0 where
  pub at : At limit start f m y ts
  pub none : at.key ≡ None
  pub allowed : at.allowed ≡ true

-- the moment there, by whether content has to be further right
abbrev pub moment_there : {limit : ℕ} {start : State} {f : Frame} {m : Marker} {y : List ℕ} {ts : List Kind}
    → At limit start f m y ts → Bool → Moment
moment_there {m = m} {y = y} v deeper = moment_at m y v.blank v.key v.allowed v.adjacent deeper

-- the same for a piece in flow style
abbrev pub flow_moment : {limit : ℕ} {start : State} {f : Frame} {m : Marker} {y : List ℕ} {ts : List Kind}
    → At limit start f m y ts → FlowMoment
flow_moment {m = m} {y = y} v = moment (cursor_at y m v.blank) context.Block v.key [] v.allowed v.adjacent v.places

-- ## Before a node

-- whether a compact collection may be at a place
abbrev pub is_compact : Position → Bool
is_compact (yaml.BehindDash m) = true
is_compact (yaml.BehindMark m) = true
is_compact yaml.AtStart = true
is_compact _ = false

-- right after what a place is after
abbrev pub IsPlaced : Position → Marker → Type 0
IsPlaced (yaml.BehindDash column) m = m.col ≡ column + 1
IsPlaced (yaml.BehindMark column) m = m.col ≡ column + 1
IsPlaced (yaml.BehindKey column) m = column < m.col
IsPlaced yaml.BehindMarker m = Unit {0}
IsPlaced yaml.AtStart m = m.col ≡ 0

-- The scanner has read these tokens, and a node may come at a place, whose text and what is after it are at m.
pub record Before (limit : ℕ) (start : State) (place : Position) (f : Frame) (m : Marker) (o : List ℕ)
    (ts : List Kind) : Type 0 where
  pub at : At limit start f (past 0 m o).0 (past 0 m o).1 ts
  pub none : at.key ≡ None
  pub allows : (is_compact place || crosses o) ≡ true → at.allowed ≡ true
  pub placed : IsPlaced place m

-- ## Before a compact collection

-- spaces before its first entry, which is at a column
pub record IsSpaced (place : Position) (column : ℕ) (lead : List ℕ) : Type 0 where
  pub count : ℕ
  pub is : lead ≡ spaces count
  pub compact : is_compact place ≡ true
  pub some : IsFalse (yaml.is_start place) → 1 ≤ count
  pub low : yaml.indent_at place ≤ column
  pub sequence_low : yaml.sequence_indent_at place ≤ column
  pub col : (m : Marker) → IsPlaced place m → m.col + count ≡ column

pub compact_spaced : (place : Position) (column : ℕ) (lead : List ℕ) → yaml.IsCompactLead place column lead
    → IsSpaced place column lead
compact_spaced place column lead h = grind arith
