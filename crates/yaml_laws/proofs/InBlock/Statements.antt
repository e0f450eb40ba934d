-- What is shown of nodes and collections at block level.
use Rattle.yaml_laws.proofs.Common.{Bool, IsFalse, List, [], false, inl, inr, length, slice_index, suc, true, ℕ, ◌++◌, ◌+◌, ◌∷◌, ◌≡◌, ◌≤◌, ◌⊎◌, None, Some, colon, is_blank_or_breakz, Marker, spaces, IsFiller, IsLineEnd, is_too_far, least_column, bare_place, Piece, State, Kind, Node, Properties, Scalar, Style, left_out, most_open, place_kinds, IsBeforeColon, IsFlowNode, IsKeyText, IsOnLine, IsPlainKeyNode, IsProperties, Position, BehindMark, BehindKey, is_start, indent_at, IsGapAt, IsFlowInBlock, IsStyled, IsScalarFront, IsScalarInBlock, BehindDash, BehindMarker, AtStart}
use Rattle.saphyr_scanner.specs.Steps.Queue as queue
use Rattle.saphyr_scanner.specs.Grammar.TokenGrammar as grammar
use Rattle.yaml_laws.proofs.Flow.ContentStarts.{StartsContent}
use Rattle.yaml_laws.proofs.InBlock.Lines.{FitsOnLines}
use Rattle.yaml_laws.proofs.InBlock.States.{Frame, Moment, core_of, state_of, IsUntabbed, EndsDocument, IsLeftOf, GoesOnAs, At, Before, moved, past, FreeAt}
use Rattle.yaml_laws.proofs.InBlock.Skips.{IsClean}
use Rattle.yaml_laws.proofs.InFlow.KeyLines.{Blanks}
use Rattle.yaml_laws.proofs.Flow.NoDashes.{NoDash}

-- in which part of the token grammar a node at a place is
abbrev pub context_at : Position → grammar.Context
context_at (BehindMark m) = grammar.InBlockMapping
context_at (BehindKey m) = grammar.InBlockMapping
context_at _ = grammar.InBlock

pub place_allows_block : (place : Position) → grammar.AllowsBlock (context_at place)
place_allows_block (BehindDash m) = tt
place_allows_block (BehindMark m) = tt
place_allows_block (BehindKey m) = tt
place_allows_block BehindMarker = tt
place_allows_block AtStart = tt

-- What comes after a node, from m on: the next token ends the document or is left of a column, and no tab is
-- before it on its line.
pub record EndsNodeAt (column : ℕ) (m : Marker) (o : List ℕ) : Type 0 where
  pub left : IsLeftOf column (past 0 m o).0 (past 0 m o).1
  pub clean : IsClean o

-- The scanner comes before what is after a piece, in a frame, where a key may begin, or the document ends.
pub record ArrivedAt (limit : ℕ) (start : State) (f : Frame) (ts : List Kind) (q : Marker × List ℕ) : Type 0 where
  pub at : At limit start f q.0 q.1 ts
  pub next : EndsDocument q.0 q.1 ⊎ ((at.key ≡ None) × (at.allowed ≡ true))

abbrev pub Arrived : ℕ → State → Frame → Marker → List ℕ → List Kind → Type 0
Arrived limit start f m o ts = ArrivedAt limit start f ts (past 0 m o)

-- told at an equal place and of equal tokens
pub arrived_so : {limit : ℕ} {start : State} {f : Frame} {m n : Marker} {us ts : List Kind} (o : List ℕ) → m ≡ n
    → us ≡ ts → Arrived limit start f n o us → Arrived limit start f m o ts
arrived_so o e g v = rw (e, ← g) v

-- after a text is a line's start, or nothing
abbrev pub EndsWithLine : List ℕ → List ℕ → Type 0
EndsWithLine t o = ((m : Marker) → (moved m t).col ≡ 0) ⊎ (o ≡ [])

-- A node at a place is left out, which it isn't at a document's start, or it has these tokens.
abbrev pub AreRead : Node → Position → List Kind → Type 0
AreRead node place ts = (IsFalse (is_start place) × (node ≡ left_out) × (ts ≡ []))
    ⊎ grammar.YieldsNode node (context_at place) ts

-- the same, wherever it is
pub as_optional : (node : Node) (place : Position) (ts : List Kind) → AreRead node place ts
    → grammar.YieldsOptional node (grammar.YieldsNode node (context_at place)) ts
as_optional node place ts (inl h) = inl (h.1, h.2)
as_optional node place ts (inr h) = inr h

-- A node at a place was read, which is left out or has these tokens.
pub record NodeRead (limit : ℕ) (start : State) (node : Node) (place : Position) (f : Frame) (m : Marker) (o : List ℕ)
    (ts : List Kind) : Type 0 where
  pub tokens : List Kind
  pub are : AreRead node place tokens
  pub arrived : Arrived limit start f m o (ts ++ tokens)

-- The text of a node at a place is read, where Is tells how it is there.
abbrev pub ReadsAt : ℕ → Node → (Position → List ℕ → List ℕ → Type 0) → Type 0
ReadsAt limit node Is =
    (place : Position) (f : Frame) → f.indent ≡ indent_at place → (m : Marker) (t o : List ℕ) → Is place t o
    → FitsOnLines limit m t o → EndsNodeAt f.indent (moved m t) o
    → (start : State) (ts : List Kind) → Before limit start place f m (t ++ o) ts
    → NodeRead limit start node place f (moved m t) o ts

-- A key on one line was read, up to its colon at m: its tokens are in the last places, of which the first may be
-- opened.
pub record KeyRead (limit : ℕ) (start : State) (node : Node) (f : Frame) (k m : Marker) (o : List ℕ) (ts : List Kind) :
    Type 0 where
  pub moment : Moment
  pub places : List queue.Place
  pub key : Piece
  pub others : List queue.Place
  pub follows : GoesOnAs limit start (state_of f moment (places ++ bare_place key ∷ others))
  pub first : place_kinds places ≡ ts
  pub tokens : List Kind
  pub are : place_kinds (bare_place key ∷ others) ≡ tokens
  pub node_are : grammar.YieldsNode node grammar.InBlockMapping tokens
  pub candidate : moment.key ≡ Some (record { mark = k; place = length places })
  pub quiet : moment.comment ≡ None
  pub lands : past 0 moment.cursor.mark moment.cursor.rest ≡ (m, colon ∷ o)
  pub untabbed : IsUntabbed (least_column (core_of f moment)) moment.cursor
  pub near : is_too_far moment.key m ≡ false
  pub low : moment.adjacent ≤ m.index

-- the same of each key
abbrev pub ReadsKey : ℕ → Node → Type 0
ReadsKey limit node = (f : Frame) (m : Marker) (t o : List ℕ) (n : Blanks) → f.indent ≤ m.col + 1
    → IsKeyText (IsFlowNode most_open node false (suc m.col)) node false (suc m.col) t n.text → IsOnLine t
    → IsBeforeColon node n.text → length (t ++ n.text) ≤ 1024
    → is_blank_or_breakz (slice_index o 0) ≡ true → FitsOnLines limit m (t ++ n.text) (58 ∷ o)
    → (start : State) (ts : List Kind) → (v : At limit start f m (t ++ (n.text ++ (58 ∷ o))) ts) → v.allowed ≡ true
    → KeyRead limit start node f m (moved m (t ++ n.text)) o ts

-- What comes before a block collection was read, its properties among it, up to its first token at m.
pub record PropertiesRead (limit : ℕ) (start : State) (p : Properties) (f : Frame) (m : Marker) (y : List ℕ)
    (ts : List Kind) : Type 0 where
  pub tokens : List Kind
  pub are : grammar.YieldProperties p tokens
  pub at : FreeAt limit start f m y (ts ++ tokens)

-- the rest of a line after properties, its break, filler, and the indentation of the next token
abbrev pub IsNextLineText : List ℕ → Type 0
IsNextLineText w = (end filler : List ℕ) × (n : ℕ) × IsLineEnd end × IsFiller filler × (w ≡ end ++ (filler ++ spaces n))

-- `t` is the properties, `front` comes before them, and `w` the rest of their line, filler and indentation.
abbrev pub ReadsProperties : ℕ → Type 0
ReadsProperties limit =
    (p : Properties) (place : Position) (f : Frame) → f.indent ≡ indent_at place → (m : Marker) (front t w y : List ℕ)
    → IsGapAt place front × IsProperties p (indent_at place) t × IsNextLineText w → StartsContent y
    → FitsOnLines limit m (front ++ (t ++ w)) y → (start : State) (ts : List Kind)
    → Before limit start place f m (front ++ (t ++ (w ++ y))) ts
    → PropertiesRead limit start p f (moved m (front ++ (t ++ w))) y ts

-- What is shown of the leaves, from which collections follow.
pub record ReadsLeaves (limit : ℕ) : Type 0 where
  pub flow : (node : Node) → ReadsAt limit node (IsFlowInBlock most_open node)
  pub block_scalar : (p : Properties) (style : Style) (value : List ℕ)
      → ReadsAt limit (Scalar p style value) (IsScalarInBlock p style value)
  pub key : (node : Node) → ReadsKey limit node
  pub properties : ReadsProperties limit
  pub key_content : (node : Node) (indent : ℕ) (t : List ℕ) → IsPlainKeyNode node false indent t → StartsContent t
  pub flow_content : (node : Node) (room indent : ℕ) (in_flow : Bool) (t : List ℕ)
      → IsFlowNode room node in_flow indent t → StartsContent t
  pub flow_dash : (node : Node) (room indent : ℕ) (in_flow : Bool) (t o : List ℕ)
      → IsFlowNode room node in_flow indent t → NoDash (t ++ o)
  pub block_content : (p : Properties) (style : Style) (value : List ℕ) (indent : ℕ) (front t o : List ℕ)
      → IsScalarFront p indent front → IsStyled style value indent t o → StartsContent (front ++ t)
  pub scalar_ends : (style : Style) (value : List ℕ) (indent : ℕ) (t o : List ℕ) → IsStyled style value indent t o
      → EndsWithLine t o
