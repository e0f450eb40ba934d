-- Which tokens may be where, told of the tokens alone: a single pair of a flow sequence has its start, its colon and
-- its end, an implicit key has its colon, a block collection has an entry, and its properties, or other content, are on
-- a line before it (YAML 1.2.2, 7.4, 7.5 and 8.2). A colon without an implicit key is at its mapping's column, and the
-- first line of a flow node begins right of the column of the collection that it is in.
use Rattle.std.specs.Prelude.{ℕ, ◌+◌, ◌==◌, Bool, true, false, not, nat_le, nat_lt, ◌||◌, ◌&&◌, if◌then◌else◌, List, [], ◌∷◌, Option, Some, None, IsTrue}
use Rattle.saphyr_scalar.specs.declared.scalar.position.Marker.{Marker}
use Rattle.saphyr_scalar.specs.declared.scalar.position.Span.{Span}
use Rattle.saphyr_scalar.specs.declared.scalar.style.ScalarStyle.{ScalarStyle}
use Rattle.saphyr_scalar.specs.declared.scalar.style.ScalarStyle.TheVariants as style
use Rattle.saphyr_scanner.specs.Grammar.Tokens as tokens
use Rattle.saphyr_scanner.specs.Grammar.Tokens.{Kind}
use Rattle.saphyr_scanner.specs.Views.Tokens.{Piece}

-- ## What encloses a token

-- No bracket or brace; `[`; `[` and an entry of it that `?` began; `[` and a single pair in it, whose colon is to come,
-- or came; or `{`.
pub data Enclosure : Type 0 where
  Block : Enclosure
  Sequence : Enclosure
  MarkedEntry : Enclosure
  PairKey : Enclosure
  PairValue : Enclosure
  Mapping : Enclosure

-- what encloses a token, and where the implicit key began whose colon is to come there
pub record Enclosed : Type 0 where
  pub enclosure : Enclosure
  pub key : Option Marker

-- what began right before a token: a block collection, a node, whose anchor or tag ends on a line, or an implicit
-- key; or the content of a node in flow style, which ends on a line
pub data Begun : Type 0 where
  Nothing : Begun
  BlockSequence : Begun
  BlockMapping : Begun
  Property : ℕ → Begun
  Content : ℕ → Begun
  KeyStart : Begun

-- what encloses a token innermost, what is around that, what has begun, and the columns of the open block collections,
-- the innermost first
pub record Enclosures : Type 0 where
  pub inner : Enclosed
  pub outer : List Enclosed
  pub begun : Begun
  pub columns : List ℕ

abbrev pub not_enclosed : Enclosures
not_enclosed = record { inner = record { enclosure = Block; key = None }; outer = []; begun = Nothing; columns = [] }

abbrev pub with_begun : Begun → Enclosures → Enclosures
with_begun begun all = record { inner = all.inner; outer = all.outer; begun = begun; columns = all.columns }

-- a block collection begins at a column
abbrev pub begun_at : Begun → ℕ → Enclosures → Enclosures
begun_at begun column all =
    record { inner = all.inner; outer = all.outer; begun = begun; columns = column ∷ all.columns }

abbrev pub without_innermost : List ℕ → List ℕ
without_innermost [] = []
without_innermost (column ∷ columns) = columns

-- the innermost block collection ends
abbrev pub block_ended : Enclosures → Enclosures
block_ended all =
    record { inner = all.inner; outer = all.outer; begun = Nothing; columns = without_innermost all.columns }

abbrev pub entered : Enclosure → Enclosures → Enclosures
entered e all = record {
  inner = record { enclosure = e; key = None };
  outer = all.inner ∷ all.outer;
  begun = Nothing;
  columns = all.columns;
}

abbrev pub left_for : List Enclosed → List ℕ → Enclosures
left_for [] columns = record {
  inner = record { enclosure = Block; key = None };
  outer = [];
  begun = Nothing;
  columns = columns;
}
left_for (e ∷ es) columns = record { inner = e; outer = es; begun = Nothing; columns = columns }

-- an entry or a single pair begins, goes on or ends
abbrev pub turned_to : Enclosure → Enclosures → Enclosures
turned_to e all = record {
  inner = record { enclosure = e; key = None };
  outer = all.outer;
  begun = Nothing;
  columns = all.columns;
}

-- an implicit key began
abbrev pub awaiting_colon : Marker → Enclosures → Enclosures
awaiting_colon key all = record {
  inner = record { enclosure = all.inner.enclosure; key = Some key };
  outer = all.outer;
  begun = KeyStart;
  columns = all.columns;
}

abbrev pub enclosure_behind_question : Enclosure → Enclosure
enclosure_behind_question Sequence = MarkedEntry
enclosure_behind_question e = e

abbrev pub behind_comma : Enclosure → Enclosure
behind_comma MarkedEntry = Sequence
behind_comma e = e

abbrev pub behind_pair_colon : Enclosure → Enclosure
behind_pair_colon PairKey = PairValue
behind_pair_colon e = e

-- The start and the end of a single pair have no text, and neither has an implicit key's start.
abbrev pub has_text : Span → Bool
has_text span = nat_lt span.start.index span.end.index

-- 8.1: no block scalar
abbrev pub is_flow_style : ScalarStyle → Bool
is_flow_style style.Literal = false
is_flow_style style.Folded = false
is_flow_style _ = true

abbrev pub behind_scalar : ScalarStyle → ℕ → Begun
behind_scalar style line = if is_flow_style style then Content line else Nothing

-- what encloses the token after
abbrev pub enclosures_behind : Kind → Span → Enclosures → Enclosures
enclosures_behind tokens.BlockSequenceStart span all = begun_at BlockSequence span.start.col all
enclosures_behind tokens.BlockMappingStart span all = begun_at BlockMapping span.start.col all
enclosures_behind tokens.BlockEnd span all = block_ended all
enclosures_behind tokens.FlowSequenceStart span all = entered Sequence all
enclosures_behind tokens.FlowSequenceEnd span all =
    with_begun (Content span.end.line) (left_for all.outer all.columns)
enclosures_behind tokens.FlowMappingStart span all =
    if has_text span then entered Mapping all else turned_to PairKey all
enclosures_behind tokens.FlowMappingEnd span all =
    if has_text span then with_begun (Content span.end.line) (left_for all.outer all.columns)
    else turned_to Sequence all
enclosures_behind tokens.FlowEntry span all = turned_to (behind_comma all.inner.enclosure) all
enclosures_behind tokens.Key span all =
    if has_text span then turned_to (enclosure_behind_question all.inner.enclosure) all
    else awaiting_colon span.start all
enclosures_behind tokens.Value span all = turned_to (behind_pair_colon all.inner.enclosure) all
enclosures_behind (tokens.Anchor name) span all = with_begun (Property span.end.line) all
enclosures_behind (tokens.Tag handle suffix) span all = with_begun (Property span.end.line) all
enclosures_behind (tokens.Alias name) span all = with_begun (Content span.end.line) all
enclosures_behind (tokens.Scalar style value) span all = with_begun (behind_scalar style span.end.line) all
enclosures_behind _ span all = with_begun Nothing all

-- ## What may come there

abbrev pub is_pair : Enclosure → Bool
is_pair PairKey = true
is_pair PairValue = true
is_pair _ = false

-- A single pair is an entry of a flow sequence. (In `[a: b: c]` a second one begins before the parser refuses it.)
abbrev pub may_begin_pair : Enclosure → Bool
may_begin_pair Sequence = true
may_begin_pair PairValue = true
may_begin_pair _ = false

-- only after its colon a single pair ends
abbrev pub may_end_pair : Enclosure → Bool
may_end_pair PairValue = true
may_end_pair _ = false

-- inside `[` an implicit key is a single pair's
abbrev pub may_begin_key : Enclosure → Bool
may_begin_key Sequence = false
may_begin_key _ = true

abbrev pub is_in_brackets : Enclosure → Bool
is_in_brackets Block = false
is_in_brackets _ = true

-- at the column of the innermost open block collection
abbrev pub is_at_column : ℕ → List ℕ → Bool
is_at_column column [] = false
is_at_column column (innermost ∷ columns) = column == innermost

-- Where no key's colon is to come. A single pair ends before the next entry and before `]`. (Of `[a: b}` and `{]` the
-- tokens come before the parser refuses them.) 8.2.2: outside brackets a colon without a key, and that of a `?`, is
-- at the column of its mapping.
abbrev pub fits : Enclosure → List ℕ → Kind → Span → Bool
fits e columns tokens.FlowMappingStart span = has_text span || may_begin_pair e
fits e columns tokens.FlowMappingEnd span = if has_text span then is_in_brackets e else may_end_pair e
fits e columns tokens.FlowSequenceEnd span = is_in_brackets e && not (is_pair e)
fits e columns tokens.FlowEntry span = not (is_pair e)
fits e columns tokens.Key span = has_text span || may_begin_key e
fits e columns tokens.Value span = is_in_brackets e || is_at_column span.start.col columns
fits e columns _ span = true

-- 7: a token of a flow node, which may be an implicit key: properties, an alias, a plain or a quoted scalar, or the
-- start of a flow collection, which encloses what is in it
abbrev pub is_of_flow_node : Kind → Span → Bool
is_of_flow_node (tokens.Alias name) span = true
is_of_flow_node (tokens.Anchor name) span = true
is_of_flow_node (tokens.Tag handle suffix) span = true
is_of_flow_node (tokens.Scalar style value) span = is_flow_style style
is_of_flow_node tokens.FlowSequenceStart span = true
is_of_flow_node tokens.FlowMappingStart span = has_text span
is_of_flow_node _ span = false

-- 7.4.2, 8.2.2: A block mapping's colon is on the line where the key began, at most 1,024 characters after. A
-- single pair's is on the key's line, and one in braces anywhere after. So is one in an entry that `?` began: of
-- `[? a` LF `[b]` LF `: c]` these tokens come before the parser refuses it.
abbrev pub is_near : Enclosure → Marker → Marker → Bool
is_near Block key colon = nat_le colon.line key.line && nat_le colon.index (key.index + 1024)
is_near PairKey key colon = nat_le colon.line key.line
is_near _ key colon = true

-- where the colon of the key is to come that began at a place
abbrev pub fits_in_key : Enclosure → Marker → Kind → Span → Bool
fits_in_key e key tokens.Value span = is_near e key span.start
fits_in_key e key kind span = is_of_flow_node kind span

abbrev pub fits_at : Enclosure → Option Marker → List ℕ → Kind → Span → Bool
fits_at e None columns kind span = fits e columns kind span
fits_at e (Some key) columns kind span = fits_in_key e key kind span

-- 8.2: A block sequence begins with `-`, and a block mapping with a key or a colon. The properties of a block
-- collection are on a line before it, also where the `-` of a sequence is at its mapping's column. 7.4, 8.2.2:
-- after the start of an implicit key is a token of its node. On the line of a node's content no block collection begins
-- behind it.
abbrev pub may_follow : Begun → Kind → Span → Bool
may_follow Nothing kind span = true
may_follow BlockSequence tokens.BlockEntry span = true
may_follow BlockSequence _ span = false
may_follow BlockMapping tokens.Key span = true
may_follow BlockMapping tokens.Value span = true
may_follow BlockMapping _ span = false
may_follow (Property line) tokens.BlockSequenceStart span = nat_lt line span.start.line
may_follow (Property line) tokens.BlockMappingStart span = nat_lt line span.start.line
may_follow (Property line) tokens.BlockEntry span = nat_lt line span.start.line
may_follow (Property line) _ span = true
may_follow (Content line) tokens.BlockSequenceStart span = nat_lt line span.start.line
may_follow (Content line) tokens.BlockMappingStart span = nat_lt line span.start.line
may_follow (Content line) _ span = true
may_follow KeyStart tokens.Value span = false
may_follow KeyStart _ span = true

abbrev pub may_stand : Enclosures → Kind → Span → Bool
may_stand all kind span =
    may_follow all.begun kind span && fits_at all.inner.enclosure all.inner.key all.columns kind span

-- the first column right of the innermost open block collection, 0 at the root
abbrev pub least_column_in : List ℕ → ℕ
least_column_in [] = 0
least_column_in (column ∷ columns) = column + 1

abbrev pub is_in_key : Option Marker → Bool
is_in_key None = false
is_in_key (Some key) = true

-- in an implicit key, or in brackets
abbrev pub is_covered : Enclosed → Bool
is_covered e = is_in_key e.key || is_in_brackets e.enclosure

-- 8.2: Outside brackets a token of a flow node begins right of the column of the innermost open block collection,
-- unless it is of an implicit key. Nothing is asked of block scalars (`:` LF `|` LF ` a`), nor inside brackets.
abbrev pub is_indented : Enclosures → Kind → Span → Bool
is_indented all kind span =
    not (is_of_flow_node kind span) || (is_covered all.inner || nat_le (least_column_in all.columns) span.start.col)

-- This holds of each token and what encloses it.
abbrev pub AreEachInside : (Enclosures → Kind → Span → Bool) → Enclosures → List Piece → Type 0
AreEachInside holds all [] = Unit {0}
AreEachInside holds all (p ∷ ps) =
    IsTrue (holds all p.kind p.span) × AreEachInside holds (enclosures_behind p.kind p.span all) ps

-- each token may be where it is
abbrev pub AreInPlace : Enclosures → List Piece → Type 0
AreInPlace all ps = AreEachInside may_stand all ps

-- and is right of the column of its collection, if it is of a flow node
abbrev pub AreIndented : Enclosures → List Piece → Type 0
AreIndented all ps = AreEachInside is_indented all ps

-- ## Single pairs and properties

-- What came of an entry of brackets: nothing yet, properties alone, or more, as also where no entry is. (In braces no
-- single pair begins.)
pub data EntryFront : Type 0 where
  EmptyFront : EntryFront
  PropertyFront : EntryFront
  OtherFront : EntryFront

abbrev pub with_property : EntryFront → EntryFront
with_property OtherFront = OtherFront
with_property _ = PropertyFront

abbrev pub front_behind : Kind → EntryFront → EntryFront
front_behind tokens.FlowSequenceStart front = EmptyFront
front_behind tokens.FlowEntry front = EmptyFront
front_behind (tokens.Anchor name) front = with_property front
front_behind (tokens.Tag handle suffix) front = with_property front
front_behind _ front = OtherFront

-- 7.4: A single pair has no properties: those that an entry begins with are its first node's, be that the pair's key.
abbrev pub begins_bare : EntryFront → Kind → Span → Bool
begins_bare PropertyFront tokens.FlowMappingStart span = has_text span
begins_bare _ _ span = true

-- No single pair has properties. Of properties that come later in an entry nothing is asked: in a forest no pair comes
-- there.
abbrev pub AreBare : EntryFront → List Piece → Type 0
AreBare front [] = Unit {0}
AreBare front (p ∷ ps) = IsTrue (begins_bare front p.kind p.span) × AreBare (front_behind p.kind front) ps
