-- Nodes in block style (YAML 1.2.2, chapter 8), in texts whose breaks are line feeds.
-- `behind` is what comes after a piece, up to the text's end; `room` is how many flow collections may be open at
-- once.
use Rattle.std.specs.Prelude.{◌≡◌, ◌≢◌, ℕ, suc, ◌+◌, ◌<◌, ◌≤◌, ◌⊎◌, Bool, true, false, not, ◌==◌, ◌&&◌, ◌||◌, List, [], ◌∷◌, ◌++◌, length, slice_index, IsTrue, IsFalse, codes, if◌then◌else◌}
use Rattle.std.specs.List.{list_all}
use Rattle.saphyr_input.specs.Classes.{is_alpha, is_blank, is_bom, is_break, is_blank_or_breakz, tab, space, line_feed}
use Rattle.saphyr_input.specs.Places.{is_document_indicator}
use Rattle.saphyr_input.specs.Indicators.{colon, number_sign}
use Rattle.saphyr_scalar.specs.declared.values.BlockStyle.{BlockStyle}
use Rattle.saphyr_scalar.specs.declared.values.BlockStyle.TheVariants as block
use Rattle.saphyr_scalar.specs.declared.values.Chomping.{Chomping}
use Rattle.saphyr_scalar.specs.Values.Block.{Line, lines_value}
use Rattle.saphyr_scalar.specs.Reading.BlockLines.{spaces}
use Rattle.saphyr_scalar.specs.Spelling.Tag.{AreIn}
use Rattle.scalar_laws.specs.Spelling.Block.{IsBlockScalar}
use Rattle.scalar_laws.specs.Spelling.Spaces.{IsLineEnd, IsEol, IsFiller, IsLastFiller, IsNextLine, IsGap}
use Rattle.saphyr_scanner.specs.Grammar.Forest.{Style, Literal, Folded, Properties, no_properties, Node, Alias, Scalar, Seq, Map, Nodes, NoNode, MoreNodes, Pairs, NoPair, MorePairs, left_out}
use Rattle.yaml_laws.specs.Grammar.FlowNodes.{IsProperties, IsOnLine, IsKeyText, IsBeforeColon, IsFlowNode}

-- ## Where a node is

pub data Position : Type 0 where
  -- after the `-` of the block sequence at this column
  BehindDash : ℕ → Position
  -- after a `?`, or the `:` of its value, of the block mapping at this column
  BehindMark : ℕ → Position
  -- after the colon of a key on one line, or of one that is left out, of the block mapping at this column
  BehindKey : ℕ → Position
  -- after `---`
  BehindMarker : Position
  -- at the start of a bare document
  AtStart : Position

-- the first column to the right of the enclosing block collection
abbrev pub indent_at : Position → ℕ
indent_at (BehindDash m) = suc m
indent_at (BehindMark m) = suc m
indent_at (BehindKey m) = suc m
indent_at _ = 0

-- 8.2.3 [201]: a block sequence in a block mapping may also be at the mapping's column
abbrev pub sequence_indent_at : Position → ℕ
sequence_indent_at (BehindMark m) = m
sequence_indent_at (BehindKey m) = m
sequence_indent_at place = indent_at place

abbrev pub is_start : Position → Bool
is_start AtStart = true
is_start _ = false

-- ## What comes before a node

-- what parts a node from what comes before it: blanks, or the line's end, filler, indentation and blanks; before a
-- bare document may be nothing
abbrev pub IsGapAt : Position → List ℕ → Type 0
IsGapAt place t =
    ((t ≢ []) × AreIn is_blank t) ⊎ (IsNextLine (indent_at place) t ⊎ (IsTrue (is_start place) × (t ≡ [])))

abbrev pub is_behind_colon : Position → Bool
is_behind_colon (BehindMark m) = true
is_behind_colon (BehindKey m) = true
is_behind_colon _ = false

-- tabs alone between a block mapping's colon and a letter, a digit, `-` or `_`, which the standard has
abbrev pub is_lone_tab : Position → List ℕ → List ℕ → Bool
is_lone_tab place gap node =
    is_behind_colon place && (list_all (λ c. c == tab) gap && is_alpha (slice_index node 0))

-- 8.2.3 [200]: the properties of a block collection are on a line before it, that of the indicator or a line of their
-- own
abbrev pub IsCollectionFront : Properties → Position → List ℕ → Type 0
IsCollectionFront p place t =
    ((p ≡ no_properties) × (t ≡ []))
    ⊎ ((gap properties : List ℕ) × IsGapAt place gap × IsProperties p (indent_at place) properties
    × (t ≡ gap ++ properties))

-- 8.2.3 [200]: a block collection on the next lines, at column m
abbrev pub IsNextLineLead : Properties → Position → ℕ → ℕ → List ℕ → Type 0
IsNextLineLead p place least m t =
    (front end filler : List ℕ) × (least ≤ m) × IsCollectionFront p place front × IsLineEnd end × IsFiller filler
    × (t ≡ front ++ (end ++ (filler ++ spaces m)))

-- 8.2.1, 8.2.2 [185], [186], [195]: compact: the collection begins on this line, at the column m that is reached
abbrev pub IsCompactLead : Position → ℕ → List ℕ → Type 0
IsCompactLead (BehindDash column) m t = (n : ℕ) × (1 ≤ n) × (m ≡ column + 1 + n) × (t ≡ spaces n)
IsCompactLead (BehindMark column) m t = (n : ℕ) × (1 ≤ n) × (m ≡ column + 1 + n) × (t ≡ spaces n)
IsCompactLead AtStart m t = t ≡ spaces m
IsCompactLead _ m t = ⊥

-- what comes before a block collection's first entry, at column m
abbrev pub IsLead : Properties → Position → ℕ → ℕ → List ℕ → Type 0
IsLead p place least m t = IsNextLineLead p place least m t ⊎ ((p ≡ no_properties) × IsCompactLead place m t)

-- ## Nodes that are no block collections

-- 7.2 [105], [106]: a node that is left out
abbrev pub IsLeftOut : Node → Position → List ℕ → List ℕ → Type 0
IsLeftOut node place t behind = (node ≡ left_out) × IsFalse (is_start place) × IsEol t behind

-- 8.2.3 [197]: a node in flow style, up to the end of its line
abbrev pub IsFlowInBlock : ℕ → Node → Position → List ℕ → List ℕ → Type 0
IsFlowInBlock room node place t behind =
    (gap text end : List ℕ) × IsGapAt place gap × IsFlowNode room node false (indent_at place) text
    × IsFalse (is_lone_tab place gap text) × IsEol end behind × (t ≡ gap ++ (text ++ end))

-- 5.2, 9.1.2 [3], [206]: at a line's start this ends a document's content: a document marker, or a byte order mark
abbrev pub EndsContent : List ℕ → Type 0
EndsContent t = IsTrue (is_document_indicator t) ⊎ IsTrue (is_bom (slice_index t 0))

-- What may follow the lines of a block scalar whose content begins at column i: nothing, what ends the document's
-- content, a line that begins at or left of the enclosing collection's column, or a comment left of the content, after
-- spaces alone; or filler up to the document's end whose first line has a tab left of the content.
abbrev pub IsLineLeft : ℕ → ℕ → List ℕ → Type 0
IsLineLeft indent i t =
    (n c : ℕ) × (others : List ℕ) × IsFalse (is_blank c) × (c ≢ line_feed)
    × ((n < indent) ⊎ ((c ≡ number_sign) × (n < i)))
    × (t ≡ spaces n ++ (c ∷ others))

-- filler, and after it the text's end or what ends the document's content
abbrev pub IsFillerAtEnd : List ℕ → Type 0
IsFillerAtEnd t =
    IsLastFiller t ⊎ ((filler others : List ℕ) × IsFiller filler × EndsContent others × (t ≡ filler ++ others))

abbrev pub IsTabLeft : ℕ → List ℕ → Type 0
IsTabLeft i t = (n : ℕ) × (others : List ℕ) × (n < i) × (t ≡ spaces n ++ (tab ∷ others)) × IsFillerAtEnd t

abbrev pub IsBehindScalar : ℕ → ℕ → List ℕ → Type 0
IsBehindScalar indent i t =
    (t ≡ []) ⊎ (EndsContent t ⊎ (IsLineLeft indent i t ⊎ IsTabLeft i t))

-- 8.1 [170], [174]: a block scalar from its header on, with all of its lines
abbrev pub IsBlockScalarText : BlockStyle → List ℕ → ℕ → List ℕ → List ℕ → Type 0
IsBlockScalarText style value indent t behind =
    (i n : ℕ) × (chomping : Chomping) × (lines : List Line) × (body others : List ℕ)
    × (scalar : IsBlockScalar indent i n chomping lines (t ++ behind) body others) × (scalar.behind ≡ behind)
    × IsBehindScalar indent i behind × (value ≡ lines_value style chomping true lines)

-- `|` or `>` begins its header
abbrev pub IsStyled : Style → List ℕ → ℕ → List ℕ → List ℕ → Type 0
IsStyled Literal value indent t behind =
    (others : List ℕ) × IsBlockScalarText block.Literal value indent t behind × (t ≡ codes "|" ++ others)
IsStyled Folded value indent t behind =
    (others : List ℕ) × IsBlockScalarText block.Folded value indent t behind × (t ≡ codes ">" ++ others)
IsStyled _ value indent t behind = ⊥

-- the properties of a block scalar, on its header's line or on one before
abbrev pub IsScalarFront : Properties → ℕ → List ℕ → Type 0
IsScalarFront p indent t = ((p ≡ no_properties) × (t ≡ []))
    ⊎ ((properties gap : List ℕ) × IsProperties p indent properties × IsGap indent gap × (t ≡ properties ++ gap))

abbrev pub IsScalarInBlock : Properties → Style → List ℕ → Position → List ℕ → List ℕ → Type 0
IsScalarInBlock p style value place t behind =
    (gap front scalar : List ℕ) × IsGapAt place gap × IsScalarFront p (indent_at place) front
    × IsStyled style value (indent_at place) scalar behind × (t ≡ gap ++ (front ++ scalar))

-- ## Pairs of a block mapping at column m

-- Below, K and V hold of a place, of the text of a key or a value there, and of what comes after it.

-- 8.2.2 [192], [193]: a key on one line, its colon at most 1,024 characters after the key's start, and a value
abbrev pub IsImplicitPair : ℕ → Node → (Position → List ℕ → List ℕ → Type 0) → ℕ → List ℕ → List ℕ → Type 0
IsImplicitPair room key V m t behind =
    (node between value : List ℕ) × IsKeyText (IsFlowNode room key false (suc m)) key false (suc m) node between
    × IsOnLine node × AreIn is_blank between × IsBeforeColon key between × (length (node ++ between) ≤ 1024)
    × V (BehindKey m) value behind × (t ≡ node ++ (between ++ (codes ":" ++ value)))

-- 8.2.2 [192], [193]: a key that is left out, and a value
abbrev pub IsKeylessPair : Node → (Position → List ℕ → List ℕ → Type 0) → ℕ → List ℕ → List ℕ → Type 0
IsKeylessPair key V m t behind =
    (value : List ℕ) × (key ≡ left_out) × V (BehindKey m) value behind × (t ≡ codes ":" ++ value)

-- whether a tab comes before the first token of a text, outside comments; the first argument tells that a comment goes
-- on
abbrev pub has_tab_ahead : Bool → List ℕ → Bool
has_tab_ahead in_comment [] = false
has_tab_ahead true (c ∷ cs) = has_tab_ahead (not (is_break c)) cs
has_tab_ahead false (c ∷ cs) =
    (c == tab) || (((c == space) || is_break c || (c == number_sign)) && has_tab_ahead (c == number_sign) cs)

-- After a `?` is something, and no tab before the next token: that of the key or, where the key is left out, that
-- of what comes after it.
abbrev pub IsBehindQuestion : List ℕ → List ℕ → Type 0
IsBehindQuestion node behind = (node ≢ []) × IsFalse (has_tab_ahead false (node ++ behind))

-- whether the first token of a text is the `:` of a value at column m; the text begins at `column`, and the first
-- argument tells that a comment goes on
abbrev pub is_value_ahead : Bool → ℕ → ℕ → List ℕ → Bool
is_value_ahead in_comment m column [] = false
is_value_ahead true m column (c ∷ cs) = is_value_ahead (not (is_break c)) m 0 cs
is_value_ahead false m column (c ∷ cs) =
    if is_blank c then is_value_ahead false m (column + 1) cs
    else if is_break c || (c == number_sign) then is_value_ahead (c == number_sign) m 0 cs
    else (c == colon) && (column == m) && is_blank_or_breakz (slice_index cs 0)

-- 8.2.2 [189], [190]: a `?` and a key, with no value: a `:` of its column, where it comes next, is that of its own
-- value
abbrev pub IsKeyAlone : Node → (Position → List ℕ → List ℕ → Type 0) → ℕ → List ℕ → List ℕ → Type 0
IsKeyAlone value K m t behind =
    (node : List ℕ) × (value ≡ left_out) × IsBehindQuestion node behind × K (BehindMark m) node behind
    × IsFalse (is_value_ahead false m 0 behind) × (t ≡ codes "?" ++ node)

-- the `:` of a value at column m, after filler
abbrev pub IsValueMark : ℕ → List ℕ → Type 0
IsValueMark m t = (filler : List ℕ) × IsFiller filler × (t ≡ filler ++ (spaces m ++ codes ":"))

-- 8.2.2 [189] to [191]: a `?` and a key, and on a later line a `:` and a value
abbrev pub IsMarkedPair : (Position → List ℕ → List ℕ → Type 0) → (Position → List ℕ → List ℕ → Type 0) → ℕ → List ℕ
    → List ℕ → Type 0
IsMarkedPair K V m t behind =
    (node colon value : List ℕ) × IsBehindQuestion node (colon ++ (value ++ behind))
    × K (BehindMark m) node (colon ++ (value ++ behind)) × IsValueMark m colon × V (BehindMark m) value behind
    × (t ≡ codes "?" ++ (node ++ (colon ++ value)))

abbrev pub IsBlockPair : ℕ → Node → Node → (Position → List ℕ → List ℕ → Type 0) → (Position → List ℕ → List ℕ → Type 0)
    → ℕ → List ℕ → List ℕ → Type 0
IsBlockPair room key value K V m t behind =
    (IsImplicitPair room key V m t behind ⊎ IsKeylessPair key V m t behind)
    ⊎ (IsKeyAlone value K m t behind ⊎ IsMarkedPair K V m t behind)

-- ## Nodes

-- filler and indentation before a further entry at column m
abbrev pub IsEntryIndentation : ℕ → List ℕ → Type 0
IsEntryIndentation m t = (filler : List ℕ) × IsFiller filler × (t ≡ filler ++ spaces m)

abbrev mutual
  -- 8.2.3 [196]: a node in block style, by its kind and its position: left out, in flow style up to the end of its
  -- line, a block scalar, or a block collection after what leads to its first entry
  pub IsBlockNode : ℕ → Node → Position → List ℕ → List ℕ → Type 0
  IsBlockNode room (Alias name) place t behind = IsFlowInBlock room (Alias name) place t behind
  IsBlockNode room (Scalar p style value) place t behind =
      IsLeftOut (Scalar p style value) place t behind
      ⊎ (IsFlowInBlock room (Scalar p style value) place t behind ⊎ IsScalarInBlock p style value place t behind)
  IsBlockNode room (Seq p nodes) place t behind =
      IsFlowInBlock room (Seq p nodes) place t behind
      ⊎ ((m : ℕ) × (lead entries : List ℕ) × IsLead p place (sequence_indent_at place) m lead
      × AreEntries room nodes m entries behind × (t ≡ lead ++ entries))
  IsBlockNode room (Map p pairs) place t behind =
      IsFlowInBlock room (Map p pairs) place t behind
      ⊎ ((m : ℕ) × (lead entries : List ℕ) × IsLead p place (indent_at place) m lead
      × ArePairs room pairs m entries behind × (t ≡ lead ++ entries))

  -- 8.2.1 [183], [184]: the entries of a block sequence at column m, from the first `-` on
  pub AreEntries : ℕ → Nodes → ℕ → List ℕ → List ℕ → Type 0
  AreEntries room NoNode m t behind = ⊥
  AreEntries room (MoreNodes node nodes) m t behind =
      (entry others : List ℕ) × IsBlockNode room node (BehindDash m) entry (others ++ behind)
      × AreOtherEntries room nodes m others behind × (t ≡ codes "-" ++ (entry ++ others))

  pub AreOtherEntries : ℕ → Nodes → ℕ → List ℕ → List ℕ → Type 0
  AreOtherEntries room NoNode m t behind = t ≡ []
  AreOtherEntries room (MoreNodes node nodes) m t behind =
      (front entry others : List ℕ) × IsEntryIndentation m front
      × IsBlockNode room node (BehindDash m) entry (others ++ behind) × AreOtherEntries room nodes m others behind
      × (t ≡ front ++ (codes "-" ++ (entry ++ others)))

  -- 8.2.2 [187], [188]: the pairs of a block mapping at column m, from the first key, `?` or `:` on
  pub ArePairs : ℕ → Pairs → ℕ → List ℕ → List ℕ → Type 0
  ArePairs room NoPair m t behind = ⊥
  ArePairs room (MorePairs key value pairs) m t behind =
      (pair others : List ℕ) × IsBlockPair room key value (IsBlockNode room key) (IsBlockNode room value) m pair
      (others ++ behind) × AreOtherPairs room pairs m others behind × (t ≡ pair ++ others)

  pub AreOtherPairs : ℕ → Pairs → ℕ → List ℕ → List ℕ → Type 0
  AreOtherPairs room NoPair m t behind = t ≡ []
  AreOtherPairs room (MorePairs key value pairs) m t behind =
      (front pair others : List ℕ) × IsEntryIndentation m front
      × IsBlockPair room key value (IsBlockNode room key) (IsBlockNode room value) m pair (others ++ behind)
      × AreOtherPairs room pairs m others behind × (t ≡ front ++ (pair ++ others))
