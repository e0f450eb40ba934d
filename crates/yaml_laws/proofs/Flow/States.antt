-- What is said of a piece of a text in flow style, and of the states before it and after it, whatever block
-- collections are open.
use Rattle.std.proofs.Common.{◌≡◌, ℕ, ◌+◌, ◌<◌, ◌≤◌, Bool, true, false, List, [], ◌∷◌, ◌++◌, length, slice_index, IsTrue, ◌⊎◌, Ok, encode_utf8_all}
use Rattle.yaml_laws.proofs.Common.{◌||◌, ◌&&◌, ◌==◌, not, nat_lt, Option, Some, None, if◌then◌else◌, colon, number_sign, normalized, is_blank, is_break, is_breakz, is_blank_or_breakz, is_yaml_non_break, is_anchor_char, is_bom, line_feed, carriage_return, is_document_indicator, Marker, Cursor, along, next_line, pass_break, comment_of, end_of_text, mid_line, IsQuotedText, IsPlainText, is_tabbed, past_white, LinesFit, plain_value, folded, IsPassed, ReadDirective, IsDirectiveText, IsReservedDirective, IsLineTail, Item, Quote, AreIn, IsAnchorName, IsTagText, EndsTag, IsSeparation, IsLineRest, Context, Kind, Piece, Place, bare_place, Candidate, Level, is_block, State, Node, most_open, place_kinds, saved, IsPlainKeyNode, IsBeforeColon, allows_adjacent, IsFlowNode, EndsContent, IsOnLine}
use Rattle.saphyr_scalar.specs.Steps.Anchor as anchors
use Rattle.saphyr_scalar.specs.Steps.Tag as tags
use Rattle.saphyr_scalar.specs.Steps.Plain as words
use Rattle.saphyr_scalar.specs.Steps.Quoted as quotes
use Rattle.saphyr_scalar.specs.Steps.Directive as directives
use Rattle.saphyr_scalar.specs.Spelling.Directive as spelling
use Rattle.saphyr_scanner.specs.declared.engine.level.Context.TheVariants as context
use Rattle.saphyr_scanner.specs.Grammar.TokenGrammar as grammar
use Rattle.yaml_laws.proofs.InFlow.States.{Around, FlowMoment, Ready, moment, moment_in, state_at, noted, RunsTo}

-- ## Places in a text

-- the place after a text whose breaks are line feeds
abbrev pub moved : Marker → List ℕ → Marker
moved m [] = m
moved m (c ∷ cs) = moved (if c == line_feed then next_line m 1 else along m 1) cs

-- a tab left of a column
abbrev pub is_left_tab : ℕ → Marker → ℕ → Bool
is_left_tab column m c = (c == 9) && nat_lt m.col column

-- Whether no token is on the rest of a line: blanks, a comment or none, and a break or the text's end.
abbrev mutual
  pub is_filler_rest : List ℕ → Bool
  is_filler_rest [] = true
  is_filler_rest (c ∷ cs) = if is_blank c then is_filler_rest cs else is_break c || ((c == 35) && is_comment_rest cs)

  -- after the `#` of a comment
  pub is_comment_rest : List ℕ → Bool
  is_comment_rest [] = true
  is_comment_rest (c ∷ cs) = if is_yaml_non_break c then is_comment_rest cs else is_break c

-- The place and the text after the blanks, breaks and comments at a place, up to a tab left of a column on the line of
-- a token, which may not be in indentation. Two places before the same token have the same.
abbrev mutual
  pub past : ℕ → Marker → List ℕ → Marker × List ℕ
  past column m [] = (m, [])
  past column m (c ∷ cs) = if is_left_tab column m c && not (is_filler_rest cs) then (m, c ∷ cs)
      else if is_blank c || ((c == 13) && (slice_index cs 0 == 10)) then past column (along m 1) cs
      else if is_break c then past column (next_line m 1) cs else if c == 35 then past_comment column (along m 1) cs
      else (m, c ∷ cs)

  -- after the `#` of a comment
  pub past_comment : ℕ → Marker → List ℕ → Marker × List ℕ
  past_comment column m [] = (m, [])
  past_comment column m (c ∷ cs) = if is_yaml_non_break c then past_comment column (along m 1) cs
      else if (c == 13) && (slice_index cs 0 == 10) then past column (along m 1) cs
      else if is_break c then past column (next_line m 1) cs else (m, c ∷ cs)

-- the text that is at m has the same next token as what is left at a moment
abbrev pub StandsBefore : Around → FlowMoment → Marker → List ℕ → Type 0
StandsBefore around now m t = past around.indent now.cursor.mark now.cursor.rest ≡ past around.indent m t

-- Whether a break comes before the next token (the text's end): what `gap` knows where it stops.
abbrev mutual
  pub crosses : List ℕ → Bool
  crosses [] = false
  crosses (c ∷ cs) = if is_blank c || ((c == 13) && (slice_index cs 0 == 10)) then crosses cs
      else if is_break c then true else if c == 35 then crosses_comment cs else false

  pub crosses_comment : List ℕ → Bool
  crosses_comment [] = false
  crosses_comment (c ∷ cs) = if is_yaml_non_break c then crosses_comment cs
      else if (c == 13) && (slice_index cs 0 == 10) then crosses cs else if is_break c then true else false

-- whether a document marker begins a line of a text before `behind`, where the text is at a line's start or
-- elsewhere
abbrev pub marks_line : Bool → List ℕ → List ℕ → Bool
marks_line at_start [] behind = false
marks_line at_start (c ∷ cs) behind =
    (at_start && is_document_indicator (c ∷ (cs ++ behind))) || marks_line (c == line_feed) cs behind

-- A piece of the text at a place has no CR, and no document marker begins a line of it.
pub record IsClear (m : Marker) (piece behind : List ℕ) : Type 0 where
  pub no_return : AreIn (λ c. not (c == carriage_return)) piece
  pub no_marker : marks_line (m.col == 0) piece behind ≡ false

-- ## What comes after

-- a character that begins neither a blank, a break nor a comment, and is no byte order mark
pub record IsContentStart (c : ℕ) : Type 0 where
  pub blank : is_blank c ≡ false
  pub break : is_break c ≡ false
  pub comment : (c == number_sign) ≡ false
  pub byte_order_mark : is_bom c ≡ false

-- separation, and a character after it, of which Ends tells
pub record IsBehind (indent : ℕ) (Ends : List ℕ → ℕ → List ℕ → Type 0) (o : List ℕ) : Type 0 where
  pub separation : List ℕ
  pub first : ℕ
  pub others : List ℕ
  pub is : o ≡ separation ++ (first ∷ others)
  pub parts : IsSeparation indent separation
  pub ends : Ends separation first others

-- separation, and a character after it that begins a token
abbrev pub IsParted : ℕ → List ℕ → Type 0
IsParted indent o = IsBehind indent (λ w c cs. IsContentStart c) o

-- what may come after a colon that comes right after no quote or bracket
abbrev pub ends_colon : ℕ → Bool
ends_colon c = is_blank_or_breakz c || (c == 44) || (c == 93) || (c == 125)

-- what ends a node inside flow, after separation: a comma, a closing bracket, or the colon of a key
abbrev pub EndsNode : Node → List ℕ → ℕ → List ℕ → Type 0
EndsNode node separation c others = (c ≡ 44) ⊎ ((c ≡ 93) ⊎ ((c ≡ 125) ⊎ ((c ≡ 58) × IsBeforeColon node separation
    × (IsTrue (allows_adjacent node separation) ⊎ IsTrue (ends_colon (slice_index others 0))))))

-- what comes after a node inside flow
abbrev pub IsBehindNode : ℕ → Node → List ℕ → Type 0
IsBehindNode indent node o = IsBehind indent (EndsNode node) o

-- the text's end, or at a line's start what ends a document's content
abbrev pub EndsDocument : Marker → List ℕ → Type 0
EndsDocument m y = (y ≡ []) ⊎ ((m.col ≡ 0) × EndsContent y)

-- a character left of a column that is no blank
pub record IsLeft (column : ℕ) (m : Marker) (y : List ℕ) : Type 0 where
  pub left : m.col < column
  pub first : ℕ
  pub others : List ℕ
  pub is : y ≡ first ∷ others
  pub blank : is_blank first ≡ false

-- What comes after a node at block level, from its end m on: the rest of its line, and after filler the text's end,
-- a document marker at a line's start, or a token left of the node.
pub record IsBehindRoot (around : Around) (m : Marker) (o : List ℕ) : Type 0 where
  pub rest : List ℕ
  pub more : List ℕ
  pub is : o ≡ rest ++ more
  pub line : IsLineRest rest
  pub break : (more ≡ []) ⊎ (slice_index more 0 ≡ line_feed)
  pub lands : around.indent ≤ m.col → EndsDocument (past around.indent m o).0 (past around.indent m o).1
      ⊎ IsLeft around.column (past around.indent m o).0 (past around.indent m o).1

-- A piece that is clear, within the limit, and right of the block collection around it.
pub record FitsAround (around : Around) (m : Marker) (p o : List ℕ) : Type 0 where
  pub clear : IsClear m p o
  pub below : m.index + length (p ++ o) ≤ around.limit
  pub right : around.indent ≤ m.col

-- A piece of a key on one line: behind it come blanks and a token, which is near the key's start.
pub record FitsKey (around : Around) (k : Candidate) (m : Marker) (p o : List ℕ) : Type 0 where
  pub line : m.line ≡ k.mark.line
  pub on_line : IsOnLine p
  pub low : around.indent ≤ m.col + 1
  pub clear : IsClear m p o
  pub below : m.index + length (p ++ o) ≤ around.limit
  pub white : List ℕ
  pub are_white : AreIn is_blank white
  pub first : ℕ
  pub others : List ℕ
  pub is : o ≡ white ++ (first ∷ others)
  pub content : IsContentStart first
  pub near : m.index + length (p ++ white) ≤ k.mark.index + 1024

-- a piece inside flow, or at block level where no key is required or read, or of a key
pub data Fits (around : Around) (x : Context) (m : Marker) (p o : List ℕ) : Type 0 where
  fits_free : (is_block x ≡ false) ⊎ ((around.pending ≡ false) × (around.held ≡ None)) → FitsAround around m p o
      → Fits around x m p o
  fits_key : is_block x ≡ true → (k : Candidate) → around.held ≡ Some k → FitsKey around k m p o
      → Fits around x m p o

-- ## What the readers of scalars, properties and directives promise

-- They are the laws of the crate of scalars, one field for each reader, and `place` says that a place behind a text
-- is one alone. What is shown of flow nodes takes them as a premise, and cites no proof of a scalar.
pub record ReaderPromises : Type 0 where
  pub plain : (in_flow : Bool) (indent : ℕ) (s : Cursor) (text x : List ℕ) → s.rest ≡ text ++ x
      → IsPlainText in_flow indent s.mark text x → let end = end_of_text s.mark text in let behind =
      past_white end false x in words.plain in_flow indent s
      ≡ Ok (
        encode_utf8_all (plain_value (normalized text)),
        end,
        comment_of in_flow (is_tabbed indent x) behind,
        behind,
      )
  pub quoted : (quote : Quote) (indent : ℕ) (s : Cursor) (items : List Item) (x : List ℕ)
      (is : IsQuotedText quote s.rest items x) → LinesFit indent quote is.0 items x is.2
      → (m : Marker) × IsPassed s.mark s.rest m x
      × (quotes.quoted quote indent s ≡ Ok (encode_utf8_all (folded items), mid_line m x))
  pub place : (m : Marker) (s : List ℕ) (n : Marker) (u : List ℕ) → IsPassed m s n u → (k : Marker) → IsPassed m s k u
      → k ≡ n
  pub anchor : (s : Cursor) (indicator : ℕ) (name x : List ℕ) → s.rest ≡ indicator ∷ (name ++ x) → IsAnchorName name
      → is_anchor_char (slice_index x 0) ≡ false
      → anchors.anchor s ≡ Ok (encode_utf8_all name, mid_line (along s.mark (1 + length name)) x)
  pub tag : (in_flow : Bool) (s : Cursor) (t handle suffix x : List ℕ) → s.rest ≡ t ++ x → IsTagText t handle suffix
      → EndsTag in_flow x
      → tags.tag in_flow s ≡ Ok (encode_utf8_all handle, encode_utf8_all suffix, mid_line (along s.mark (length t)) x)
  pub directive : (s : Cursor) (d : ReadDirective) (t tail x : List ℕ) → s.rest ≡ t ++ (tail ++ x) → IsDirectiveText d t
      → IsLineTail tail → is_breakz (slice_index x 0) ≡ true → directives.directive s
      ≡ Ok (d, along s.mark (length t), pass_break (mid_line (along s.mark (length t + length tail)) x))
  pub reserved : (s : Cursor) (name t x : List ℕ) → s.rest ≡ t ++ x → IsReservedDirective name t
      → is_breakz (slice_index x 0) ≡ true → directives.directive s
      ≡ Ok (
        spelling.reserved (encode_utf8_all name),
        along s.mark (length t),
        pass_break
            (mid_line (along s.mark (length t)) x),
      )

-- ## What may be a key

-- What may be a key after a text that is at m: nothing, what could be one before it, or what begins in it.
abbrev pub Since : Option Candidate → Marker → List ℕ → Option Candidate → Type 0
Since k m t key = (key ≡ None) ⊎ ((key ≡ k) ⊎ ((front back : List ℕ) × (place : ℕ) × (t ≡ front ++ back)
    × (key ≡ Some (record { mark = moved m front; place = place }))))

-- what is kept inside flow after a text, and what could be a key before it, and where the text is
pub record KeptKey : Type 0 where
  pub kept : Option Candidate
  pub before : Option Candidate
  pub from : Marker
  pub over : List ℕ

-- the key after a token at m, where a key may begin
abbrev pub key_behind : FlowMoment → Marker → Option Candidate
key_behind now m = saved now.allowed (length now.places) m now.key

abbrev pub keeping : FlowMoment → Marker → List ℕ → KeptKey
keeping now m t = record { kept = key_behind now m; before = now.key; from = m; over = t }

-- ## Where a key may begin

-- After a piece at block level, where a break comes before the next token, a key may begin, or the break is still
-- ahead.
abbrev pub IsFresh : Context → List ℕ → Bool → Cursor → Type 0
IsFresh x o allowed there = is_block x ≡ true → crosses o ≡ true → (allowed || crosses there.rest) ≡ true

-- ## A key on one line is kept

-- blanks alone come before y, which is at m, right of a column
pub record IsBehindBlanks (column : ℕ) (there : Cursor) (m : Marker) (y : List ℕ) : Type 0 where
  pub white : List ℕ
  pub are : AreIn is_blank white
  pub rest : there.rest ≡ white ++ y
  pub mark : moved there.mark white ≡ m
  pub right : column ≤ there.mark.col

pub record HoldsKey (column : ℕ) (k : Candidate) (key : Option Candidate) (allowed : Bool) (there : Cursor) (m : Marker)
    (y : List ℕ) : Type 0 where
  pub is : key ≡ Some k
  pub closed : allowed ≡ false
  pub line : IsBehindBlanks column there m y

-- After a piece of a key the key is still kept, and the next token is on the line.
pub record Holds (around : Around) (x : Context) (key : Option Candidate) (allowed : Bool) (there : Cursor) (m : Marker)
    (o : List ℕ) : Type 0 where
  pub so : (k : Candidate) → around.held ≡ Some k → is_block x ≡ true
      → HoldsKey around.indent k key allowed there (past around.indent m o).0 (past around.indent m o).1

-- ## Runs over a piece

-- what is known after a piece: of the key, whether one may begin, where a colon may come at once, and the new places
abbrev pub Known : Type 1
Known = Option Candidate → Bool → ℕ → List Place → Type 0

-- From a state the scanner comes, after a piece, to where the text o is at m, or further within the separation at
-- its front. The places of the piece hold these tokens. Outside flow a comment may have ended the piece.
pub record PassesNoting (comment : Option Marker) (around : Around) (start : Bool → State) (known : Known) (x : Context)
    (ls : List Level) (ps : List Place) (m : Marker) (o : List ℕ) (ts : List Kind) : Type 0 where
  pub there : Cursor
  pub key : Option Candidate
  pub allowed : Bool
  pub adjacent : ℕ
  pub new : List Place
  pub leads : RunsTo around
      (λ d. noted comment (state_at around (moment there x key ls allowed adjacent (ps ++ new)) d)) start
  pub right : around.indent ≤ m.col
  pub fits : past around.indent there.mark there.rest ≡ past around.indent m o
  pub fresh : IsFresh x o allowed there
  pub holds : Holds around x key allowed there m o
  pub are : place_kinds new ≡ ts
  pub knows : known key allowed adjacent new

-- the same where no comment has
abbrev pub PassesPiece : Around → (Bool → State) → Known → Context → List Level → List Place → Marker → List ℕ
    → List Kind → Type 0
PassesPiece around start known x ls ps m o ts = PassesNoting None around start known x ls ps m o ts

-- the moment after a piece
abbrev pub after : {around : Around} {start : Bool → State} {known : Known} {x : Context} {ls : List Level}
    {ps : List Place} {m : Marker} {o : List ℕ} {ts : List Kind} → PassesPiece around start known x ls ps m o ts
    → FlowMoment
after {x = x} {ls = ls} {ps = ps} p = moment p.there x p.key ls p.allowed p.adjacent (ps ++ p.new)

-- ## What is known after a piece

-- a key may begin and none is kept, and no colon may come at once from m on
abbrev pub fresh_key : Marker → Known
fresh_key m key allowed adjacent new = (key ≡ None) × (allowed ≡ true) × (adjacent < m.index)

-- no key may begin and none is kept, and no colon may come at once from m on
abbrev pub no_key : Marker → Known
no_key m key allowed adjacent new = (key ≡ None) × (allowed ≡ false) × (adjacent < m.index)

-- before m and o, no colon may come at once after the next token
abbrev pub ended : ℕ → Marker → List ℕ → Known
ended indent m o key allowed adjacent new = adjacent ≤ (past indent m o).0.index

-- After a node, or a text without its properties, that ends at m before o: its first token has nothing before it, and
-- the key is as told. Where `allows` says that a colon may come at once, the place of that is kept.
pub record IsAfterNode (indent : ℕ) (x : Context) (kept : KeptKey) (allows : List ℕ → Bool) (m : Marker) (o : List ℕ)
    (key : Option Candidate) (adjacent : ℕ) (new : List Place) : Type 0 where
  pub piece : Piece
  pub others : List Place
  pub is : new ≡ bare_place piece ∷ others
  pub keeps : is_block x ≡ false → key ≡ kept.kept
  pub since : Since kept.before kept.from kept.over key
  pub near : is_block x ≡ false → (separation more : List ℕ) → o ≡ separation ++ (colon ∷ more)
      → IsSeparation indent separation → IsTrue (allows separation) → adjacent ≡ (moved m separation).index
  pub low : adjacent ≤ (past indent m o).0.index

abbrev pub after_node : ℕ → Context → KeptKey → (List ℕ → Bool) → Marker → List ℕ → Known
after_node indent x kept allows m o key allowed adjacent new = IsAfterNode indent x kept allows m o key adjacent new

-- after properties, which keep the key that begins with them
pub record IsAfterProperties (x : Context) (kept key : Option Candidate) (allowed : Bool) (new : List Place) : Type
    0 where
  pub piece : Piece
  pub others : List Place
  pub is : new ≡ bare_place piece ∷ others
  pub keeps : is_block x ≡ false → key ≡ kept
  pub closed : allowed ≡ false

-- ## What is shown of nodes

-- The tokens of a node, and the run over its text t, which is at m before o.
pub record NodePasses (around : Around) (now : FlowMoment) (node : Node) (m : Marker) (t o : List ℕ) : Type 0 where
  pub tokens : List Kind
  pub are : grammar.YieldsNode node grammar.InFlow tokens
  pub passes : PassesPiece around (state_at around now)
      (after_node around.indent now.context (keeping now m t) (allows_adjacent node) (moved m t) o) now.context
      now.outer now.places (moved m t) o tokens

-- What comes after a node that ends at m, inside flow, at block level, or where it is a key on one line.
pub data Follows (around : Around) (x : Context) (node : Node) (m : Marker) (o : List ℕ) : Type 0 where
  follows_inside : is_block x ≡ false → IsBehindNode around.indent node o → Follows around x node m o
  follows_outside : x ≡ context.Block → IsBehindRoot around m o → Follows around x node m o
  follows_key : (k : Candidate) → around.held ≡ Some k → x ≡ context.Block → (white r : List ℕ)
      → o ≡ white ++ (colon ∷ r) → AreIn is_blank white → IsBeforeColon node white
      → is_blank_or_breakz (slice_index r 0) ≡ true → Follows around x node m o

-- at m no colon may come at once; at block level it may right there
abbrev pub IsLow : Context → ℕ → Marker → Type 0
IsLow x adjacent m = (adjacent ≤ m.index) × ((is_block x ≡ true) ⊎ (adjacent < m.index))

-- The tokens of a text t that is at m before o, wherever that is, and the run over it. At block level a comment may
-- have ended it.
pub record TextPasses (around : Around) (start : Bool → State) (now : FlowMoment) (Is : List Kind → Type 0)
    (allows : List ℕ → Bool)
    (m : Marker) (t o : List ℕ) : Type 0 where
  pub tokens : List Kind
  pub are : Is tokens
  pub comment : Option Marker
  pub none : (is_block now.context ≡ false) ⊎ ((k : Candidate) × (around.held ≡ Some k)) → comment ≡ None
  pub passes : PassesNoting comment around start
      (after_node around.indent now.context (keeping now m t) allows (moved m t) o) now.context now.outer now.places
      (moved m t) o tokens

-- the tokens of a node, wherever it is
abbrev pub YieldsAnywhere : Node → List Kind → Type 0
YieldsAnywhere node ts = (place : grammar.Context) → grammar.YieldsNode node place ts

-- a node is passed where its first token is about to be read
abbrev pub ReadsText : Around → Node → Marker → List ℕ → List ℕ → FlowMoment → Type 0
ReadsText around node m t o now =
    Fits around now.context m t o → Follows around now.context node (moved m t) o → IsLow now.context now.adjacent m
    → (start : Bool → State) → Ready around start now m (t ++ o)
    → TextPasses around start now (YieldsAnywhere node) (allows_adjacent node) m t o

-- a node inside flow, or a plain scalar that is a key, with its colon right after it
abbrev pub IsNodeOrKey : ℕ → Node → ℕ → List ℕ → List ℕ → Type 0
IsNodeOrKey room node indent p o =
    IsFlowNode room node true indent p ⊎ (IsPlainKeyNode node true indent p × ((r : List ℕ) × (o ≡ 58 ∷ r)))

-- The text t is next at a moment inside flow, at m before o: it fits there, no colon may come at once, and so many more
-- flow collections may be opened.
pub record IsNext (around : Around) (room : ℕ) (now : FlowMoment) (m : Marker) (t o : List ℕ) : Type 0 where
  pub fits : FitsAround around m t o
  pub enough : room + length now.outer ≤ most_open
  pub low : now.adjacent < m.index
  pub stands : StandsBefore around now m (t ++ o)

-- in whichever context
pub next_in : {around : Around} {room : ℕ} {now : FlowMoment} {m : Marker} {t o : List ℕ} (y : Context)
    → IsNext around room now m t o → IsNext around room (moment_in y now) m t o
next_in y n = record { fits = n.fits; enough = n.enough; low = n.low; stands = n.stands }

-- A node inside flow is passed, which may open so many flow collections.
abbrev pub PassesNode : Around → ℕ → Node → Type 0
PassesNode around room node =
    (m : Marker) (p o : List ℕ) → IsNodeOrKey room node around.indent p o → IsBehindNode around.indent node o
    → (now : FlowMoment) → is_block now.context ≡ false → IsNext around room now m p o
    → NodePasses around now node m p o
