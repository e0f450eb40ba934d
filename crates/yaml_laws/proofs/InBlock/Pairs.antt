-- A pair of a block mapping is read, whatever its form (YAML 1.2.2, 8.2.2).
use Rattle.yaml_laws.proofs.Common.{Bool, List, [], ap, append-nil, append_assoc, arith, false, inl, inr, length, refl, subst, suc, sym, true, ℕ, ◌++◌, ◌+◌, ◌<◌, ◌∙◌, ◌∷◌, ◌≡◌, ◌≤◌, ◌⊎◌, if◌then◌else◌, nat_le, ◌≢◌, Marker, spaces, along, State, Kind, AreIn, is_blank, MorePairs, NoPair, Node, Pairs, most_open, IsOnLine, AreOtherPairs, BehindKey, BehindMark, IsBlockNode, IsBlockPair, IsEntryIndentation, IsImplicitPair, IsKeyAlone, IsKeylessPair, IsMarkedPair, is_value_ahead, clash, next_not_within}
use Rattle.saphyr_scanner.specs.Grammar.Tokens as tokens
use Rattle.saphyr_scanner.specs.Grammar.TokenGrammar as grammar
use Rattle.yaml_laws.proofs.InFlow.Keys.{blanks_are_on_line}
use Rattle.yaml_laws.proofs.Flow.Places.{moved_append, moved_along}
use Rattle.yaml_laws.proofs.InBlock.Lines.{FitsOnLines, fits_front, fits_back, fits_so}
use Rattle.yaml_laws.proofs.InBlock.States.{Frame, EndsDocument, Before, moved, past, FreeAt}
use Rattle.yaml_laws.proofs.InBlock.Entries.{BeginsWhite, IsBehindIndicator, frame_behind}
use Rattle.yaml_laws.proofs.InBlock.Questions.{key_kinds, reads_question}
use Rattle.yaml_laws.proofs.InBlock.Colons.{value_kinds, reads_value, reads_colon}
use Rattle.yaml_laws.proofs.InBlock.Ahead.{value_here, no_tab_ahead}
use Rattle.yaml_laws.proofs.InBlock.Statements.{EndsNodeAt, ArrivedAt, as_optional, ReadsAt, ReadsLeaves, arrived_so}
use Rattle.yaml_laws.proofs.InBlock.Texts.{node_ends, behind_indented, indentation_skipped, indentation_col, reaches, pair_ends}
use Rattle.yaml_laws.proofs.InBlock.BehindIndicators.{node_behind, pair_content}
use Rattle.yaml_laws.proofs.InBlock.Parts.{starts_behind, not_empty, some_first, least, frame_indent, suc_is, goes_on, ReadsPart, IsPart, ReadsOtherParts, no_other_parts, parts_so, more_parts}
use Rattle.yaml_laws.proofs.Flow.ContentStarts.{colon_content}

-- the start of a mapping, where one begins
abbrev pub mapping_start : Bool → List Kind
mapping_start further = if further then tokens.BlockMappingStart ∷ [] else []

-- what is shown of a form of a pair
abbrev pub ReadsPair : ℕ → Node → Node → (ℕ → List ℕ → List ℕ → Type 0) → Type 0
ReadsPair limit key value Is =
    ReadsPart limit (grammar.YieldsBlockPair key value (grammar.YieldsNode key grammar.InBlockMapping)
    (grammar.YieldsNode value grammar.InBlockMapping)) mapping_start Is

frame_same : (further : Bool) (f : Frame) (col : ℕ) → nat_le f.indent col ≡ further → f.indent ≤ col + 1
    → (frame_behind further col f).indent ≡ suc col
frame_same further f col e far = frame_indent further f col e far ∙ suc_is col

-- a key and a value
paired : (key value : Node) (us vs others : List Kind)
    → grammar.YieldsOptional key (grammar.YieldsNode key grammar.InBlockMapping) us
    → grammar.YieldsOptional value (grammar.YieldsNode value grammar.InBlockMapping) vs
    → grammar.YieldsBlockPair key value (grammar.YieldsNode key grammar.InBlockMapping)
    (grammar.YieldsNode value grammar.InBlockMapping) others ((tokens.Key ∷ us) ++ (tokens.Value ∷ vs))
paired key value us vs others k v = inl (tokens.Key ∷ us, tokens.Value ∷ vs, (us, k, refl), (vs, v, refl), refl)

-- ## A key on one line

implicit_list : (further : Bool) (ts us vs : List Kind)
    → (ts ++ (key_kinds further ++ (us ++ tokens.Value ∷ []))) ++ vs
    ≡ (ts ++ mapping_start further) ++ ((tokens.Key ∷ us) ++ (tokens.Value ∷ vs))
implicit_list further ts us vs = grind (arith, append_assoc, append-nil)

-- The key is read first, and kept as a candidate. Its colon makes it a key, and begins the mapping where that is not
-- open. So the tokens before the key's are told only after the colon.
reads_implicit : {limit : ℕ} → ReadsLeaves limit → (key value : Node)
    → ReadsAt limit value (IsBlockNode most_open value)
    → ReadsPair limit key value (IsImplicitPair most_open key (IsBlockNode most_open value))
reads_implicit {limit} leaves key value V f n further e far t z
    (node, between, v, node_is, line, are, before, short, h, is) fits behind start ts at_key =
    let g = frame_behind further n.col f in
    let m = moved n (node ++ between) in
    let inside : t ≡ (node ++ between) ++ (58 ∷ v) = is ∙ sym (append_assoc node between (58 ∷ v)) in
    let text = ap (λ (x : List ℕ). x ++ z) is ∙ (simp append_assoc) in
    let whole = fits_so n t ((node ++ between) ++ (58 ∷ v)) z inside fits in
    let fits_colon = fits_back n (node ++ between) (58 ∷ v) z whole in
    let end = ap (moved n) inside ∙ moved_append n (node ++ between) (58 ∷ v) in
    let behind_v = subst (λ (x : Marker). EndsNodeAt (suc n.col) x z) end behind in
    let ahead = node_behind leaves value (BehindKey n.col) v z refl h behind_v.clean in
    let p = subst (λ (y : List ℕ). FreeAt limit start f n y ts) text at_key in
    let r = leaves.key key f n node (v ++ z) (record { text = between; are = are }) far node_is line before short
    ahead.first (fits_front n (node ++ between) (58 ∷ v) z whole) start ts p.at p.allowed in
    let b = reads_colon f n m (v ++ z) ts further e far r (further_right n node between line are) ahead fits_colon.below
    in
    let s = V (BehindKey n.col) g (frame_same further f n.col e far) (along m 1) v z h
    (fits_back m (58 ∷ []) v z fits_colon)
    (rw (frame_same further f n.col e far) behind_v) start _ b in
    record {
      tokens = (tokens.Key ∷ r.tokens) ++ (tokens.Value ∷ s.tokens);
      are = λ others unvalued. paired key value r.tokens s.tokens others (inr r.node_are)
          (as_optional value (BehindKey n.col) s.tokens s.are);
      begins = λ others no. absurd no;
      arrived = arrived_so z end (implicit_list further ts r.tokens s.tokens) s.arrived;
    }
  where
    more : (a b c : ℕ) → a ≤ a + b + c
    more a b c = omega arith

    further_right : (n : Marker) (node w : List ℕ) → IsOnLine node → AreIn is_blank w
        → n.col ≤ (moved n (node ++ w)).col
    further_right n node w line are =
        let place = moved_append n node w ∙ moved_along (moved n node) w (blanks_are_on_line w are)
        ∙ ap (λ (x : Marker). along x (length w)) (moved_along n node line) in
        subst (λ (x : Marker). n.col ≤ x.col) (sym place) (more n.col (length node) (length w))

-- ## `?` alone

some_white : (node z : List ℕ) → node ≢ [] → (node ++ z ≡ []) ⊎ BeginsWhite (node ++ z) → BeginsWhite (node ++ z)
some_white [] z some h = absurd (some refl)
some_white (c ∷ cs) z some (inl e) = absurd (cc)
some_white (c ∷ cs) z some (inr h) = h

alone_list : (further : Bool) (ts us : List Kind)
    → (ts ++ key_kinds further) ++ us ≡ (ts ++ mapping_start further) ++ (tokens.Key ∷ us)
alone_list further ts us = grind (arith, append_assoc, append-nil)

-- The mark is read, and then the key behind it. The value is left out: the grammar asks that no `:` of the mapping's
-- own comes next, which is known of the text (`unvalued`) and of the tokens that are still to come (`ahead`).
reads_alone : {limit : ℕ} → ReadsLeaves limit → (key value : Node) → ReadsAt limit key (IsBlockNode most_open key)
    → ReadsPair limit key value (IsKeyAlone value (IsBlockNode most_open key))
reads_alone {limit} leaves key value K f n further e far t z (node, out, some, h, unvalued, is) fits behind start ts
    at_mark =
    let g = frame_behind further n.col f in
    let text : t ++ z ≡ 63 ∷ (node ++ z) = ap (λ (x : List ℕ). x ++ z) is in
    let whole = fits_so n t ((63 ∷ []) ++ node) z is fits in
    let end = ap (moved n) is in
    let behind_k = subst (λ (x : Marker). EndsNodeAt (suc n.col) x z) end behind in
    let ahead = node_behind leaves key (BehindMark n.col) node z refl h behind_k.clean in
    let p = subst (λ (y : List ℕ). FreeAt limit start f n y ts) text at_mark in
    let b = reads_question f n (node ++ z) further e far (some_white node z some.0 ahead.white)
    (no_tab_ahead (node ++ z) some.1) whole.below p.at p.allowed in
    let r = K (BehindMark n.col) g (frame_same further f n.col e far) (along n 1) node z h
    (fits_back n (63 ∷ []) node z whole) (rw (frame_same further f n.col e far) behind_k) start _ b in
    record {
      tokens = tokens.Key ∷ r.tokens;
      are = λ others ahead. inr (inl (
        out,
        λ first. clash (is_value_ahead false n.col 0 z) (ahead first) unvalued,
        (r.tokens, as_optional key (BehindMark n.col) r.tokens r.are, refl),
      ));
      begins = λ others no. absurd no;
      arrived = arrived_so z end (alone_list further ts r.tokens) r.arrived;
    }

-- ## `:` alone

keyless_list : (further : Bool) (ts vs : List Kind)
    → (ts ++ value_kinds further) ++ vs ≡ (ts ++ mapping_start further) ++ (tokens.Value ∷ vs)
keyless_list further ts vs = grind (arith, append_assoc, append-nil)

-- after a `:` alone, as after that of a key
as_behind_key : {limit : ℕ} {start : State} {ts : List Kind} (f : Frame) (m : Marker) (o : List ℕ)
    → Before limit start (BehindMark m.col) f (along m 1) o ts → Before limit start (BehindKey m.col) f (along m 1) o ts
as_behind_key f m o v = record {
  at = v.at;
  none = v.none;
  allows = λ _. v.allows refl;
  placed = further m.col;
}
  where
    further : (c : ℕ) → c < c + 1
    further c = omega arith

reads_keyless : {limit : ℕ} → ReadsLeaves limit → (key value : Node) → ReadsAt limit value (IsBlockNode most_open value)
    → ReadsPair limit key value (IsKeylessPair key (IsBlockNode most_open value))
reads_keyless {limit} leaves key value V f n further e far t z (v, out, h, is) fits behind start ts at_colon =
    let g = frame_behind further n.col f in
    let text : t ++ z ≡ 58 ∷ (v ++ z) = ap (λ (x : List ℕ). x ++ z) is in
    let whole = fits_so n t ((58 ∷ []) ++ v) z is fits in
    let end = ap (moved n) is in
    let behind_v = subst (λ (x : Marker). EndsNodeAt (suc n.col) x z) end behind in
    let ahead = node_behind leaves value (BehindKey n.col) v z refl h behind_v.clean in
    let p = subst (λ (y : List ℕ). FreeAt limit start f n y ts) text at_colon in
    let b = as_behind_key g n (v ++ z) (reads_value f n (v ++ z) further e far ahead whole.below p.at p.none
    p.allowed) in
    let s = V (BehindKey n.col) g (frame_same further f n.col e far) (along n 1) v z h (fits_back n (58 ∷ []) v z whole)
    (rw (frame_same further f n.col e far) behind_v) start _ b in
    record {
      tokens = tokens.Value ∷ s.tokens;
      are = grind (arith, as_optional);
      begins = grind (arith, value_here);
      arrived = arrived_so z end (keyless_list further ts s.tokens) s.arrived;
    }

-- ## `?` and `:`

no_colon_marker : (m : Marker) (o : List ℕ) → EndsDocument m (58 ∷ o) → ⊥
no_colon_marker m o h = grind arith

marked_list : (further : Bool) (ts us vs : List Kind)
    → (((ts ++ key_kinds further) ++ us) ++ tokens.Value ∷ []) ++ vs
    ≡ (ts ++ mapping_start further) ++ ((tokens.Key ∷ us) ++ (tokens.Value ∷ vs))
marked_list further ts us vs = grind (arith, append_assoc, append-nil)

-- The `:` is on a later line, at the mapping's column. So filler and indentation follow the key, which ends its lines,
-- and the scanner comes to the `:` from a line's start.
reads_marked : {limit : ℕ} → ReadsLeaves limit → (key value : Node) → ReadsAt limit key (IsBlockNode most_open key)
    → ReadsAt limit value (IsBlockNode most_open value)
    → ReadsPair limit key value (IsMarkedPair (IsBlockNode most_open key) (IsBlockNode most_open value))
reads_marked {limit} leaves key value K V f n further e far t z
    (node, colon, v, some, h, (filler, filler_is, colon_is), j, is) fits behind start ts at_mark =
    let g = frame_behind further n.col f in
    let same = frame_same further f n.col e far in
    let y = colon ++ (v ++ z) in
    let w = filler ++ spaces n.col in
    let colon_parts : colon ≡ w ++ (58 ∷ []) = colon_is ∙ sym (append_assoc filler (spaces n.col) (58 ∷ [])) in
    let y_is : y ≡ w ++ (58 ∷ (v ++ z)) = ap (λ (x : List ℕ). x ++ (v ++ z)) colon_parts
    ∙ append_assoc w (58 ∷ []) (v ++ z) in
    let text : t ++ z ≡ 63 ∷ (node ++ y) = ap (λ (x : List ℕ). x ++ z) is ∙ ap (λ (x : List ℕ). 63 ∷ x)
    (append_assoc node (colon ++ v) z ∙ ap (λ (x : List ℕ). node ++ x) (append_assoc colon v z)) in
    let whole = fits_so n t ((63 ∷ []) ++ (node ++ (colon ++ v))) z is fits in
    let fits_in = fits_back n (63 ∷ []) (node ++ (colon ++ v)) z whole in
    let k = moved (along n 1) node in
    let c = moved k w in
    let colon_v : colon ++ v ≡ w ++ (58 ∷ v) = ap (λ (x : List ℕ). x ++ v) colon_parts ∙ append_assoc w (58 ∷ []) v in
    let fits_node = fits_front (along n 1) node (colon ++ v) z fits_in in
    let fits_key : FitsOnLines limit (along n 1) node y =
    subst (FitsOnLines limit (along n 1) node) (append_assoc colon v z) fits_node in
    let fits_rest = fits_so k (colon ++ v) (w ++ (58 ∷ v)) z colon_v
    (fits_back (along n 1) node (colon ++ v) z fits_in) in
    let fits_colon = fits_back k w (58 ∷ v) z fits_rest in
    let first = some_first w (v ++ z) 58 in
    let starts = starts_behind (along n 1) node y (node_ends leaves key (BehindMark n.col) node y h) in
    let line = not_empty k [] y first.0 first.1 starts (y_is ∙ first.2) in
    let indented : IsEntryIndentation n.col w = (filler, filler_is, refl) in
    let col : c.col ≡ n.col = indentation_col k n.col w indented line in
    let behind_k = subst (EndsNodeAt (suc n.col) k) (sym y_is)
    (behind_indented n.col k w 58 (v ++ z) indented colon_content line) in
    let ahead_k = node_behind leaves key (BehindMark n.col) node y refl h behind_k.clean in
    let end = ap (moved n) is ∙ moved_append (along n 1) node (colon ++ v) ∙ ap (moved k) colon_v
    ∙ moved_append k w (58 ∷ v) in
    let behind_v = subst (λ (x : Marker). EndsNodeAt (suc n.col) x z) end behind in
    let ahead_v = node_behind leaves value (BehindMark n.col) v z refl j behind_v.clean in
    let p = subst (λ (x : List ℕ). FreeAt limit start f n x ts) text at_mark in
    let b = reads_question f n (node ++ y) further e far (some_white node y some.0 ahead_k.white)
    (no_tab_ahead (node ++ y) some.1) (subst (λ (x : List ℕ). n.index + length x ≤ limit) text fits.below) p.at
    p.allowed in
    let r = K (BehindMark n.col) g same (along n 1) node y h fits_key (rw same behind_k) start _ b in
    let us = (ts ++ key_kinds further) ++ r.tokens in
    let there : past 0 k y ≡ (c, 58 ∷ (v ++ z)) = ap (past 0 k) y_is
    ∙ reaches k w 58 (v ++ z) (indentation_skipped n.col w indented) colon_content in
    let at_colon = subst (ArrivedAt limit start g us) there r.arrived in
    let ready = goes_on (no_colon_marker c (v ++ z)) at_colon in
    let width = same ∙ sym (suc_is n.col) ∙ ap (λ (i : ℕ). i + 1) (sym col) in
    let before_v = reads_value g c (v ++ z) false (next_not_within g.indent c.col width) (least g.indent c.col width)
    (subst (λ (i : ℕ). IsBehindIndicator true (suc i) (v ++ z)) (sym col) ahead_v) fits_colon.below ready.at
    ready.none ready.allowed in
    let s = V (BehindMark n.col) g same (along c 1) v z j (fits_back c (58 ∷ []) v z fits_colon)
    (rw same behind_v) start _
    (subst (λ (i : ℕ). Before limit start (BehindMark i) g (along c 1) (v ++ z) (us ++ tokens.Value ∷ [])) col
    before_v) in
    record {
      tokens = (tokens.Key ∷ r.tokens) ++ (tokens.Value ∷ s.tokens);
      are = λ others unvalued. paired key value r.tokens s.tokens others
          (as_optional key (BehindMark n.col) r.tokens r.are) (as_optional value (BehindMark n.col) s.tokens s.are);
      begins = λ others no. absurd no;
      arrived = arrived_so z end (marked_list further ts r.tokens s.tokens) s.arrived;
    }

pub reads_pair : {limit : ℕ} → ReadsLeaves limit → (key value : Node) → ReadsAt limit key (IsBlockNode most_open key)
    → ReadsAt limit value (IsBlockNode most_open value)
    → ReadsPair limit key value
    (IsBlockPair most_open key value (IsBlockNode most_open key) (IsBlockNode most_open value))
reads_pair leaves key value K V f n further e far t z (inl (inl h)) fits behind start ts v =
    reads_implicit leaves key value V f n further e far t z h fits behind start ts v
reads_pair leaves key value K V f n further e far t z (inl (inr h)) fits behind start ts v =
    reads_keyless leaves key value V f n further e far t z h fits behind start ts v
reads_pair leaves key value K V f n further e far t z (inr (inl h)) fits behind start ts v =
    reads_alone leaves key value K f n further e far t z h fits behind start ts v
reads_pair leaves key value K V f n further e far t z (inr (inr h)) fits behind start ts v =
    reads_marked leaves key value K V f n further e far t z h fits behind start ts v

-- ## All pairs

pub is_pair : {limit : ℕ} → ReadsLeaves limit → (key value : Node) → ReadsAt limit key (IsBlockNode most_open key)
    → ReadsAt limit value (IsBlockNode most_open value)
    → IsPart limit (grammar.YieldsBlockPair key value (grammar.YieldsNode key grammar.InBlockMapping)
    (grammar.YieldsNode value grammar.InBlockMapping)) mapping_start
    (IsBlockPair most_open key value (IsBlockNode most_open key) (IsBlockNode most_open value))
is_pair leaves key value K V = record {
  content = pair_content leaves key value;
  ends = pair_ends key value (node_ends leaves key) (node_ends leaves value);
  reads = search (reads_pair);
  none = refl;
}

-- what is shown of the pairs after the first
abbrev pub ReadsOtherPairs : ℕ → Pairs → Type 0
ReadsOtherPairs limit pairs = ReadsOtherParts limit (AreOtherPairs most_open pairs) (grammar.YieldBlockPairs pairs)

pub no_other_pairs : {limit : ℕ} → ReadsOtherPairs limit NoPair
no_other_pairs = parts_so (λ column t o h. h) (λ ts h. h) no_other_parts

pub more_pairs : {limit : ℕ} → ReadsLeaves limit → (key value : Node) (pairs : Pairs)
    → ReadsAt limit key (IsBlockNode most_open key) → ReadsAt limit value (IsBlockNode most_open value)
    → ReadsOtherPairs limit pairs → ReadsOtherPairs limit (MorePairs key value pairs)
more_pairs leaves key value pairs K V more =
    parts_so (λ column t o h. h) (λ ts h. h) (more_parts (is_pair leaves key value K V) more)
