-- Pairs of a key and a value inside flow.
use Rattle.std.proofs.Common.{◌≡◌, ◌≢◌, ℕ, ◌+◌, ◌≤◌, Bool, true, false, List, [], ◌∷◌, ◌++◌, length, slice_index, refl, sym, ap, ◌∙◌, arith, subst, append_assoc, append-nil, IsTrue, ◌⊎◌, inl, inr}
use Rattle.yaml_laws.proofs.Common.{None, Marker, IsSeparation, Context, Kind, Place, Level, is_block, begins_pair, behind_colon, State, Node, left_out, most_open, saved, allows_adjacent, IsColonAndValue, IsBeforeColon, IsKeyAndValue, IsValueAlone, IsFlowNode, IsKeyText}
use Rattle.saphyr_scanner.specs.Grammar.Tokens as tokens
use Rattle.saphyr_scanner.specs.Grammar.TokenGrammar as grammar
use Rattle.yaml_laws.proofs.InFlow.States.{Around, state_at, FlowMoment, moment_in}
use Rattle.yaml_laws.proofs.Flow.States.{moved, past, FitsAround, IsParted, ends_colon, IsBehindNode, Known, PassesPiece, no_key, ended, keeping, IsNodeOrKey, IsNext, PassesNode, after, NodePasses}
use Rattle.yaml_laws.proofs.Flow.Places.{moved_append, right_one}
use Rattle.yaml_laws.proofs.Flow.GapSteps.{past_content, less_on, less_behind}
use Rattle.yaml_laws.proofs.Flow.Fillers.{separation_past, right_behind}
use Rattle.yaml_laws.proofs.Flow.Joins.{join, separation_joins, knowing}
use Rattle.yaml_laws.proofs.Flow.Values.{key_kinds, colon_flows, colon_passes, alone_kinds, value_passes}
use Rattle.yaml_laws.proofs.Flow.ContentStarts.{content_front, node_content, colon_content}
use Rattle.yaml_laws.proofs.Flow.Pieces.{fits_front, fits_back, fits_so, fits_before, IsBehindEntry, entry_behind, entry_parted, parted_by, white_ends_colon, entry_ends_colon}

-- The tokens of a piece, of which something is told, and the run over its text.
pub record PieceTokens (around : Around) (start : Bool → State) (Is : List Kind → Type 0) (x : Context)
    (ls : List Level) (ps : List Place) (m : Marker) (o : List ℕ) : Type 0 where
  pub tokens : List Kind
  pub are : Is tokens
  pub passes : PassesPiece around start (ended around.indent m o) x ls ps m o tokens

pub mapped_at : {around : Around} {start : Bool → State} {Is : List Kind → Type 0} {x : Context} {ls : List Level}
    {ps : List Place} {o : List ℕ} (m n : Marker) → m ≡ n → PieceTokens around start Is x ls ps m o
    → PieceTokens around start Is x ls ps n o
mapped_at {around} {start} {Is} {x} {ls} {ps} {o} m n e t = grind arith

pub mapped_so : {around : Around} {start : Bool → State} {Is Are : List Kind → Type 0} {x : Context} {ls : List Level}
    {ps : List Place} {m : Marker} {o : List ℕ} → ((t : List Kind) → Is t → Are t)
    → PieceTokens around start Is x ls ps m o → PieceTokens around start Are x ls ps m o
mapped_so f t = record { tokens = t.tokens; are = f t.tokens t.are; passes = t.passes }

-- the tokens of a value that may be left out
abbrev pub ValueTokens : Node → List Kind → Type 0
ValueTokens value vs = grammar.YieldsOptional value (grammar.YieldsNode value grammar.InFlow) vs

-- ## The value

-- what comes after a colon, up to the value's end
abbrev pub IsValueText : ℕ → ℕ → Node → List ℕ → Type 0
IsValueText indent room value rest = ((value ≡ left_out) × (rest ≡ []))
    ⊎ ((separation node : List ℕ) × IsSeparation indent separation × IsFlowNode room value true indent node
    × (rest ≡ separation ++ node))

-- Behind a colon the value is left out, and nothing is passed, or separation and a node are. The run p over what was
-- before leads to the separation's end (`separation_joins`), and the node's run begins there.
pub value_behind : {around : Around} {start : Bool → State} {ls : List Level} {ps : List Place} {ts : List Kind}
    (room : ℕ) (value : Node) → PassesNode around room value → (y : Context) → is_block y ≡ false
    → (m : Marker) (rest o : List ℕ)
    → FitsAround around m rest o → IsBehindEntry around.indent o → room + length ls ≤ most_open
    → IsValueText around.indent room value rest → PassesPiece around start (no_key m) y ls ps m (rest ++ o) ts
    → PieceTokens around start (λ t. (vs : List Kind) × ValueTokens value vs × (t ≡ ts ++ vs)) y ls ps (moved m rest) o
value_behind {around} {start} {ls} {ps} {ts} room value V y flows m rest o fits ends low (inl (none, e)) p =
    let q : PassesPiece around start (no_key m) y ls ps (moved m rest) o ts = grind (arith, no_key, moved) in
    record {
      tokens = ts;
      are = ([], inl (none, refl), sym (append-nil ts));
      passes =
          knowing q (ended around.indent (moved m rest) o) (less_behind around.indent q.adjacent m rest o q.knows.2);
    }
value_behind {around} {start} {ls} {ps} {ts} room value V y flows m rest o fits ends low
    (inr (separation, node, parts, h, e)) p =
    let right = right_behind around.indent m separation parts fits.right in
    let f = fits_back m separation node o right (fits_so m rest (separation ++ node) o e fits) in
    let text : rest ++ o ≡ separation ++ (node ++ o) = ap (λ (t : List ℕ). t ++ o) e ∙ append_assoc separation node o in
    let q = separation_joins m separation (node ++ o) parts
    (subst (λ (t : List ℕ). PassesPiece around start (no_key m) y ls ps m t ts) text p) in
    let n = V (moved m separation) node o (inl h) (entry_behind around.indent value o ends) (after q) flows
    (record { fits = f; enough = low; low = less_on q.adjacent m separation q.knows.2; stands = q.fits }) in
    mapped_at (moved (moved m separation) node) (moved m rest)
    (sym (moved_append m separation node) ∙ ap (moved m) (sym e))
    (record {
      tokens = ts ++ n.tokens;
      are = (n.tokens, inr n.are, refl);
      passes = join q n.passes (ended around.indent (moved (moved m separation) node) o) n.passes.knows.low;
    })

-- a colon and what comes after it
pub record IsColonText (indent room : ℕ) (adjacent : Bool) (value : Node) (colon o : List ℕ) : Type 0 where
  pub rest : List ℕ
  pub is : colon ≡ 58 ∷ rest
  pub parted : IsParted indent (rest ++ o)
  pub ends : IsTrue adjacent ⊎ IsTrue (ends_colon (slice_index (rest ++ o) 0))
  pub value_text : IsValueText indent room value rest

-- By whether the value is left out. What may end the colon is what follows: the end of the entry, separation that isn't
-- empty, or, behind a quote or a bracket, anything.
pub is_colon_text : (indent room : ℕ) (adjacent : Bool) (value : Node) (colon o : List ℕ) → IsBehindEntry indent o
    → IsColonAndValue adjacent value (IsFlowNode room value true indent) indent colon
    → IsColonText indent room adjacent value colon o
is_colon_text indent room adjacent value colon o ends (inl (none, e)) =
    record {
      rest = [];
      is = e;
      parted = entry_parted indent o ends;
      ends = inr (entry_ends_colon indent o ends);
      value_text = inl (none, refl);
    }
is_colon_text indent room adjacent value colon o ends (inr (separation, node, parts, apart, h, e)) =
    let assoc = sym (append_assoc separation node o) in
    record {
      rest = separation ++ node;
      is = e;
      parted = grind (arith, parted_by, content_front, node_content);
      ends = by_part apart;
      value_text = inr (separation, node, parts, h, refl);
    }
  where
    by_part : (separation ≢ []) ⊎ IsTrue adjacent
        → IsTrue adjacent ⊎ IsTrue (ends_colon (slice_index ((separation ++ node) ++ o) 0))
    by_part (inl some) = inr (subst (λ (t : List ℕ). IsTrue (ends_colon (slice_index t 0)))
        (sym (append_assoc separation node o)) (white_ends_colon indent separation (node ++ o) parts some))
    by_part (inr k) = inl k

-- ## A key and a value

abbrev pub PairTokens : List Kind → Node → Node → List Kind → Type 0
PairTokens front key value t = (ks vs : List Kind) × grammar.YieldsNode key grammar.InFlow ks × ValueTokens value vs
    × (t ≡ front ++ (ks ++ tokens.Value ∷ vs))

key_followed : (indent room : ℕ) (key value : Node) (separation rest o : List ℕ) → IsSeparation indent separation
    → IsBeforeColon key separation
    → (IsTrue (allows_adjacent key separation) ⊎ IsTrue (ends_colon (slice_index (rest ++ o) 0)))
    → IsBehindNode indent key (separation ++ (58 ∷ (rest ++ o)))
key_followed indent room key value separation rest o parts apart ends = grind (arith)

-- what is passed before the colon
node_or_key : (indent room : ℕ) (key : Node) (t separation r : List ℕ)
    → IsKeyText (IsFlowNode room key true indent) key true indent t separation
    → IsNodeOrKey room key indent t (separation ++ (58 ∷ r))
node_or_key indent room key t separation r (inl h) = inl h
node_or_key indent room key t separation r (inr (h, none)) = inr (h, (r, ap (λ (x : List ℕ). x ++ (58 ∷ r)) none))

value_regrouped : (front ks vs : List Kind)
    → (front ++ (ks ++ tokens.Value ∷ [])) ++ vs ≡ front ++ (ks ++ tokens.Value ∷ vs)
value_regrouped front ks vs = simp append_assoc

whole_moved : (m : Marker) (t node separation rest : List ℕ) → t ≡ node ++ (separation ++ (58 ∷ rest))
    → moved (moved (moved (moved m node) separation) (58 ∷ [])) rest ≡ moved m t
whole_moved m t node separation rest e = grind (arith, moved, moved_append)

-- A key and a value, where the colon after the key is passed with these tokens before the key. The key's node is passed
-- first, with its colon among what follows. Then `pass` tells of the colon, and `value_behind` of the value. The rest
-- is the text, of which three groupings are needed, and its places.
key_and_value : {around : Around} (room : ℕ) (key value : Node) → PassesNode around room key
    → PassesNode around room value → (front : List Kind) (y : Context) → is_block y ≡ false → (m : Marker)
    (t o : List ℕ) → IsBehindEntry around.indent o
    → (h : IsKeyAndValue key value (IsFlowNode room key true around.indent) (IsFlowNode room value true around.indent)
    around.indent t) → (now : FlowMoment) → IsNext around room now m t o
    → ((more : List ℕ) → FitsAround around (moved (moved m h.0) h.1) (58 ∷ []) more → IsParted around.indent more
    → IsTrue (allows_adjacent key h.1) ⊎ IsTrue (ends_colon (slice_index more 0))
    → (n : NodePasses around (moment_in y now) key m h.0 (h.1 ++ (58 ∷ more)))
    → PassesPiece around (state_at around (moment_in y now)) (no_key (moved (moved (moved m h.0) h.1) (58 ∷ [])))
    (behind_colon y) now.outer now.places (moved (moved (moved m h.0) h.1) (58 ∷ [])) more
    (front ++ (n.tokens ++ tokens.Value ∷ [])))
    → PieceTokens around (state_at around (moment_in y now)) (PairTokens front key value) (behind_colon y) now.outer
    now.places (moved m t) o
key_and_value {around} room key value K V front y flows m t o ends (node, separation, colon, h, parts, apart, c, e)
    now next pass =
    let x = is_colon_text around.indent room (allows_adjacent key separation) value colon o ends c in
    let rest = x.rest in
    let is : t ≡ node ++ (separation ++ (58 ∷ rest)) = e ∙ ap (λ (z : List ℕ). node ++ (separation ++ z)) x.is in
    let follow : (separation ++ (58 ∷ rest)) ++ o ≡ separation ++ (58 ∷ (rest ++ o)) =
    append_assoc separation (58 ∷ rest) o in
    let whole = fits_so m t (node ++ (separation ++ (58 ∷ rest))) o is next.fits in
    let node_fits = fits_before m node ((separation ++ (58 ∷ rest)) ++ o) (separation ++ (58 ∷ (rest ++ o))) follow
    (fits_front m node (separation ++ (58 ∷ rest)) o whole) in
    let at_end = moved m node in
    let here = moved at_end separation in
    let texts : t ++ o ≡ node ++ (separation ++ (58 ∷ (rest ++ o))) =
    ap (λ (z : List ℕ). z ++ o) is ∙ append_assoc node (separation ++ (58 ∷ rest)) o
    ∙ ap (λ (z : List ℕ). node ++ z) follow in
    let n = K m node (separation ++ (58 ∷ (rest ++ o)))
    (node_or_key around.indent room key node separation (rest ++ o) h)
    (key_followed around.indent room key value separation rest o parts apart x.ends) (moment_in y now) flows (record {
      fits = node_fits;
      enough = next.enough;
      low = next.low;
      stands = next.stands ∙ ap (past around.indent m) texts;
    }) in
    let at_colon_right = right_behind around.indent at_end separation parts n.passes.right in
    let colon_fits = fits_back at_end separation (58 ∷ rest) o at_colon_right
    (fits_back m node (separation ++ (58 ∷ rest)) o n.passes.right whole) in
    let v = value_behind room value V (behind_colon y) (colon_flows y flows) (moved here (58 ∷ [])) rest o
    (fits_back here (58 ∷ []) rest o (right_one around.indent here 58 refl at_colon_right) colon_fits) ends next.enough
    x.value_text (pass (rest ++ o) (fits_front here (58 ∷ []) rest o colon_fits) x.parted x.ends n) in
    mapped_at (moved (moved here (58 ∷ [])) rest) (moved m t) (whole_moved m t node separation rest is)
    (record {
      tokens = v.tokens;
      are = (n.tokens, v.are.0, n.are, v.are.1, v.are.2 ∙ value_regrouped front n.tokens v.are.0);
      passes = v.passes;
    })

-- a key that may be one, without a mark before it
pub key_passes : {around : Around} (room : ℕ) (key value : Node) → PassesNode around room key
    → PassesNode around room value → (y : Context) → is_block y ≡ false → (m : Marker) (t o : List ℕ)
    → IsBehindEntry around.indent o
    → (h : IsKeyAndValue key value (IsFlowNode room key true around.indent) (IsFlowNode room value true around.indent)
    around.indent t) → (begins_pair y ≡ true → m.line ≡ (moved (moved m h.0) h.1).line)
    → (now : FlowMoment) → now.allowed ≡ true → IsNext around room now m t o
    → PieceTokens around (state_at around (moment_in y now)) (PairTokens (key_kinds (begins_pair y)) key value)
    (behind_colon y) now.outer now.places (moved m t) o
key_passes {around} room key value K V y flows m t o ends h line now fresh next =
    key_and_value room key value K V (key_kinds (begins_pair y)) y flows m t o ends h now next
    (λ more colon_fits parted colon_ends n. colon_passes around y flows m (moved m h.0) key h.1 more h.4 colon_fits
    parted colon_ends line (keeping (moment_in y now) m h.0) (ap (λ (b : Bool). saved b (length now.places) m now.key)
    fresh) n.passes)

-- ## A value without a key

abbrev pub AloneTokens : List Kind → Node → List Kind → Type 0
AloneTokens front value t = (vs : List Kind) × ValueTokens value vs × (t ≡ front ++ (tokens.Value ∷ vs))

-- The colon is passed where no key is kept (`value_passes`), and then the value. No quote or bracket is before it, so
-- what follows has to end it (`by_end`).
pub alone_passes : {around : Around} (room : ℕ) (key value : Node) → PassesNode around room value → (y : Context)
    → is_block y ≡ false → (m : Marker) (t o : List ℕ) → IsBehindEntry around.indent o
    → IsValueAlone key value (IsFlowNode room value true around.indent) around.indent t
    → (now : FlowMoment) → now.key ≡ None → IsNext around room now m t o
    → PieceTokens around (state_at around (moment_in y now)) (AloneTokens (alone_kinds (begins_pair y)) value)
    (behind_colon y) now.outer now.places (moved m t) o
alone_passes {around} room key value V y flows m t o ends (none, c) now no_candidate next =
    let x = is_colon_text around.indent room false value t o ends c in
    let rest = x.rest in
    let whole = fits_so m t (58 ∷ rest) o x.is next.fits in
    let before = next.low in
    let mark_fits = fits_front m (58 ∷ []) rest o whole in
    let p = value_passes around y flows m (rest ++ o) mark_fits x.parted now no_candidate
    (by_end (slice_index (rest ++ o) 0) x.ends) (omega (arith, before))
    (next.stands ∙ ap (λ (z : List ℕ). past around.indent m (z ++ o)) x.is) in
    let v = value_behind room value V (behind_colon y) (colon_flows y flows) (moved m (58 ∷ [])) rest o
    (fits_back m (58 ∷ []) rest o (right_one around.indent m 58 refl whole.right) whole) ends next.enough x.value_text p
    in
    mapped_at (moved (moved m (58 ∷ [])) rest) (moved m t) (ap (moved m) (sym x.is))
    (record {
      tokens = v.tokens;
      are = (v.are.0, v.are.1, v.are.2 ∙ append_assoc (alone_kinds (begins_pair y)) (tokens.Value ∷ []) v.are.0);
      passes = v.passes;
    })
  where
    by_end : (c : ℕ) → IsTrue false ⊎ IsTrue (ends_colon c) → (m.index ≡ now.adjacent) ⊎ IsTrue (ends_colon c)
    by_end c (inl h) = absurd (cc)
    by_end c (inr h) = inr h

-- ## A key and a value after a mark

-- before a colon: no key is kept, and the colon may come at once, or what comes after it ends it
abbrev at_colon : Marker → ℕ → Known
at_colon here second key allowed adjacent new =
    (key ≡ None) × ((here.index ≡ adjacent) ⊎ IsTrue (ends_colon second)) × (adjacent ≤ here.index)

-- after `?` no key is kept
pub marked_key_passes : {around : Around} (room : ℕ) (key value : Node) → PassesNode around room key
    → PassesNode around room value → (y : Context) → is_block y ≡ false → begins_pair y ≡ false
    → (m : Marker) (t o : List ℕ) → IsBehindEntry around.indent o
    → IsKeyAndValue key value (IsFlowNode room key true around.indent) (IsFlowNode room value true around.indent)
    around.indent t → (now : FlowMoment) → now.key ≡ None → now.allowed ≡ false → IsNext around room now m t o
    → PieceTokens around (state_at around (moment_in y now)) (PairTokens [] key value) (behind_colon y) now.outer
    now.places (moved m t) o
marked_key_passes {around} room key value K V y flows no_pair m t o ends h now no_candidate none_allowed next =
    key_and_value room key value K V [] y flows m t o ends h now next colon
  where
    by_place : (w : List ℕ) (c adjacent index : ℕ) → IsTrue (allows_adjacent key w) ⊎ IsTrue (ends_colon c)
        → (IsTrue (allows_adjacent key w) → adjacent ≡ index) → (index ≡ adjacent) ⊎ IsTrue (ends_colon c)
    by_place w c adjacent index (inl h) near = inl (sym (near h))
    by_place w c adjacent index (inr h) near = inr h

    colon : (more : List ℕ) → FitsAround around (moved (moved m h.0) h.1) (58 ∷ []) more → IsParted around.indent more
        → IsTrue (allows_adjacent key h.1) ⊎ IsTrue (ends_colon (slice_index more 0))
        → (n : NodePasses around (moment_in y now) key m h.0 (h.1 ++ (58 ∷ more)))
        → PassesPiece around (state_at around (moment_in y now))
        (no_key (moved (moved (moved m h.0) h.1) (58 ∷ []))) (behind_colon y) now.outer now.places
        (moved (moved (moved m h.0) h.1) (58 ∷ [])) more (n.tokens ++ tokens.Value ∷ [])
    colon more colon_fits parted colon_ends n =
        let at_end = moved m h.0 in
        let here = moved at_end h.1 in
        let known = n.passes.knows in
        let second = slice_index more 0 in
        let lands = separation_past around.indent at_end h.1 (58 ∷ more) h.4 n.passes.right
        ∙ past_content around.indent here 58 more colon_content in
        let given : at_colon here second n.passes.key n.passes.allowed n.passes.adjacent n.passes.new = (
          known.keeps flows ∙ (rw (none_allowed, no_candidate) refl),
          by_place h.1 second n.passes.adjacent here.index colon_ends (known.near flows h.1 more refl h.4),
          subst (λ (z : Marker × List ℕ). n.passes.adjacent ≤ z.0.index) lands known.low,
        ) in
        let q = separation_joins at_end h.1 (58 ∷ more) h.4 (knowing n.passes (at_colon here second) given) in
        let p = value_passes around y flows here more colon_fits parted (after q) q.knows.0 q.knows.1 q.knows.2 q.fits
        in
        subst (λ (b : Bool). PassesPiece around (state_at around (moment_in y now)) (no_key (moved here (58 ∷ [])))
        (behind_colon y) now.outer now.places (moved here (58 ∷ [])) more
        (n.tokens ++ (alone_kinds b ++ tokens.Value ∷ []))) no_pair (join q p (no_key (moved here (58 ∷ []))) p.knows)
