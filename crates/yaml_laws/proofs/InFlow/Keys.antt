-- A node in flow style on one line at block level is read as a key.
use Rattle.yaml_laws.proofs.Common.{Bool, List, [], ap, append_assoc, arith, false, inl, inr, length, refl, suc, sym, ℕ, ◌++◌, ◌+◌, ◌∙◌, ◌∷◌, ◌≡◌, ◌≤◌, Some, AreIn, colon, is_blank, is_blank_or_breakz, slice_index, true, Marker, Cursor, Piece, Place, bare_place, Candidate, Kind, State, Alias, Map, Node, Scalar, Seq, most_open, IsBeforeColon, IsFlowNode, IsKeyText, IsOnLine, cursor_at, LeadsTo, place_kinds}
use Rattle.saphyr_scanner.specs.declared.engine.level.Context.TheVariants as context
use Rattle.saphyr_scanner.specs.Grammar.TokenGrammar as grammar
use Rattle.yaml_laws.proofs.InFlow.States.{Around, FlowMoment, state_at, moment}
use Rattle.yaml_laws.proofs.InFlow.KeyLines.{Blanks, Fresh, keyed, deeper_at, first_ready}
use Rattle.yaml_laws.proofs.InBlock.States.{Frame, At, flow_moment}
use Rattle.yaml_laws.proofs.InFlow.KeyFirsts.{plain_key_fresh, key_node_fresh}
use Rattle.yaml_laws.proofs.Flow.States.{after, moved, fits_key, follows_key, FitsKey, IsBehindBlanks, IsClear, ReaderPromises, ReadsText}
use Rattle.yaml_laws.proofs.Flow.Places.{clear_front}
use Rattle.yaml_laws.proofs.Flow.Tokens.{begins_token}
use Rattle.yaml_laws.proofs.Flow.KeyPieces.{blanks_lands}
use Rattle.yaml_laws.proofs.Flow.ScalarNodes.{key_node_passes}
use Rattle.yaml_laws.proofs.Flow.NodesPass.{nodes_close}
use Rattle.yaml_laws.proofs.Flow.ContentStarts.{colon_content, key_text_begins}

-- the text of a key, whatever its form
text_passes : ReaderPromises → (around : Around) → around.pending ≡ around.required → (node : Node) (m : Marker)
    (t w r : List ℕ) → IsKeyText (IsFlowNode most_open node false around.indent) node false around.indent t w
    → (now : FlowMoment) → now.context ≡ context.Block → now.outer ≡ []
    → ReadsText around node m t (w ++ (colon ∷ r)) now
text_passes reads around same node m t w r (inl h) now is none =
    nodes_close reads around same node m t (w ++ (58 ∷ r)) h now is none
text_passes reads around same (Scalar p style value) m t w r (inr (h, e)) now is none =
    rw e (key_node_passes reads around p style value t r m now (rw is h))
text_passes reads around same (Alias name) m t w r (inr (h, e)) now is none = absurd h
text_passes reads around same (Seq p nodes) m t w r (inr (h, e)) now is none = absurd h
text_passes reads around same (Map p pairs) m t w r (inr (h, e)) now is none = absurd h

text_fresh : (around : Around) (indent : ℕ) (node : Node) (t s r : List ℕ)
    → IsKeyText (IsFlowNode most_open node false indent) node false indent t s → Fresh around (t ++ (s ++ (colon ∷ r)))
text_fresh around indent node t s r (inl h) = key_node_fresh around indent most_open node t (s ++ (58 ∷ r)) h
text_fresh around indent node t s r (inr (h, none)) = rw none (plain_key_fresh around indent node t r h)

pub blanks_are_on_line : (w : List ℕ) → AreIn is_blank w → IsOnLine w
blanks_are_on_line [] are = tt
blanks_are_on_line (c ∷ cs) are = grind (arith, blanks_are_on_line cs are.1)

pub both_on_line : (a b : List ℕ) → IsOnLine a → IsOnLine b → IsOnLine (a ++ b)
both_on_line [] b h k = k
both_on_line (c ∷ cs) b h k = (h.0, both_on_line cs b h.1 k)

-- The tokens of a key were read, and the key is still kept. Blanks and its colon come next.
pub record KeyRead (around : Around) (start : State) (k : Candidate) (ps : List Place) (node : Node) (m : Marker)
    (y : List ℕ) : Type 0 where
  pub deeper : Bool
  pub there : Cursor
  pub adjacent : ℕ
  pub line : IsBehindBlanks around.indent there m y
  pub piece : Piece
  pub others : List Place
  pub leads : LeadsTo around.limit
      (state_at around (moment there context.Block (Some k) [] false adjacent (ps ++ bare_place piece ∷ others)) deeper)
      start
  pub tokens : List Kind
  pub are : place_kinds (bare_place piece ∷ others) ≡ tokens
  pub node_are : grammar.YieldsNode node grammar.InBlockMapping tokens
  pub low : adjacent ≤ m.index

kept_leads : (around : Around) (d : Bool) (start : State) (now : FlowMoment) (k : Candidate) (ps : List Place)
    → now.key ≡ Some k → now.allowed ≡ false → now.places ≡ ps → LeadsTo around.limit (state_at around now d) start
    → LeadsTo around.limit (state_at around (record now { key = Some k; allowed = false; places = ps }) d) start
kept_leads around d start now k ps e f g h =
    let same : LeadsTo around.limit
    (state_at around (record now { key = now.key; allowed = now.allowed; places = now.places }) d) start = h in
    rw (e, f, g) at same

-- A key on one line is read from its first character on, up to the blanks before its colon. A key has to be there
-- where that is the column of the innermost collection.
pub key_read : {limit : ℕ} {start : State} {f : Frame} {ts : List Kind} → ReaderPromises → (around : Around)
    → around.pending ≡ false → (node : Node) (m : Marker) (p : List ℕ) (n : Blanks) (r : List ℕ)
    → IsKeyText (IsFlowNode most_open node false (suc m.col)) node false (suc m.col) p n.text → IsOnLine p
    → IsBeforeColon node n.text
    → length (p ++ n.text) ≤ 1024 → is_blank_or_breakz (slice_index r 0) ≡ true → (right : around.column ≤ m.col + 1)
    → IsClear m (p ++ n.text) (colon ∷ r) → m.index + length ((p ++ n.text) ++ (colon ∷ r)) ≤ around.limit
    → (v : At limit start f m (p ++ (n.text ++ (colon ∷ r))) ts)
    → let here : Candidate = record { mark = m; place = length v.places } in
    KeyRead (keyed around (deeper_at around v.deeper m) m right here)
    (state_at around (record (flow_moment v) { allowed = true }) v.deeper) here v.places node
    (moved (moved m p) n.text) (colon ∷ r)
key_read reads around calm node m p n r h line apart short white right clear below v =
    let here : Candidate = record { mark = m; place = length v.places } in
    let inner = keyed around (deeper_at around v.deeper m) m right here in
    let o = n.text ++ (58 ∷ r) in
    let b = key_text_begins false (suc m.col) most_open node p n.text h in
    let front : p ++ o ≡ b.first ∷ (b.others ++ o) = ap (λ (t : List ℕ). t ++ o) b.is in
    let clear_text = clear_front m p n.text (58 ∷ r) clear in
    let token = begins_token m p o b clear_text in
    let now = moment (cursor_at (p ++ o) m v.blank) context.Block (Some here) [] false v.adjacent v.places in
    let fits : FitsKey inner here m p o = record {
      line = refl;
      on_line = line;
      low = next m.col;
      clear = clear_text;
      below = rw (append_assoc p n.text (58 ∷ r)) at below;
      white = n.text;
      are_white = n.are;
      first = 58;
      others = r;
      is = refl;
      content = colon_content;
      near = (omega (arith, short));
    } in
    let ready = rw (sym front) at (first_ready around calm v.deeper v.blank v.key v.adjacent v.places m b.first
    (b.others ++ o)
    b.content right (rw front at token) (rw front at (text_fresh around (suc m.col) node p n.text r h))) in
    let t = text_passes reads inner refl node m p n.text r h now refl refl (fits_key refl here refl fits)
    (follows_key here refl refl n.text r refl n.are apart white) (v.low, inl refl) _ ready in
    let c = rw (t.none (inr (here, refl))) at t.passes in
    let held = c.holds.so here refl refl in
    let ran = c.leads.run v.deeper in
    let known = c.knows in
    let lands = blanks_lands inner.indent (moved m p) o n.text 58 r refl n.are colon_content c.right in
    record {
      deeper = ran.deeper;
      there = c.there;
      adjacent = c.adjacent;
      line = rw lands at held.line;
      piece = known.piece;
      others = known.others;
      leads = kept_leads inner ran.deeper _ (after c) here (v.places ++ bare_place known.piece ∷ known.others) held.is
          held.closed (ap (λ (new : List Place). v.places ++ new) known.is) ran.leads;
      tokens = t.tokens;
      are = ap place_kinds (sym known.is) ∙ c.are;
      node_are = t.are grammar.InBlockMapping;
      low = rw lands at known.low;
    }
  where
    next : (n : ℕ) → suc n ≤ n + 1
    next n = omega arith
