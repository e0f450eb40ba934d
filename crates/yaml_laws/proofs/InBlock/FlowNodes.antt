-- Keys on one line are read at block level, and nodes in flow style, up to what is left of them (YAML 1.2.2, 8.2.3).
use Rattle.yaml_laws.proofs.Common.{Bool, List, [], ap, append_assoc, arith, false, inl, inr, length, refl, slice_index, subst, suc, sym, true, ℕ, ◌++◌, ◌+◌, ◌<◌, ◌^◌, ◌∙◌, ◌∷◌, ◌≡◌, ◌≤◌, ◌⊎◌, None, Option, Some, if◌then◌else◌, nat_le, nat_lt, not, ◌&&◌, ◌-◌, ◌==◌, ◌||◌, is_z, line_feed, can_be_plain, is_document_indicator, Marker, IsEol, least_column, Candidate, Place, State, Node, Kind, most_open, IsFlowInBlock, IsFlowNode, IsOnLine, or_true_swap, place_kinds_append, length-append}
use Rattle.saphyr_scanner.specs.declared.engine.level.Context.TheVariants as context
use Rattle.saphyr_scanner.specs.Steps.Passing.{goes_on_behind}
use Rattle.yaml_laws.proofs.InFlow.States.{Around, state_at, not_more, least_low, least}
use Rattle.yaml_laws.proofs.Flow.States as flow
use Rattle.yaml_laws.proofs.Flow.Places.{moved_append, moved_count, moved_along}
use Rattle.yaml_laws.proofs.Flow.Fillers.{rest_past}
use Rattle.yaml_laws.proofs.Flow.ContentStarts.{node_begins, node_content, colon_content}
use Rattle.yaml_laws.proofs.Flow.Tokens.{text_ready}
use Rattle.yaml_laws.proofs.Documents.Lines.{eol}
use Rattle.yaml_laws.proofs.Flow.NodesPass.{nodes_close}
use Rattle.yaml_laws.proofs.InBlock.States.{Frame, Moment, core_of, IsStop, IsLeftOf, At, Before, flow_moment, moment_there, state_of, tabbed, GoesOnAs, moved, past, crosses, EndsDocument, IsLeft, IsBehindRoot, Since, ReaderPromises}
use Rattle.yaml_laws.proofs.InBlock.Gaps.{past_stops}
use Rattle.yaml_laws.proofs.InBlock.Follows.{goes_alike, goes_on, IsQuiet, lands, left_key, left_again}
use Rattle.yaml_laws.proofs.InBlock.Lines.{IsLined, FitsOnLines, fits_front, fits_back, fits_so, later_line, moved_lined, past_line}
use Rattle.yaml_laws.proofs.InBlock.Scalars.{gap_reaches, lands_behind}
use Rattle.yaml_laws.proofs.InBlock.Crossings.{content_crosses}
use Rattle.yaml_laws.proofs.InBlock.Statements.{context_at, ReadsAt, ReadsKey}
use Rattle.yaml_laws.proofs.InBlock.BehindIndicators.{further_content}
use Rattle.yaml_laws.proofs.InBlock.Untabbed.{clean_past, settles}
use Rattle.yaml_laws.proofs.InFlow.KeyLines.{deeper_at, is_required}
use Rattle.yaml_laws.proofs.Flow.KeyPieces.{IsNear, blanks_lands, not_far}
use Rattle.yaml_laws.proofs.InFlow.Keys.{key_read, blanks_are_on_line, both_on_line}
use Rattle.yaml_laws.proofs.InBlock.Skips.{right_untabbed}
use Rattle.yaml_laws.proofs.InBlock.Texts.{content_clean}
use Rattle.yaml_laws.proofs.Documents.Stands.{none_of, document_ends_by_test}

-- a frame without what is required
abbrev pub around_of : ℕ → Frame → Around
around_of limit f = record {
  limit = limit;
  column = f.indent;
  indent = f.indent;
  low = not_more f.indent;
  outers = f.outers;
  pending = false;
  required = false;
  held = None;
}

-- after a text on a key's line
line_near : (m : Marker) (place : ℕ) (t : List ℕ) → IsOnLine t → length t ≤ 1024
    → IsNear (record { mark = m; place = place }) (moved m t)
line_near m place t line short = grind (arith, moved_along)

-- The run over the key's text and the blanks behind it is `key_read`. What is left to tell is the moment that it leads
-- to: the key is its candidate and not too far away, since the text is short, and only blanks are before the colon.
pub reads_key : ReaderPromises → (limit : ℕ) (node : Node) → ReadsKey limit node
reads_key reads limit node f m t o n far h line apart short white fits start ts v allowed =
    let around = around_of limit f in
    let y = t ++ (n.text ++ (58 ∷ o)) in
    let k : Candidate = record { mark = m; place = length v.places } in
    let r = key_read reads around refl node m t n o h line apart short white far fits.clear fits.below v
    in
    let a = r.line in
    let moment : Moment = record {
      cursor = r.there;
      key = Some k;
      allowed = false;
      adjacent = r.adjacent;
      deeper = r.deeper;
      required = is_required around (deeper_at around v.deeper m) m;
      comment = None;
    } in
    let before : GoesOnAs limit start (state_of f (record (moment_there v v.deeper) { allowed = true }) v.places) =
    subst (λ (b : Bool). GoesOnAs limit start (state_of f (record (moment_there v v.deeper) { allowed = b }) v.places))
    allowed v.follows in
    let place : moved (moved m t) n.text ≡ moved m (t ++ n.text) = sym (moved_append m t n.text) in
    let right = further f.indent m.col r.there.mark.col far a.right in
    record {
      moment = moment;
      places = v.places;
      key = r.piece;
      others = r.others;
      follows = goes_on before r.leads;
      first = v.are;
      tokens = r.tokens;
      are = r.are;
      node_are = r.node_are;
      candidate = refl;
      quiet = refl;
      lands = blanks_lands 0 r.there.mark r.there.rest a.white 58 o a.rest a.are colon_content
          (none_left r.there.mark.col)
          ∙ ap (λ (p : Marker). (p, 58 ∷ o)) (a.mark ∙ place);
      untabbed = ap (tabbed (least f.indent r.deeper) r.there.mark r.there.blank_so_far false) a.rest
          ∙ right_untabbed (least f.indent r.deeper) f.indent (least_low f.indent r.deeper) a.white (58 ∷ o) a.are
          (content_clean 58 o colon_content) r.there.mark r.there.blank_so_far right;
      near = not_far k (moved m (t ++ n.text))
          (line_near m (length v.places) (t ++ n.text) (both_on_line t n.text line (blanks_are_on_line n.text n.are))
          short);
      low = subst (λ (p : Marker). r.adjacent ≤ p.index) place r.low;
    }
  where
    none_left : (n : ℕ) → 0 ≤ n
    none_left n = omega arith

    further : (i n col : ℕ) → i ≤ n + 1 → suc n ≤ col → i ≤ col
    further i n col h k = omega (arith, h, k)

-- ## What comes after the end of its line

-- what comes after the end of a line is reached from its start
eol_moved : (column : ℕ) (m : Marker) (end o : List ℕ) → IsEol end o → column ≤ m.col
    → past column m (end ++ o) ≡ past column (moved m end) o
eol_moved column m end o h k = grind (arith, append_assoc, past, rest_past, moved, moved_append)

left_of : (deeper : Bool) (i col : ℕ) → col < i → (if deeper then nat_lt i col else nat_le i col) ≡ false
left_of deeper i col h = grind arith

-- a comment that ended a plain scalar does not intercept what is left of the scalar
quiet_left : (f : Frame) (n : Moment) (m : Marker) (y : List ℕ) → IsLeftOf f.indent m y → IsQuiet f n m y
unfolding goes_on_behind
quiet_left f n m y h = inr (λ comment blank. none_of true (m.line - comment.line == 1)
    (if n.deeper then nat_lt f.indent m.col else nat_le f.indent m.col) (not (is_z (slice_index y 0)))
    (not ((m.col == 0) && is_document_indicator y)) (can_be_plain false y) (by_end h))
  where
    by_end : IsLeftOf f.indent m y
        → ((if n.deeper then nat_lt f.indent m.col else nat_le f.indent m.col) ≡ false)
        ⊎ ((not (is_z (slice_index y 0)) ≡ false)
        ⊎ ((not ((m.col == 0) && is_document_indicator y) ≡ false) ⊎ (can_be_plain false y ≡ false)))
    by_end (inl ends) = inr (document_ends_by_test m y ends)
    by_end (inr left) = inl (left_of n.deeper f.indent m.col left)

-- ## What may be a key after it

-- after a break at the end of a text and what is passed then is a later line
later_end : (limit : ℕ) → limit < 2 ^ 63 → (m : Marker) (a b rest o : List ℕ) → IsLined m
    → m.index + length ((a ++ (b ++ (rest ++ (line_feed ∷ [])))) ++ o) ≤ limit
    → (moved m a).line < (past 0 (moved m (a ++ (b ++ (rest ++ (line_feed ∷ []))))) o).0.line
later_end limit short m a b rest o lined below =
    let p = moved m a in
    let w = (b ++ rest) ++ (10 ∷ []) in
    let same : b ++ (rest ++ (10 ∷ [])) ≡ w = sym (append_assoc b rest (10 ∷ [])) in
    let size = ap length (ap (λ (x : List ℕ). (a ++ x) ++ o) same ∙ append_assoc a w o) in
    let first = moved_count m a (w ++ o) in
    let parts = length-append w o in
    let down = later_line p (b ++ rest) [] (moved_lined m a lined) (omega (arith, short, below, size, first, parts)) in
    let on = past_line (moved p w) o (moved_lined p w (moved_lined m a lined))
    (omega (arith, short, below, size, first, moved_count p w o)) in
    subst (λ (k : Marker). p.line < (past 0 k o).0.line)
    (sym (ap (λ (x : List ℕ). moved m (a ++ x)) same ∙ moved_append m a w)) (omega (arith, down, on))

-- after a node and the end of its line the document ends, or a key may begin and none is kept
what_comes : (limit : ℕ) → limit < 2 ^ 63 → (m : Marker) (t : List ℕ) (at : Marker) (text end o : List ℕ)
    → moved m t ≡ moved (moved at text) end → FitsOnLines limit at (text ++ end) o → IsEol end o
    → (k : Option Candidate) → k ≡ None → (key : Option Candidate) → Since k at text key
    → (allowed : Bool) (left : List ℕ) → (crosses (end ++ o) ≡ true → (allowed || crosses left) ≡ true)
    → EndsDocument (past 0 (moved m t) o).0 (past 0 (moved m t) o).1
    ⊎ ((left_key key (past 0 (moved m t) o).0 ≡ None) × ((crosses left || allowed) ≡ true))
what_comes limit short m t at text end o place fits h k none_before key since allowed left fresh =
    grind (arith, or_true_swap, append_assoc, content_crosses, moved_append, later_end)

-- ## The node

-- what comes after a node, as its runs ask for it
behind_root : (limit : ℕ) (f : Frame) (n : Marker) (end o : List ℕ) → IsEol end o → (q : Marker × List ℕ)
    → (f.indent ≤ n.col → past f.indent n (end ++ o) ≡ q) → IsStop q.1 → IsLeftOf f.indent q.0 q.1
    → IsBehindRoot (around_of limit f) n (end ++ o)
behind_root limit f n end o h q is stop left =
    let e = eol n end o h in
    record {
      rest = e.rest;
      more = e.more;
      is = e.is;
      line = e.line;
      break = e.break;
      lands = grind (arith, by_text);
    }
  where
    by_text : (m : Marker) (y : List ℕ) → IsStop y → IsLeftOf f.indent m y → EndsDocument m y ⊎ IsLeft f.indent m y
    by_text m y stop (inl k) = inl k
    by_text m [] stop (inr k) = inl (inl refl)
    by_text m (c ∷ cs) stop (inr k) = inr (record { left = k; first = c; others = cs; is = refl; blank = stop.0 })

-- a moment after a piece
abbrev behind_piece : {comment : Option Marker} {around : Around} {begun : Bool → State} {known : flow.Known}
    {n : Marker} {o : List ℕ} {ps : List Place} {us : List Kind}
    → flow.PassesNoting comment around begun known context.Block [] ps n o us → Bool → Moment
behind_piece {comment} c d = record {
  cursor = c.there;
  key = c.key;
  allowed = c.allowed;
  adjacent = c.adjacent;
  deeper = d;
  required = false;
  comment = comment;
}

-- The scanner goes on after a piece in flow style as from the token at q.
abbrev pub goes_behind : {limit : ℕ} {start : State} {f : Frame} {m : Marker} {y : List ℕ} {ts us : List Kind}
    (v : At limit start f m y ts) {comment : Option Marker} {known : flow.Known} {n : Marker} {o : List ℕ}
    → (c : flow.PassesNoting comment (around_of limit f) (state_at (around_of limit f) (flow_moment v)) known
    context.Block [] v.places n o us) → c.adjacent ≤ (past f.indent n o).0.index
    → (q : Marker × List ℕ) → past f.indent n o ≡ q → IsStop q.1 → ((d : Bool) → IsQuiet f (behind_piece c d) q.0 q.1)
    → At limit start f q.0 q.1 (ts ++ us)
goes_behind {limit} {start} {f} {ts = ts} {us} v {n = n} {o} c low q lands_at stop quiet =
    let ran = c.leads.run v.deeper in
    let there = behind_piece c ran.deeper in
    let reached : past f.indent c.there.mark c.there.rest ≡ q = c.fits ∙ lands_at in
    let s = settles f.indent c.there.mark c.there.rest
    (subst (λ (z : Marker × List ℕ). IsStop z.1) (sym reached) stop) in
    let clean = s.1 (least_column (core_of f there)) (least_low f.indent ran.deeper) c.there.blank_so_far in
    let land = lands f there (v.places ++ c.new) q.0 q.1 refl (s.0 ∙ reached) clean (quiet ran.deeper) in
    record {
      blank = land.0;
      key = left_key c.key q.0;
      allowed = crosses c.there.rest || c.allowed;
      adjacent = c.adjacent;
      deeper = ran.deeper;
      places = v.places ++ c.new;
      follows = goes_alike (goes_on v.follows ran.leads) land.1 refl;
      stop = stop;
      near = left_again c.key q.0;
      are = cc (place_kinds_append v.places c.new);
      low = subst (λ (z : Marker × List ℕ). c.adjacent ≤ z.0.index) lands_at low;
    }

-- A node in flow style at block level. The gap in front of it is passed, and the node is by `nodes_close`, of the laws
-- on flow style, with the rest of its line as what comes behind (`behind_root`). In the words of blocks its end is told
-- at the next token: which key is left there, and whether one may begin (`what_comes`).
pub reads_flow : ReaderPromises → (limit : ℕ) → limit < 2 ^ 63 → (node : Node)
    → ReadsAt limit node (IsFlowInBlock most_open node)
reads_flow reads limit short node place f same m t o (gap, text, end, gap_is, node_is, apart, end_is, e) fits behind
    start ts before =
    let around = around_of limit f in
    let at = moved m gap in
    let n = moved at text in
    let rest = end ++ o in
    let whole : t ++ o ≡ gap ++ (text ++ rest) = cc (append_assoc gap (text ++ end) o, append_assoc text end o) in
    let place_is = ap (moved m) e ∙ moved_append m gap (text ++ end) ∙ moved_append at text end in
    let is : IsFlowNode most_open node false f.indent text = grind arith in
    let content = node_content f.indent most_open node false text is in
    let l = lands_behind f m gap (text ++ rest) gap_is (further_content text rest content)
    (subst (λ (x : List ℕ). Before limit start place f m x ts) whole before) in
    let v = l.0 in
    let fits_all = fits_back m gap (text ++ end) o (fits_so m t (gap ++ (text ++ end)) o e fits) in
    let fits_text = fits_front at text end o fits_all in
    let inside : flow.FitsAround around at text rest =
    grind (arith, gap_reaches) in
    let q = past 0 (moved m t) o in
    let lands_at : f.indent ≤ n.col → past f.indent n rest ≡ q =
    λ right. eol_moved f.indent n end o end_is right ∙ ap (λ (k : Marker). past f.indent k o) (sym place_is)
    ∙ clean_past f.indent (moved m t) o behind.clean in
    let root = behind_root limit f n end o end_is q lands_at (past_stops (moved m t) o) behind.left in
    let now = flow_moment v in
    let r = nodes_close reads around refl node at text rest is now refl refl (flow.fits_free (inr (refl, refl)) inside)
    (flow.follows_outside refl root) (v.low, inl refl) (state_at around now)
    (text_ready around now at text rest (node_begins f.indent most_open node false text is) refl refl inside refl) in
    let c = r.passes in
    let g = goes_behind v c c.knows.low q (lands_at c.right) (past_stops (moved m t) o)
    (λ d. quiet_left f (behind_piece c d) q.0 q.1 behind.left) in
    record {
      tokens = r.tokens;
      are = inr (r.are (context_at place));
      arrived = record {
        at = g;
        next = what_comes limit short m t at text end o place_is fits_all end_is v.key l.1 c.key c.knows.since c.allowed
            c.there.rest (λ e. c.fresh refl e);
      };
    }
