-- Properties at block level are read: before a block scalar, and before a collection on the next lines
-- (YAML 1.2.2, 6.9 and 8.2.3).
use Rattle.yaml_laws.proofs.Common.{IsTrue, List, [], ap, append_assoc, arith, false, inl, inr, length, refl, slice_index, subst, sym, true, ℕ, ◌++◌, ◌<◌, ◌^◌, ◌∙◌, ◌∷◌, ◌≡◌, ◌≤◌, None, Option, is_blank_or_breakz, line_feed, Marker, spaces, IsGap, IsLineRest, is_too_far, Candidate, Properties, State, Kind, IsProperties, indent_at, or_true_swap, length-append}
use Rattle.saphyr_scanner.specs.Grammar.TokenGrammar as grammar
use Rattle.yaml_laws.proofs.InFlow.States.{state_at}
use Rattle.yaml_laws.proofs.Flow.ContentStarts.{StartsContent, properties_begin, properties_content, behind_low}
use Rattle.yaml_laws.proofs.Flow.Tokens.{text_ready}
use Rattle.yaml_laws.proofs.Flow.States.{fits_free}
use Rattle.yaml_laws.proofs.Flow.GapSteps.{past_content}
use Rattle.yaml_laws.proofs.Flow.Fillers.{separation_past}
use Rattle.yaml_laws.proofs.Flow.Ends.{white_ends_tag}
use Rattle.yaml_laws.proofs.Flow.Places.{moved_append}
use Rattle.yaml_laws.proofs.InBlock.States.{Frame, crosses, At, flow_moment, moved, past, Since, FitsAround, ReaderPromises}
use Rattle.yaml_laws.proofs.InBlock.Skips.{IsSkipped, IsClean, Passes, skipped_clean, skipped_append, spaces_skipped, line_end_skipped, line_end_crosses, filler_skipped, skipped_passes, text_gap_passes}
use Rattle.yaml_laws.proofs.InBlock.Lines.{moved_line, later_line, FitsOnLines, fits_front, fits_back, fits_so}
use Rattle.yaml_laws.proofs.InBlock.Statements.{IsNextLineText, PropertiesRead, ReadsProperties}
use Rattle.yaml_laws.proofs.InBlock.Texts.{content_clean, passes_to}
use Rattle.yaml_laws.proofs.InBlock.BehindIndicators.{further_content}
use Rattle.yaml_laws.proofs.Documents.Lines.{rest_first}
use Rattle.yaml_laws.proofs.InBlock.HeaderScalars.{IsOnLineOrBefore}
use Rattle.yaml_laws.proofs.InBlock.Scalars.{HeadRead, ReadsHead, gap_reaches, text_gap_reaches, lands_behind, none_late}
use Rattle.yaml_laws.proofs.Flow.Properties.{gap_first, gap_separates, properties_read}
use Rattle.yaml_laws.proofs.InBlock.Gaps.{past_stops}
use Rattle.yaml_laws.proofs.InBlock.Follows.{left_key}
use Rattle.yaml_laws.proofs.InBlock.Untabbed.{clean_past}
use Rattle.yaml_laws.proofs.InBlock.FlowNodes.{around_of, goes_behind}

lands_on : (m : Marker) (b y : List ℕ) → Passes b → StartsContent y → past 0 m (b ++ y) ≡ (moved m b, y)
lands_on m b y h content = cc (passes_to m b content.first content.others h content.content)

text_line : {limit : ℕ} (m : Marker) (t o : List ℕ) → limit < 2 ^ 63 → FitsOnLines limit m t o
    → m.line ≤ (moved m t).line
text_line m t o short fits = grind (arith, length-append, moved_line)

late_left : (k : Option Candidate) (n m : Marker) → IsOnLineOrBefore k m → IsOnLineOrBefore (left_key k n) m
late_left k n m h = grind (arith)

late_later : (k : Option Candidate) (m n : Marker) → m.line ≤ n.line → IsOnLineOrBefore k m → IsOnLineOrBefore k n
late_later k m n e h = grind arith

-- what may be a key after a text begins on its last line or before it
late_since : {limit : ℕ} → limit < 2 ^ 63 → (k : Option Candidate) (m : Marker) (t o : List ℕ) (key : Option Candidate)
    → FitsOnLines limit m t o → IsOnLineOrBefore k m → Since k m t key → IsOnLineOrBefore key (moved m t)
late_since short k m t o key fits late (inl e) = none_late key (moved m t) e
late_since short k m t o key fits late (inr (inl e)) =
    rw e (late_later k m (moved m t) (text_line m t o short fits) late)
late_since short k m t o key fits late (inr (inr (front, back, place, is, e))) =
    let line = text_line (moved m front) back o short
    (fits_back m front back o (fits_so m t (front ++ back) o is fits)) in
    let end : (moved m t).line ≡ (moved (moved m front) back).line = cc (moved_append m front back) in
    let on : (moved m front).line ≤ (moved m t).line = omega (arith, line, end) in rw e on

-- ## Properties

-- Properties were read, up to what is after them.
record PassesProperties (limit : ℕ) (start : State) (p : Properties) (f : Frame) (m : Marker) (t o : List ℕ)
    (ts : List Kind) : Type 0 where
  tokens : List Kind
  are : grammar.YieldProperties p tokens
  at : At limit start f (past 0 (moved m t) o).0 (past 0 (moved m t) o).1 (ts ++ tokens)
  late : IsOnLineOrBefore at.key (moved m t)
  allowed : crosses o ≡ true → at.allowed ≡ true
  right : f.indent ≤ (moved m t).col

-- The properties are read by the laws on flow style. In the words of blocks the scanner then is before what comes
-- behind them (`goes_behind`), and a key that it keeps is not from a later line than theirs.
properties_passed : ReaderPromises → {limit : ℕ} {start : State} {ts : List Kind} → limit < 2 ^ 63 → (f : Frame)
    (p : Properties) (t : List ℕ) → IsProperties p f.indent t → (m : Marker) (o : List ℕ) → f.indent ≤ m.col
    → IsTrue (is_blank_or_breakz (slice_index o 0)) → FitsOnLines limit m t o
    → (f.indent ≤ (moved m t).col → past f.indent (moved m t) o ≡ past 0 (moved m t) o)
    → (v : At limit start f m (t ++ o) ts) → IsOnLineOrBefore v.key m → PassesProperties limit start p f m t o ts
properties_passed reads {limit} short f p t h m o low white fits lands v late =
    let around = around_of limit f in
    let n = moved m t in
    let q = past 0 n o in
    let inside : FitsAround around m t o =
    record { clear = fits.clear; below = fits.below; right = low } in
    let now = flow_moment v in
    let r = properties_read reads around p.anchor p.tag m t o h now (white_ends_tag false o white)
    (fits_free (inr (refl, refl)) inside) (state_at around now)
    (text_ready around now m t o (properties_begin p f.indent t h) refl refl inside refl) in
    let c = r.passes in
    let g = goes_behind v c (rw c.knows.still
    (behind_low f.indent v.adjacent m t o v.low)) q (lands c.right) (past_stops n o) (λ d. inl refl) in
    record {
      tokens = r.tokens;
      are = r.are;
      at = g;
      late = late_left c.key q.0 n (late_since short v.key m t o c.key fits late c.knows.since);
      allowed = λ e. or_true_swap c.allowed (crosses c.there.rest) (c.fresh refl e);
      right = c.right;
    }

-- ## Before a header

line_first : (end o rest : List ℕ) → IsLineRest rest → end ≡ rest ++ (line_feed ∷ [])
    → IsTrue (is_blank_or_breakz (slice_index (end ++ o) 0))
line_first end o rest h e = cc (append_assoc rest (10 ∷ []) o, rest_first rest (10 ∷ o) h (inr refl))

-- The gap, the properties, and what is between them and the header, which the scanner passes on its way to the header's
-- indicator. A key that is kept there is from its line or an earlier one (`late`).
pub reads_head : ReaderPromises → (limit : ℕ) → limit < 2 ^ 63 → ReadsHead limit
reads_head reads limit short p place f same m gap t between y (gap_is, h, between_is) content fits start ts before =
    let n = moved m gap in
    let o = between ++ y in
    let low = subst (λ (i : ℕ). i ≤ n.col) (sym same) (gap_reaches place m gap gap_is before.placed) in
    let l = lands_behind f m gap (t ++ o) gap_is
    (further_content t o (properties_content p (indent_at place) t h)) before in
    let k = moved n t in
    let q = moved k between in
    let passes = text_gap_passes (indent_at place) between between_is in
    let spaced = subst (λ (i : ℕ). IsGap i between) (sym same) between_is in
    let fits_t = fits_back m gap (t ++ between) y fits in
    let at_frame = subst (λ (i : ℕ). IsProperties p i t) (sym same) h in
    let r = properties_passed reads short f p t at_frame n o low (gap_first (indent_at place) between y between_is)
    (fits_front n t between y fits_t) (λ right. cc (
      separation_past f.indent k between y
          (gap_separates f.indent between spaced) right,
      past_content f.indent q content.first content.others content.content,
      lands_on k between y passes content,
    )) l.0 (none_late l.0.key n l.1) in
    let line = text_line k between y short (fits_back n t between y fits_t) in
    let Q : Marker × List ℕ → Type 0 = λ x. (u : At limit start f x.0 x.1 (ts ++ r.tokens))
    × IsOnLineOrBefore u.key q in
    let z = subst Q (lands_on k between y passes content) (r.at, late_later r.at.key k q line r.late) in
    let here : HeadRead limit start p f q y ts =
    record {
      tokens = r.tokens;
      are = r.are;
      at = z.0;
      late = z.1;
      right = text_gap_reaches f.indent k between spaced r.right;
    } in
    rw (moved_append m gap (t ++ between), moved_append n t between) here

-- ## Before the next lines

late_key_left : (k : Option Candidate) (m n : Marker) → IsOnLineOrBefore k m → m.line < n.line → is_too_far k n ≡ false
    → k ≡ None
late_key_left k m n late h near = grind arith

-- the rest of the line after properties, and what else comes before the next token
record LinesBehind (w y : List ℕ) : Type 0 where
  skipped : IsSkipped w
  clean : IsClean (w ++ y)
  white : IsTrue (is_blank_or_breakz (slice_index (w ++ y) 0))
  crossed : crosses (w ++ y) ≡ true
  rest : List ℕ
  more : List ℕ
  is : w ≡ rest ++ (line_feed ∷ more)

lines_behind : (w y : List ℕ) → IsNextLineText w → StartsContent y → LinesBehind w y
lines_behind w y (end, filler, n, (rest, rest_is, end_is), filler_is, e) content =
    let more = filler ++ spaces n in
    let skipped = skipped_append filler (spaces n) (filler_skipped filler filler_is) (spaces_skipped n) in
    let ends = line_end_skipped end (rest, rest_is, end_is) in
    let text : w ++ y ≡ end ++ (more ++ y) = cc (append_assoc end more y) in
    record {
      skipped = rw e (skipped_append end more ends skipped);
      clean = rw text (skipped_clean end (more ++ y) ends (skipped_clean more y skipped (rw content.is (content_clean
          content.first content.others content.content))));
      white = rw text (line_first end (more ++ y) rest rest_is end_is);
      crossed = ap crosses text ∙ line_end_crosses end (more ++ y) (rest, rest_is, end_is);
      rest = rest;
      more = more;
      is = cc (append_assoc rest (10 ∷ []) more);
    }

-- As `reads_head`, but the rest of the line is behind the properties, and a break. So the next token is on a later
-- line, and no key of an earlier line is kept there (`late_key_left`): one may begin.
pub reads_properties : ReaderPromises → (limit : ℕ) → limit < 2 ^ 63 → ReadsProperties limit
reads_properties reads limit short p place f same m front t w y (gap_is, h, next_line) content fits start ts before =
    let n = moved m front in
    let o = w ++ y in
    let low = subst (λ (i : ℕ). i ≤ n.col) (sym same) (gap_reaches place m front gap_is before.placed) in
    let l = lands_behind f m front (t ++ o) gap_is
    (further_content t o (properties_content p (indent_at place) t h)) before in
    let b = lines_behind w y next_line content in
    let fits_t = fits_back m front (t ++ w) y fits in
    let at_frame = subst (λ (i : ℕ). IsProperties p i t) (sym same) h in
    let r = properties_passed reads short f p t at_frame n o low b.white (fits_front n t w y fits_t)
    (λ right. clean_past f.indent (moved n t) o b.clean) l.0 (none_late l.0.key n l.1) in
    let k = moved n t in
    let q = moved k w in
    let fits_w = fits_back n t w y fits_t in
    let below = fits_w.below in
    let size = length-append w y in
    let size_line = ap length b.is in
    let grown = later_line k b.rest b.more fits_w.lined (omega (arith, below, size, size_line, short)) in
    let at_line = ap (λ (x : List ℕ). (moved k x).line) b.is in
    let Q : Marker × List ℕ → Type 0 = λ x. (u : At limit start f x.0 x.1 (ts ++ r.tokens)) × IsOnLineOrBefore u.key k
    × (u.allowed ≡ true) in
    let z = subst Q (lands_on k w y (skipped_passes w b.skipped) content) (r.at, r.late, r.allowed b.crossed) in
    let here : PropertiesRead limit start p f q y ts =
    record {
      tokens = r.tokens;
      are = r.are;
      at = record {
        at = z.0;
        none = late_key_left z.0.key k q z.1 (omega (arith, grown, at_line)) z.0.near;
        allowed = z.2;
      };
    } in
    rw (moved_append m front (t ++ w), moved_append n t w) here
