-- Block scalars at block level, with what comes before them (YAML 1.2.2, 8.1).
use Rattle.yaml_laws.proofs.Common.{List, [], append-nil, append_assoc, arith, inl, inr, refl, subst, sym, ℕ, ◌++◌, ◌<◌, ◌^◌, ◌∷◌, ◌≡◌, ◌≤◌, None, Option, is_blank, AreIn, Marker, IsGap, IsNextLine, Candidate, Properties, Scalar, Style, State, Kind, scalar_token, IsProperties, NoBreaks}
use Rattle.saphyr_scanner.specs.Grammar.TokenGrammar as grammar
use Rattle.yaml_laws.specs.Grammar.BlockNodes.{Position as Position, indent_at, IsGapAt, IsStyled, IsScalarFront, IsScalarInBlock}
use Rattle.yaml_laws.proofs.Flow.ContentStarts.{StartsContent}
use Rattle.yaml_laws.proofs.Flow.Names.{unbroken_along}
use Rattle.yaml_laws.proofs.Flow.Places.{moved_append}
use Rattle.yaml_laws.proofs.Flow.WordGaps.{prefix_reaches}
use Rattle.yaml_laws.proofs.InBlock.States.{Frame, IsPlaced, At, Before, moved, past}
use Rattle.yaml_laws.proofs.InBlock.Skips.{gap_passes}
use Rattle.yaml_laws.proofs.InBlock.Lines.{FitsOnLines, fits_front, fits_so}
use Rattle.yaml_laws.proofs.InBlock.Statements.{EndsNodeAt, NodeRead, ReadsAt}
use Rattle.yaml_laws.proofs.InBlock.Texts.{passes_to}
use Rattle.yaml_laws.proofs.InBlock.BehindIndicators.{further_content}
use Rattle.yaml_laws.proofs.InBlock.ScalarTexts.{ReadsBlocks, sign_content}
use Rattle.yaml_laws.proofs.InBlock.HeaderScalars.{IsOnLineOrBefore, reads_behind}

-- ## The gap before it

-- nor after the next line's indentation
next_line_reaches : (indent : ℕ) (m : Marker) (w : List ℕ) → IsNextLine indent w → indent ≤ (moved m w).col
next_line_reaches indent m w (end, filler, front, end_is, filler_is, prefix, e) =
    let there : moved m w ≡ moved (moved (moved m end) filler) front = cc (
      moved_append m end (filler ++ front),
      moved_append (moved m end) filler front,
    ) in
    rw there (prefix_reaches indent (moved (moved m end) filler) front prefix)

unbroken_blanks : (w : List ℕ) → AreIn is_blank w → NoBreaks w
unbroken_blanks [] h = tt
unbroken_blanks (c ∷ cs) h = grind (arith, unbroken_blanks cs h.1)

-- after the gap before a node is nothing that is left of it
pub gap_reaches : (place : Position) (m : Marker) (gap : List ℕ) → IsGapAt place gap → IsPlaced place m
    → indent_at place ≤ (moved m gap).col
gap_reaches place m gap h placed = grind (arith, unbroken_along, unbroken_blanks, next_line_reaches)

pub none_late : (k : Option Candidate) (m : Marker) → k ≡ None → IsOnLineOrBefore k m
none_late k m e = rw e tt

-- the state before a node is that after the gap
pub lands_behind : {limit : ℕ} {start : State} {ts : List Kind} {place : Position} (f : Frame) (m : Marker)
    (gap y : List ℕ) → IsGapAt place gap → StartsContent y → Before limit start place f m (gap ++ y) ts
    → (v : At limit start f (moved m gap) y ts) × (v.key ≡ None)
lands_behind {limit} {start} {ts} {place} f m gap y h content b =
    let there : past 0 m (gap ++ y) ≡ (moved m gap, y) =
    cc (passes_to m gap content.first content.others (gap_passes place gap h) content.content) in
    let P : Marker × List ℕ → Type 0 = λ q. (v : At limit start f q.0 q.1 ts) × (v.key ≡ None) in
    subst P there (b.at, b.none)

-- ## Properties before the header

-- Properties, and the gap after them, were read up to a token on their line or a later one.
pub record HeadRead (limit : ℕ) (start : State) (p : Properties) (f : Frame) (m : Marker) (y : List ℕ)
    (ts : List Kind) : Type 0 where
  pub tokens : List Kind
  pub are : grammar.YieldProperties p tokens
  pub at : At limit start f m y (ts ++ tokens)
  pub late : IsOnLineOrBefore at.key m
  pub right : f.indent ≤ m.col

-- `t` is the properties, `gap` comes before them, and `between` after.
abbrev pub ReadsHead : ℕ → Type 0
ReadsHead limit = (p : Properties) (place : Position) (f : Frame) → f.indent ≡ indent_at place
    → (m : Marker) (gap t between y : List ℕ)
    → IsGapAt place gap × IsProperties p (indent_at place) t × IsGap (indent_at place) between → StartsContent y
    → FitsOnLines limit m (gap ++ (t ++ between)) y → (start : State) (ts : List Kind)
    → Before limit start place f m (gap ++ (t ++ (between ++ y))) ts
    → HeadRead limit start p f (moved m (gap ++ (t ++ between))) y ts

-- the gap after a text
pub text_gap_reaches : (least : ℕ) (m : Marker) (w : List ℕ) → IsGap least w → least ≤ m.col → least ≤ (moved m w).col
text_gap_reaches least m w h k = grind (arith, unbroken_along, unbroken_blanks, next_line_reaches)

-- ## The leaf

-- Each block scalar is read.
pub reads_block_scalars : ReadsBlocks → {limit : ℕ} → limit < 2 ^ 63 → ReadsHead limit
    → (p : Properties) (style : Style) (value : List ℕ)
    → ReadsAt limit (Scalar p style value) (IsScalarInBlock p style value)
reads_block_scalars laws {limit} short heads p style value place f same m t o
    (gap, front, text, gap_is, front_is, styled, e) fits behind start ts before = by_front front_is
  where
    is : IsStyled style value f.indent text o
    is = rw same styled

    low : f.indent ≤ (moved m gap).col
    low = rw same (gap_reaches place m gap gap_is before.placed)

    content : StartsContent (text ++ o)
    content = further_content text o (sign_content style value f.indent text o is)

    -- after a piece of the text, properties were read
    behind_head : (w : List ℕ) (us : List Kind) → t ≡ w ++ text → grammar.YieldProperties p us
        → f.indent ≤ (moved m w).col → (v : At limit start f (moved m w) (text ++ o) (ts ++ us))
        → IsOnLineOrBefore v.key (moved m w) → NodeRead limit start (Scalar p style value) place f (moved m t) o ts
    behind_head w us whole are far v late =
        let fits_all = fits_so m t (w ++ text) o whole fits in
        let behind_all : EndsNodeAt f.indent (moved m (w ++ text)) o = rw whole at behind in
        let r = reads_behind laws f style value m w text o short far is fits_all behind_all v late in
        record {
          tokens = us ++ scalar_token style value ∷ [];
          are = inr (us, scalar_token style value ∷ [], are, inl refl, refl);
          arrived = rw whole (rw (append_assoc ts us (scalar_token style value ∷ [])) at r);
        }

    by_front : IsScalarFront p (indent_at place) front
        → NodeRead limit start (Scalar p style value) place f (moved m t) o ts
    by_front (inl (none, empty)) =
        let whole : t ≡ gap ++ text = cc in
        let b : Before limit start place f m (gap ++ (text ++ o)) ts = rw (whole, append_assoc gap text o) at before in
        let P : List Kind → Type 0 = λ us. (v : At limit start f (moved m gap) (text ++ o) us) × (v.key ≡ None) in
        let v = subst P (sym (append-nil ts)) (lands_behind f m gap (text ++ o) gap_is content b) in
        behind_head gap [] whole (rw none refl) low v.0 (none_late v.0.key (moved m gap) v.1)
    by_front (inr (properties, between, h, spaced, parts)) =
        let w = gap ++ (properties ++ between) in
        let whole : t ≡ w ++ text = cc (append_assoc gap (properties ++ between) text) in
        let inner : t ++ o ≡ gap ++ (properties ++ (between ++ (text ++ o))) =
        cc (
          append_assoc w text o,
          append_assoc gap (properties ++ between) (text ++ o),
          append_assoc properties between (text ++ o),
        ) in
        let b : Before limit start place f m (gap ++ (properties ++ (between ++ (text ++ o)))) ts =
        rw inner at before in
        let r = heads p place f same m gap properties between (text ++ o) (gap_is, h, spaced) content
        (fits_front m w text o (fits_so m t (w ++ text) o whole fits)) start ts b in
        behind_head w r.tokens whole r.are r.right r.at r.late
