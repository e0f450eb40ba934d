-- Blanks and line feeds are white space of YAML's grammar, wherever they are: separation, filler, what is
-- before a document's node, and the end of its line with what follows that.
use Rattle.yaml_laws.proofs.Common.{Bool, List, [], ap, append-nil, append_assoc, arith, codes, inl, inr, refl, sym, true, ℕ, ◌++◌, ◌∙◌, ◌∷◌, ◌≡◌, ◌==◌, ◌||◌, is_blank, line_feed, AreIn, AreEach, IsEol, IsFiller, IsFillerLine, IsFillerText, IsLastFiller, IsLineEnd, IsLineRest, IsSeparation, IsSeparationLine, joined_pieces, AtStart, IsGapAt}

-- a blank or a line feed
abbrev pub is_white : ℕ → Bool
is_white c = is_blank c || (c == line_feed)

-- a line of blanks, with its break
abbrev IsBlankLine : List ℕ → Type 0
IsBlankLine t = (blanks : List ℕ) × AreIn is_blank blanks × (t ≡ blanks ++ codes "\n")

-- lines of blanks, and the blanks after them
record Lines (w : List ℕ) : Type 0 where
  pieces : List (List ℕ)
  each : AreEach IsBlankLine pieces
  last : List ℕ
  blanks : AreIn is_blank last
  is : w ≡ joined_pieces pieces ++ last

blank_first : (c : ℕ) (w : List ℕ) → is_blank c ≡ true → Lines w → Lines (c ∷ w)
blank_first c w h r = by_pieces r.pieces r.each r.is
  where
    by_pieces : (ps : List (List ℕ)) → AreEach IsBlankLine ps → w ≡ joined_pieces ps ++ r.last → Lines (c ∷ w)
    by_pieces [] each is = record {
      pieces = [];
      each = tt;
      last = c ∷ r.last;
      blanks = (h, r.blanks);
      is = ap (λ (x : List ℕ). c ∷ x) is;
    }
    by_pieces (p ∷ ps) each is = record {
      pieces = (c ∷ p) ∷ ps;
      each = ((c ∷ each.0.0, (h, each.0.1), ap (λ (x : List ℕ). c ∷ x) each.0.2), each.1);
      last = r.last;
      blanks = r.blanks;
      is = ap (λ (x : List ℕ). c ∷ x) is;
    }

feed_first : (w : List ℕ) → Lines w → Lines (line_feed ∷ w)
feed_first w r = record {
  pieces = codes "\n" ∷ r.pieces;
  each = (([], tt, refl), r.each);
  last = r.last;
  blanks = r.blanks;
  is = ap (λ (x : List ℕ). 10 ∷ x) r.is;
}

lines : (w : List ℕ) → AreIn is_white w → Lines w
lines [] h = record { pieces = []; each = tt; last = []; blanks = tt; is = refl }
lines (c ∷ w) h = grind (arith, blank_first, feed_first, lines w h.1)

each_piece : (P : List ℕ → Type 0) → ((t : List ℕ) → IsBlankLine t → P t) → (ps : List (List ℕ))
    → AreEach IsBlankLine ps → AreEach P ps
each_piece P f [] h = tt
each_piece P f (p ∷ ps) h = (f p h.0, each_piece P f ps h.1)

-- ## What it may be

separation_line : (t : List ℕ) → IsBlankLine t → IsSeparationLine 0 t
separation_line t h = (h.0, [], [], h.1, inl refl, ([], tt, refl), h.2)

pub white_separates : (w : List ℕ) → AreIn is_white w → IsSeparation 0 w
white_separates w h =
    let l = lines w h in (
      joined_pieces l.pieces,
      l.last,
      (l.pieces, each_piece (IsSeparationLine 0) separation_line l.pieces l.each, refl),
      l.blanks,
      l.is,
    )

blanks_fill : (t : List ℕ) → AreIn is_blank t → IsFillerText t
blanks_fill t h = (t, [], h, inl refl, sym (append-nil t))

filler_line : (t : List ℕ) → IsBlankLine t → IsFillerLine t
filler_line t h = (h.0, blanks_fill h.0 h.1, h.2)

filler : (ps : List (List ℕ)) → AreEach IsBlankLine ps → IsFiller (joined_pieces ps)
filler ps h = (ps, each_piece IsFillerLine filler_line ps h, refl)

blanks_rest : (t : List ℕ) → AreIn is_blank t → IsLineRest t
blanks_rest t h = (t, [], h, inl refl, sym (append-nil t))

line_end : (t : List ℕ) → IsBlankLine t → IsLineEnd t
line_end t h = (h.0, blanks_rest h.0 h.1, h.2)

-- before the node of a bare document
pub white_gap : (w : List ℕ) → AreIn is_white w → IsGapAt AtStart w
white_gap w h = let l = lines w h in by_pieces l.pieces l.each l.last l.blanks l.is
  where
    by_last : (last : List ℕ) → AreIn is_blank last → w ≡ last → IsGapAt AtStart w
    by_last [] blanks is = inr (inr (refl, is))
    by_last (c ∷ cs) blanks is = inl ((λ e. absurd (let f = sym is ∙ e in cc)), rw is blanks)

    by_pieces : (ps : List (List ℕ)) → AreEach IsBlankLine ps → (last : List ℕ) → AreIn is_blank last
        → w ≡ joined_pieces ps ++ last → IsGapAt AtStart w
    by_pieces [] each last blanks is = by_last last blanks is
    by_pieces (p ∷ ps) each last blanks is =
        inr (inl (
          p,
          joined_pieces ps,
          last,
          line_end p each.0,
          filler ps each.1,
          ([], last, (0, omega arith, refl), blanks, refl),
          is ∙ append_assoc p (joined_pieces ps) last,
        ))

-- The end of a line, and filler up to the text's end.
pub record Ending (w : List ℕ) : Type 0 where
  pub end : List ℕ
  pub others : List ℕ
  pub is : w ≡ end ++ others
  pub ends : IsEol end others
  pub more : IsLastFiller others
  pub white : AreIn is_white end

last_filler : (ps : List (List ℕ)) → AreEach IsBlankLine ps → (last : List ℕ) → AreIn is_blank last
    → IsLastFiller (joined_pieces ps ++ last)
last_filler ps each last blanks = (joined_pieces ps, last, filler ps each, blanks_fill last blanks, refl)

blanks_white : (t : List ℕ) → AreIn is_blank t → AreIn is_white t
blanks_white [] h = tt
blanks_white (c ∷ cs) h = (rw h.0 refl, blanks_white cs h.1)

line_white : (blanks t : List ℕ) → AreIn is_blank blanks → t ≡ blanks ++ codes "\n" → AreIn is_white t
line_white blanks t h e = rw e (both blanks h)
  where
    both : (b : List ℕ) → AreIn is_blank b → AreIn is_white (b ++ codes "\n")
    both [] h = (refl, tt)
    both (c ∷ cs) h = (rw h.0 refl, both cs h.1)

-- after the node of a text
pub white_ends : (w : List ℕ) → AreIn is_white w → Ending w
white_ends w h = let l = lines w h in by_pieces l.pieces l.each l.last l.blanks l.is
  where
    by_pieces : (ps : List (List ℕ)) → AreEach IsBlankLine ps → (last : List ℕ) → AreIn is_blank last
        → w ≡ joined_pieces ps ++ last → Ending w
    by_pieces [] each last blanks is = record {
      end = last;
      others = [];
      is = is ∙ sym (append-nil last);
      ends = inr (blanks_rest last blanks, refl);
      more = last_filler [] tt [] tt;
      white = blanks_white last blanks;
    }
    by_pieces (p ∷ ps) each last blanks is = record {
      end = p;
      others = joined_pieces ps ++ last;
      is = is ∙ append_assoc p (joined_pieces ps) last;
      ends = inl (line_end p each.0);
      more = last_filler ps each.1 last blanks;
      white = line_white each.0.0 p each.0.1 each.0.2;
    }
