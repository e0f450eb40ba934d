-- Ends of lines, filler and the gaps before a document's node.
use Rattle.yaml_laws.proofs.Common.{Bool, List, [], append_assoc, arith, inl, inr, length, refl, slice_index, suc, true, ℕ, ◌++◌, ◌+◌, ◌∷◌, ◌≡◌, ◌⊎◌, nat_tests, is_blank, is_blank_or_breakz, is_breakz, line_feed, Marker, next_line, AreIn, AreEach, IsCommentBehind, IsEol, IsFiller, IsFillerLine, IsLineRest, joined_pieces, State, Kind}
use Rattle.yaml_laws.proofs.Flow.Places.{moved_append, moved_count}
use Rattle.yaml_laws.proofs.Flow.Fillers.{EndsLine, filler_past}
use Rattle.yaml_laws.proofs.Documents.Stands.{StandsLined, AtLine}
use Rattle.yaml_laws.proofs.InBlock.States.{crosses, moved, past}
use Rattle.yaml_laws.proofs.InBlock.Lines.{IsLined, one_lined, moved_lined}

-- ## The end of a line

-- The rest of a line is at m, and after it nothing or a break, and then o at a line's start.
pub record EndsWithLine (m : Marker) (t o : List ℕ) : Type 0 where
  pub rest : List ℕ
  pub more : List ℕ
  pub is : t ≡ rest ++ more
  pub line : IsLineRest rest
  pub break : EndsLine more
  pub mark : Marker
  pub behind : (column : ℕ) → past column (moved m rest) more ≡ past column mark o
  pub count : mark.index + length o ≡ m.index + length t
  pub place : AtLine o mark
  pub opens : (crosses more ≡ true) ⊎ (o ≡ [])
  pub lined : IsLined m → IsLined mark

whole_line : (m : Marker) (rest o : List ℕ) → IsLineRest rest → EndsWithLine m (rest ++ (line_feed ∷ o)) o
whole_line m rest o h =
    record {
      rest = rest;
      more = 10 ∷ o;
      is = refl;
      line = h;
      break = inr refl;
      mark = next_line (moved m rest) 1;
      behind = λ column. refl;
      count = further (moved m rest).index (length o) (moved_count m rest (10 ∷ o));
      place = inl refl;
      opens = inl refl;
      lined = λ h. one_lined (moved m rest) 10 (moved_lined m rest h);
    }
  where
    further : {n : ℕ} (i l : ℕ) → i + suc l ≡ n → i + 1 + l ≡ n
    further i l e = omega (arith, e)

ends_with_last_line : (m : Marker) (rest : List ℕ) → IsLineRest rest → EndsWithLine m (rest ++ []) []
ends_with_last_line m rest h = record {
  rest = rest;
  more = [];
  is = refl;
  line = h;
  break = inl refl;
  mark = moved m rest;
  behind = λ column. refl;
  count = moved_count m rest [];
  place = inr refl;
  opens = inr refl;
  lined = λ h. moved_lined m rest h;
}

pub eol : (m : Marker) (end o : List ℕ) → IsEol end o → EndsWithLine m (end ++ o) o
eol m end o (inl h) = rw (h.2, append_assoc h.0 (10 ∷ []) o) (whole_line m h.0 o h.1)
eol m end o (inr h) = rw h.1 (ends_with_last_line m end h.0)

pub break_ends : (more : List ℕ) → EndsLine more → is_breakz (slice_index more 0) ≡ true
break_ends more h = grind arith

-- ## What comes first

breakz_parts : (c : ℕ) → is_breakz c ≡ true → is_blank_or_breakz c ≡ true
breakz_parts c h = grind (arith, nat_tests)

blank_parts : (c : ℕ) → is_blank c ≡ true → is_blank_or_breakz c ≡ true
blank_parts c h = grind (arith, nat_tests)

pub rest_first : (rest more : List ℕ) → IsLineRest rest → EndsLine more
    → is_blank_or_breakz (slice_index (rest ++ more) 0) ≡ true
rest_first rest more (front, comment, are, k, is) ends = rw is (by_front front are k)
  where
    by_front : (front : List ℕ) → AreIn is_blank front → IsCommentBehind front comment
        → is_blank_or_breakz (slice_index ((front ++ comment) ++ more) 0) ≡ true
    by_front [] are (inl f) = rw f (breakz_parts (slice_index more 0) (break_ends more ends))
    by_front [] are (inr f) = absurd (f.0 refl)
    by_front (c ∷ cs) are h = blank_parts c are.0

pub eol_first : (m : Marker) (t o : List ℕ) → EndsWithLine m t o → is_blank_or_breakz (slice_index t 0) ≡ true
eol_first m t o e = rw e.is (rest_first e.rest e.more e.line e.break)

-- ## Filler is passed

-- after filler that begins at a line's start is a line's start
pub filler_line : (m : Marker) (w : List ℕ) → IsFiller w → m.col ≡ 0 → (moved m w).col ≡ 0
filler_line m w h col = rw h.2 (pieces m h.0 h.1 col)
  where
    pieces : (m : Marker) (ws : List (List ℕ)) → AreEach IsFillerLine ws → m.col ≡ 0
        → (moved m (joined_pieces ws)).col ≡ 0
    pieces m [] k e = e
    pieces m (v ∷ vs) k e =
        let line : (moved m v).col ≡ 0 = simp (k.0.2, moved_append m k.0.0 (10 ∷ [])) in
        cc (moved_append m v (joined_pieces vs), pieces (moved m v) vs k.1 line)

pub none_behind : (w y : List ℕ) → w ++ y ≡ [] → y ≡ []
none_behind [] y e = e
none_behind (c ∷ w) y e = absurd (cc)

pub filler_at_line : (m : Marker) (w y : List ℕ) → IsFiller w → AtLine (w ++ y) m → AtLine y (moved m w)
filler_at_line m w y h (inl e) = inl (filler_line m w h e)
filler_at_line m w y h (inr e) = inr (none_behind w y e)

pub passes_filler : {limit : ℕ} {start : State} {free opened : Bool} {ts : List Kind} (w y : List ℕ) → IsFiller w
    → StandsLined limit start free opened (w ++ y) ts → StandsLined limit start free opened y ts
passes_filler {limit = limit} {opened = opened} w y h v =
    grind (arith, filler_past, moved_count, filler_at_line, moved_lined, none_behind)
