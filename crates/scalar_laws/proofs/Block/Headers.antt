-- Where the header of a block scalar is, it is taken off.
use Rattle.scalar_laws.proofs.Common.{◌≡◌, ◌≢◌, ℕ, suc, ◌+◌, ◌≤◌, true, false, List, [], ◌∷◌, ◌++◌, length, drop, slice_index, Ok, refl, ap, arith, add-zero, nat_eq, inl, inr, ◌⊎◌, Option, Some, None, unwrap_or, prefix_len, nat_tests, drop-append_seam, drop-append-add, hyphen, plus_sign, is_blank, is_bom, is_digit, is_yaml_non_break, line_feed, blank_len, comment_len, separation_len, is_bare_comment, Chomping, Strip, Clip, Keep, AreIn, Marker, IsIndicator, no_digit, digit, IsChomping, strip, clip, keep, IsHeaderEnd, no_comment, comment, no_comment_at_end, comment_at_end, IsHeader, digit_first, chomping_first, nothing_refused}
use Rattle.saphyr_input.specs.declared.input.SkipTabs.TheVariants.{Yes}
use Rattle.saphyr_scalar.specs.Views.Cursor.{Cursor, pass, pass_blanks, pass_line, separation}
use Rattle.saphyr_scalar.specs.Steps.Block.{chomping, indicator, header_break, header_end, last_chomping, header_behind, header}
use Rattle.saphyr_input.proofs.Basics.Numbers.{one_and}

break_read : (start : Marker) (v : Cursor) (x : List ℕ) → v.rest ≡ line_feed ∷ x → slice_index x 0 ≢ 9
    → header_break start v ≡ Ok (pass_line 1 v)
unfolding header_break
break_read start v x e tab = grind arith

end_passed : (start : Marker) (v : Cursor) → v.rest ≡ [] → header_break start v ≡ Ok v
unfolding header_break
end_passed start v e = grind arith

-- after a header's line a line begins, or nothing is left after the header
abbrev pub IsBehindLine : Cursor → List ℕ → Type 0
IsBehindLine u x = ((u.mark.col ≡ 0) × (u.blank_so_far ≡ true)) ⊎ ((x ≡ []) × (u.blank_so_far ≡ false))

-- the end of a header's line was taken off
pub record Ended (start : Marker) (s : Cursor) (x : List ℕ) : Type 0 where
  pub end : Cursor
  pub read : header_end start s ≡ Ok end
  pub rest : end.rest ≡ x
  pub place : IsBehindLine end x

header_end_at : (start : Marker) (s : Cursor) (x : List ℕ) → drop (separation_len Yes s.rest) s.rest ≡ line_feed ∷ x
    → is_bare_comment Yes s.rest ≡ false → slice_index x 0 ≢ 9 → Ended start s x
unfolding header_end separation
header_end_at start s x e bare tab =
    let v = pass_blanks (separation_len Yes s.rest) s in
    record {
      end = pass_line 1 v;
      read = cc (
        nothing_refused s.rest v (ap (λ (xs : List ℕ). is_bom (slice_index xs 0)) e) bare,
        break_read start v x e tab,
      );
      rest = ap (drop 1) e;
      place = inl (refl, refl);
    }

text_end_at : (start : Marker) (s : Cursor) → drop (separation_len Yes s.rest) s.rest ≡ []
    → is_bare_comment Yes s.rest ≡ false → s.blank_so_far ≡ false → Ended start s []
unfolding header_end separation
text_end_at start s e bare dark =
    let v = pass_blanks (separation_len Yes s.rest) s in
    record {
      end = v;
      read = cc (
        nothing_refused s.rest v (ap (λ (xs : List ℕ). is_bom (slice_index xs 0)) e) bare,
        end_passed start v e,
      );
      rest = e;
      place = inr (refl, dark);
    }

blanks_len : (blanks t : List ℕ) → AreIn is_blank blanks → is_blank (slice_index t 0) ≡ false
    → prefix_len is_blank (blanks ++ t) ≡ length blanks
blanks_len [] [] h k = refl
blanks_len [] (c ∷ cs) h k = rw k refl
blanks_len (b ∷ bs) t h k = let more = blanks_len bs t h.1 k in rw (h.0, more) (omega arith)

text_len : (text x : List ℕ) → AreIn is_yaml_non_break text
    → prefix_len is_yaml_non_break (text ++ (line_feed ∷ x)) ≡ length text
text_len [] x h = refl
text_len (c ∷ cs) x h = let more = text_len cs x h.1 in rw (h.0, more) (omega arith)

all_blank : (blanks : List ℕ) → AreIn is_blank blanks → prefix_len is_blank blanks ≡ length blanks
all_blank [] h = refl
all_blank (b ∷ bs) h = let more = all_blank bs h.1 in rw (h.0, more) (omega arith)

all_text : (text : List ℕ) → AreIn is_yaml_non_break text → prefix_len is_yaml_non_break text ≡ length text
all_text [] h = refl
all_text (c ∷ cs) h = let more = all_text cs h.1 in rw (h.0, more) (omega arith)

separation_is : (d : List ℕ) (n : ℕ) → blank_len Yes d ≡ n → nat_eq n 0 ≡ false
    → separation_len Yes d ≡ n + comment_len (drop n d)
separation_is d n len some = rw (len, some) refl

no_bare : (d : List ℕ) (n : ℕ) → blank_len Yes d ≡ n → nat_eq n 0 ≡ false → is_bare_comment Yes d ≡ false
no_bare d n len some = rw (len, some) refl

all_dropped : (xs : List ℕ) → drop (length xs) xs ≡ []
all_dropped [] = refl
all_dropped (x ∷ xs) = all_dropped xs

-- The end of a header is read: blanks, perhaps a comment, and a line feed or the text's end. A case for each of the
-- four spellings and for no blanks; in each the lengths that the reader computes are those of the spelling's parts.
pub end_read : (start : Marker) (s : Cursor) (d x : List ℕ) → s.rest ≡ d → IsHeaderEnd d x → slice_index x 0 ≢ 9
    → s.blank_so_far ≡ false → Ended start s x
end_read start s _ x e (no_comment [] y h) tab dark = header_end_at start s y (cc) (ap (is_bare_comment Yes) e) tab
end_read start s _ x e (no_comment (b ∷ bs) y h) tab dark =
    let d = (b ∷ bs) ++ (10 ∷ y) in
    let n = length (b ∷ bs) in
    let len : blank_len Yes d ≡ n = blanks_len (b ∷ bs) (10 ∷ y) h refl in
    let some : nat_eq n 0 ≡ false = grind (arith, nat_tests) in
    let behind : drop n d ≡ 10 ∷ y = drop-append_seam (b ∷ bs) (10 ∷ y) in
    let sep : separation_len Yes d ≡ n = cc (separation_is d n len some, add-zero n) in
    header_end_at start s y (cc) (cc (no_bare d n len some)) tab
end_read start s _ x e (comment b bs text y h k) tab dark =
    let t = 35 ∷ (text ++ (10 ∷ y)) in
    let d = (b ∷ bs) ++ t in
    let n = length (b ∷ bs) in
    let len : blank_len Yes d ≡ n = blanks_len (b ∷ bs) t h refl in
    let some : nat_eq n 0 ≡ false = grind (arith, nat_tests) in
    let behind : drop n d ≡ t = drop-append_seam (b ∷ bs) t in
    let own : comment_len t ≡ suc (length text) = cc (text_len text y k, one_and (length text)) in
    let sep : separation_len Yes d ≡ n + suc (length text) = cc (separation_is d n len some) in
    header_end_at start s y (cc (drop-append-add (b ∷ bs) t (suc (length text)), drop-append_seam text (10 ∷ y)))
    (cc (no_bare d n len some)) tab
end_read start s _ _ e (no_comment_at_end [] h) tab dark = text_end_at start s (cc) (ap (is_bare_comment Yes) e) dark
end_read start s _ _ e (no_comment_at_end (b ∷ bs) h) tab dark =
    let d = b ∷ bs in
    let n = length (b ∷ bs) in
    let len : blank_len Yes d ≡ n = all_blank (b ∷ bs) h in
    let some : nat_eq n 0 ≡ false = grind (arith, nat_tests) in
    let behind : drop n d ≡ [] = all_dropped (b ∷ bs) in
    let sep : separation_len Yes d ≡ n = cc (separation_is d n len some, add-zero n) in
    text_end_at start s (cc) (cc (no_bare d n len some)) dark
end_read start s _ _ e (comment_at_end b bs text h k) tab dark =
    let t = 35 ∷ text in
    let d = (b ∷ bs) ++ t in
    let n = length (b ∷ bs) in
    let len : blank_len Yes d ≡ n = blanks_len (b ∷ bs) t h refl in
    let some : nat_eq n 0 ≡ false = grind (arith, nat_tests) in
    let behind : drop n d ≡ t = drop-append_seam (b ∷ bs) t in
    let own : comment_len t ≡ suc (length text) = cc (all_text text k, one_and (length text)) in
    let sep : separation_len Yes d ≡ n + suc (length text) = cc (separation_is d n len some) in
    text_end_at start s (cc (drop-append-add (b ∷ bs) t (suc (length text)), all_dropped text))
    (cc (no_bare d n len some)) dark

-- the indicators
pub chomping_none : (s : Cursor) (x : ℕ) → slice_index s.rest 0 ≡ x → nat_eq x 43 ≡ false → nat_eq x 45 ≡ false
    → chomping s ≡ (None, s)
unfolding chomping
chomping_none s x e a b = search

pub chomping_keep : (s : Cursor) → slice_index s.rest 0 ≡ plus_sign → chomping s ≡ (Some Keep, pass 1 s)
unfolding chomping
chomping_keep s e = search

pub chomping_strip : (s : Cursor) → slice_index s.rest 0 ≡ hyphen → chomping s ≡ (Some Strip, pass 1 s)
unfolding chomping
chomping_strip s e = search

pub indicator_none : (start : Marker) (s : Cursor) (x : ℕ) → slice_index s.rest 0 ≡ x → is_digit x ≡ false
    → indicator start s ≡ Ok (0, s)
unfolding indicator
indicator_none start s x e h = search

pub indicator_digit : (start : Marker) (s : Cursor) (d : ℕ) → slice_index s.rest 0 ≡ 48 + d → 1 ≤ d → d ≤ 9
    → indicator start s ≡ Ok (d, pass 1 s)
unfolding indicator
indicator_digit start s d e low high = grind arith

-- a header's line ends with no indicator
pub record NoMark (x : ℕ) : Type 0 where
  pub keep : nat_eq x 43 ≡ false
  pub strip : nat_eq x 45 ≡ false
  pub digit : is_digit x ≡ false

blank_no_mark : (x : ℕ) → is_blank x ≡ true → NoMark x
blank_no_mark x h = grind arith

pub end_no_mark : (d x : List ℕ) → IsHeaderEnd d x → NoMark (slice_index d 0)
end_no_mark _ x (no_comment [] y h) = record { keep = refl; strip = refl; digit = refl }
end_no_mark _ x (no_comment (b ∷ bs) y h) = blank_no_mark b h.0
end_no_mark _ x (comment b bs text y h k) = blank_no_mark b h.0
end_no_mark _ _ (no_comment_at_end [] h) = record { keep = refl; strip = refl; digit = refl }
end_no_mark _ _ (no_comment_at_end (b ∷ bs) h) = blank_no_mark b h.0
end_no_mark _ _ (comment_at_end b bs text h k) = blank_no_mark b h.0

pub digit_no_mark : (d : ℕ) → 1 ≤ d → d ≤ 9 → (nat_eq (48 + d) 43 ≡ false) × (nat_eq (48 + d) 45 ≡ false)
digit_no_mark d low high = (grind (arith, nat_tests), grind (arith, nat_tests))

-- a header was taken off
pub record HeaderRead (n : ℕ) (c : Chomping) (x : List ℕ) (s : Cursor) : Type 0 where
  pub behind : Cursor
  pub known : header s ≡ Ok (record { chomping = c; indicator = n }, behind)
  pub left : behind.rest ≡ x
  pub place : IsBehindLine behind x

header_of : (n : ℕ) (c : Chomping) (d x : List ℕ) (s : Cursor) (first : Option Chomping × Cursor) (t v : Cursor)
    → chomping (pass 1 s) ≡ first → indicator s.mark first.1 ≡ Ok (n, t) → last_chomping first.0 t ≡ (c, v) → v.rest ≡ d
    → IsHeaderEnd d x → slice_index x 0 ≢ 9 → v.blank_so_far ≡ false → HeaderRead n c x s
unfolding header header_behind
header_of n c d x s first t v e1 e2 e3 rest l tab dark =
    let e = end_read s.mark v d x rest l tab dark in
    record {
      behind = e.end;
      known = (rw (e1, e2, e3, e.read) refl);
      left = e.rest;
      place = e.place;
    }

last_chosen : (c : Chomping) (s : Cursor) → last_chomping (Some c) s ≡ (c, s)
unfolding last_chomping
last_chosen c s = refl

last_looked : (s t : Cursor) (o : Option Chomping) → chomping s ≡ (o, t) → last_chomping None s ≡ (unwrap_or o Clip, t)
unfolding last_chomping
last_looked s t o e = cc

front : (s : Cursor) (c : ℕ) (cs : List ℕ) → s.rest ≡ c ∷ cs → slice_index s.rest 0 ≡ c
front s c cs e = ap (λ (xs : List ℕ). slice_index xs 0) e

first_of_text : (s : Cursor) (a : List ℕ) → s.rest ≡ a → slice_index s.rest 0 ≡ slice_index a 0
first_of_text s a e = ap (λ (xs : List ℕ). slice_index xs 0) e

-- after a chomping indicator
some_first : (n : ℕ) (c : Chomping) (b d x : List ℕ) (s v : Cursor) → chomping (pass 1 s) ≡ (Some c, v) → v.rest ≡ b
    → IsIndicator n b d → IsHeaderEnd d x → slice_index x 0 ≢ 9 → v.blank_so_far ≡ false → HeaderRead n c x s
some_first _ c _ d x s v e rest (no_digit y) l tab dark =
    let none = end_no_mark y x l in
    header_of 0 c y x s (Some c, v) v v e
    (indicator_none s.mark v (slice_index y 0) (first_of_text v y rest) none.digit) (last_chosen c v) rest l tab dark
some_first _ c _ d x s v e rest (digit k y low high) l tab dark =
    header_of k c y x s (Some c, v) (pass 1 v) (pass 1 v) e
    (indicator_digit s.mark v k (front v (48 + k) y rest) low high) (last_chosen c (pass 1 v)) (ap (drop 1) rest) l
    tab refl

-- after the indentation indicator, where no chomping indicator was before it
last_read : (n : ℕ) (c : Chomping) (b d x : List ℕ) (s t : Cursor) → chomping (pass 1 s) ≡ (None, pass 1 s)
    → indicator s.mark (pass 1 s) ≡ Ok (n, t) → t.rest ≡ b → IsChomping c b d → IsHeaderEnd d x → slice_index x 0 ≢ 9
    → t.blank_so_far ≡ false → HeaderRead n c x s
last_read n _ _ d x s t e i rest (strip y) l tab dark = header_of n Strip y x s (None, pass 1 s) t (pass 1 t) e i
    (last_looked t (pass 1 t) (Some Strip) (chomping_strip t (front t 45 y rest))) (ap (drop 1) rest) l tab refl
last_read n _ _ d x s t e i rest (keep y) l tab dark = header_of n Keep y x s (None, pass 1 s) t (pass 1 t) e i
    (last_looked t (pass 1 t) (Some Keep) (chomping_keep t (front t 43 y rest))) (ap (drop 1) rest) l tab refl
last_read n _ _ d x s t e i rest (clip y) l tab dark =
    let none = end_no_mark y x l in
    header_of n Clip y x s (None, pass 1 s) t t e i
    (last_looked t t None (chomping_none t (slice_index y 0) (first_of_text t y rest) none.keep none.strip)) rest l
    tab dark

digit_read : (k : ℕ) (c : Chomping) (y d x : List ℕ) (s : Cursor) → (pass 1 s).rest ≡ (48 + k) ∷ y → 1 ≤ k → k ≤ 9
    → IsChomping c y d → IsHeaderEnd d x → slice_index x 0 ≢ 9 → HeaderRead k c x s
digit_read k c y d x s rest low high ch l tab =
    let first = front (pass 1 s) (48 + k) y rest in
    let no = digit_no_mark k low high in
    last_read k c y d x s (pass 1 (pass 1 s)) (chomping_none (pass 1 s) (48 + k) first no.0 no.1)
    (indicator_digit s.mark (pass 1 s) k first low high) (ap (drop 1) rest) ch l tab refl

clip_read : (n : ℕ) (a d x : List ℕ) (s : Cursor) → (pass 1 s).rest ≡ a → IsIndicator n a d → IsHeaderEnd d x
    → slice_index x 0 ≢ 9 → HeaderRead n Clip x s
clip_read _ _ d x s rest (no_digit y) l tab =
    let none = end_no_mark y x l in
    let first = first_of_text (pass 1 s) y rest in
    last_read 0 Clip y y x s (pass 1 s) (chomping_none (pass 1 s) (slice_index y 0) first none.keep none.strip)
    (indicator_none s.mark (pass 1 s) (slice_index y 0) first none.digit) rest (clip y) l tab refl
clip_read _ _ d x s rest (digit k y low high) l tab = digit_read k Clip y y x s rest low high (clip y) l tab

chomping_read : (n : ℕ) (c : Chomping) (a b d x : List ℕ) (s : Cursor) → (pass 1 s).rest ≡ a → IsChomping c a b
    → IsIndicator n b d → IsHeaderEnd d x → slice_index x 0 ≢ 9 → HeaderRead n c x s
chomping_read n _ _ b d x s rest (strip y) i l tab =
    some_first n Strip y d x s (pass 1 (pass 1 s)) (chomping_strip (pass 1 s) (front (pass 1 s) 45 y rest))
    (ap (drop 1) rest) i l tab refl
chomping_read n _ _ b d x s rest (keep y) i l tab =
    some_first n Keep y d x s (pass 1 (pass 1 s)) (chomping_keep (pass 1 s) (front (pass 1 s) 43 y rest))
    (ap (drop 1) rest) i l tab refl
chomping_read n _ _ b d x s rest (clip y) i l tab = clip_read n y d x s rest i l tab

first_read : (n : ℕ) (c : Chomping) (a b d x : List ℕ) (s : Cursor) → (pass 1 s).rest ≡ a → IsIndicator n a b
    → IsChomping c b d → IsHeaderEnd d x → slice_index x 0 ≢ 9 → HeaderRead n c x s
first_read _ c _ b d x s rest (no_digit y) ch l tab = chomping_read 0 c y d d x s rest ch (no_digit d) l tab
first_read _ c _ b d x s rest (digit k y low high) ch l tab = digit_read k c y d x s rest low high ch l tab

pub header_read : (n : ℕ) (c : Chomping) (x t : List ℕ) (s : Cursor) → s.rest ≡ t → IsHeader n c x t
    → slice_index x 0 ≢ 9 → HeaderRead n c x s
header_read n c x _ s e (digit_first mark a b d i ch l) tab = first_read n c a b d x s (ap (drop 1) e) i ch l tab
header_read n c x _ s e (chomping_first mark a b d ch i l) tab = chomping_read n c a b d x s (ap (drop 1) e) ch i l tab
