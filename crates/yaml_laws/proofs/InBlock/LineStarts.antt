-- Where lines begin in a text, and pieces of which no document marker begins a line.
use Rattle.yaml_laws.proofs.Common.{Bool, IsTrue, List, [], ap, append-nil, append_assoc, arith, false, inl, inr, refl, subst, sym, true, ℕ, ◌++◌, ◌∙◌, ◌∷◌, ◌≡◌, ◌⊎◌, nat_tests, ◌&&◌, ◌==◌, byte_order_mark, is_blank, is_yaml_non_break, line_feed, is_document_indicator, AreIn, IsComment, IsEol, IsFiller, IsLastFiller, IsLineRest, or_from, or_parts, full_stop, hyphen, has_marker, clash, no_feed, NoBreaks, no_breaks_in}
use Rattle.yaml_laws.proofs.Flow.States.{marks_line}
use Rattle.yaml_laws.proofs.InBlock.Skips.{IsSkipped, nothing, one_space, one_break, one_rest, filler_skipped}
use Rattle.yaml_laws.proofs.Documents.Lines.{none_behind}

feed_second : (c : ℕ) (t : List ℕ) → is_document_indicator (c ∷ line_feed ∷ t) ≡ false
feed_second c t = grind arith

feed_third : (c d : ℕ) (t : List ℕ) → is_document_indicator (c ∷ d ∷ line_feed ∷ t) ≡ false
feed_third c d t = grind arith

-- a document marker ends before a line feed
fed_marker : (c : ℕ) (cs behind : List ℕ)
    → is_document_indicator (c ∷ ((cs ++ (line_feed ∷ [])) ++ behind))
    ≡ is_document_indicator (c ∷ (cs ++ (line_feed ∷ [])))
fed_marker c [] behind = feed_second c behind ∙ sym (feed_second c [])
fed_marker c (d ∷ []) behind = feed_third c d behind ∙ sym (feed_third c d [])
fed_marker c (d ∷ e ∷ []) behind = refl
fed_marker c (d ∷ e ∷ f ∷ more) behind = refl

pub fed_marks : (at_start : Bool) (t behind : List ℕ)
    → marks_line at_start (t ++ (line_feed ∷ [])) behind ≡ has_marker at_start (t ++ (line_feed ∷ []))
fed_marks at_start [] behind = refl
fed_marks at_start (c ∷ cs) behind = cc (fed_marker c cs behind, fed_marks (c == line_feed) cs behind)

pub last_marks : (at_start : Bool) (t : List ℕ) → marks_line at_start t [] ≡ has_marker at_start t
last_marks at_start [] = refl
last_marks at_start (c ∷ cs) = cc (append-nil cs, last_marks (c == line_feed) cs)

-- ## Starts of lines

-- whether a line begins after a text, which is at a line's start or elsewhere
abbrev pub opens_line : Bool → List ℕ → Bool
opens_line at_start [] = at_start
opens_line at_start (c ∷ cs) = opens_line (c == line_feed) cs

pub feed_opens : (at_start : Bool) (t : List ℕ) → opens_line at_start (t ++ (line_feed ∷ [])) ≡ true
feed_opens at_start [] = refl
feed_opens at_start (c ∷ cs) = feed_opens (c == line_feed) cs

pub opens_too : (at_start : Bool) (t : List ℕ) → opens_line at_start t ≡ true → opens_line true t ≡ true
opens_too at_start [] e = refl
opens_too at_start (c ∷ cs) e = e

-- ## Pieces of which no document marker begins a line

-- wherever the piece is, and whatever comes after it
abbrev pub IsUnmarked : List ℕ → Type 0
IsUnmarked w = (at_start : Bool) (o : List ℕ) → marks_line at_start w o ≡ false

join_unmarked : (at_start : Bool) (a b o : List ℕ) → marks_line at_start a (b ++ o) ≡ false → IsUnmarked b
    → marks_line at_start (a ++ b) o ≡ false
join_unmarked at_start [] b o h k = k at_start o
join_unmarked at_start (c ∷ cs) b o h k =
    let n = or_parts (at_start && is_document_indicator (c ∷ (cs ++ (b ++ o))))
    (marks_line (c == line_feed) cs (b ++ o)) h in
    or_from (at_start && is_document_indicator (c ∷ ((cs ++ b) ++ o))) (marks_line (c == line_feed) (cs ++ b) o)
    (ap (λ (t : List ℕ). at_start && is_document_indicator (c ∷ t)) (append_assoc cs b o) ∙ n.0)
    (join_unmarked (c == line_feed) cs b o n.1 k)

pub both_unmarked : (a b : List ℕ) → IsUnmarked a → IsUnmarked b → IsUnmarked (a ++ b)
both_unmarked a b h k at_start o = join_unmarked at_start a b o (h at_start (b ++ o)) k

-- after a character with which no marker begins
first_unmarked : (c : ℕ) (cs o : List ℕ) → (c == hyphen) ≡ false → (c == full_stop) ≡ false
    → marks_line (c == line_feed) cs o ≡ false → (at_start : Bool) → marks_line at_start (c ∷ cs) o ≡ false
first_unmarked c cs o e f h at_start = grind arith

words_unmarked : (w o : List ℕ) → NoBreaks w → marks_line false w o ≡ false
words_unmarked [] o h = refl
words_unmarked (c ∷ cs) o h = ap (λ (b : Bool). marks_line b cs o) (no_feed c h.0) ∙ words_unmarked cs o h.1

-- a line, or its beginning, whose first character begins no marker
pub line_unmarked : (c : ℕ) (cs : List ℕ) → (c == hyphen) ≡ false → (c == full_stop) ≡ false
    → NoBreaks (c ∷ cs) → IsUnmarked (c ∷ cs)
line_unmarked c cs e f h at_start o = first_unmarked c cs o e f (words_unmarked (c ∷ cs) o h) at_start

comment_unmarked : (t : List ℕ) → (t ≡ []) ⊎ IsComment t → IsUnmarked t
comment_unmarked t (inl e) = subst IsUnmarked (sym e) (λ at_start o. refl)
comment_unmarked t (inr (words, are, e)) = subst IsUnmarked (sym e)
    (line_unmarked 35 words refl refl (refl, no_breaks_in is_yaml_non_break refl refl words are))

blanks_unmarked : (w : List ℕ) → AreIn is_blank w → IsUnmarked w
blanks_unmarked [] h at_start o = refl
blanks_unmarked (c ∷ cs) h at_start o =
    first_unmarked c cs o (no_dash c h.0) (no_dot c h.0) (blanks_unmarked cs h.1 (c == line_feed) o) at_start
  where
    no_dash : (c : ℕ) → IsTrue (is_blank c) → (c == hyphen) ≡ false
    no_dash c h = grind (arith, nat_tests)

    no_dot : (c : ℕ) → IsTrue (is_blank c) → (c == full_stop) ≡ false
    no_dot c h = grind (arith, nat_tests)

pub skipped_unmarked : (w : List ℕ) → IsSkipped w → IsUnmarked w
skipped_unmarked _ nothing at_start o = refl
skipped_unmarked _ (one_space w h) at_start o = first_unmarked 32 w o refl refl (skipped_unmarked w h false o) at_start
skipped_unmarked _ (one_break w h) at_start o = first_unmarked 10 w o refl refl (skipped_unmarked w h true o) at_start
skipped_unmarked _ (one_rest blanks comment w are k h) at_start o =
    both_unmarked blanks (comment ++ (10 ∷ w)) (blanks_unmarked blanks are)
    (both_unmarked comment (10 ∷ w) (comment_unmarked comment k)
    (λ s p. first_unmarked 10 w p refl refl (skipped_unmarked w h true p) s)) at_start o

pub last_unmarked : (t : List ℕ) → IsLastFiller t → IsUnmarked t
last_unmarked t (filler, text, filler_is, (front, comment, are, k, text_is), e) =
    let last = both_unmarked front comment (blanks_unmarked front are) (comment_unmarked comment k) in
    subst IsUnmarked (sym e) (both_unmarked filler text (skipped_unmarked filler (filler_skipped filler filler_is))
    (subst IsUnmarked (sym text_is) last))

rest_unmarked : (t : List ℕ) → IsLineRest t → IsUnmarked t
rest_unmarked t (blanks, comment, are, k, e) = grind (arith, both_unmarked, blanks_unmarked, comment_unmarked)

pub end_unmarked : (t o : List ℕ) → IsEol t o → IsUnmarked t
end_unmarked t o h = grind (arith, both_unmarked, rest_unmarked, skipped_unmarked, one_break, nothing)

-- a byte order mark after filler
pub mark_unmarked : (filler : List ℕ) → IsFiller filler → IsUnmarked (filler ++ (byte_order_mark ∷ []))
mark_unmarked filler is = search (both_unmarked, skipped_unmarked, filler_skipped, line_unmarked)

-- ## A document marker comes after such a piece

-- The text has y at a line's start, after a front.
pub record HasLine (t y : List ℕ) : Type 0 where
  pub front : List ℕ
  pub is : t ≡ front ++ y
  pub line : opens_line true front ≡ true

pub behind_piece : (at_start : Bool) (a b front y : List ℕ) → a ++ b ≡ front ++ y → marks_line at_start a b ≡ false
    → opens_line at_start front ≡ true → IsTrue (is_document_indicator y) → HasLine b y
behind_piece at_start [] b front y e unmarked line marker =
    record { front = front; is = e; line = opens_too at_start front line }
behind_piece at_start (c ∷ cs) b [] y e unmarked line marker = grind arith
behind_piece at_start (c ∷ cs) b (d ∷ ds) y e unmarked line marker =
    let others : cs ++ b ≡ ds ++ y = cc in
    let n = (or_parts (at_start && is_document_indicator (c ∷ (cs ++ b))) (marks_line (c == line_feed) cs b)
    unmarked).1 in
    behind_piece (c == line_feed) cs b ds y others n
    (subst (λ (z : ℕ). opens_line (z == line_feed) ds ≡ true) (sym cc) line) marker

-- a text of which none begins a line has none
pub no_line : (t y : List ℕ) → IsUnmarked t → HasLine t y → IsTrue (is_document_indicator y) → ⊥
no_line t y h l marker =
    let k = behind_piece true t [] l.front y (append-nil t ∙ l.is) (h true []) l.line marker in
    clash (is_document_indicator y) marker (ap is_document_indicator (none_behind k.front y (sym k.is)))
