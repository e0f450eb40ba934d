-- Separation, filler and the ends of lines are passed between two tokens.
use Rattle.std.proofs.Common.{◌≡◌, ℕ, zero, suc, ◌+◌, ◌≤◌, Bool, true, false, List, [], ◌∷◌, ◌++◌, slice_index, refl, sym, ap, ◌∙◌, arith, subst, append_assoc, append-nil, ◌⊎◌, inl, inr}
use Rattle.yaml_laws.proofs.Common.{◌||◌, ◌&&◌, ◌==◌, nat_tests, is_blank, is_break, is_yaml_non_break, line_feed, carriage_return, Marker, along, next_line, AreIn, spaces, past_white, joined_pieces, AreEach, AreMany, IsComment, IsCommentBehind, IsLineRest, IsFillerText, IsFillerLine, IsFiller, IsLastFiller, IsSeparationLine, IsSeparation, le_next, blank_no_break, non_break_feed_fails, return_breaks, and_false, clash}
use Rattle.yaml_laws.proofs.Flow.States.{moved, is_left_tab, is_filler_rest, is_comment_rest, past, past_comment}
use Rattle.yaml_laws.proofs.Flow.Places.{moved_append}
use Rattle.yaml_laws.proofs.Flow.Gaps.{stops_tab}

-- what is passed wherever it is and whatever comes after it: a tab in it is on a line without a token
abbrev pub IsPast : ℕ → List ℕ → Type 0
IsPast column w = (m : Marker) (y : List ℕ) → past column m (w ++ y) ≡ past column (moved m w) y

-- what is passed from a place on, up to one that is not left of the column
pub record PassesRight (column : ℕ) (m : Marker) (w : List ℕ) : Type 0 where
  pub right : column ≤ (moved m w).col
  pub is : (y : List ℕ) → past column m (w ++ y) ≡ past column (moved m w) y

-- what is passed wherever it is not left of the column
abbrev pub IsPastRight : ℕ → List ℕ → Type 0
IsPastRight column w = (m : Marker) → column ≤ m.col → PassesRight column m w

pub both_past : (column : ℕ) (a b : List ℕ) → IsPast column a → IsPast column b → IsPast column (a ++ b)
both_past column a b f g m y = cc (append_assoc a b y, f m (b ++ y), g (moved m a) y, moved_append m a b)

pub both_right : (column : ℕ) (m : Marker) (a b : List ℕ) → PassesRight column m a → PassesRight column (moved m a) b
    → PassesRight column m (a ++ b)
both_right column m a b f g = grind (arith, moved_append, past, append_assoc)

pub many_past : (column : ℕ) (P : List ℕ → Type 0) → ((w : List ℕ) → P w → IsPast column w) → (w : List ℕ) → AreMany P w
    → IsPast column w
many_past column P each w h = subst (IsPast column) (sym h.2) (pieces h.0 h.1)
  where
    pieces : (ws : List (List ℕ)) → AreEach P ws → IsPast column (joined_pieces ws)
    pieces [] k = λ m y. refl
    pieces (v ∷ vs) k = both_past column v (joined_pieces vs) (each v k.0) (pieces vs k.1)

pub many_right : (column : ℕ) (P : List ℕ → Type 0) → ((w : List ℕ) → P w → IsPastRight column w) → (w : List ℕ)
    → AreMany P w → IsPastRight column w
many_right column P each w h = subst (IsPastRight column) (sym h.2) (pieces h.0 h.1)
  where
    pieces : (ws : List (List ℕ)) → AreEach P ws → IsPastRight column (joined_pieces ws)
    pieces [] k m low = record { right = low; is = λ y. refl }
    pieces (v ∷ vs) k m low =
        let one = each v k.0 m low in both_right column m v (joined_pieces vs) one (pieces vs k.1 (moved m v) one.right)

pub no_feed : (c : ℕ) → is_blank c ≡ true → (c == line_feed) ≡ false
no_feed c h = grind (arith, nat_tests)

pub blanks_past : (column : ℕ) (w : List ℕ) → AreIn is_blank w → IsPastRight column w
blanks_past column [] h m low = record { right = low; is = λ y. refl }
blanks_past column (c ∷ cs) h m low = grind (arith, blanks_past column cs h.1 (along m 1) (le_next column m.col low))

pub spaces_are_blank : (n : ℕ) → AreIn is_blank (spaces n)
spaces_are_blank zero = tt
spaces_are_blank (suc n) = (refl, spaces_are_blank n)

pub spaces_past : (column n : ℕ) → IsPast column (spaces n)
spaces_past column zero m y = refl
spaces_past column (suc n) m y = spaces_past column n (along m 1) y

pub spaces_column : (m : Marker) (n : ℕ) → (moved m (spaces n)).col ≡ m.col + n
spaces_column m zero = omega arith
spaces_column m (suc n) = grind (arith, spaces_column (along m 1) n)

-- ## Comments

-- a line's end, with its break or the text's end
abbrev pub EndsLine : List ℕ → Type 0
EndsLine more = (more ≡ []) ⊎ (slice_index more 0 ≡ line_feed)

comment_ends : (column : ℕ) (m : Marker) (more : List ℕ) → EndsLine more
    → past_comment column m more ≡ past column m more
comment_ends column m [] h = refl
comment_ends column m (c ∷ cs) (inl e) = absurd (cc)
comment_ends column m (c ∷ cs) (inr e) =
    subst (λ (z : ℕ). past_comment column m (z ∷ cs) ≡ past column m (z ∷ cs)) (sym e) refl

words_end : (column : ℕ) (m : Marker) (words more : List ℕ) → AreIn is_yaml_non_break words → EndsLine more
    → past_comment column m (words ++ more) ≡ past column (moved m words) more
words_end column m [] more h ends = comment_ends column m more ends
words_end column m (c ∷ cs) more h ends =
    rw (h.0, non_break_feed_fails c h.0) (words_end column (along m 1) cs more h.1 ends)

maybe_comment_past : (column : ℕ) (m : Marker) (comment more : List ℕ) → ((comment ≡ []) ⊎ IsComment comment)
    → EndsLine more → past column m (comment ++ more) ≡ past column (moved m comment) more
maybe_comment_past column m comment more h k = grind (arith, past, moved, words_end)

-- blanks and maybe a comment, up to a line's end
pub front_past : (column : ℕ) (m : Marker) (t front comment more : List ℕ)
    → ((y : List ℕ) → past column m (front ++ y) ≡ past column (moved m front) y) → ((comment ≡ []) ⊎ IsComment comment)
    → t ≡ front ++ comment → EndsLine more → past column m (t ++ more) ≡ past column (moved m t) more
front_past column m t front comment more h k is ends =
    subst (λ (w : List ℕ). past column m (w ++ more) ≡ past column (moved m w) more) (sym is)
    (ap (past column m) (append_assoc front comment more) ∙ h (comment ++ more)
    ∙ maybe_comment_past column (moved m front) comment more k ends
    ∙ ap (λ (n : Marker). past column n more) (sym (moved_append m front comment)))

pub behind_is : (white comment : List ℕ) → IsCommentBehind white comment → (comment ≡ []) ⊎ IsComment comment
behind_is white comment (inl e) = inl e
behind_is white comment (inr h) = inr h.1

-- right of a column, the rest of a line is passed
pub rest_past : (column : ℕ) (m : Marker) (rest more : List ℕ) → IsLineRest rest → EndsLine more → column ≤ m.col
    → past column m (rest ++ more) ≡ past column (moved m rest) more
rest_past column m rest more h ends right =
    front_past column m rest h.0 h.1 more (λ y. (blanks_past column h.0 h.2 m right).is y) (behind_is h.0 h.1 h.3) h.4
    ends

-- wherever it is, a line without a token is passed
words_rest : (words more : List ℕ) → AreIn is_yaml_non_break words → EndsLine more
    → is_comment_rest (words ++ more) ≡ true
words_rest [] [] h ends = refl
words_rest [] (c ∷ cs) h (inl e) = absurd (cc)
words_rest [] (c ∷ cs) h (inr e) = subst (λ (z : ℕ). is_comment_rest (z ∷ cs) ≡ true) (sym e) refl
words_rest (c ∷ cs) more h ends = rw h.0 (words_rest cs more h.1 ends)

ends_rest : (more : List ℕ) → EndsLine more → is_filler_rest more ≡ true
ends_rest [] ends = refl
ends_rest (c ∷ cs) (inl e) = absurd (cc)
ends_rest (c ∷ cs) (inr e) = subst (λ (z : ℕ). is_filler_rest (z ∷ cs) ≡ true) (sym e) refl

blanks_rest : (w z : List ℕ) → AreIn is_blank w → is_filler_rest z ≡ true → is_filler_rest (w ++ z) ≡ true
blanks_rest [] z h k = k
blanks_rest (c ∷ cs) z h k = rw h.0 (blanks_rest cs z h.1 k)

none_stops : (column : ℕ) (m : Marker) (c : ℕ) (cs : List ℕ) → is_filler_rest cs ≡ true
    → stops_tab column m c cs ≡ false
none_stops column m c cs h = rw h (and_false (is_left_tab column m c))

bare_past : (column : ℕ) (m : Marker) (w z : List ℕ) → AreIn is_blank w → is_filler_rest z ≡ true
    → past column m (w ++ z) ≡ past column (moved m w) z
bare_past column m [] z h k = refl
bare_past column m (c ∷ cs) z h k = rw (none_stops column m c (cs ++ z) (blanks_rest cs z h.1 k), h.0, no_feed c h.0)
    (bare_past column (along m 1) cs z h.1 k)

pub filler_text_past : (column : ℕ) (m : Marker) (t more : List ℕ) → IsFillerText t → EndsLine more
    → past column m (t ++ more) ≡ past column (moved m t) more
filler_text_past column m t more h ends =
    grind (
      arith,
      past,
      moved,
      append_assoc,
      bare_past,
      maybe_comment_past,
      moved_append,
      is_filler_rest,
      ends_rest,
      words_rest,
    )

-- ## Whole lines

filler_line_past : (column : ℕ) (w : List ℕ) → IsFillerLine w → IsPast column w
filler_line_past column w h = grind (arith, filler_text_past, past, append_assoc, moved_append)

pub filler_past : (column : ℕ) (m : Marker) (w y : List ℕ) → IsFiller w
    → past column m (w ++ y) ≡ past column (moved m w) y
filler_past column m w y h = many_past column IsFillerLine (filler_line_past column) w h m y

-- filler up to the text's end
pub last_filler_past : (column : ℕ) (m : Marker) (t : List ℕ) → IsLastFiller t → past column m t ≡ (moved m t, [])
last_filler_past column m t h =
    ap (past column m) h.4 ∙ filler_past column m h.0 h.1 h.2 ∙ ap (past column (moved m h.0)) (sym (append-nil h.1))
    ∙ filler_text_past column (moved m h.0) h.1 [] h.3 (inl refl)
    ∙ ap (λ (n : Marker). (n, [])) (sym (moved_append m h.0 h.1) ∙ ap (moved m) (sym h.4))

-- ## Separation

-- the first line of separation, with its break
first_line : (column : ℕ) (blanks comment : List ℕ) → AreIn is_blank blanks → IsCommentBehind blanks comment
    → (m : Marker) → column ≤ m.col → (y : List ℕ)
    → past column m ((blanks ++ comment) ++ (line_feed ∷ y))
    ≡ past column (moved m ((blanks ++ comment) ++ (line_feed ∷ []))) y
first_line column blanks comment h k m low y =
    front_past column m (blanks ++ comment) blanks comment (10 ∷ y) (blanks_past column blanks h m low).is
    (behind_is blanks comment k) refl (inr refl)
    ∙ ap (λ (n : Marker). past column n y) (sym (moved_append m (blanks ++ comment) (10 ∷ [])))

separation_line_past : (column : ℕ) (w : List ℕ) → IsSeparationLine column w → IsPastRight column w
separation_line_past column w (blanks, comment, filler, h, k, f, is) m low =
    let front = (blanks ++ comment) ++ (10 ∷ []) in
    let text = is ∙ sym (append_assoc blanks comment (10 ∷ (filler ++ spaces column)))
    ∙ sym (append_assoc (blanks ++ comment) (10 ∷ []) (filler ++ spaces column)) in
    subst (PassesRight column m) (sym text)
    (record {
      right = grind (arith, moved_append, moved, reaches, spaces_column);
      is = λ y. ap (past column m) (append_assoc front (filler ++ spaces column) y
          ∙ append_assoc (blanks ++ comment) (10 ∷ []) ((filler ++ spaces column) ++ y))
          ∙ first_line column blanks comment h k m low ((filler ++ spaces column) ++ y)
          ∙ both_past column filler (spaces column) (λ n z. filler_past column n filler z f) (spaces_past column column)
          (moved m front) y
          ∙ ap (λ (n : Marker). past column n y) (sym (moved_append m front (filler ++ spaces column)));
    })
  where
    reaches : (a b : ℕ) → a ≡ b + column → column ≤ a
    reaches a b e = omega (arith, e)

pub separation_right : (column : ℕ) (w : List ℕ) → IsSeparation column w → IsPastRight column w
separation_right column w h m low = subst (PassesRight column m) (sym h.4)
    (let lines = many_right column (IsSeparationLine column) (separation_line_past column) h.0 h.2 m low in
    both_right column m h.0 h.1 lines (blanks_past column h.1 h.3 (moved m h.0) lines.right))

pub separation_past : (column : ℕ) (m : Marker) (w y : List ℕ) → IsSeparation column w → column ≤ m.col
    → past column m (w ++ y) ≡ past column (moved m w) y
separation_past column m w y h low = (separation_right column w h m low).is y

-- after separation
pub right_behind : (column : ℕ) (m : Marker) (w : List ℕ) → IsSeparation column w → column ≤ m.col
    → column ≤ (moved m w).col
right_behind column m w h low = (separation_right column w h m low).right

-- ## After a plain scalar

abbrev WhitePast : ℕ → Marker → Bool → List ℕ → Type 0
WhitePast column m b t = is_blank (slice_index (past column m t).1 0) ≡ false
    → past column (past_white m b t).mark (past_white m b t).rest ≡ past column m t

white_kind : (column : ℕ) (m : Marker) (b : Bool) (c : ℕ) (cs : List ℕ) (tab blank return break : Bool)
    → stops_tab column m c cs ≡ tab → is_blank c ≡ blank
    → ((c == carriage_return) && (slice_index cs 0 == line_feed)) ≡ return
    → is_break c ≡ break → WhitePast column (along m 1) (b || break) cs
    → WhitePast column (next_line m 1) (b || break) cs → WhitePast column m b (c ∷ cs)
white_kind column m b c cs true q r break t e f g on line h = grind arith
white_kind column m b c cs false true r true t e f g on line h = absurd (clash (is_break c) g (blank_no_break c e))
white_kind column m b c cs false true r false t e f g on line h = grind arith
white_kind column m b c cs false false true true t e f g on line h = grind arith
white_kind column m b c cs false false true false t e f g on line h =
    absurd (clash (is_break c) (return_breaks c (slice_index cs 0 == 10) f) g)
white_kind column m b c cs false false false true t e f g on line h = grind arith
white_kind column m b c cs false false false false t e f g on line h = grind arith

-- the blanks and breaks that a plain scalar's reader passes
pub white_past : (column : ℕ) (m : Marker) (b : Bool) (t : List ℕ)
    → is_blank (slice_index (past column m t).1 0) ≡ false
    → past column (past_white m b t).mark (past_white m b t).rest ≡ past column m t
white_past column m b [] h = refl
white_past column m b (c ∷ cs) h =
    white_kind column m b c cs (stops_tab column m c cs) (is_blank c) ((c == 13) && (slice_index cs 0 == 10))
    (is_break c) refl refl refl refl
    (white_past column (along m 1) (b || is_break c) cs) (white_past column (next_line m 1) (b || is_break c) cs) h
