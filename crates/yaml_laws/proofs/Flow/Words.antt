-- The plain scalars of a text in flow style are plain scalars as they are read.
use Rattle.std.proofs.Common.{◌≡◌, ◌≢◌, ℕ, ◌≤◌, Bool, true, false, List, [], ◌∷◌, ◌++◌, length, slice_index, refl, sym, ap, ◌∙◌, arith, append_assoc, append-nil, IsTrue, inl, inr}
use Rattle.yaml_laws.proofs.Common.{◌&&◌, ◌==◌, nat_tests, colon, hyphen, is_blank, is_break, is_blank_or_breakz, is_bom, is_flow, Marker, along, end_of_text, AreIn, NoBreaks, EndsPlain, is_plain_safe, ArePlainSafe, IsWordIn, AreSafeBefore, IsWordBefore, words_text, IsNoMarker, AreFurtherWords, IsPlainText, joined_pieces, AreEach, AreMany, IsWordGap, IsLoneDash, IsFurtherWord, IsPlain, IsLastWord, IsPlainKey}
use Rattle.yaml_laws.proofs.Flow.States.{moved, IsClear}
use Rattle.yaml_laws.proofs.Flow.Places.{moved_append, right_along, clear_front, clear_back, clear_here}
use Rattle.yaml_laws.proofs.Flow.Names.{unbroken_along, unbroken_on_line}
use Rattle.yaml_laws.proofs.Flow.WordGaps.{passed_moved, word_gap, plain_gap}

-- ## Words

-- what a safe character is not
pub record IsOther (f : Bool) (c : ℕ) : Type 0 where
  pub blank_or_breakz : is_blank_or_breakz c ≡ false
  pub byte_order_mark : is_bom c ≡ false
  pub flow : (f && is_flow c) ≡ false

pub safe_other : (f : Bool) (c : ℕ) → IsTrue (is_plain_safe f c) → IsOther f c
safe_other f c h = grind arith

pub no_breakz_no_break : (c : ℕ) → is_blank_or_breakz c ≡ false → is_break c ≡ false
no_breakz_no_break c h = grind (arith, nat_tests)

word_unbroken : (f : Bool) (w y : List ℕ) → AreSafeBefore f w y → NoBreaks w
word_unbroken f [] y h = tt
word_unbroken f (c ∷ cs) y h = (no_breakz_no_break c (safe_other f c h.0).blank_or_breakz, word_unbroken f cs y h.2)

-- ## Words before what follows them

safe_before : (f : Bool) (w y : List ℕ) → ArePlainSafe f w → AreSafeBefore f w y
safe_before f [] y h = tt
safe_before f (c ∷ cs) y h = (h.0, λ e. next cs (h.1 e) h.2, safe_before f cs y h.2)
  where
    next : (cs : List ℕ) → cs ≢ [] → ArePlainSafe f cs → IsTrue (is_plain_safe f (slice_index (cs ++ y) 0))
    next [] some k = absurd (some refl)
    next (d ∷ ds) some k = k.0

lone_dash : (c : ℕ) (f second : Bool) → (f ≡ true → second ≡ false) → (f && (c == hyphen) && second) ≡ false
lone_dash c f second h = grind arith

-- a word comes before anything
pub word_before : (f : Bool) (w y : List ℕ) → IsWordIn f w → IsWordBefore f w y
word_before f w y h = record {
  some = h.some;
  safe = safe_before f w y h.safe;
  no_comment = h.no_comment;
  no_lone_dash = by_word w h.some h.safe h.no_lone_dash;
}
  where
    dash : (c : ℕ) → (c == hyphen) ≡ true → c ≡ hyphen
    dash c e = grind (arith, nat_tests)

    by_first : (c : ℕ) (b : Bool) → (f ≡ true → (c ∷ []) ≢ hyphen ∷ []) → (f && (c == hyphen) && b) ≡ false
    by_first c b other = by_test f (c == 45) refl other
      where
        by_test : (g : Bool) (q : Bool) → (c == hyphen) ≡ q → (g ≡ true → (c ∷ []) ≢ hyphen ∷ [])
            → (g && q && b) ≡ false
        by_test g q e k = grind arith

    by_word : (w : List ℕ) → w ≢ [] → ArePlainSafe f w → (f ≡ true → w ≢ hyphen ∷ [])
        → (f && (slice_index (w ++ y) 0 == hyphen) && is_flow (slice_index (w ++ y) 1)) ≡ false
    by_word [] some safe other = absurd (some refl)
    by_word (c ∷ []) some safe other = by_first c (is_flow (slice_index y 0)) other
    by_word (c ∷ d ∷ ds) some safe other = lone_dash c f (is_flow d) (λ e. rw e at (safe_other f d safe.2.0).flow)

-- a colon is a character of a word
pub colon_is_safe : (f : Bool) → IsTrue (is_plain_safe f 58)
colon_is_safe f = grind arith

-- a key's last word comes before the key's colon
pub last_before : (f : Bool) (w r : List ℕ) → IsLastWord f w → IsWordBefore f w (colon ∷ r)
last_before f w r (some, safe, no_comment) =
    record { some = some; safe = all_safe w safe; no_comment = no_comment; no_lone_dash = by_word w some safe }
  where
    next : (cs : List ℕ) → AreIn (is_plain_safe f) cs → IsTrue (is_plain_safe f (slice_index (cs ++ (colon ∷ r)) 0))
    next [] k = colon_is_safe f
    next (d ∷ ds) k = k.0

    all_safe : (cs : List ℕ) → AreIn (is_plain_safe f) cs → AreSafeBefore f cs (colon ∷ r)
    all_safe [] k = tt
    all_safe (c ∷ cs) k = (k.0, λ _. next cs k.1, all_safe cs k.1)

    by_word : (w : List ℕ) → w ≢ [] → AreIn (is_plain_safe f) w
        → (f && (slice_index (w ++ (colon ∷ r)) 0 == hyphen) && is_flow (slice_index (w ++ (colon ∷ r)) 1)) ≡ false
    by_word [] some safe = absurd (some refl)
    by_word (c ∷ []) some safe = lone_dash c f false (λ _. refl)
    by_word (c ∷ d ∷ ds) some safe = lone_dash c f (is_flow d) (λ e. rw e at (safe_other f d safe.1.0).flow)

-- ## No marker begins a line

no_marker : (m : Marker) (w o : List ℕ) → w ≢ [] → IsClear m w o → IsNoMarker m (w ++ o)
no_marker m [] o some clear = absurd (some refl)
no_marker m (c ∷ cs) o some clear = λ e. rw e at (clear_here m c cs o clear)

-- ## The words after the first

record IsFurther (f : Bool) (indent : ℕ) (m : Marker) (t o : List ℕ) : Type 0 where
  words : List (List ℕ × List ℕ)
  is : t ≡ words_text words
  further : AreFurtherWords f indent m words o
  right : indent ≤ m.col → indent ≤ (moved m t).col

-- after a word
behind_word : (m : Marker) (word more o : List ℕ) → NoBreaks word → IsClear m (word ++ more) o
    → IsClear (along m (length word)) more o
behind_word m word more o unbroken clear = rw (unbroken_along m word unbroken) at (clear_back m word more o clear)

-- at a word
at_word : (m : Marker) (gap word more o : List ℕ) → IsClear m (gap ++ (word ++ more)) o
    → IsClear (end_of_text m gap) (word ++ more) o
at_word m gap word more o clear = rw (passed_moved m gap (clear_front m gap (word ++ more) o clear).no_return)
    (clear_back m gap (word ++ more) o clear)

-- a gap and a word before others
one_further : (f : Bool) (indent : ℕ) (m : Marker) (gap word more o : List ℕ) → IsWordGap indent gap
    → IsWordBefore f word (more ++ o) → IsClear m (gap ++ (word ++ more)) o
    → IsFurther f indent (along (end_of_text m gap) (length word)) more o
    → IsFurther f indent m (gap ++ (word ++ more)) o
one_further f indent m gap word more o gapped is_word clear rest =
    let there = passed_moved m gap (clear_front m gap (word ++ more) o clear).no_return in
    let unbroken = word_unbroken f word (more ++ o) is_word.safe in
    let line = unbroken_along (end_of_text m gap) word unbroken in
    let unmarked : IsNoMarker (end_of_text m gap) (word ++ (words_text rest.words ++ o)) =
    rw rest.is at (no_marker (end_of_text m gap) word (more ++ o) is_word.some
    (clear_front (end_of_text m gap) word more o (at_word m gap word more o clear))) in
    record {
      words = (gap, word) ∷ rest.words;
      is = cc;
      further = (plain_gap f indent m gap gapped there, rw rest.is at is_word, unmarked, rest.further);
      right = λ low. rw (moved_append m gap (word ++ more), moved_append (moved m gap) word more, ← there, line)
          (rest.right (rw line at (right_along indent (end_of_text m gap) word (unbroken_on_line word unbroken)
          (rw there ((word_gap indent m gap gapped).right low)))));
    }

blank_is_apart : (c : ℕ) → IsTrue (is_blank c) → is_flow c ≡ false
blank_is_apart c h = grind (arith, nat_tests)

-- what is between words begins with no flow indicator
gap_is_apart : (indent : ℕ) (gap more : List ℕ) → IsWordGap indent gap → is_flow (slice_index (gap ++ more) 0) ≡ false
gap_is_apart indent gap more (inl (some, are)) = by_first gap some are
  where
    by_first : (t : List ℕ) → t ≢ [] → AreIn is_blank t → is_flow (slice_index (t ++ more) 0) ≡ false
    by_first [] some are = absurd (some refl)
    by_first (c ∷ cs) some are = blank_is_apart c are.0
gap_is_apart indent gap more (inr (blanks, lines, front, are, ls, prefix, is)) = rw is (by_first blanks are)
  where
    by_first : (t : List ℕ) → AreIn is_blank t
        → is_flow (slice_index ((t ++ (10 ∷ (lines ++ front))) ++ more) 0) ≡ false
    by_first [] are = refl
    by_first (c ∷ cs) are = blank_is_apart c are.0

-- a lone `-` comes before what begins with no flow indicator
dash_before : (f : Bool) (y : List ℕ) → is_flow (slice_index y 0) ≡ false → IsWordBefore f (hyphen ∷ []) y
dash_before f y apart = grind arith

-- lone `-` and their gaps, and what comes after them
dashes_further : (f : Bool) (indent : ℕ) (pieces : List (List ℕ)) → AreEach (IsLoneDash indent) pieces
    → (last o : List ℕ) → is_flow (slice_index (last ++ o) 0) ≡ false
    → ((m : Marker) → IsClear m last o → IsFurther f indent m last o)
    → (m : Marker) → IsClear m (joined_pieces pieces ++ last) o → IsFurther f indent m (joined_pieces pieces ++ last) o
dashes_further f indent [] h last o apart ends m clear = ends m clear
dashes_further f indent (p ∷ ps) ((gap, gapped, is), others) last o apart ends m clear =
    let more = joined_pieces ps ++ last in
    let text : (p ++ joined_pieces ps) ++ last ≡ gap ++ ((45 ∷ []) ++ more) =
    cc (append_assoc p (joined_pieces ps) last, append_assoc gap (45 ∷ []) more) in
    let all : IsClear m (gap ++ ((45 ∷ []) ++ more)) o = rw text at clear in
    let before = dash_before f (more ++ o) (next ps others) in
    let behind = behind_word (end_of_text m gap) (45 ∷ []) more o (word_unbroken f (45 ∷ []) (more ++ o) before.safe)
    (at_word m gap (45 ∷ []) more o all) in
    rw text (one_further f indent m gap (45 ∷ []) more o gapped before all
    (dashes_further f indent ps others last o apart ends (along (end_of_text m gap) 1) behind))
  where
    next : (qs : List (List ℕ)) → AreEach (IsLoneDash indent) qs
        → is_flow (slice_index ((joined_pieces qs ++ last) ++ o) 0) ≡ false
    next [] h = apart
    next (q ∷ qs) ((gap, gapped, is), others) =
        let text : ((q ++ joined_pieces qs) ++ last) ++ o ≡ gap ++ ((45 ∷ []) ++ ((joined_pieces qs ++ last) ++ o)) =
        ap (λ (t : List ℕ). ((t ++ joined_pieces qs) ++ last) ++ o) is ∙ simp append_assoc in
        rw text (gap_is_apart indent gap ((45 ∷ []) ++ ((joined_pieces qs ++ last) ++ o)) gapped)

-- words, and what comes after them
further_words : (f : Bool) (indent : ℕ) (pieces : List (List ℕ)) → AreEach (IsFurtherWord f indent) pieces
    → (last o : List ℕ) → ((m : Marker) → IsClear m last o → IsFurther f indent m last o)
    → (m : Marker) → IsClear m (joined_pieces pieces ++ last) o → IsFurther f indent m (joined_pieces pieces ++ last) o
further_words f indent [] h last o ends m clear = ends m clear
further_words f indent (p ∷ ps) ((dashes, gap, word, (lone, each, joins), gapped, is_word, is), others) last o ends m
    clear =
    let more = joined_pieces ps ++ last in
    let text = ap (λ (t : List ℕ). (t ++ joined_pieces ps) ++ last) (is ∙ ap (λ (t : List ℕ). t ++ (gap ++ word)) joins)
    ∙ simp append_assoc in
    let before = word_before f word (more ++ o) is_word in
    rw text (dashes_further f indent lone each (gap ++ (word ++ more)) o (apart gapped more)
    (λ n there. one_further f indent n gap word more o gapped before there
    (further_words f indent ps others last o ends (along (end_of_text n gap) (length word))
    (behind_word (end_of_text n gap) word more o (word_unbroken f word (more ++ o) before.safe)
    (at_word n gap word more o there)))) m (rw text at clear))
  where
    apart : IsWordGap indent gap → (more : List ℕ) → is_flow (slice_index ((gap ++ (word ++ more)) ++ o) 0) ≡ false
    apart gapped more = rw (append_assoc gap (word ++ more) o) (gap_is_apart indent gap ((word ++ more) ++ o) gapped)

nothing_further : (f : Bool) (indent : ℕ) (m : Marker) (o : List ℕ) → IsFurther f indent m [] o
nothing_further f indent m o = record { words = []; is = refl; further = tt; right = λ low. low }

-- lone `-`, a gap and a key's last word
last_further : (f : Bool) (indent : ℕ) (dashes gap word r : List ℕ) → AreMany (IsLoneDash indent) dashes
    → IsWordGap indent gap → IsLastWord f word → (m : Marker) → IsClear m (dashes ++ (gap ++ word)) (colon ∷ r)
    → IsFurther f indent m (dashes ++ (gap ++ word)) (colon ∷ r)
last_further f indent dashes gap word r (lone, each, joins) gapped is_word m clear =
    let text : dashes ++ (gap ++ word) ≡ joined_pieces lone ++ (gap ++ (word ++ [])) = cc (append-nil word) in
    rw text (dashes_further f indent lone each (gap ++ (word ++ [])) (58 ∷ r) apart
    (λ n there. one_further f indent n gap word [] (58 ∷ r) gapped (last_before f word r is_word) there
    (nothing_further f indent (along (end_of_text n gap) (length word)) (58 ∷ r))) m (rw text at clear))
  where
    apart : is_flow (slice_index ((gap ++ (word ++ [])) ++ (58 ∷ r)) 0) ≡ false
    apart = rw (append_assoc gap (word ++ []) (58 ∷ r)) (gap_is_apart indent gap ((word ++ []) ++ (58 ∷ r)) gapped)

-- ## The whole scalar

pub both_some : (a b : List ℕ) → a ≢ [] → a ++ b ≢ []
both_some [] b some e = absurd (some refl)
both_some (c ∷ a) b some e = absurd (cc)

-- the words of a plain scalar
record HasWords (f : Bool) (indent : ℕ) (m : Marker) (t o : List ℕ) : Type 0 where
  first : List ℕ
  behind : List ℕ
  is : t ≡ first ++ behind
  word : IsWordBefore f first (behind ++ o)
  others : IsFurther f indent (along m (length first)) behind o

has_words : (f : Bool) (indent : ℕ) (m : Marker) (t o first behind : List ℕ) → t ≡ first ++ behind
    → IsWordBefore f first (behind ++ o) → IsClear m t o
    → ((n : Marker) → IsClear n behind o → IsFurther f indent n behind o) → HasWords f indent m t o
has_words f indent m t o first behind is word clear further = grind (arith, behind_word, word_unbroken)

plain_words : (f : Bool) (indent : ℕ) (m : Marker) (t o : List ℕ) → IsPlain f indent t → IsClear m t o
    → HasWords f indent m t o
plain_words f indent m t o (first, others, is_first, (pieces, each, joins), is) clear =
    let text : t ≡ first ++ (joined_pieces pieces ++ []) = cc (append-nil (joined_pieces pieces)) in
    has_words f indent m t o first (joined_pieces pieces ++ []) text
    (word_before f first ((joined_pieces pieces ++ []) ++ o) is_first.0) clear
    (further_words f indent pieces each [] o (λ n _. nothing_further f indent n o))

-- those of a key before its colon
key_words : (f : Bool) (indent : ℕ) (m : Marker) (t r : List ℕ) → IsPlainKey f indent t → IsClear m t (colon ∷ r)
    → HasWords f indent m t (colon ∷ r)
key_words f indent m t r (inl (word, begins)) clear =
    has_words f indent m t (58 ∷ r) t [] (sym (append-nil t)) (last_before f t r word) clear
    (λ n _. nothing_further f indent n (58 ∷ r))
key_words f indent m t r (inr (
  plain,
  dashes,
  gap,
  word,
  (first, others, is_first, (pieces, each, joins), is),
  lone,
  gapped,
  last,
  e,
)) clear =
    let end = dashes ++ (gap ++ word) in
    let behind = joined_pieces pieces ++ end in
    let text : t ≡ first ++ behind = cc (append_assoc first (joined_pieces pieces) end) in
    has_words f indent m t (58 ∷ r) first behind text (word_before f first (behind ++ (58 ∷ r)) is_first.0) clear
    (further_words f indent pieces each end (58 ∷ r) (last_further f indent dashes gap word r lone gapped last))

text_of : (f : Bool) (indent : ℕ) (m : Marker) (t o : List ℕ) → HasWords f indent m t o → IsClear m t o
    → EndsPlain f indent (moved m t) o → IsPlainText f indent m t o
text_of f indent m t o h clear ends = grind (arith, no_marker, both_some, passed_moved)

pub plain_text : (f : Bool) (indent : ℕ) (m : Marker) (t o : List ℕ) → IsPlain f indent t → IsClear m t o
    → EndsPlain f indent (moved m t) o → IsPlainText f indent m t o
plain_text f indent m t o h clear ends = text_of f indent m t o (plain_words f indent m t o h clear) clear ends

pub key_text : (f : Bool) (indent : ℕ) (m : Marker) (t r : List ℕ) → IsPlainKey f indent t → IsClear m t (colon ∷ r)
    → EndsPlain f indent (moved m t) (colon ∷ r) → IsPlainText f indent m t (colon ∷ r)
key_text f indent m t r h clear ends = text_of f indent m t (58 ∷ r) (key_words f indent m t r h clear) clear ends

right_of : (f : Bool) (indent : ℕ) (m : Marker) (t o : List ℕ) → HasWords f indent m t o → indent ≤ m.col
    → indent ≤ (moved m t).col
right_of f indent m t o h low = grind (arith, word_unbroken, unbroken_along, moved_append)

-- a plain scalar ends right of a column that its lines reach
pub plain_right : (f : Bool) (indent : ℕ) (m : Marker) (t o : List ℕ) → IsPlain f indent t → IsClear m t o
    → indent ≤ m.col → indent ≤ (moved m t).col
plain_right f indent m t o h clear low = right_of f indent m t o (plain_words f indent m t o h clear) low

pub key_right : (f : Bool) (indent : ℕ) (m : Marker) (t r : List ℕ) → IsPlainKey f indent t → IsClear m t (colon ∷ r)
    → indent ≤ m.col → indent ≤ (moved m t).col
key_right f indent m t r h clear low = right_of f indent m t (58 ∷ r) (key_words f indent m t r h clear) low
