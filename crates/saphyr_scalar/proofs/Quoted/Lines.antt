-- The breaks inside a quoted scalar, and the lines after them.
use Rattle.std.proofs.Common.{◌≡◌, ℕ, ◌+◌, ◌<◌, ◌≤◌, Bool, true, false, List, [], ◌∷◌, ◌++◌, length, slice_index, Result, Ok, Err, refl, sym, ap, ◌∙◌, arith, encode_utf8_all, nat_lt, cond, add-one}
use Rattle.saphyr_scalar.proofs.Common.{◌&&◌, ◌==◌, nat_tests, is_z, is_blank, is_break, is_document_indicator, Marker, Refusal, Quote, Cursor, ◌>>=◌, refuse, refuse_open, pass_blanks, pass_break, and_false, lt-ltb}
use Rattle.saphyr_scalar.specs.Known.{may_be_open}
use Rattle.saphyr_scalar.specs.declared.scalar.fault.FaultText.TheVariants as fault
use Rattle.saphyr_scalar.proofs.Quoted.Inside.{front_twice, quoted_behind_gap, behind_no_gap, word_from, at_break}
use Rattle.saphyr_scalar.specs.Steps.Quoted.{TextRead, with_front, mid_line, over_lines, no_gap, is_left, blank_in, folded_break, quoted_line, end_gap, inner_text, inner_text_at}
use Rattle.saphyr_scalar.proofs.PassedBreaks.{break_shorter}

-- a blank at the start of a line
pub line_blank : (q : Quote) (indent : ℕ) (start : Marker) (escaped : Bool) (n : ℕ) (s : Cursor)
    → is_blank (slice_index s.rest 0) ≡ true
    → ((slice_index s.rest 0 == 9) && is_left indent s.mark) ≡ false
    → inner_text_at q indent start (over_lines escaped n) (pass_blanks 1 s)
    ≡ inner_text_at q indent start (over_lines escaped n) s
unfolding inner_text blank_in
line_blank q indent start escaped n s h fits = grind arith

-- a tab left of the indentation
line_tab : (q : Quote) (indent : ℕ) (start : Marker) (escaped : Bool) (n : ℕ) (s : Cursor) → slice_index s.rest 0 ≡ 9
    → is_left indent s.mark ≡ true
    → inner_text_at q indent start (over_lines escaped n) s ≡ refuse fault.TabAsIndentation s.mark
unfolding inner_text blank_in
line_tab q indent start escaped n s h left = refuses s.mark s.rest h left
  where
    refuses : (m : Marker) (xs : List ℕ) → slice_index xs 0 ≡ 9 → is_left indent m ≡ true
        → inner_text q indent start (over_lines escaped n) 0 m xs ≡ refuse fault.TabAsIndentation m
    refuses m [] h left = absurd (cc)
    refuses m (c ∷ cs) h left = rw (h, left) refl

-- a break after another
pub line_break : (q : Quote) (indent : ℕ) (start : Marker) (escaped : Bool) (n : ℕ) (s : Cursor)
    → is_break (slice_index s.rest 0) ≡ true
    → inner_text_at q indent start (over_lines escaped (n + 1)) (pass_break s)
    ≡ inner_text_at q indent start (over_lines escaped n) s
line_break q indent start escaped n s h = cc (add-one n, at_break q indent start (over_lines escaped n) s h)

pub fits_right : (x col indent : ℕ) → indent ≤ col → ((x == 9) && nat_lt col indent) ≡ false
fits_right x col indent h = grind arith

pub fits_no_tab : (x col indent : ℕ) → (x ≡ 9 → ⊥) → ((x == 9) && nat_lt col indent) ≡ false
fits_no_tab x col indent h = let other : (x == 9) ≡ false = grind (arith, nat_tests) in rw other refl

-- the same steps, where the place is told again
pub break_on : (q : Quote) (indent : ℕ) (start : Marker) (escaped : Bool) (n : ℕ) (s u t : Cursor)
    → is_break (slice_index s.rest 0) ≡ true → u ≡ s → t ≡ pass_break u
    → inner_text_at q indent start (over_lines escaped (n + 1)) t ≡ inner_text_at q indent start
    (over_lines escaped n) s
break_on q indent start escaped n s u t h same on = cc (line_break q indent start escaped n s h)

pub break_on_shorter : (s u t : Cursor) → is_break (slice_index s.rest 0) ≡ true → u ≡ s → t ≡ pass_break u
    → length t.rest < length s.rest
break_on_shorter s u t h same on = rw (on ∙ ap pass_break same) (break_shorter s h)

pub blank_on : (q : Quote) (indent : ℕ) (start : Marker) (escaped : Bool) (n : ℕ) (s u t : Cursor)
    → is_blank (slice_index s.rest 0) ≡ true
    → ((slice_index s.rest 0 == 9) && is_left indent s.mark) ≡ false → u ≡ s → t ≡ pass_blanks 1 u
    → inner_text_at q indent start (over_lines escaped n) t ≡ inner_text_at q indent start (over_lines escaped n) s
blank_on q indent start escaped n s u t h fits same on = cc (line_blank q indent start escaped n s h fits)

pub tab_on : (q : Quote) (indent : ℕ) (start : Marker) (escaped : Bool) (n : ℕ) (s u : Cursor)
    → slice_index s.rest 0 ≡ 9 → u ≡ s → u.mark.col < indent
    → inner_text_at q indent start (over_lines escaped n) s ≡ refuse fault.TabAsIndentation u.mark
tab_on q indent start escaped n s u tab same left = rw same (line_tab q indent start escaped n s tab
    (lt-ltb s.mark.col indent (rw same at left)))

-- What begins a word on a later line.

-- what is read where `quoted_line` gives this
abbrev Begins : Quote → ℕ → Marker → Bool → ℕ → Cursor → Result Cursor Refusal → Type 0
Begins q indent start escaped n s (Ok t) =
    (t ≡ s) × (with_front (encode_utf8_all (folded_break escaped n)) (inner_text_at q indent start no_gap s)
    ≡ inner_text_at q indent start (over_lines escaped n) s)
Begins q indent start escaped n s (Err r) = inner_text_at q indent start (over_lines escaped n) s ≡ Err r

-- the tests of `quoted_line`, in their order
abbrev tests : Marker → Bool → Bool → Bool → Bool → Cursor → Result Cursor Refusal
tests start b marker nul left s = cond marker (refuse_open b fault.DocumentIndicatorInsideQuotes start)
    (cond nul (refuse_open b fault.EndInsideQuotes start)
    (cond left (refuse_open b fault.QuotedIndentation start) (Ok s)))

begins_by : (q : Quote) (indent : ℕ) (start : Marker) (escaped : Bool) (n : ℕ) (s t : Cursor) (word : TextRead)
    (b marker nul left : Bool)
    → inner_text_at q indent start (over_lines escaped n) s
    ≡ ((tests start b marker nul left t >>= λ u. Ok (encode_utf8_all (folded_break escaped n))) >>= λ text. with_front
    text word)
    → (nul ≡ false → inner_text_at q indent start no_gap s ≡ word)
    → Begins q indent start escaped n s (tests start b marker nul left s)
begins_by q indent start escaped n s t word b u0 nul left h w = grind arith

begins_end : (q : Quote) (indent : ℕ) (start m : Marker) (escaped : Bool) (n : ℕ) (b first left : Bool)
    → Begins q indent start escaped n (record { rest = []; mark = m; blank_so_far = b })
    (tests start true (first && false) true left (record { rest = []; mark = m; blank_so_far = b }))
unfolding inner_text
begins_end q indent start m escaped n b true left = refl
begins_end q indent start m escaped n b false left = refl

behind_lines : (q : Quote) (indent : ℕ) (start m : Marker) (escaped : Bool) (n c : ℕ) (cs : List ℕ) → is_blank c ≡ false
    → is_break c ≡ false
    → inner_text q indent start (over_lines escaped n) 0 m (c ∷ cs)
    ≡ ((tests start (may_be_open (c ∷ cs)) ((m.col == 0) && is_document_indicator (c ∷ cs)) (is_z c)
    (is_left indent m) (mid_line m (c ∷ cs)) >>= λ u. Ok (encode_utf8_all (folded_break escaped n)))
    >>= λ text. with_front text (word_from q indent start m c cs))
unfolding end_gap quoted_line
behind_lines q indent start m escaped n c cs blank break =
    quoted_behind_gap q indent start (over_lines escaped n) m c cs blank break

begins_at : (q : Quote) (indent : ℕ) (start m : Marker) (escaped : Bool) (n : ℕ) (b : Bool) (xs : List ℕ)
    → is_blank (slice_index xs 0) ≡ false → is_break (slice_index xs 0) ≡ false
    → Begins q indent start escaped n (record { rest = xs; mark = m; blank_so_far = b })
    (quoted_line indent start (record { rest = xs; mark = m; blank_so_far = b }))
unfolding quoted_line
begins_at q indent start m escaped n b [] blank break =
    begins_end q indent start m escaped n b (m.col == 0) (is_left indent m)
begins_at q indent start m escaped n b (c ∷ cs) blank break =
    begins_by q indent start escaped n (record { rest = c ∷ cs; mark = m; blank_so_far = b }) (mid_line m (c ∷ cs))
    (word_from q indent start m c cs) (may_be_open (c ∷ cs)) ((m.col == 0) && is_document_indicator (c ∷ cs)) (is_z c)
    (is_left indent m) (behind_lines q indent start m escaped n c cs blank break)
    (λ nul. behind_no_gap q indent start m c cs blank break nul)

begins_with_non_space : (q : Quote) (indent : ℕ) (start : Marker) (escaped : Bool) (n : ℕ) (s : Cursor)
    → is_blank (slice_index s.rest 0) ≡ false → is_break (slice_index s.rest 0) ≡ false
    → Begins q indent start escaped n s (quoted_line indent start s)
begins_with_non_space q indent start escaped n s blank break =
    begins_at q indent start s.mark escaped n s.blank_so_far s.rest blank break

-- a word that may be on a later line
pub begins_word : (q : Quote) (indent : ℕ) (start : Marker) (escaped : Bool) (n : ℕ) (text : List ℕ) (s t : Cursor)
    → is_blank (slice_index s.rest 0) ≡ false → is_break (slice_index s.rest 0) ≡ false
    → quoted_line indent start s ≡ Ok t
    → (t ≡ s) × (with_front (text ++ encode_utf8_all (folded_break escaped n)) (inner_text_at q indent start no_gap t)
    ≡ with_front text (inner_text_at q indent start (over_lines escaped n) s))
begins_word q indent start escaped n text s t blank break e =
    let r = rw e at (begins_with_non_space q indent start escaped n s blank break) in (
      r.0,
      ap (λ u. with_front (text ++ encode_utf8_all (folded_break escaped n))
          (inner_text_at q indent start no_gap u)) r.0
          ∙ sym (front_twice text _ _) ∙ ap (with_front text) r.1,
    )

-- one that may not
pub begins_refused : (q : Quote) (indent : ℕ) (start : Marker) (escaped : Bool) (n : ℕ) (text : List ℕ) (s : Cursor)
    (refusal : Refusal) → is_blank (slice_index s.rest 0) ≡ false → is_break (slice_index s.rest 0) ≡ false
    → quoted_line indent start s ≡ Err refusal
    → with_front text (inner_text_at q indent start (over_lines escaped n) s) ≡ Err refusal
begins_refused q indent start escaped n text s refusal blank break e =
    ap (with_front text) (rw e at (begins_with_non_space q indent start escaped n s blank break))

later_non_space : (c x : ℕ) → c ≡ x → 46 < c → (is_blank x ≡ false) × (is_break x ≡ false)
later_non_space c x same non_space = grind (arith, nat_tests)

-- where such a word follows a break without empty lines
pub begins_later_word : (q : Quote) (indent : ℕ) (start : Marker) (escaped : Bool) (text : List ℕ) (s : Cursor) (c : ℕ)
    → c ≡ slice_index s.rest 0 → 46 < c → indent ≤ s.mark.col
    → with_front (text ++ encode_utf8_all (folded_break escaped 0)) (inner_text_at q indent start no_gap s)
    ≡ with_front text (inner_text_at q indent start (over_lines escaped 0) s)
unfolding quoted_line
begins_later_word q indent start escaped text s c read non_space right =
    grind (arith, later_non_space, slice_index, begins_word, nat_tests, and_false)
