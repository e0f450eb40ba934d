-- Quoted scalars.
use Rattle.std.proofs.Common.{◌≡◌, ℕ, zero, suc, ◌+◌, ◌*◌, true, false, List, [], ◌∷◌, ◌++◌, drop, slice_index, Option, Some, None, Ok, refl, sym, subst, arith, encode_utf8}
use Rattle.saphyr_scalar.proofs.Common.{◌&&◌, ◌==◌, not, pred, if◌then◌else◌, nat_tests, is_blank, is_z, is_break, is_hex, hex_value, is_document_indicator, and_true_left, backslash, Quote, Single, Double, Marker, Cursor, along, next_line}
use Rattle.saphyr_scalar.specs.Values.Flow as flow
use Rattle.saphyr_scalar.specs.Values.Escapes.{short_escape, digit_count, is_scalar_value}
use Rattle.saphyr_scalar.specs.Steps.Quoted.{TextRead, mid_line, with_front, is_literal, digits, character, escape_by_number, escape_of, escaped_character, special, special_len, QuotedGap, on_line, over_lines, blank_in, break_in, break_len, end_gap, quoted_line, is_left, escaped_gap, if_some, no_gap, inner_text, quoted}
use Rattle.saphyr_scalar.specs.Known.{is_open, longer, IsRestOfText}
use Rattle.saphyr_scalar.proofs.WhatCame.Rests.{is_nothing, some, later_than, shown, later_here, later_on, later_drop, first_known, indicator_known, drop_known, break_known}
use Rattle.saphyr_scalar.proofs.WhatCame.Steps.{Left, Came, Sure, and_known, beside, kept, whole, behind, further, reports, refused, open_refused, stays, given, past, same_step, ended, choose, choose_same, choose_at, choose_first, on}
use Rattle.saphyr_scalar.proofs.WhatCame.Runs.{passed}

-- a character before what it ends, if something is there
abbrev ends : ℕ → List ℕ → List ℕ
ends c [] = []
ends c (d ∷ ds) = c ∷ d ∷ ds

-- what is behind the quote, with the quote: that it ends the scalar is told by the next character
abbrev closed : ℕ → Left (List ℕ × Cursor)
closed mark = record { rest = λ x. ends mark x.1.rest; with_more = beside.with_more }

later_ends : (c : ℕ) (cs : List ℕ) → IsRestOfText (ends c cs) (c ∷ cs)
later_ends c [] = later_on c (later_here [])
later_ends c (d ∷ ds) = later_here (c ∷ d ∷ ds)

later_behind : (c : ℕ) (cs : List ℕ) → IsRestOfText cs (ends c cs)
later_behind c [] = later_here []
later_behind c (d ∷ ds) = later_on c (later_here (d ∷ ds))

some_ends : (c : ℕ) (cs : List ℕ) → is_open (ends c cs) ≡ false → is_nothing cs ≡ false
some_ends c [] known = absurd (cc)
some_ends c (d ∷ ds) known = refl

module _ (more : List ℕ) where
  -- ## Escapes

  module _ (text : List ℕ) (start : Marker) where
    digits_came : (n v : ℕ) (m : Marker) (r : List ℕ)
        → is_open text ≡ false
        → Came (whole text) more text (digits start n v (mid_line m r)) (digits start n v (mid_line m (r ++ more)))
    unfolding digits
    digits_came zero v m r known = stays
    digits_came (suc n) v m [] known = refused refl
    digits_came (suc n) v m (c ∷ cs) known =
        choose (is_hex c) (λ _. digits_came n (v * 16 + hex_value c) (along m 1) cs known) (λ _. reports known)

    escape_came : (short long : Option ℕ) (letter : ℕ) (m : Marker) (c d : ℕ) (r : List ℕ) → digit_count letter ≡ long
        → is_open text ≡ false
        → Came (whole text) more text (escape_of start short letter (mid_line m (c ∷ d ∷ r)))
        (escape_of start short letter (mid_line m (c ∷ d ∷ (r ++ more))))
    unfolding escape_of escape_by_number character
    escape_came (Some e) long letter m c d r is known = stays
    escape_came None None letter m c d r is known = rw is (reports known)
    escape_came None (Some n) letter m c d r is known = rw is (and_known _ (digits_came n 0 (along m 2) r known)
        (λ x _. choose (is_scalar_value x.0) (λ _. stays) (λ _. reports known)))

  special_came : (quote : Quote) (start m : Marker) (c : ℕ) (cs : List ℕ) → Came (whole (ends c cs)) more (ends c cs)
      (special quote start (mid_line m (c ∷ cs))) (special quote start (mid_line m (c ∷ (cs ++ more))))
  unfolding special escaped_character short_escape escape_of escape_by_number
  special_came Single start m c [] =
      ended (choose ((c == 39) && false) (λ _. given (later_here [])) (λ _. given (later_here [])))
  special_came Double start m c [] = choose_same ((c == 92) && true) ((c == 92) && not (is_break (slice_index more 0)))
      (λ known. absurd (cc)) (λ _. refused refl) (λ _. given (later_here []))
  special_came Single start m c (d ∷ ds) =
      choose ((c == 39) && (d == 39)) (λ _. stays) (λ _. stays)
  special_came Double start m c (d ∷ ds) = choose ((c == backslash) && not (is_break d))
      (λ is. and_known _ (escape_came (c ∷ d ∷ ds) start (short_escape d) (digit_count d) d m c d ds refl
      (shown 92 (c ∷ d ∷ ds) refl refl (and_true_left (c == backslash) _ is))) (λ e _. stays))
      (λ _. stays)

  -- ## Gaps

  end_came : (indent : ℕ) (start m : Marker) (gap : QuotedGap) (r : List ℕ) → Came (kept r) more r
      (end_gap indent start gap (mid_line m r)) (end_gap indent start gap (mid_line m (r ++ more)))
  unfolding end_gap quoted_line
  end_came indent start m (on_line bytes) r = choose_first is_z (λ _. refused refl) (λ _. stays)
  end_came indent start m (over_lines escaped n) r = and_known {at = record { rest = λ _. r; with_more = longer }} _
      (choose_at (λ t. (m.col == 0) && is_document_indicator t) (λ known. rw (indicator_known more r known))
      (λ _. open_refused) (λ _. choose_first is_z (λ _. open_refused) (λ _. choose (is_left indent m)
      (λ _. open_refused)
      (λ _. stays)))) (λ t _. stays)

  blank_came : (indent : ℕ) (gap : QuotedGap) (m : Marker) (c : ℕ) (cs : List ℕ) → is_blank c ≡ true
      → Came (kept (c ∷ cs)) more (c ∷ cs) (blank_in indent gap m c) (blank_in indent gap m c)
  unfolding blank_in
  blank_came indent u0 m c cs is = grind arith

  front_came : (mark : ℕ) (front text : List ℕ) (r q : TextRead) → Came (closed mark) more text r q
      → Came (closed mark) more text (with_front front r) (with_front front q)
  front_came mark front text r q h = and_known _ h (λ x _. stays)

  module _ (quote : Quote) (indent : ℕ) (start : Marker) where
    abbrev Inner : QuotedGap → ℕ → Marker → List ℕ → Type 0
    Inner gap k m r = Came (closed (flow.mark quote)) more (drop k r) (inner_text quote indent start gap k m r)
        (inner_text quote indent start gap k m (r ++ more))

    abbrev Others : List ℕ → Type 0
    Others cs = (gap : QuotedGap) (k : ℕ) (m : Marker) → Inner gap k m cs

    behind_special : (c : ℕ) (cs : List ℕ) (m n : Marker) (o : Option ℕ) → Others cs
        → Came (closed (flow.mark quote)) more (ends c cs)
        (if_some o (λ d. with_front (encode_utf8 d)
        (inner_text quote indent start no_gap (special_len quote (slice_index cs 0)) n cs))
        (if c == flow.mark quote then Ok ([], mid_line (along m 1) cs)
        else inner_text quote indent start (escaped_gap quote (slice_index (drop (break_len cs) cs) 0)) (break_len cs)
        (next_line (along m 1) (break_len cs)) cs))
        (if_some o (λ d. with_front (encode_utf8 d)
        (inner_text quote indent start no_gap (special_len quote (slice_index (cs ++ more) 0)) n (cs ++ more)))
        (if c == flow.mark quote then Ok ([], mid_line (along m 1) (cs ++ more))
        else inner_text quote indent start
        (escaped_gap quote (slice_index (drop (break_len (cs ++ more)) (cs ++ more)) 0)) (break_len (cs ++ more))
        (next_line (along m 1) (break_len (cs ++ more))) (cs ++ more)))
    behind_special c cs m n (Some d) others = let k = special_len quote (slice_index cs 0) in
        front_came (flow.mark quote) (encode_utf8 d) _ _ _ (same_step
        (λ known. rw (first_known more cs (some_ends c cs known)))
        (further (later_than (later_drop k cs) (later_behind c cs)) (others no_gap k n)))
    behind_special c cs m n None others = let k = break_len cs in
        choose (c == flow.mark quote)
        (λ is. let same : c ≡ flow.mark quote = grind (arith, nat_tests) in
        given (subst (λ x. IsRestOfText (ends (flow.mark quote) cs) (ends x cs)) (sym same) (later_here _)))
        (λ _. behind (later_than (later_drop k cs) (later_behind c cs)) (λ known. let left = some (drop k cs) known in
        rw (break_known more cs left, drop_known more k cs left, first_known more (drop k cs) left)) (others _ k _))

    turn : (gap : QuotedGap) (m : Marker) (c : ℕ) (cs : List ℕ) → Others cs → Inner gap zero m (c ∷ cs)
    unfolding inner_text
    turn gap m c cs others =
        choose (is_blank c) (λ is. and_known _ (blank_came indent gap m c cs is)
        (λ g _. past c (others g zero (along m 1))))
        (λ _. choose (is_break c) (λ _. let k = pred (break_len (c ∷ cs)) in past c
        (same_step (λ known. rw (first_known more cs (some cs known)))
        (further (later_drop k cs) (others (break_in gap) k _))))
        (λ _. and_known _ (end_came indent start m gap (c ∷ cs)) (λ text _. front_came _ text _ _ _
        (choose (is_literal quote c) (λ _. front_came _ (encode_utf8 c) _ _ _
        (past c (others no_gap zero (along m 1))))
        (λ _. further (later_ends c cs) (and_known _ (special_came quote start m c cs)
        (λ x _. behind_special c cs m x.1.mark x.0 others)))))))

    inner_came : (gap : QuotedGap) (k : ℕ) (m : Marker) (r : List ℕ) → Inner gap k m r
    unfolding inner_text
    inner_came gap k m [] = refused refl
    inner_came gap zero m (c ∷ cs) = turn gap m c cs (λ g k n. inner_came g k n cs)
    inner_came gap (suc k) m (c ∷ cs) = inner_came gap k m cs

  mark_ends : (quote : Quote) (r : List ℕ) → is_nothing r ≡ false → is_open (ends (flow.mark quote) r) ≡ false
  mark_ends quote u0 left = grind arith

  -- so a character behind it is enough
  pub quoted_came : (quote : Quote) (indent : ℕ) (s : Cursor)
      → Sure beside more s.rest (quoted quote indent s) (quoted quote indent (longer more s))
  unfolding quoted
  quoted_came quote indent s = on (λ t. inner_text quote indent s.mark no_gap zero t.mark t.rest) (passed more 1 s)
      (record {
        later = λ x e. later_than (later_behind (flow.mark quote) x.1.rest) (inner.later x e);
        same = λ x e left. inner.same x e (mark_ends quote x.1.rest left);
        known = λ e i seen. some (drop 1 s.rest) (inner.known e i seen);
        reported = inner.reported;
      })
    where
      inner : Came (closed (flow.mark quote)) more (drop 1 s.rest)
          (inner_text quote indent s.mark no_gap zero (along s.mark 1) (drop 1 s.rest))
          (inner_text quote indent s.mark no_gap zero (along s.mark 1) (drop 1 s.rest ++ more))
      inner = inner_came quote indent s.mark no_gap zero (along s.mark 1) (drop 1 s.rest)
