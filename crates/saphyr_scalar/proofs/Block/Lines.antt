-- The lines of a block scalar, read a piece at a time.
use Rattle.std.proofs.Common.{◌≡◌, ℕ, zero, suc, ◌+◌, ◌<◌, ◌≤◌, Bool, true, false, List, [], ◌∷◌, ◌++◌, length, slice_index, max, refl, sym, ap, ◌∙◌, arith, encode_utf8_all, append_assoc, add-one, nat_eq}
use Rattle.saphyr_scalar.proofs.Common.{◌==◌, encode_utf8, Option, Some, None, nat_tests, append-nil, encodes-append, is_break, carriage_return, line_feed, Marker, EmptyLines, Cursor, along, next_line, pass_break, or_false_left, or_false_right}
use Rattle.saphyr_scalar.specs.Values.Folding.{line_feeds}
use Rattle.saphyr_scalar.specs.Steps.Block.{line_cursor, is_indentation, with_column, with_empty_line, pass_empty_lines, pass_empty_lines_at}
use Rattle.saphyr_scalar.proofs.Quoted.Inside.{break_cases}
use Rattle.saphyr_scalar.proofs.PassedBreaks.{inside_same}

-- a place that shows no NUL is a character
pub read_left : (xs : List ℕ) (c : ℕ) → slice_index xs 0 ≡ suc c → 0 < length xs
read_left [] c e = absurd (cc)
read_left (x ∷ xs) c e = omega arith

-- line feeds and one more
pub feed_first : (n : ℕ) → encode_utf8 10 ++ encode_utf8_all (line_feeds n) ≡ encode_utf8_all (line_feeds (n + 1))
feed_first n = rw (add-one n) refl

pub feed_last : (n : ℕ) → encode_utf8_all (line_feeds n) ++ encode_utf8 10 ≡ encode_utf8_all (line_feeds (n + 1))
feed_last zero = sym (append-nil (encode_utf8 10)) ∙ feed_first zero
feed_last (suc n) = append_assoc (encode_utf8 10) (encode_utf8_all (line_feeds n)) (encode_utf8 10)
    ∙ ap (λ t. encode_utf8 10 ++ t) (feed_last n ∙ sym (feed_first n)) ∙ feed_first (suc n)

-- line feeds after others
pub feeds_join : (text : List ℕ) (m n : ℕ)
    → (text ++ encode_utf8_all (line_feeds m)) ++ encode_utf8_all (line_feeds n)
    ≡ text ++ encode_utf8_all (line_feeds m ++ line_feeds n)
feeds_join text m n = append_assoc text (encode_utf8_all (line_feeds m)) (encode_utf8_all (line_feeds n))
    ∙ ap (λ b. text ++ b) (sym (encodes-append (line_feeds m) (line_feeds n)))

-- a space of the indentation
pub space_on : (limit : Option ℕ) (lines : EmptyLines) (b : Bool) (m : Marker) (c : ℕ) (cs : List ℕ)
    → is_indentation limit m.col c ≡ true
    → pass_empty_lines limit lines b m (c ∷ cs) ≡ pass_empty_lines limit lines b (along m 1) cs
unfolding pass_empty_lines
space_on limit lines b m c cs h = grind arith

pub no_break : (c : ℕ) → is_break c ≡ false → (nat_eq c 10 ≡ false) × (nat_eq c 13 ≡ false)
no_break c h = (or_false_left (nat_eq c 10) (nat_eq c 13) h, or_false_right (nat_eq c 10) (nat_eq c 13) h)

-- neither a space of the indentation nor a break
stopped : (limit : Option ℕ) (lines : EmptyLines) (b : Bool) (m : Marker) (xs : List ℕ)
    → is_indentation limit m.col (slice_index xs 0) ≡ false → is_break (slice_index xs 0) ≡ false
    → pass_empty_lines limit lines b m xs ≡ (with_column lines m.col, line_cursor b m xs)
unfolding pass_empty_lines
stopped limit lines b m [] h k = refl
stopped None lines b m (c ∷ cs) h k = rw (h, (no_break c k).1, (no_break c k).0) refl
stopped (Some limit) lines b m (c ∷ cs) h k = rw (h, (no_break c k).1, (no_break c k).0) refl

pub stops : (limit : Option ℕ) (lines : EmptyLines) (s : Cursor)
    → is_indentation limit s.mark.col (slice_index s.rest 0) ≡ false → is_break (slice_index s.rest 0) ≡ false
    → pass_empty_lines_at limit lines s ≡ (with_column lines s.mark.col, s)
stops limit lines s h k = stopped limit lines s.blank_so_far s.mark s.rest h k

-- what comes after a CR, which an LF may follow
pub behind_cr : (m : Marker) (b : Bool) (cs : List ℕ) (P : Cursor → Type 0)
    → ((ds : List ℕ) → cs ≡ line_feed ∷ ds → P (line_cursor true (next_line m 2) ds))
    → ((slice_index cs 0 == line_feed) ≡ false → P (line_cursor true (next_line m 1) cs))
    → P (pass_break (line_cursor b m (carriage_return ∷ cs)))
behind_cr m b v2 v3 two one = grind (arith, nat_tests)

abbrev Taken : Option ℕ → EmptyLines → Bool → Marker → List ℕ → Cursor → Type 0
Taken limit lines b m xs s = pass_empty_lines limit lines b m xs ≡ pass_empty_lines_at limit
    (with_empty_line lines m.col) s

at_lf : (limit : Option ℕ) (lines : EmptyLines) (b : Bool) (m : Marker) (cs : List ℕ)
    → Taken limit lines b m (line_feed ∷ cs) (line_cursor true (next_line m 1) cs)
unfolding pass_empty_lines
at_lf None lines b m cs = refl
at_lf (Some limit) lines b m cs = refl

at_cr : (limit : Option ℕ) (lines : EmptyLines) (b : Bool) (m : Marker) (cs : List ℕ)
    → (slice_index cs 0 == line_feed) ≡ false
    → Taken limit lines b m (carriage_return ∷ cs) (line_cursor true (next_line m 1) cs)
unfolding pass_empty_lines
at_cr None lines b m cs h = rw h refl
at_cr (Some limit) lines b m cs h = rw h refl

at_cr_lf : (limit : Option ℕ) (lines : EmptyLines) (b : Bool) (m : Marker) (ds : List ℕ)
    → Taken limit lines b m (carriage_return ∷ line_feed ∷ ds) (line_cursor true (next_line m 2) ds)
unfolding pass_empty_lines
at_cr_lf None lines b m ds = ap (λ x. pass_empty_lines None (with_empty_line lines m.col) true x ds) (inside_same m)
at_cr_lf (Some limit) lines b m ds = cc (inside_same m)

-- a break at the end of an empty line
at_break : (limit : Option ℕ) (lines : EmptyLines) (b : Bool) (m : Marker) (xs : List ℕ)
    → is_break (slice_index xs 0) ≡ true → Taken limit lines b m xs (pass_break (line_cursor b m xs))
at_break limit lines b m u0 h = grind (arith, break_cases, at_lf, behind_cr, at_cr_lf, at_cr)

pub break_taken : (limit : Option ℕ) (lines : EmptyLines) (s : Cursor) → is_break (slice_index s.rest 0) ≡ true
    → pass_empty_lines_at limit lines s ≡ pass_empty_lines_at limit (with_empty_line lines s.mark.col) (pass_break s)
break_taken limit lines s h = at_break limit lines s.blank_so_far s.mark s.rest h

-- One turn of taking off empty lines: from s, which is looked at as `here`, to t. The first character is c.
pub break_turn : (limit : Option ℕ) (lines : EmptyLines) (s here t : Cursor) (c w : ℕ) → here ≡ s
    → c ≡ slice_index s.rest 0 → is_break c ≡ true → w ≡ max lines.widest here.mark.col → t ≡ pass_break here
    → pass_empty_lines_at limit (record { count = lines.count + 1; widest = w }) t ≡ pass_empty_lines_at limit lines s
break_turn limit lines s here t c w same read h e passed = grind (arith, break_taken, slice_index)

pub end_turn : (limit : Option ℕ) (lines : EmptyLines) (s here : Cursor) (c w : ℕ) → here ≡ s → c ≡ slice_index s.rest 0
    → is_break c ≡ false → is_indentation limit here.mark.col c ≡ false
    → w ≡ max lines.widest here.mark.col
    → ◌≡◌ {A = EmptyLines × Cursor} (record { count = lines.count; widest = w }, here)
    (pass_empty_lines_at limit lines s)
end_turn limit lines s here c w same read h k e = grind (arith, slice_index, stops)

pub break_index : (s here t : Cursor) (c n : ℕ) → here ≡ s → c ≡ slice_index s.rest 0 → is_break c ≡ true
    → t ≡ pass_break here → n ≤ s.mark.index → n + 1 ≤ t.mark.index
break_index s here t c n same read h passed few = grind arith
