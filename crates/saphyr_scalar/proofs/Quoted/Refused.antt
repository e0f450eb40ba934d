-- A quoted scalar is refused where it begins, or at a tab in the indentation of a line.
use Rattle.std.proofs.Common.{◌≡◌, ℕ, zero, suc, ◌+◌, Bool, true, false, List, [], ◌∷◌, drop, slice_index, Result, Ok, Err, refl, sym, ap, ◌∙◌, arith, subst, encode_utf8}
use Rattle.saphyr_scalar.proofs.Common.{◌&&◌, ◌||◌, ◌==◌, not, pred, Option, Some, None, is_blank, is_break, is_hex, next_2_are, Quote, Single, Double, Refusal, Marker, Cursor, ◌>>=◌, along, next_line, pass, and_true_left, and_true_right, by_test, eqb-true, apostrophe, blank_no_break}
use Rattle.saphyr_scalar.specs.Values.Flow as flow
use Rattle.saphyr_scalar.specs.Passing.{IsPassed, nothing, character, line_break}
use Rattle.saphyr_scalar.specs.Steps.Quoted.{is_literal, hex_digit_count, digits, escape_by_number, escape_of, escaped_character, TextRead, mid_line, special, special_len, QuotedGap, no_gap, blank_in, break_in, quoted_line, end_gap, escaped_gap, break_len, if_some, inner_text, quoted}
use Rattle.saphyr_scalar.specs.Steps.Quoted as reading
use Rattle.saphyr_scalar.specs.RefusedInside.{IsRefusedInside}
use Rattle.saphyr_scalar.proofs.Quoted.Escapes.{escape_place}
use Rattle.saphyr_scalar.proofs.Moving.{along_more}
use Rattle.saphyr_scalar.proofs.Block.PlacedHeaders.{passed_passed}
use Rattle.saphyr_scalar.proofs.Quoted.Inside.{IsQuotedContent}
use Rattle.saphyr_scalar.proofs.RefusedOnWay.{refused_there, inside_start, one_more_passed}
use Rattle.saphyr_scalar.proofs.Given.{Refused, RefusedAt, refused_bind, refused_more}
use Rattle.saphyr_scalar.proofs.Properties.Refused.{front_refused}
use Rattle.saphyr_scalar.proofs.Quoted.SpelledEscapes.{escape_spelled, no_escape}
use Rattle.saphyr_scalar.proofs.Quoted.SpelledWords.{special_of}
use Rattle.saphyr_scalar.proofs.Quoted.SpelledLines.{gap_ended}
use Rattle.saphyr_scalar.proofs.NoBreaks.{mark_no_break, mark_no_nul}

-- ## Escapes and gaps, which are refused where the scalar begins

digits_refused : (start : Marker) (n v : ℕ) (s : Cursor) → RefusedAt start (digits start n v s)
unfolding digits
digits_refused start zero v s = tt
digits_refused start (suc n) v s =
    by_test (is_hex (slice_index s.rest 0)) _ _ (RefusedAt start) (λ _. digits_refused start n _ (pass 1 s)) (λ _. refl)

escape_refused : (start : Marker) (s : Cursor) → RefusedAt start (escaped_character start s)
unfolding escaped_character escape_of escape_by_number reading.character
escape_refused start s = grind (arith, slice_index, refused_bind, digits_refused, by_test)

word_refused : (indent : ℕ) (start : Marker) (s : Cursor) → RefusedAt start (quoted_line indent start s)
unfolding quoted_line
word_refused indent start s = grind arith

quoted_gap_refused : (indent : ℕ) (start : Marker) (gap : QuotedGap) (s : Cursor)
    → RefusedAt start (end_gap indent start gap s)
unfolding end_gap
quoted_gap_refused indent start u0 s = grind (arith, by_test, slice_index, refused_bind, word_refused)

-- a tab is refused where it is
blank_refused : (indent : ℕ) (gap : QuotedGap) (m : Marker) (c : ℕ) → RefusedAt m (blank_in indent gap m c)
unfolding blank_in
blank_refused indent u0 m c = grind arith

-- ## A character of several characters

-- its characters are passed; if there is none, a break comes after a backslash, or the closing quote
abbrev SpecialPasses : Quote → Marker → Marker → ℕ → List ℕ → Result (Option ℕ × Cursor) Refusal → Type 0
SpecialPasses q start m c cs (Ok (Some d, t)) = IsPassed m (c ∷ cs) t.mark (drop (special_len q (slice_index cs 0)) cs)
SpecialPasses q start m c cs (Ok (None, t)) =
    (c == flow.mark q) ≡ false → (is_break c ≡ false) × (is_break (slice_index cs 0) ≡ true)
SpecialPasses q start m c cs (Err e) = e.mark ≡ start

two_passed : (m : Marker) (c : ℕ) (cs : List ℕ) → is_break c ≡ false → (slice_index cs 0 == apostrophe) ≡ true
    → IsPassed m (c ∷ cs) (along m 2) (drop 1 cs)
two_passed m c [] e f = absurd (cc)
two_passed m c (d ∷ ds) e f =
    let quote : is_break d ≡ false = ap is_break (eqb-true d 39 f) in
    subst (λ (k : Marker). IsPassed m (c ∷ d ∷ ds) k ds) (along_more m 1 1 2 refl)
    (character m c (d ∷ ds) _ ds e (character (along m 1) d ds _ ds quote (nothing _ ds)))

escape_passed : (start m : Marker) (cs : List ℕ) (x : ℕ × Cursor)
    → escaped_character start (mid_line m (92 ∷ cs)) ≡ Ok x
    → IsPassed m (92 ∷ cs) x.1.mark (drop (suc (hex_digit_count (slice_index cs 0))) cs)
escape_passed start m [] x e = absurd (no_escape start m x.0 x.1 e)
escape_passed start m (d ∷ ds) x e =
    let k = hex_digit_count d in
    let two : 2 + k ≡ suc (suc k) = omega arith in
    let rest : x.1.rest ≡ drop (suc k) (d ∷ ds) = cc (escape_place start m (92 ∷ d ∷ ds) x e) in
    subst (λ u. IsPassed m (92 ∷ d ∷ ds) x.1.mark u) rest
    ((escape_spelled start m d ds x.0 x.1 e).passes x.1.mark x.1.rest (nothing x.1.mark x.1.rest))

-- An escape, or two single quotes, is passed, or it is refused at the scalar's start. Where neither is read, the
-- character is the closing quote, or a backslash with a break behind it.
special_passes : (q : Quote) (start m : Marker) (c : ℕ) (cs : List ℕ) → IsQuotedContent c → is_literal q c ≡ false
    → SpecialPasses q start m c cs (special q start (mid_line m (c ∷ cs)))
unfolding special
special_passes Single start m c cs is plain =
    by_test (next_2_are (c ∷ cs) 39 39) _ _ (SpecialPasses Single start m c cs)
    (λ e. two_passed m c cs is.break (and_true_right (c == 39) (slice_index cs 0 == 39) e))
    (λ _ other. absurd (let quote : (c == 39) ≡ true = special_of Single c is plain in cc))
special_passes Double start m c cs is plain =
    by_test ((c == 92) && not (is_break (slice_index cs 0))) _ _ (SpecialPasses Double start m c cs)
    (λ e. backslash (eqb-true c 92 (and_true_left (c == 92) (not (is_break (slice_index cs 0))) e)))
    (λ e other. (
      is.break,
      breaks (c == 34) (c == 92) (is_break (slice_index cs 0)) other (special_of Double c is plain)
          e,
    ))
  where
    breaks : (a b d : Bool) → a ≡ false → (a || b) ≡ true → (b && not d) ≡ false → d ≡ true
    breaks a b true h k e = refl
    breaks true b false h k e = absurd (cc)
    breaks false true false h k e = absurd (cc)
    breaks false false false h k e = absurd (cc)

    behind : List ℕ
    behind = drop (suc (hex_digit_count (slice_index cs 0))) cs

    by : (r : Result (ℕ × Cursor) Refusal) → RefusedAt start r
        → ((x : ℕ × Cursor) → r ≡ Ok x → IsPassed m (c ∷ cs) x.1.mark behind)
        → SpecialPasses Double start m c cs (r >>= λ e. Ok (Some e.0, e.1))
    by (Ok x) h k = k x refl
    by (Err e) h k = h

    backslash : c ≡ 92 → SpecialPasses Double start m c cs
        (escaped_character start (mid_line m (c ∷ cs)) >>= λ e. Ok (Some e.0, e.1))
    backslash same = by (escaped_character start (mid_line m (c ∷ cs))) (escape_refused start (mid_line m (c ∷ cs)))
        (λ x e. rw same (escape_passed start m cs x (ap (λ d. escaped_character start (mid_line m (d ∷ cs))) (sym same)
        ∙ e)))

-- ## The scalar

one_break : (s : Cursor) (m : Marker) (t : List ℕ) → IsPassed s.mark s.rest m t → is_break (slice_index t 0) ≡ true
    → IsPassed s.mark s.rest (next_line m (break_len t)) (drop (break_len t) t)
one_break s m t p e =
    let k : Marker = next_line m (break_len t) in
    let u = drop (break_len t) t in
    passed_passed s.mark s.rest m t k u p (line_break m t k u e (nothing k u))

behind_break : (c : ℕ) (cs : List ℕ) → drop (break_len (c ∷ cs)) (c ∷ cs) ≡ drop (pred (break_len (c ∷ cs))) cs
behind_break c cs = grind arith

-- What is refused inside a quoted scalar is refused at its start or at a place inside it. The proof goes through the
-- text as `inner_text` does, with `p`: all before the character was passed. So a blank or a gap is at such a place,
-- and behind an escape or a break there is another one.
inside_refused : (q : Quote) (indent : ℕ) (s : Cursor) (gap : QuotedGap) (k : ℕ) (m : Marker) (t : List ℕ)
    → IsPassed s.mark s.rest m (drop k t) → Refused (IsRefusedInside s) (inner_text q indent s.mark gap k m t)
unfolding inner_text
inside_refused q indent s gap k m [] p = (s.rest, nothing s.mark s.rest)
inside_refused q indent s gap zero m (c ∷ cs) p =
    let P = IsRefusedInside s in
    let start = s.mark in
    let here : Cursor = mid_line m (c ∷ cs) in
    let special_end = drop (special_len q (slice_index cs 0)) cs in
    let others = λ (g : QuotedGap) (h : is_break c ≡ false). inside_refused q indent s g 0 (along m 1) cs
    (one_more_passed s m c cs p h) in
    by_test (is_blank c) _ _ (Refused P)
    (λ blank. refused_bind P (blank_in indent gap m c) _
    (refused_more (λ e. e.mark ≡ m) P (blank_in indent gap m c) (blank_refused indent gap m c) (refused_there s here p))
    (λ g _. others g (blank_no_break c blank)))
    (λ no_blank. by_test (is_break c) _ _ (Refused P)
    (λ breaks. let n = break_len (c ∷ cs) in
    inside_refused q indent s (break_in gap) (pred n) (next_line m n) cs
    (subst (λ u. IsPassed s.mark s.rest (next_line m n) u) (behind_break c cs) (one_break s m (c ∷ cs) p breaks)))
    (λ no_break. refused_bind P (end_gap indent start gap here) _
    (refused_more (λ e. e.mark ≡ start) P (end_gap indent start gap here) (quoted_gap_refused indent start gap here)
    (inside_start s)) (λ text ended.
    let is : IsQuotedContent c = record {
      blank = no_blank;
      break = no_break;
      nul = (gap_ended indent start gap here text ended).nul;
    } in
    front_refused P text _
    (by_test (is_literal q c) _ _ (Refused P) (λ _. front_refused P (encode_utf8 c) _ (others no_gap no_break))
    (λ no_literal. refused_bind P (special q start (mid_line m (c ∷ cs))) _
    (refused_of_special (special q start (mid_line m (c ∷ cs))) (special_passes q start m c cs is no_literal)) (λ x e.
    let known = subst (SpecialPasses q start m c cs) e (special_passes q start m c cs is no_literal) in
    let escaped = λ (d : ℕ) (passed : IsPassed m (c ∷ cs) x.1.mark special_end). front_refused P (encode_utf8 d) _
    (inside_refused q indent s no_gap (special_len q (slice_index cs 0)) x.1.mark cs
    (passed_passed s.mark s.rest m (c ∷ cs) x.1.mark special_end p passed)) in
    let n = break_len cs in
    let broken = λ (h : is_break (slice_index cs 0) ≡ true).
    inside_refused q indent s (escaped_gap q (slice_index (drop n cs) 0)) n (next_line (along m 1) n) cs
    (one_break s (along m 1) cs (one_more_passed s m c cs p no_break) h) in
    behind x.0 x.1 known _ _ escaped
    (λ h. by_test (c == flow.mark q) _ _ (Refused P) (λ _. tt) (λ other. broken (h other).1))))))))
  where
    refused_of_special : (r : Result (Option ℕ × Cursor) Refusal) → SpecialPasses q s.mark m c cs r
        → Refused (IsRefusedInside s) r
    refused_of_special (Ok x) h = tt
    refused_of_special (Err e) h = inside_start s e h

    behind : (o : Option ℕ) (u : Cursor) → SpecialPasses q s.mark m c cs (Ok (o, u)) → (f : ℕ → TextRead) (r : TextRead)
        → ((d : ℕ) → IsPassed m (c ∷ cs) u.mark (drop (special_len q (slice_index cs 0)) cs)
        → Refused (IsRefusedInside s) (f d))
        → (((c == flow.mark q) ≡ false → (is_break c ≡ false) × (is_break (slice_index cs 0) ≡ true))
        → Refused (IsRefusedInside s) r)
        → Refused (IsRefusedInside s) (if_some o f r)
    behind (Some d) u known f r some none = some d known
    behind None u known f r some none = none known
inside_refused q indent s gap (suc k) m (c ∷ cs) p = inside_refused q indent s gap k m cs p

pub quoted_refused : (q : Quote) (indent : ℕ) (s : Cursor) → slice_index s.rest 0 ≡ flow.mark q
    → Refused (IsRefusedInside s) (quoted q indent s)
unfolding quoted
quoted_refused q indent s begins =
    inside_refused q indent s no_gap 0 (along s.mark 1) (drop 1 s.rest) (first s.rest begins)
  where
    first : (t : List ℕ) → slice_index t 0 ≡ flow.mark q → IsPassed s.mark t (along s.mark 1) (drop 1 t)
    first [] e = absurd (mark_no_nul q e)
    first (c ∷ cs) e = character s.mark c cs (along s.mark 1) cs (ap is_break e ∙ mark_no_break q)
        (nothing (along s.mark 1) cs)
