-- What each step of scalars does, by the laws of the readers.
use Rattle.saphyr_scanner.proofs.Common.{◌≡◌, ◌≢◌, ℕ, ◌+◌, ◌<◌, Bool, true, false, List, [], ◌∷◌, length, Some, IsTrue, IsFalse, refl, sym, ap, ◌∙◌, arith, subst, inl, ◌&&◌, ◌||◌, ◌==◌, slice_index, not, nat_lt, codes, is_break, is_blank_or_breakz, is_one_of, is_blank_or_break, BlockStyle, Marker, IsSpelledPlain, IsPlainReading, Cursor, Piece, or_parts, ne_eqb, ampersand, apostrophe, asterisk, at_sign, exclamation_mark, grave_accent, left_brace, left_bracket, number_sign, percent_sign, quotation_mark, right_brace, right_bracket, by_test, given_of}
use Rattle.saphyr_scalar.specs.declared.scalar.style.ScalarStyle.TheVariants.{Plain}
use Rattle.saphyr_scalar.specs.Steps.Block as blocks
use Rattle.saphyr_scalar.specs.Steps.Plain as words
use Rattle.saphyr_scanner.specs.Grammar.Tokens as tokens
use Rattle.saphyr_scanner.specs.Steps.Core.{Core, in_block}
use Rattle.saphyr_scanner.specs.Steps.Scalar as scalar
use Rattle.saphyr_scanner.specs.TokensTaken as taken
use Rattle.saphyr_scanner.specs.TokensTaken.{may_begin_plain, begins_text}
use Rattle.saphyr_scanner.proofs.Effects.Puts.{saving, saved_above, saved, same_block, same_flow}
use Rattle.saphyr_scanner.proofs.Effects.Walked.{Premises, Walked, walked_then, Doing, Stepped, at_inside, read_walked}
use Rattle.saphyr_scalar.proofs.Plain.Behind.{EndsPlain, plain_ends}
use Rattle.saphyr_scanner.proofs.Steps.Choice.{NoIndicator}
use Rattle.saphyr_scanner.proofs.Taken.Bare.{plain_fronts}
use Rattle.saphyr_scanner.proofs.Taken.SavedKeys.{IsSaved}
use Rattle.saphyr_scanner.proofs.Taken.Neutral.{neutral}
use Rattle.saphyr_scanner.proofs.Taken.Places.{at_here}
use Rattle.saphyr_scanner.proofs.Taken.States.{block_fetched}

-- ## Plain scalars

-- what a plain scalar begins with begins a text
plain_begins : (c : ℕ) → IsTrue (may_begin_plain c) → IsFalse (is_blank_or_break c) → IsTrue (begins_text c)
plain_begins c h non_space = grind arith

-- what a plain scalar begins with, but for `#`
pub record PlainStart (in_flow : Bool) (s : Cursor) : Type 0 where
  pub other : (slice_index s.rest 0 ≢ number_sign) → IsTrue (may_begin_plain (slice_index s.rest 0))
  pub no_indicator : IsTrue (is_one_of (codes "-?:") (slice_index s.rest 0))
      → IsFalse (is_blank_or_breakz (slice_index s.rest 1))
  pub no_block_scalar : in_flow ≡ false → IsFalse (is_one_of (codes "|>") (slice_index s.rest 0))

abbrev NoSign : List ℕ → Type 0
NoSign [] = Unit {0}
NoSign (c ∷ cs) = c ≢ 35

spelled_start : (m : Marker) (p behind : List ℕ) → IsSpelledPlain m true p behind → NoSign p
spelled_start m [] behind h = tt
spelled_start m (c ∷ cs) behind h = h.2 refl

no_sign : (f : Bool) (s t : Cursor) (text : List ℕ) (end : Marker) → IsPlainReading f s text end t
    → slice_index s.rest 0 ≢ number_sign
no_sign f s t text end r = grind (arith, spelled_start)

no_indicator_begins_plain : (x : ℕ) → (x == 44) ≡ false → (x == left_bracket) ≡ false → (x == right_bracket) ≡ false
    → (x == left_brace) ≡ false → (x == right_brace) ≡ false → (x == number_sign) ≡ false → (x == ampersand) ≡ false
    → (x == asterisk) ≡ false → (x == exclamation_mark) ≡ false → (x == apostrophe) ≡ false
    → (x == quotation_mark) ≡ false → (x == percent_sign) ≡ false → (x == at_sign) ≡ false → (x == grave_accent) ≡ false
    → may_begin_plain x ≡ true
no_indicator_begins_plain x a b c d e f g h i j k l m n = rw (a, b, c, d, e, f, g, h, i, j, k, l, m, n) refl

no_second : (b x y z : Bool) → (x && b) ≡ false → (y && b) ≡ false → (z && b) ≡ false
    → (x || (y || (z || false))) ≡ true → b ≡ false
no_second b x y z e f g h = grind arith

no_literal : (b x y : Bool) → (x && b) ≡ false → (y && b) ≡ false → not b ≡ false → (x || (y || false)) ≡ false
no_literal b x y e f g = grind arith

-- where no indicator is a plain scalar may begin
pub plain_start : (first second : ℕ) (c : Core) → slice_index c.cursor.rest 0 ≡ first
    → slice_index c.cursor.rest 1 ≡ second → NoIndicator first second c → PlainStart (not (in_block c)) c.cursor
plain_start first second c f g n = grind
    (arith, or_parts, no_sign, no_indicator_begins_plain, ne_eqb, no_second, no_literal)

-- A plain scalar puts its token, which may begin a key (`saved`). Where it ends and whether a key may follow comes
-- from `plain_ends`, and that no indicator begins it from the choice of this step (`starts`). The rest comes from the
-- law on plain scalars.
pub plain_does : (n : ℕ) (c : Core) → PlainStart (not (in_block c)) c.cursor
    → Walked (Premises c) (Doing (Some n) c) c.cursor (scalar.plain_steps n c)
unfolding scalar.plain_steps scalar.read_plain
plain_does n c starts =
    let here = c.cursor in
    let Q = Doing (Some n) c in
    saving n c (λ d. Walked (Premises c) Q here
    (scalar.read_plain (record (scalar.disallow_key d) { deeper = false }))) (λ l r s.
    let d : Core = record (scalar.disallow_key (record c { level = l; required = r })) { deeper = false } in
    let f = not (in_block d) in
    by_test (f && nat_lt here.mark.col c.indent) _ _ (Walked (Premises c) Q here) (λ _ _. at_here here)
    (λ _. walked_then (Premises c) _ Q here (words.plain f c.indent here) _
    (read_walked (Premises c) here (words.plain f c.indent here)
    (λ e q laws. at_inside here e (laws.0.plain f c.indent here e q))) (λ x e.
    let ends = given_of (EndsPlain f c.indent (here.mark.col + 1) here.mark.line) (words.plain f c.indent here) x
    (plain_ends f c.indent here) e in
    let t : Piece = record { span = record { start = here.mark; end = x.1 }; kind = tokens.Scalar Plain x.0 } in
    saved n c (scalar.behind_plain x.2 x.3 d) t s refl (inl refl) (λ _. ends.0) refl (neutral _ t.span refl) refl
    (λ i. absurd (cc))
    (plain_fronts t c (scalar.behind_plain x.2 x.3 d) refl)
    (λ i a b k. (k.start, plain_begins (slice_index a.rest 0) k.begins k.is_non_space)) refl
    (λ colon blank. absurd (let no = starts.no_indicator (ap (λ x. is_one_of (codes "-?:") x) colon) in cc))
    (λ arrival _. (
      λ allowed small. ends.5 allowed small,
      λ i allowed _. inl (ends.2 (rw i refl) (arrival.0 (sym (same_block n c l r s) ∙ i)) allowed),
      λ _ allowed small. inl (ends.4 allowed small),
    ))
    (record {
      less = λ laws. let z = laws.plain f c.indent here x.3 x.0 x.1 x.2 e in omega (arith, z);
      span = λ laws. let z = laws.plain f c.indent here x.3 x.0 x.1 x.2 e in
          record { ahead = z.ahead; begins = omega arith; inside = z.begins; ends = z.ends };
      token = λ laws. let z = laws.plain f c.indent here x.3 x.0 x.1 x.2 e in
          let read = rw (same_flow n c l r s) at z in (
            x.3,
            (λ _ _. record {
              start = refl;
              begins = starts.other (no_sign f here x.3 x.0 x.1 z.0);
              is_non_space = laws.non_space f c.indent here x.3 x.0 x.1 x.2 e;
              no_indicator = starts.no_indicator;
              no_block_scalar = starts.no_block_scalar;
              reading = read.0;
              stops = read.2;
              lines = read.1;
            }),
            taken.nothing x.3.mark x.3.rest,
          );
    }))))

-- ## Block scalars

indicator_begins : (style : BlockStyle) (x : ℕ) → x ≡ taken.block_indicator style → is_break x ≡ false
indicator_begins style x e = grind arith

-- A key may be too far after one.
pub block_does : (style : BlockStyle) (n : ℕ) (c : Core) → in_block c ≡ true → 0 < length c.cursor.rest
    → slice_index c.cursor.rest 0 ≡ taken.block_indicator style
    → Walked (Premises c) (Stepped n c) c.cursor (scalar.block_scalar_steps style n c)
unfolding scalar.block_scalar_steps scalar.read_block
block_does style n c b some f =
    let here = c.cursor in
    let Q = Stepped n c in
    saving n c (λ d. Walked (Premises c) Q here
    (scalar.read_block style (record d { key_allowed = true; deeper = false }))) (λ l r s.
    let d : Core = record c { level = l; required = r; key_allowed = true; deeper = false } in
    walked_then (Premises c) _ Q here (blocks.block_scalar style c.indent here) _
    (read_walked (Premises c) here (blocks.block_scalar style c.indent here)
    (λ e q laws. at_inside here e
    (laws.0.block_scalar style c.indent here e (indicator_begins style (slice_index here.rest 0) f) some q))) (λ x e.
    record {
      effect = record {
        less = λ laws. laws.block_scalar style c.indent here x.2 x.0 x.1 some e;
        ahead = λ laws. (laws.block_scalar style c.indent here x.2 x.0 x.1 some e).ahead;
        puts = λ laws. let z = laws.block_scalar style c.indent here x.2 x.0 x.1 some e in (z.begins, z.inside, z.ends);
        started = refl;
        ended = refl;
        goes_on = ((λ i. absurd (cc)), tt);
        few = omega arith;
        keeps = λ h a. ((saved_above h n c l r s a.0 a.1.0, a.1.1), tt);
      };
      fetched = λ laws text small opened from q later g arrival k.
          let Q : ℕ → Type 0 = λ j. IsSaved j c l r in
          block_fetched laws text small style later
          (record { level = subst Q g s; cursor = refl; outer = refl; indent = refl; outer_indents = refl }) refl refl
          arrival k b (same_block n c l r s ∙ b) f x e;
      noted = λ m. inl m;
    }))
