-- The parts of scalars in quotes.
use Rattle.std.proofs.Common.{◌≡◌, ℕ, zero, suc, ◌+◌, ◌*◌, ◌≤◌, List, [], ◌∷◌, ◌++◌, refl, sym, ap, ◌∙◌, subst, arith, append_assoc, length-append, drop, Some, ◌⊎◌, inl, inr}
use Rattle.std.specs.Prelude.{IsTrue, IsFalse, slice_index, ◌==◌}
use Rattle.saphyr_input.specs.Classes.{is_break, is_hex, hex_value}
use Rattle.saphyr_input.specs.Places.{is_document_indicator}
use Rattle.saphyr_input.proofs.Basics.Booleans.{by_test}
use Rattle.saphyr_scalar.specs.declared.values.Quote.{Quote}
use Rattle.saphyr_scalar.specs.declared.values.Quote.TheVariants.{Single, Double}
use Rattle.saphyr_scalar.specs.declared.values.Item.TheVariants.{Raw, Escaped, Break, EscapedBreak}
use Rattle.saphyr_scalar.specs.Reading.BlockLines.{spaces}
use Rattle.saphyr_scalar.specs.Values.Escapes.{short_escape, digit_count}
use Rattle.saphyr_scalar.specs.Values.Flow.{mark, raw_item}
use Rattle.saphyr_scalar.specs.Spelling.OneLine.{IsNumber, hexadecimal_from}
use Rattle.saphyr_scalar.specs.Spelling.Quoted.{closed, itself, broken, two_quotes, escaped, numbered, escaped_break, stands_for_itself}
use Rattle.scalar_laws.specs.Spelling.QuotedLines.{IsLine, space_count}
use Rattle.scalar_laws.specs.Spelling.Spaces.{AreSpaces}
use Rattle.scalar_laws.proofs.Beginnings.{both_in}
use Rattle.yaml_standard.specs.Quotes.{EndsInside, Continues, PassesPart, BeginsLine, SpellsDigits, AreDigitsOf, IsQuotedScalar}
use Rattle.yaml_standard.specs.Takes.{TakesOff}
use Rattle.yaml_standard.proofs.Pieces.{known_then}

-- ## Lines

pub spaces_counted : (n : ℕ) (xs : List ℕ) → n ≤ space_count (spaces n ++ xs)
spaces_counted zero xs = omega arith
spaces_counted (suc n) xs = let h = spaces_counted n xs in omega (arith, h)

pub indented_by : (n : ℕ) (a b : List ℕ) → a ≡ spaces n ++ b → n ≤ space_count a
indented_by n a b e = rw e (spaces_counted n b)

all_counted : (n : ℕ) (xs : List ℕ)
    → IsTrue (is_break (slice_index (drop (space_count (spaces n ++ 10 ∷ xs)) (spaces n ++ 10 ∷ xs)) 0))
all_counted zero xs = refl
all_counted (suc n) xs =
    let one : 1 + space_count (spaces n ++ 10 ∷ xs) ≡ suc (space_count (spaces n ++ 10 ∷ xs)) = omega arith in
    rw one (all_counted n xs)

pub of_spaces : (a b c : List ℕ) → TakesOff (AreSpaces 0) a b → b ≡ 10 ∷ c
    → IsTrue (is_break (slice_index (drop (space_count a) a) 0))
of_spaces a b c t e =
    let n = t.is.0 in
    rw (t.cut ∙ ap (λ x. x ++ b) t.is.2 ∙ ap (λ x. spaces n ++ x) e) (all_counted n c)

-- a piece that a quote ends is a line as it is with what comes after it
marker_in : (q : Quote) (front after : List ℕ) → IsFalse (is_document_indicator ((front ++ mark q ∷ []) ++ after))
    → IsFalse (is_document_indicator (front ++ mark q ∷ []))
marker_in Single [] after h = refl
marker_in Single (a ∷ []) after h = grind arith
marker_in Single (a ∷ b ∷ []) after h = grind arith
marker_in Single (a ∷ b ∷ c ∷ []) after h = grind arith
marker_in Single (a ∷ b ∷ c ∷ d ∷ f) after h = h
marker_in Double [] after h = refl
marker_in Double (a ∷ []) after h = grind arith
marker_in Double (a ∷ b ∷ []) after h = grind arith
marker_in Double (a ∷ b ∷ c ∷ []) after h = grind arith
marker_in Double (a ∷ b ∷ c ∷ d ∷ f) after h = h

spaces_in : (q : Quote) (front after : List ℕ)
    → space_count ((front ++ mark q ∷ []) ++ after) ≡ space_count (front ++ mark q ∷ [])
spaces_in Single [] after = refl
spaces_in Double [] after = refl
spaces_in q (c ∷ f) after = rw (spaces_in q f after) refl

behind_in : (q : Quote) (front after : List ℕ)
    → slice_index (drop (space_count (front ++ mark q ∷ [])) ((front ++ mark q ∷ []) ++ after)) 0
    ≡ slice_index (drop (space_count (front ++ mark q ∷ [])) (front ++ mark q ∷ [])) 0
behind_in Single [] after = refl
behind_in Double [] after = refl
behind_in q (c ∷ f) after =
    let t = f ++ mark q ∷ [] in
    by_test (c == 32) (1 + space_count t) 0
    (λ n. slice_index (drop n (c ∷ (t ++ after))) 0 ≡ slice_index (drop n (c ∷ t)) 0)
    (λ _. let one : 1 + space_count t ≡ suc (space_count t) = omega arith in rw one (behind_in q f after)) (λ _. refl)

abbrev FitsLine : ℕ → List ℕ → Type 0
FitsLine indent t = (indent ≤ space_count t) ⊎ IsTrue (is_break (slice_index (drop (space_count t) t) 0))

fits_in : (q : Quote) (indent : ℕ) (front after : List ℕ) → FitsLine indent ((front ++ mark q ∷ []) ++ after)
    → FitsLine indent (front ++ mark q ∷ [])
fits_in q indent front after (inl h) = inl (subst (λ n. indent ≤ n) (spaces_in q front after) h)
fits_in q indent front after (inr h) =
    let t = front ++ mark q ∷ [] in
    inr (subst (λ c. IsTrue (is_break c)) (behind_in q front after)
    (subst (λ n. IsTrue (is_break (slice_index (drop n (t ++ after)) 0))) (spaces_in q front after) h))

line_in : (q : Quote) (indent : ℕ) (front after : List ℕ) → IsLine indent ((front ++ mark q ∷ []) ++ after)
    → IsLine indent (front ++ mark q ∷ [])
line_in q indent front after line = record {
  no_marker = marker_in q front after line.no_marker;
  indented = fits_in q indent front after line.indented;
}

-- the same where the piece is at the front of a text
line_at : (q : Quote) (indent : ℕ) (b t after : List ℕ) → IsLine indent b → b ≡ t ++ after → EndsInside q indent t
    → IsLine indent t
line_at q indent b t after line e r =
    rw r.2 (line_in q indent r.0 after (subst (λ x. IsLine indent x) (e ∙ ap (λ x. x ++ after) r.2) line))

-- ## Parts

pub nothing_passed : (q : Quote) (indent : ℕ) (a : List ℕ) → Continues q indent a a
nothing_passed q indent a t after e r = record { piece = t; is = r; cut = e }

pub part_passed : (q : Quote) (indent : ℕ) (a b c : List ℕ) → Continues q indent a b → PassesPart q indent b c
    → Continues q indent a c
part_passed q indent a b c f g t after e r = let s = g.goes_on t after e r in f s.piece after s.cut s.is

pub closes : (q : Quote) (indent : ℕ) (a b : List ℕ) → a ≡ mark q ∷ b → TakesOff (EndsInside q indent) a b
closes Single indent a b e = record { piece = 39 ∷ []; is = ([], ([], closed Single [] refl, tt), refl); cut = e }
closes Double indent a b e = record { piece = 34 ∷ []; is = ([], ([], closed Double [] refl, tt), refl); cut = e }

pub passes_itself : (q : Quote) (indent c : ℕ) (a b : List ℕ) → a ≡ c ∷ b → IsTrue (stands_for_itself q c)
    → PassesPart q indent a b
passes_itself q indent c a b e h = record {
  goes_on = λ t after f r. record {
    piece = c ∷ t;
    is = (c ∷ r.0, (raw_item c ∷ r.1.0, itself q c t r.1.0 [] h r.1.1, r.1.2), ap (λ x. c ∷ x) r.2);
    cut = e ∙ ap (λ x. c ∷ x) f;
  };
  shorter = rw e (omega arith);
}

pub passes_two : (indent : ℕ) (a b c : List ℕ) → a ≡ 39 ∷ b → b ≡ 39 ∷ c → PassesPart Single indent a c
passes_two indent a b c d e = record {
  goes_on = λ t after f r. record {
    piece = 39 ∷ 39 ∷ t;
    is = (39 ∷ 39 ∷ r.0, (Raw 39 ∷ r.1.0, two_quotes t r.1.0 [] r.1.1, r.1.2), ap (λ x. 39 ∷ 39 ∷ x) r.2);
    cut = d ∙ ap (λ x. 39 ∷ x) (e ∙ ap (λ x. 39 ∷ x) f);
  };
  shorter = rw (d, e) (omega arith);
}

pub passes_break : (q : Quote) (indent : ℕ) (a b : List ℕ) → BeginsLine (IsLine indent) a b → PassesPart q indent a b
passes_break q indent a b (e, line) = record {
  goes_on = λ t after f r. record {
    piece = 10 ∷ t;
    is = (
      10 ∷ r.0,
      (Break ∷ r.1.0, broken q (10 ∷ t) r.1.0 [] refl r.1.1, (line_at q indent b t after line f r, r.1.2)),
      ap (λ x. 10 ∷ x) r.2,
    );
    cut = e ∙ ap (λ x. 10 ∷ x) f;
  };
  shorter = rw e (omega arith);
}

pub passes_escaped_break : (indent : ℕ) (a b c : List ℕ) → a ≡ 92 ∷ b → BeginsLine (IsLine indent) b c
    → PassesPart Double indent a c
passes_escaped_break indent a b c d (e, line) = record {
  goes_on = λ t after f r. record {
    piece = 92 ∷ 10 ∷ t;
    is = (
      92 ∷ 10 ∷ r.0,
      (
        EscapedBreak ∷ r.1.0,
        escaped_break (10 ∷ t) r.1.0 [] refl r.1.1,
        (line_at Double indent c t after line f r, r.1.2),
      ),
      ap (λ x. 92 ∷ 10 ∷ x) r.2,
    );
    cut = d ∙ ap (λ x. 92 ∷ x) (e ∙ ap (λ x. 10 ∷ x) f);
  };
  shorter = rw (d, e) (omega arith);
}

pub passes_escape : (indent n x : ℕ) (a b c : List ℕ) → a ≡ 92 ∷ b → b ≡ n ∷ c → short_escape n ≡ Some x
    → PassesPart Double indent a c
passes_escape indent n x a b c d e h = record {
  goes_on = λ t after f r. record {
    piece = 92 ∷ n ∷ t;
    is = (92 ∷ n ∷ r.0, (Escaped x ∷ r.1.0, escaped n x t r.1.0 [] h r.1.1, r.1.2), ap (λ y. 92 ∷ n ∷ y) r.2);
    cut = d ∙ ap (λ y. 92 ∷ y) (e ∙ ap (λ y. n ∷ y) f);
  };
  shorter = rw (d, e) (omega arith);
}

after_digits : (ds t after c : List ℕ) → c ≡ t ++ after → ds ++ c ≡ (ds ++ t) ++ after
after_digits ds t after c e = ap (λ y. ds ++ y) e ∙ sym (append_assoc ds t after)

pub passes_number : (indent n count : ℕ) (a b c g : List ℕ) → a ≡ 92 ∷ b → b ≡ n ∷ c → digit_count n ≡ Some count
    → AreDigitsOf count c g → PassesPart Double indent a g
passes_number indent n count a b c g d e many number =
    let x = number.0 in let s = number.2 in let ds = s.digits in
    let is_number : IsNumber n x ds = record {
      count = many ∙ ap (λ k. Some k) (sym s.many);
      hex = s.hex;
      value = s.stands_for;
      scalar = number.1;
    } in
    let long = length-append ds g in
    record {
      goes_on = λ t after f r. record {
        piece = 92 ∷ n ∷ (ds ++ t);
        is = (
          92 ∷ n ∷ (ds ++ r.0),
          (Escaped x ∷ r.1.0, numbered n x ds t r.1.0 [] is_number r.1.1, r.1.2),
          ap (λ y. 92 ∷ n ∷ y) (after_digits ds r.0 (34 ∷ []) t r.2),
        );
        cut = d ∙ ap (λ y. 92 ∷ y) (e ∙ ap (λ y. n ∷ y) (s.cut ∙ after_digits ds t after g f));
      };
      shorter = rw (d, e, s.cut) (omega (arith, long));
    }

-- ## Digits

pub no_digits : (a : List ℕ) → SpellsDigits 0 0 a a
no_digits a = record { digits = []; many = refl; hex = tt; stands_for = refl; cut = refl }

hexadecimal_more : (v d : ℕ) (ds : List ℕ)
    → hexadecimal_from v (ds ++ d ∷ []) ≡ hexadecimal_from v ds * 16 + hex_value d
hexadecimal_more v d [] = refl
hexadecimal_more v d (x ∷ ds) = hexadecimal_more (v * 16 + hex_value x) d ds

pub digit_more : (k v d w : ℕ) (a b c : List ℕ) → SpellsDigits k v a b → b ≡ d ∷ c → IsTrue (is_hex d)
    → w ≡ v * 16 + hex_value d → SpellsDigits (k + 1) w a c
digit_more k v d w a b c s e is_digit value =
    let long = length-append s.digits (d ∷ []) in
    let many = s.many in
    record {
      digits = s.digits ++ d ∷ [];
      many = omega (arith, long, many);
      hex = both_in is_hex s.digits (d ∷ []) s.hex (is_digit, tt);
      stands_for = hexadecimal_more 0 d s.digits ∙ ap (λ x. x * 16 + hex_value d) s.stands_for ∙ sym value;
      cut = s.cut ∙ ap (λ x. s.digits ++ x) e ∙ sym (append_assoc s.digits (d ∷ []) c);
    }

-- ## The whole

pub inside_closed : (q : Quote) (indent m : ℕ) (a b c : List ℕ) → Continues q indent a b → b ≡ m ∷ c → m ≡ mark q
    → TakesOff (EndsInside q indent) a c
inside_closed q indent m a b c passed e is =
    let last = closes q indent b c (e ∙ ap (λ x. x ∷ c) is) in passed last.piece c last.cut last.is

pub quoted_whole : (q : Quote) (indent m : ℕ) (a b c : List ℕ) → a ≡ m ∷ b → m ≡ mark q
    → TakesOff (EndsInside q indent) b c → TakesOff (IsQuotedScalar q indent) a c
quoted_whole q indent m a b c e is t =
    known_then (mark q ∷ []) (λ inside k. (inside, k.1, refl)) (e ∙ ap (λ x. x ∷ b) is) t
