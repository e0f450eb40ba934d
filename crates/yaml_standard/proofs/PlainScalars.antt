-- The parts of plain scalars and of keys.
use Rattle.std.proofs.Common.{◌≡◌, ◌≢◌, ℕ, zero, suc, ◌<◌, Bool, true, false, true≢false, List, [], ◌∷◌, ◌++◌, refl, sym, ap, ◌∙◌, subst, arith, append_assoc, length, length-append, inl, inr}
use Rattle.std.proofs.lemmas.List.{append-nil}
use Rattle.std.specs.Prelude.{Contains, IsTrue, IsFalse, slice_index, codes, ◌==◌}
use Rattle.saphyr_input.specs.Classes.{is_one_of, is_blank}
use Rattle.saphyr_input.proofs.Basics.Lists.{cons_not_empty, some_length}
use Rattle.saphyr_input.proofs.Sets.{is_char, one_of_set}
use Rattle.saphyr_scalar.specs.Spelling.Tag.{AreIn}
use Rattle.scalar_laws.specs.Spelling.Plain.{is_plain_safe, ArePlainSafe, IsWordIn}
use Rattle.scalar_laws.specs.Spelling.Spaces.{AreEach, AreMany, AreSpaces, IsLinePrefix, joined_pieces}
use Rattle.scalar_laws.proofs.Beginnings.{both_in, tails}
use Rattle.yaml_laws.specs.Grammar.FlowScalars.{begins_plain, IsFirstWord, IsEmptyLine, IsFoldedGap, IsWordGap, IsLoneDash, IsFurtherWord, IsPlain, IsLastWord, IsPlainKey}
use Rattle.yaml_standard.specs.PlainParts.{IsBeforeWord, AreMarkAndColons}
use Rattle.yaml_standard.specs.Takes.{TakesOff}
use Rattle.yaml_standard.specs.Words.{AreSomeSafe}
use Rattle.yaml_standard.proofs.Pieces.{taken_so, then, known_then, then_known, many_more}
use Rattle.yaml_standard.proofs.PlainWords.{first_is}
use Rattle.yaml_standard.proofs.Separation.{shorter_by}
use Rattle.yaml_laws.proofs.Flow.Words.{both_some, colon_is_safe}

-- ## First words

-- a `-`, a `?` or a `:`
record IsMark (c : ℕ) : Type 0 where
  begins : IsTrue (begins_plain c)
  safe : (in_flow : Bool) → IsTrue (is_plain_safe in_flow c)
  no_comment : c ≢ 35

both_styles : (c : ℕ) → IsTrue (is_plain_safe true c) → IsTrue (is_plain_safe false c) → (in_flow : Bool)
    → IsTrue (is_plain_safe in_flow c)
both_styles c h k true = h
both_styles c h k false = k

mark_is : (c : ℕ) → Contains (codes "-?:") c → IsMark c
mark_is c (zero, lt, e) = subst IsMark e
    (record { begins = refl; safe = both_styles 45 refl refl; no_comment = λ f. omega (arith, f) })
mark_is c (suc zero, lt, e) = subst IsMark e
    (record { begins = refl; safe = both_styles 63 refl refl; no_comment = λ f. omega (arith, f) })
mark_is c (suc (suc zero), lt, e) = subst IsMark e
    (record { begins = refl; safe = both_styles 58 refl refl; no_comment = λ f. omega (arith, f) })
mark_is c (suc (suc (suc k)), lt, e) = absurd (omega (arith, lt))

mark_of : (c : ℕ) → IsTrue (is_one_of (codes "-?:") c) → IsMark c
mark_of c h = mark_is c ((one_of_set (codes "-?:") c).0 h)

pub marked_first : (in_flow : Bool) (x : ℕ) (a b c : List ℕ) → a ≡ x ∷ b → IsTrue (is_one_of (codes "-?:") x)
    → TakesOff (AreSomeSafe in_flow) b c → TakesOff (IsFirstWord in_flow) a c
marked_first in_flow x a b c e h t =
    let m = mark_of x h in
    known_then (x ∷ [])
    (λ q k. (
      record {
        some = cons_not_empty x q;
        safe = (m.safe in_flow, λ _. k.0, k.1);
        no_comment = m.no_comment;
        no_lone_dash = λ _ f. k.0 (tails x 45 q [] f);
      },
      m.begins,
      λ f. k.0 (tails x 45 q [] f),
      λ f. k.0 (tails x 63 q [] f),
      λ f. k.0 (tails x 58 q [] f),
    ))
    e t

pub other_first : (in_flow : Bool) (x : ℕ) (a b c : List ℕ) → a ≡ x ∷ b → IsFalse (is_one_of (codes "-?:") x)
    → IsTrue (begins_plain x) → TakesOff (IsWordIn in_flow) a c → TakesOff (IsFirstWord in_flow) a c
other_first in_flow x a b c e no_mark begins t =
    let first = first_is t.piece c b x t.is.some (sym e ∙ t.cut) in
    let other : (y : ℕ) → IsTrue (is_one_of (codes "-?:") y) → t.piece ≢ y ∷ [] =
    λ y h f.
    let same : x ≡ y = sym first ∙ ap (λ p. slice_index p 0) f in
    absurd (true≢false (sym h ∙ ap (is_one_of (codes "-?:")) (sym same) ∙ no_mark)) in
    record {
      piece = t.piece;
      is = (
        t.is,
        subst (λ y. IsTrue (begins_plain y)) (sym first) begins,
        other 45 refl,
        other 63 refl,
        other 58 refl,
      );
      cut = t.cut;
    }

-- ## Gaps

pub line_of_spaces : (indent : ℕ) (a b c : List ℕ) → TakesOff (AreSpaces 0) a b → b ≡ 10 ∷ c
    → TakesOff (IsEmptyLine indent) a c
line_of_spaces indent a b c t e = then_known (10 ∷ []) (λ p k. (p, inl k, refl)) t e

pub line_of_prefix : (indent : ℕ) (a b c : List ℕ) → TakesOff (IsLinePrefix indent) a b → b ≡ 10 ∷ c
    → TakesOff (IsEmptyLine indent) a c
line_of_prefix indent a b c t e = then_known (10 ∷ []) (λ p k. (p, inr k, refl)) t e

pub line_shorter : (indent : ℕ) (a b : List ℕ) → TakesOff (IsEmptyLine indent) a b → length b < length a
line_shorter indent a b t =
    let l = length-append t.is.0 (10 ∷ []) in
    shorter_by a b t.piece t.cut (rw (ap length t.is.2) (omega (arith, l)))

abbrev IsLinesAndPrefix : ℕ → List ℕ → Type 0
IsLinesAndPrefix indent t =
    (lines front : List ℕ) × AreMany (IsEmptyLine indent) lines × IsLinePrefix indent front × (t ≡ lines ++ front)

pub folded_gap : (indent : ℕ) (a b c d e : List ℕ) → TakesOff (AreIn is_blank) a b → b ≡ 10 ∷ c
    → TakesOff (AreMany (IsEmptyLine indent)) c d → TakesOff (IsLinePrefix indent) d e
    → TakesOff (IsFoldedGap indent) a e
folded_gap indent a b c d e s f t u =
    then {P = AreIn is_blank} {Q = λ x. (inside : List ℕ) × IsLinesAndPrefix indent inside × (x ≡ 10 ∷ inside)}
    (λ p q h k. (p, k.1.0, k.1.1, h, k.1.2, k.1.3, ap (λ x. p ++ x) (k.2 ∙ ap (λ x. 10 ∷ x) k.1.4))) s
    (known_then {Q = IsLinesAndPrefix indent} (10 ∷ []) (λ q k. (q, k, refl)) f
    (then {P = AreMany (IsEmptyLine indent)} {Q = IsLinePrefix indent} (λ p q h k. (p, q, h, k, refl)) t u))

pub lone_dash : (indent : ℕ) (a b c : List ℕ) → TakesOff (IsWordGap indent) a b → b ≡ 45 ∷ c
    → TakesOff (IsLoneDash indent) a c
lone_dash indent a b c t e = then_known (45 ∷ []) (λ p k. (p, k, refl)) t e

pub dash_shorter : (indent : ℕ) (a b : List ℕ) → TakesOff (IsLoneDash indent) a b → length b < length a
dash_shorter indent a b t =
    let l = length-append t.is.0 (45 ∷ []) in
    shorter_by a b t.piece t.cut (rw (ap length t.is.2) (omega (arith, l)))

pub before_word : (indent : ℕ) (a b c : List ℕ) → TakesOff (AreMany (IsLoneDash indent)) a b
    → TakesOff (IsWordGap indent) b c → TakesOff (IsBeforeWord indent) a c
before_word indent a b c s t =
    then {P = AreMany (IsLoneDash indent)} {Q = IsWordGap indent} (λ p q h k. (p, q, h, k, refl)) s t

-- ## Further words

pub further_word : (in_flow : Bool) (indent : ℕ) (a b c : List ℕ) → TakesOff (IsBeforeWord indent) a b
    → TakesOff (IsWordIn in_flow) b c → TakesOff (IsFurtherWord in_flow indent) a c
further_word in_flow indent a b c s t =
    then {P = IsBeforeWord indent} {Q = IsWordIn in_flow}
    (λ p q h k. (h.0, h.1, q, h.2, h.3, k, ap (λ x. x ++ q) h.4 ∙ append_assoc h.0 h.1 q)) s t

pub word_shorter : (in_flow : Bool) (indent : ℕ) (a b : List ℕ) → TakesOff (IsFurtherWord in_flow indent) a b
    → length b < length a
word_shorter in_flow indent a b t =
    let w = t.is in
    let k = length-append w.0 (w.1 ++ w.2) in let l = length-append w.1 w.2 in let some = some_length w.2 w.5.some in
    shorter_by a b t.piece t.cut (rw (ap length w.6) (omega (arith, k, l, some)))

pub plain_taken : (in_flow : Bool) (indent : ℕ) (a b c : List ℕ) → TakesOff (IsFirstWord in_flow) a b
    → TakesOff (AreMany (IsFurtherWord in_flow indent)) b c → TakesOff (IsPlain in_flow indent) a c
plain_taken in_flow indent a b c s t =
    then {P = IsFirstWord in_flow} {Q = AreMany (IsFurtherWord in_flow indent)} (λ p q h k. (p, q, h, k, refl)) s t

-- ## Keys

abbrev AreColons : List ℕ → Type 0
AreColons t = AreIn (λ x. x == 58) t

colons_safe : (in_flow : Bool) (t : List ℕ) → AreColons t → AreIn (is_plain_safe in_flow) t
colons_safe in_flow [] h = tt
colons_safe in_flow (c ∷ cs) h = (
  subst (λ y. IsTrue (is_plain_safe in_flow y)) (sym ((is_char c 58).0 h.0)) (colon_is_safe in_flow),
  colons_safe in_flow cs h.1,
)

word_safe : (in_flow : Bool) (t : List ℕ) → ArePlainSafe in_flow t → AreIn (is_plain_safe in_flow) t
word_safe in_flow [] h = tt
word_safe in_flow (c ∷ cs) h = (h.0, word_safe in_flow cs h.2)

same_first : (t q : List ℕ) → t ≢ [] → slice_index (t ++ q) 0 ≡ slice_index t 0
same_first [] q h = absurd (h refl)
same_first (c ∷ cs) q h = refl

-- a word and colons after it
word_and_colons : (in_flow : Bool) (w q : List ℕ) → IsWordIn in_flow w → AreColons q → IsLastWord in_flow (w ++ q)
word_and_colons in_flow w q h k = (
  both_some w q h.some,
  both_in (is_plain_safe in_flow) w q (word_safe in_flow w h.safe) (colons_safe in_flow q k),
  λ e. h.no_comment (sym (same_first w q h.some) ∙ e),
)

pub mark_taken : (c : ℕ) (a b r : List ℕ) → a ≡ c ∷ b → IsTrue (is_one_of (codes "-?:") c)
    → TakesOff (AreIn (λ x. x == 58)) b r → TakesOff AreMarkAndColons a r
mark_taken c a b r e h t = known_then {Q = AreColons} (c ∷ []) (λ q k. (c, q, h, k, refl)) e t

mark_and_colons : (in_flow : Bool) (t : List ℕ) → AreMarkAndColons t
    → IsLastWord in_flow t × IsTrue (begins_plain (slice_index t 0))
mark_and_colons in_flow t h =
    let m = mark_of h.0 h.2 in
    rw h.4 ((cons_not_empty h.0 h.1, (m.safe in_flow, colons_safe in_flow h.1 h.3), m.no_comment), m.begins)

pub marked_key : (in_flow : Bool) (indent : ℕ) (a b : List ℕ) → TakesOff AreMarkAndColons a b
    → TakesOff (IsPlainKey in_flow indent) a b
marked_key in_flow indent a b t = taken_so (λ p k. inl (mark_and_colons in_flow p k)) t

pub marked_last : (in_flow : Bool) (indent : ℕ) (a b c d : List ℕ) → TakesOff (IsPlain in_flow indent) a b
    → TakesOff (IsBeforeWord indent) b c → TakesOff AreMarkAndColons c d → TakesOff (IsPlainKey in_flow indent) a d
marked_last in_flow indent a b c d s t u =
    then {P = IsPlain in_flow indent}
    {Q = λ x. (gap word : List ℕ) × IsBeforeWord indent gap × AreMarkAndColons word × (x ≡ gap ++ word)}
    (λ p q h k. let gap = k.2 in inr (
      p,
      gap.0,
      gap.1,
      k.1,
      h,
      gap.2,
      gap.3,
      (mark_and_colons in_flow k.1 k.3).0,
      ap (λ x. p ++ x) (k.4 ∙ ap (λ x. x ++ k.1) gap.4 ∙ append_assoc gap.0 gap.1 k.1),
    )) s
    (then {P = IsBeforeWord indent} {Q = AreMarkAndColons} (λ p q h k. (p, q, h, k, refl)) t u)

plain_more : (in_flow : Bool) (indent : ℕ) (p q : List ℕ) → IsPlain in_flow indent p → IsFurtherWord in_flow indent q
    → IsPlain in_flow indent (p ++ q)
plain_more in_flow indent p q h k = (
  h.0,
  h.1 ++ q,
  h.2,
  many_more (IsFurtherWord in_flow indent) h.1 q h.3 k,
  ap (λ x. x ++ q) h.4 ∙ append_assoc h.0 h.1 q,
)

-- a scalar, a further word, and others of which the last has colons after it
further_colons : (in_flow : Bool) (indent : ℕ) (p q : List ℕ) (n : List ℕ) (ns : List (List ℕ))
    → IsPlain in_flow indent p → IsFurtherWord in_flow indent n → AreEach (IsFurtherWord in_flow indent) ns
    → AreColons q → IsPlainKey in_flow indent (p ++ (joined_pieces (n ∷ ns) ++ q))
further_colons in_flow indent p q n [] h w _ k = inr (
  p,
  w.0,
  w.1,
  w.2 ++ q,
  h,
  w.3,
  w.4,
  word_and_colons in_flow w.2 q w.5 k,
  ap (λ x. p ++ x) (ap (λ x. x ++ q) (append-nil n ∙ w.6) ∙ append_assoc w.0 (w.1 ++ w.2) q
      ∙ ap (λ x. w.0 ++ x) (append_assoc w.1 w.2 q)),
)
further_colons in_flow indent p q n (m ∷ ms) h w others k =
    let more = joined_pieces (m ∷ ms) in
    subst (λ (x : List ℕ). IsPlainKey in_flow indent x)
    (append_assoc p n (more ++ q) ∙ ap (λ x. p ++ x) (sym (append_assoc n more q)))
    (further_colons in_flow indent (p ++ n) q m ms (plain_more in_flow indent p n h w) others.0 others.1 k)

first_plain : (in_flow : Bool) (indent : ℕ) (p : List ℕ) → IsFirstWord in_flow p → IsPlain in_flow indent p
first_plain in_flow indent p h = (p, [], h, ([], tt, refl), sym (append-nil p))

pieces_colons : (in_flow : Bool) (indent : ℕ) (p q : List ℕ) (ns : List (List ℕ)) → IsFirstWord in_flow p
    → AreEach (IsFurtherWord in_flow indent) ns → AreColons q
    → IsPlainKey in_flow indent (p ++ (joined_pieces ns ++ q))
pieces_colons in_flow indent p q [] h _ k = inl (
  word_and_colons in_flow p q h.0 k,
  subst (λ y. IsTrue (begins_plain y)) (sym (same_first p q h.0.some)) h.1,
)
pieces_colons in_flow indent p q (n ∷ ns) h others k =
    further_colons in_flow indent p q n ns (first_plain in_flow indent p h) others.0 others.1 k

pub plain_and_colons : (in_flow : Bool) (indent : ℕ) (p q : List ℕ) → IsPlain in_flow indent p → AreColons q
    → IsPlainKey in_flow indent (p ++ q)
plain_and_colons in_flow indent p q h k =
    let pieces = h.3 in
    subst (λ (x : List ℕ). IsPlainKey in_flow indent x)
    (sym (ap (λ x. x ++ q) (h.4 ∙ ap (λ x. h.0 ++ x) pieces.2) ∙ append_assoc h.0 (joined_pieces pieces.0) q))
    (pieces_colons in_flow indent h.0 q pieces.0 h.2 pieces.1 k)

pub colons_last : (in_flow : Bool) (indent : ℕ) (a b c d : List ℕ) → TakesOff (IsPlain in_flow indent) a b
    → b ≡ 58 ∷ c → TakesOff (AreIn (λ x. x == 58)) c d → TakesOff (IsPlainKey in_flow indent) a d
colons_last in_flow indent a b c d s e t =
    then {P = IsPlain in_flow indent} {Q = AreColons} (λ p q h k. plain_and_colons in_flow indent p q h k) s
    (known_then {Q = AreColons} (58 ∷ []) (λ q k. (refl, k)) e t)
