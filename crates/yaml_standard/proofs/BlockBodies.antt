-- The lines of a block scalar, from behind its header on.
use Rattle.std.proofs.Common.{◌≡◌, ℕ, zero, suc, ◌+◌, ◌-◌, ◌^◌, ◌<◌, ◌≤◌, Bool, true, List, [], ◌∷◌, ◌++◌, sym, ap, ◌∙◌, subst, arith, append_assoc, nat_lt, Option, None, Some}
use Rattle.std.specs.Prelude.{IfSome, SomeIff}
use Rattle.std.proofs.lemmas.Bool.Decides.{nat_tests}
use Rattle.std.proofs.lemmas.List.{append-nil}
use Rattle.saphyr_scalar.specs.Reading.BlockLines.{spaces}
use Rattle.saphyr_scalar.specs.Values.Block.{Line, Empty, Content}
use Rattle.scalar_laws.specs.Spelling.Block as spec
use Rattle.scalar_laws.specs.Spelling.Block.{IsContent, IsIndentation, AreEmptyLines}
use Rattle.scalar_laws.specs.Spelling.Spaces.{joined_pieces, AreEach, AreMany}
use Rattle.yaml_standard.specs.BlockLines.{SplitsSpaces, IsEmptyBlockLine, TakesContent, AreSomeLines, IsSomeBody, IsAnyEmptyBody}
use Rattle.yaml_standard.specs.Takes.{TakesOff}
use Rattle.yaml_standard.proofs.BlockLines.{line_cut, broken_line, last_line}

-- ## Indentation

given_by : (indent i d : ℕ) → 0 < d → i ≡ indent - 1 + d → i < 2 ^ 64 → IsIndentation indent i d (nat_lt 0 d)
given_by indent i zero some is fits = absurd (omega (arith, some))
given_by indent i (suc d) some is fits =
    let lt : nat_lt 0 (suc d) ≡ true = grind (arith, nat_tests) in rw lt (spec.given (suc d) (omega arith) is fits)

pub given_if : (indent low d : ℕ) (o : Option ℕ) → 0 < d → low ≡ indent - 1 → SomeIff o (low + d < 2 ^ 64) (low + d)
    → IfSome o (λ i. IsIndentation indent i d (nat_lt 0 d))
given_if indent low d None some is h = tt
given_if indent low d (Some i) some is (fits, v) =
    given_by indent i d some (v ∙ ap (λ x. x + d) is) (subst (λ x. x < 2 ^ 64) (sym v) fits)

pub found_at : (indent i d : ℕ) → d ≤ 0 → indent ≤ i → IsIndentation indent i d (nat_lt 0 d)
found_at indent i zero none low = spec.found low
found_at indent i (suc d) none low = absurd (omega (arith, none))

-- ## Empty lines

piece_cut : (j : ℕ) (p ps t : List ℕ) → p ≡ spaces j ++ 10 ∷ [] → (p ++ ps) ++ t ≡ spaces j ++ (10 ∷ (ps ++ t))
piece_cut j p ps t e = append_assoc p ps t ∙ line_cut j p (ps ++ t) e

body_behind : (i : ℕ) (is_given : Bool) (x t : List ℕ) (ps : List (List ℕ)) → AreEach (IsEmptyBlockLine i) ps
    → IsSomeBody i is_given x t → IsSomeBody i is_given x (joined_pieces ps ++ t)
body_behind i is_given x t [] h b = b
body_behind i is_given x t (p ∷ ps) ((j, low, is), hs) b =
    let r = body_behind i is_given x t ps hs b in
    (Empty ∷ r.0, rw (piece_cut j p (joined_pieces ps) t is) (spec.leading j r.0 (joined_pieces ps ++ t) low r.1))

abbrev AreSomeEmptyLines : ℕ → List ℕ → List ℕ → Type 0
AreSomeEmptyLines i x t = (lines : List Line) × AreEmptyLines i x lines t

empty_behind : (i : ℕ) (x t : List ℕ) (ps : List (List ℕ)) → AreEach (IsEmptyBlockLine i) ps
    → AreSomeEmptyLines i x t → AreSomeEmptyLines i x (joined_pieces ps ++ t)
empty_behind i x t [] h b = b
empty_behind i x t (p ∷ ps) ((j, low, is), hs) b =
    let r = empty_behind i x t ps hs b in
    (Empty ∷ r.0, rw (piece_cut j p (joined_pieces ps) t is) (spec.empty_line j r.0 (joined_pieces ps ++ t) low r.1))

-- spaces come after a line at least
empty_then_spaces : (i k : ℕ) (x p : List ℕ) (ps : List (List ℕ)) → k ≤ i → x ≡ []
    → AreEach (IsEmptyBlockLine i) (p ∷ ps)
    → AreSomeEmptyLines i x (joined_pieces (p ∷ ps) ++ spaces k)
empty_then_spaces i k x p [] fits e ((j, low, is), hs) =
    (Empty ∷ [], rw (piece_cut j p [] (spaces k) is) (spec.empty_line_and_spaces j k low fits e))
empty_then_spaces i k x p (q ∷ ps) fits e ((j, low, is), hs) =
    let r = empty_then_spaces i k x q ps fits e hs in
    let others = joined_pieces (q ∷ ps) in
    (Empty ∷ r.0, rw (piece_cut j p others (spaces k) is) (spec.empty_line j r.0 (others ++ spaces k) low r.1))

-- ## Bodies

pub empty_before : (i : ℕ) (a b : List ℕ) → TakesOff (AreMany (IsEmptyBlockLine i)) a b → IsAnyEmptyBody i b a
empty_before i a b t indent column may =
    let r = empty_behind i b b t.is.0 t.is.1 ([], spec.no_empty_lines) in
    let cut = t.cut ∙ ap (λ x. x ++ b) t.is.2 in
    (r.0, spec.empty_lines r.0 a (rw cut r.1) may)

spaces_alone : (i n : ℕ) (x : List ℕ) → n ≤ i → x ≡ [] → IsAnyEmptyBody i x (spaces n)
spaces_alone i zero x low e indent column may = ([], spec.empty_lines [] [] (rw e spec.no_empty_lines) may)
spaces_alone i (suc n) x low e indent column may = (Empty ∷ [], spec.spaces_alone (suc n) (omega arith) low e)

spaces_last : (i n : ℕ) (x : List ℕ) (ps : List (List ℕ)) → AreEach (IsEmptyBlockLine i) ps → n ≤ i → x ≡ []
    → IsAnyEmptyBody i x (joined_pieces ps ++ spaces n)
spaces_last i n x [] h low e indent column may = spaces_alone i n x low e indent column may
spaces_last i n x (p ∷ ps) h low e indent column may =
    let r = empty_then_spaces i n x p ps low e h in
    (r.0, spec.empty_lines r.0 (joined_pieces (p ∷ ps) ++ spaces n) r.1 may)

pub empty_up_to_end : (i n : ℕ) (a b c : List ℕ) → TakesOff (AreMany (IsEmptyBlockLine i)) a b → SplitsSpaces i n b c
    → c ≡ [] → IsAnyEmptyBody i c a
empty_up_to_end i n a b c t s e =
    let cut : a ≡ joined_pieces t.is.0 ++ spaces n =
    t.cut ∙ ap (λ x. x ++ b) t.is.2
    ∙ ap (λ x. joined_pieces t.is.0 ++ x) (s.1 ∙ ap (λ x. spaces n ++ x) e ∙ append-nil (spaces n)) in
    rw cut (spaces_last i n c t.is.0 t.is.1 s.0 e)

body_led : (i : ℕ) (is_given : Bool) (x a b : List ℕ) → TakesOff (AreMany (IsEmptyBlockLine i)) a b
    → IsSomeBody i is_given x b → IsSomeBody i is_given x a
body_led i is_given x a b t body =
    rw (t.cut ∙ ap (λ y. y ++ b) t.is.2) (body_behind i is_given x b t.is.0 t.is.1 body)

pub body_of_one : (i : ℕ) (is_given : Bool) (a b c : List ℕ) → TakesOff (AreMany (IsEmptyBlockLine i)) a b
    → TakesContent i is_given b c → c ≡ [] → IsSomeBody i is_given c a
body_of_one i is_given a b c t k e =
    let is = subst (λ y. IsContent i k.c k.cs y) e k.is in
    let cut = last_line i k.c k.cs b c k.cut e in
    body_led i is_given c a b t
    (Content (k.c ∷ k.cs) ∷ [], rw cut (spec.first_and_last k.c k.cs k.begins is e))

pub body_of_lines : (i : ℕ) (is_given : Bool) (a b c d x : List ℕ) → TakesOff (AreMany (IsEmptyBlockLine i)) a b
    → TakesContent i is_given b c → c ≡ 10 ∷ d → AreSomeLines i x d → IsSomeBody i is_given x a
body_of_lines i is_given a b c d x t k e lines =
    let is = subst (λ y. IsContent i k.c k.cs y) e k.is in
    let cut = broken_line i k.c k.cs b c d k.cut e in
    body_led i is_given x a b t
    (Content (k.c ∷ k.cs) ∷ lines.0, rw cut (spec.first k.c k.cs lines.0 d k.begins is lines.1))
