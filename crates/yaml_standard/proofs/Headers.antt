-- Headers of block scalars.
use Rattle.std.proofs.Common.{◌≡◌, ℕ, ◌+◌, ◌-◌, ◌≤◌, arith, List, [], ◌∷◌, ◌++◌, refl, sym, ap, ◌∙◌, append_assoc, inl, inr}
use Rattle.std.proofs.lemmas.List.{append-nil}
use Rattle.saphyr_input.specs.Classes.{is_blank}
use Rattle.saphyr_scalar.specs.Spelling.Tag.{AreIn}
use Rattle.scalar_laws.specs.Spelling.Block.{IsIndicator, digit, IsHeaderEnd, no_comment, comment, no_comment_at_end, comment_at_end}
use Rattle.scalar_laws.specs.Spelling.Spaces.{IsCommentBehind, IsLineRest}
use Rattle.yaml_standard.specs.Takes.{TakesOff}

pub digit_taken : (c : ℕ) (a b : List ℕ) → a ≡ c ∷ b → 49 ≤ c → c ≤ 57 → IsIndicator (c - 48) a b
digit_taken c a b e low high =
    let d : 48 + (c - 48) ≡ c = omega (arith, low) in
    rw (e ∙ ap (λ x. x ∷ b) (sym d)) (digit (c - 48) b (omega (arith, low)) (omega (arith, high)))

comment_then : (blanks t x : List ℕ) → AreIn is_blank blanks → IsCommentBehind blanks t
    → IsHeaderEnd (blanks ++ (t ++ 10 ∷ x)) x
comment_then blanks t x h (inl none) = rw none (no_comment blanks x h)
comment_then [] t x h (inr (some, is)) = absurd (some refl)
comment_then (b ∷ bs) t x h (inr (some, is)) = rw is.2 (comment b bs is.0 x h is.1)

comment_last : (blanks t : List ℕ) → AreIn is_blank blanks → IsCommentBehind blanks t → IsHeaderEnd (blanks ++ t) []
comment_last blanks t h (inl none) = rw (none, append-nil blanks) (no_comment_at_end blanks h)
comment_last [] t h (inr (some, is)) = absurd (some refl)
comment_last (b ∷ bs) t h (inr (some, is)) = rw is.2 (comment_at_end b bs is.0 h is.1)

pub header_line : (a b c : List ℕ) → TakesOff IsLineRest a b → b ≡ 10 ∷ c → IsHeaderEnd a c
header_line a b c t e =
    let rest = t.is in
    let cut : a ≡ rest.0 ++ (rest.1 ++ 10 ∷ c) =
    t.cut ∙ ap (λ x. x ++ b) rest.4 ∙ append_assoc rest.0 rest.1 b ∙ ap (λ x. rest.0 ++ (rest.1 ++ x)) e in
    rw cut (comment_then rest.0 rest.1 c rest.2 rest.3)

pub header_at_end : (a b : List ℕ) → TakesOff IsLineRest a b → b ≡ [] → IsHeaderEnd a b
header_at_end a b t e =
    let rest = t.is in
    let cut : a ≡ rest.0 ++ rest.1 =
    t.cut ∙ ap (λ x. t.piece ++ x) e ∙ append-nil t.piece ∙ rest.4 in
    rw (cut, e) (comment_last rest.0 rest.1 rest.2 rest.3)
