-- The pieces of separation.
use Rattle.std.proofs.Common.{◌≡◌, ℕ, ◌+◌, ◌<◌, ◌≤◌, List, [], ◌∷◌, ◌++◌, refl, sym, ap, ◌∙◌, arith, append_assoc, length, length-append, inl, inr}
use Rattle.std.proofs.lemmas.List.{append-nil}
use Rattle.saphyr_input.specs.Classes.{is_blank, is_yaml_non_break}
use Rattle.saphyr_scalar.specs.Reading.BlockLines.{spaces}
use Rattle.saphyr_scalar.specs.Spelling.Directive.{AreSomeBlanks}
use Rattle.saphyr_scalar.specs.Spelling.Tag.{AreIn}
use Rattle.scalar_laws.specs.Spelling.Spaces.{IsComment, IsLineRest, IsLineEnd, IsEol, IsFillerText, IsFillerLine, IsFiller, IsLastFiller, AreSpaces, IsLinePrefix, IsNextLine, IsGap, IsSeparationLine, IsSeparation, AreMany}
use Rattle.saphyr_scalar.proofs.Block.Texts.{spaces_more}
use Rattle.yaml_standard.specs.Takes.{TakesOff, TakesBefore}
use Rattle.yaml_standard.proofs.Pieces.{nothing_taken, taken_so, then, known_then, then_known}

pub comment_taken : (a b r : List ℕ) → a ≡ 35 ∷ b → TakesOff (AreIn is_yaml_non_break) b r → TakesOff IsComment a r
comment_taken a b r e t = known_then (35 ∷ []) (λ q k. (q, k, refl)) e t

pub comment_ends : (a b c : List ℕ) → TakesOff AreSomeBlanks a b → TakesOff IsComment b c → TakesOff IsLineRest a c
comment_ends a b c s t = then {P = AreSomeBlanks} {Q = IsComment} (λ p q k h. (p, q, k.1, inr (k.0, h), refl)) s t

pub line_ends : (a b c : List ℕ) → TakesOff IsLineRest a b → b ≡ 10 ∷ c → TakesOff IsLineEnd a c
line_ends a b c s e = then_known (10 ∷ []) (λ p k. (p, k, refl)) s e

pub ends_with_break : (a b c : List ℕ) → TakesOff IsLineRest a b → b ≡ 10 ∷ c → TakesBefore IsEol a c
ends_with_break a b c s e = taken_so (λ p k. inl k) (line_ends a b c s e)

pub ends_with_text : (a b : List ℕ) → TakesOff IsLineRest a b → b ≡ [] → TakesBefore IsEol a b
ends_with_text a b s e = taken_so (λ p k. inr (k, e)) s

pub comment_filler : (a b c : List ℕ) → TakesOff (AreIn is_blank) a b → TakesOff IsComment b c
    → TakesOff IsFillerText a c
comment_filler a b c s t = then {P = AreIn is_blank} {Q = IsComment} (λ p q k h. (p, q, k, inr h, refl)) s t

pub filler_line : (a b c : List ℕ) → TakesOff IsFillerText a b → b ≡ 10 ∷ c → TakesOff IsFillerLine a c
filler_line a b c s e = then_known (10 ∷ []) (λ p k. (p, k, refl)) s e

pub last_filler : (a b c : List ℕ) → TakesOff IsFiller a b → TakesOff IsFillerText b c → c ≡ [] → IsLastFiller a
last_filler a b c s t e = (
  s.piece,
  t.piece,
  s.is,
  t.is,
  s.cut ∙ ap (λ x. s.piece ++ x) (t.cut ∙ ap (λ x. t.piece ++ x) e ∙ append-nil t.piece),
)

pub space_more : (k : ℕ) (a b c : List ℕ) → a ≡ spaces k ++ b → b ≡ 32 ∷ c → a ≡ spaces (k + 1) ++ c
space_more k a b c e f = e ∙ ap (λ x. spaces k ++ x) f ∙ sym (spaces_more k c)

pub no_spaces : (a : List ℕ) → TakesOff (AreSpaces 0) a a
no_spaces a = nothing_taken (AreSpaces 0) a (0, omega arith, refl)

pub one_more_space : (a b c : List ℕ) → TakesOff (AreSpaces 0) a b → b ≡ 32 ∷ c → TakesOff (AreSpaces 0) a c
one_more_space a b c s e =
    then_known (32 ∷ [])
    (λ p k. (
      k.0 + 1,
      omega arith,
      ap (λ x. x ++ 32 ∷ []) k.2 ∙ sym (spaces_more k.0 []) ∙ append-nil (spaces (k.0 + 1)),
    ))
    s e

pub line_prefix : (indent : ℕ) (a b c : List ℕ) → a ≡ spaces indent ++ b → TakesOff (AreIn is_blank) b c
    → TakesOff (IsLinePrefix indent) a c
line_prefix indent a b c e t =
    known_then (spaces indent) (λ q k. (spaces indent, q, (indent, omega arith, refl), k, refl)) e t

pub next_line : (indent : ℕ) (a b c d : List ℕ) → TakesOff IsLineEnd a b → TakesOff IsFiller b c
    → TakesOff (IsLinePrefix indent) c d → TakesOff (IsNextLine indent) a d
next_line indent a b c d s t u =
    then (λ p q k h. (p, h.0, h.1, k, h.2, h.3, ap (λ x. p ++ x) h.4)) s
    (then {R = λ x. (filler front : List ℕ) × IsFiller filler × IsLinePrefix indent front × (x ≡ filler ++ front)}
    (λ p q k h. (p, q, k, h, refl)) t u)

pub blank_gap : (indent : ℕ) (a b : List ℕ) → TakesOff AreSomeBlanks a b → TakesOff (IsGap indent) a b
blank_gap indent a b t = taken_so (λ p k. inl k) t

pub line_gap : (indent : ℕ) (a b : List ℕ) → TakesOff (IsNextLine indent) a b → TakesOff (IsGap indent) a b
line_gap indent a b t = taken_so (λ p k. inr k) t

line_parts : (indent : ℕ) (p q : List ℕ) → IsLineEnd p → IsFiller q
    → IsSeparationLine indent (p ++ (q ++ spaces indent))
line_parts indent p q end filler =
    let rest = end.1 in (
      rest.0,
      rest.1,
      q,
      rest.2,
      rest.3,
      filler,
      ap (λ x. x ++ (q ++ spaces indent)) (end.2 ∙ ap (λ x. x ++ 10 ∷ []) rest.4)
          ∙ append_assoc (rest.0 ++ rest.1) (10 ∷ []) (q ++ spaces indent)
          ∙ append_assoc rest.0 rest.1 (10 ∷ (q ++ spaces indent)),
    )

pub separation_line : (indent : ℕ) (a b c d : List ℕ) → TakesOff IsLineEnd a b → TakesOff IsFiller b c
    → c ≡ spaces indent ++ d → TakesOff (IsSeparationLine indent) a d
separation_line indent a b c d s t e =
    then {Q = λ x. (q : List ℕ) × IsFiller q × (x ≡ q ++ spaces indent)}
    (λ p x k h. rw h.2 (line_parts indent p h.0 k h.1)) s
    (then_known (spaces indent) (λ q k. (q, k, refl)) t e)

pub separation : (indent : ℕ) (a b c : List ℕ) → TakesOff (AreMany (IsSeparationLine indent)) a b
    → TakesOff (AreIn is_blank) b c → TakesOff (IsSeparation indent) a c
separation indent a b c s t = then (λ p q k h. (p, q, k, h, refl)) s t

-- ## Each line is shorter

pub shorter_by : (a b p : List ℕ) → a ≡ p ++ b → 1 ≤ length p → length b < length a
shorter_by a b p e some = rw e (let l = length-append p b in omega (arith, l, some))

pub one_shorter : (c : ℕ) (a b : List ℕ) → a ≡ c ∷ b → length b < length a
one_shorter c a b e = rw e (omega arith)

pub filler_shorter : (a b : List ℕ) → TakesOff IsFillerLine a b → length b < length a
filler_shorter a b t =
    let l = length-append t.is.0 (10 ∷ []) in
    shorter_by a b t.piece t.cut (rw (ap length t.is.2) (omega (arith, l)))

pub separation_shorter : (indent : ℕ) (a b : List ℕ) → TakesOff (IsSeparationLine indent) a b → length b < length a
separation_shorter indent a b t =
    let line = t.is in
    let end = 10 ∷ (line.2 ++ spaces indent) in
    let k = length-append line.0 (line.1 ++ end) in
    let l = length-append line.1 end in
    let m : length end ≡ length (line.2 ++ spaces indent) + 1 = omega arith in
    shorter_by a b t.piece t.cut (rw (ap length line.6) (omega (arith, k, l, m)))
