-- Blanks and a comment after a token on its line.
use Rattle.std.proofs.Common.{◌≡◌, ℕ, suc, ◌+◌, ◌⊎◌, ◌≢◌, false, List, [], ◌∷◌, ◌++◌, length, drop, take, refl, sym, ap, ◌∙◌, arith, subst, inl, inr, append_assoc}
use Rattle.std.specs.Prelude.{◌==◌, slice_index}
use Rattle.std.specs.List.{prefix_len}
use Rattle.std.proofs.lemmas.List.{length-append, append-nil, take-append-drop}
use Rattle.std.proofs.lemmas.List.Folds.{length-prefix_len}
use Rattle.saphyr_input.specs.Classes.{is_blank, is_yaml_non_break}
use Rattle.saphyr_input.specs.declared.input.SkipTabs.{SkipTabs}
use Rattle.saphyr_input.specs.declared.input.SkipTabs.TheVariants.{Yes}
use Rattle.saphyr_input.specs.Separation.{blank_len, comment_len, separation_len}
use Rattle.saphyr_scalar.specs.declared.scalar.position.Marker.{Marker}
use Rattle.saphyr_scalar.specs.Views.Cursor.{Cursor, along, pass_blanks, separation, behind_separation}
use Rattle.saphyr_scalar.specs.Spelling.Directive.{IsTailComment, IsLineTail}
use Rattle.saphyr_scalar.specs.Spelling.Tag.{AreIn}
use Rattle.saphyr_scalar.proofs.Moving.{along_none, along_more, drop_more}
use Rattle.saphyr_scalar.proofs.Runs.{run_is_in}
use Rattle.saphyr_scalar.proofs.Properties.TagsSpelled.{cut_at}
use Rattle.saphyr_scanner.specs.TokensTaken as taken
use Rattle.saphyr_scanner.specs.TokensTaken.{IsPassedOver, AreApart, LiesOnLine}
use Rattle.std.proofs.lemmas.Bool.{eqb-true}
use Rattle.saphyr_input.specs.Indicators.{number_sign}
use Rattle.saphyr_input.proofs.Basics.Booleans.{by_test}
use Rattle.saphyr_scalar.proofs.Given.{Given}
use Rattle.saphyr_input.proofs.Basics.Lists.{run_ends}

blanks_apart : (m : Marker) (blanks t : List ℕ) (n : Marker) (u : List ℕ) → AreIn is_blank blanks
    → IsPassedOver (along m (length blanks)) t n u → IsPassedOver m (blanks ++ t) n u
blanks_apart m [] t n u are p = rw (along_none m) at p
blanks_apart m (c ∷ cs) t n u are p = taken.blank m c (cs ++ t) n u are.0 (blanks_apart (along m 1) cs t n u are.1
    (rw (along_more m 1 (length cs) (length (c ∷ cs)) (omega arith)) p))

-- blanks and a comment, which ends where it has to
pub record Tail (m : Marker) (t : List ℕ) (n : ℕ) : Type 0 where
  pub tail : List ℕ
  pub behind : List ℕ
  pub is : t ≡ tail ++ behind
  pub count : length tail ≡ n
  pub line : IsLineTail tail
  pub rest : behind ≡ drop n t
  pub apart : IsPassedOver m t (along m n) behind

empty_tail : (m : Marker) (t : List ℕ) → Tail m t 0
empty_tail m t = record {
  tail = [];
  behind = t;
  is = refl;
  count = refl;
  line = ([], [], tt, inl refl, refl);
  rest = refl;
  apart = rw (along_none m) (taken.nothing m t);
}

comment_apart : (m : Marker) (words t : List ℕ) → AreIn is_yaml_non_break words
    → is_yaml_non_break (slice_index t 0) ≡ false
    → IsPassedOver m (number_sign ∷ (words ++ t)) (along m (1 + length words)) t
comment_apart m words t are e =
    taken.comment m words t (along m (1 + length words)) t are e (taken.nothing (along m (1 + length words)) t)

-- blanks, and after some a comment
tail_of : (m : Marker) (blanks comment x : List ℕ) → AreIn is_blank blanks
    → ((comment ≡ []) ⊎ IsTailComment blanks comment)
    → (IsTailComment blanks comment → is_yaml_non_break (slice_index x 0) ≡ false)
    → IsPassedOver m (blanks ++ (comment ++ x)) (along m (length (blanks ++ comment))) x
tail_of m blanks comment x are (inl e) ends =
    let l : length (blanks ++ comment) ≡ length blanks = ap (λ c. length (blanks ++ c)) e
    ∙ ap length (append-nil blanks) in
    let p : IsPassedOver m (blanks ++ x) (along m (length blanks)) x =
    blanks_apart m blanks x (along m (length blanks)) x are (taken.nothing (along m (length blanks)) x) in
    subst (λ c. IsPassedOver m (blanks ++ (c ++ x)) (along m (length (blanks ++ comment))) x) (sym e)
    (subst (λ n. IsPassedOver m (blanks ++ x) (along m n) x) (sym l) p)
tail_of m blanks comment x are (inr w) ends =
    let one : comment ≡ 35 ∷ w.0 = w.3 in
    let l : length (blanks ++ comment) ≡ length blanks + (1 + length w.0) =
    ap (λ c. length (blanks ++ c)) one ∙ length-append blanks (35 ∷ w.0) ∙ omega arith in
    let p : IsPassedOver (along m (length blanks)) (35 ∷ (w.0 ++ x)) (along (along m (length blanks)) (1 + length w.0))
    x = comment_apart (along m (length blanks)) w.0 x w.2 (ends w) in
    let q : IsPassedOver m (blanks ++ (35 ∷ (w.0 ++ x))) (along (along m (length blanks)) (1 + length w.0)) x =
    blanks_apart m blanks (35 ∷ (w.0 ++ x)) _ x are p in
    subst (λ c. IsPassedOver m (blanks ++ (c ++ x)) (along m (length (blanks ++ comment))) x) (sym one)
    (subst (λ (k : Marker). IsPassedOver m (blanks ++ (35 ∷ (w.0 ++ x))) k x)
    (along_more m (length blanks) (1 + length w.0) (length (blanks ++ comment)) l) q)

pub tail_apart : (m : Marker) (tail x : List ℕ) → IsLineTail tail → is_yaml_non_break (slice_index x 0) ≡ false
    → IsPassedOver m (tail ++ x) (along m (length tail)) x
tail_apart m tail x is ends =
    let p = tail_of m is.0 is.1 x is.2 is.3 (λ _. ends) in
    let e : is.0 ++ (is.1 ++ x) ≡ tail ++ x = sym (append_assoc is.0 is.1 x) ∙ ap (λ t. t ++ x) (sym is.4) in
    subst (λ t. IsPassedOver m (tail ++ x) (along m (length t)) x) (sym is.4)
    (subst (λ t. IsPassedOver m t (along m (length (is.0 ++ is.1))) x) e p)

-- ## What a separation passes

some_blanks : (xs : List ℕ) → (prefix_len is_blank xs == 0) ≡ false → take (prefix_len is_blank xs) xs ≢ []
some_blanks xs e none =
    let z : prefix_len is_blank xs ≡ 0 = sym (length-prefix_len is_blank xs) ∙ (ap length none) in
    let P : ℕ → Type 0 = λ n. (n == 0) ≡ false in absurd (let f = subst P z e in cc)

tail_from : (m : Marker) (xs : List ℕ) (n : ℕ)
    → let b = prefix_len is_blank xs in let zs =
    drop b xs in ((take n zs ≡ []) ⊎ IsTailComment (take b xs) (take n zs))
    → (IsTailComment (take b xs) (take n zs) → is_yaml_non_break (slice_index (drop n zs) 0) ≡ false)
    → length (take n zs) ≡ n → Tail m xs (b + n)
tail_from m xs n comment ends l =
    let b = prefix_len is_blank xs in
    let zs = drop b xs in
    let whole : take b xs ++ (take n zs ++ drop n zs) ≡ xs = cc (take-append-drop n zs, take-append-drop b xs) in
    let k = length-prefix_len is_blank xs in
    let a = length-append (take b xs) (take n zs) in
    let count : length (take b xs ++ take n zs) ≡ b + n = omega (arith, k, l, a) in
    let p = tail_of m (take b xs) (take n zs) (drop n zs) (run_is_in is_blank xs) comment ends in
    record {
      tail = take b xs ++ take n zs;
      behind = drop n zs;
      is = sym whole ∙ sym (append_assoc (take b xs) (take n zs) (drop n zs));
      count = count;
      line = (take b xs, take n zs, run_is_in is_blank xs, comment, refl);
      rest = drop_more n b (b + n) xs refl;
      apart = rw count at (rw whole at p);
    }

with_comment : (m : Marker) (xs : List ℕ) → (prefix_len is_blank xs == 0) ≡ false
    → Tail m xs (prefix_len is_blank xs + comment_len (drop (prefix_len is_blank xs) xs))
with_comment m xs e =
    let b = prefix_len is_blank xs in
    let zs = drop b xs in
    let some = some_blanks xs e in
    by_test (slice_index zs 0 == 35) (prefix_len is_yaml_non_break zs) 0 (λ n. Tail m xs (b + n)) (λ s.
    let ys = drop 1 zs in
    let first : zs ≡ 35 ∷ ys = cut_at 35 zs refl (eqb-true (slice_index zs 0) 35 s) in
    let words = take (prefix_len is_yaml_non_break ys) ys in
    let whole : take (prefix_len is_yaml_non_break zs) zs ≡ 35 ∷ words = cc (one_more ys) in
    tail_from m xs (prefix_len is_yaml_non_break zs) (inr (words, some, run_is_in is_yaml_non_break ys, whole))
    (λ _. run_ends is_yaml_non_break zs refl) (length-prefix_len is_yaml_non_break zs))
    (λ _. tail_from m xs 0 (inl refl) (λ w. absurd (let z : [] ≡ 35 ∷ w.0 = w.3 in cc)) refl)
  where
    one_more : (ys : List ℕ)
        → take (1 + prefix_len is_yaml_non_break ys) (number_sign ∷ ys)
        ≡ number_sign ∷ take (prefix_len is_yaml_non_break ys) ys
    one_more ys = let one : 1 + prefix_len is_yaml_non_break ys ≡ suc (prefix_len is_yaml_non_break ys) =
        omega arith in rw one refl

separation_tail : (m : Marker) (xs : List ℕ) → Tail m xs (separation_len Yes xs)
separation_tail m xs = by_test (blank_len Yes xs == 0) _ _ (Tail m xs) (λ _. empty_tail m xs) (with_comment m xs)

-- what a separation passes on its line
pub record OnLine (s t : Cursor) : Type 0 where
  pub on_line : LiesOnLine s t.mark
  pub behind : t.rest ≡ on_line.1
  pub apart : AreApart s t

tail_on_line : (s : Cursor) (n : ℕ) → Tail s.mark s.rest n → OnLine s (pass_blanks n s)
tail_on_line s n t = record {
  on_line = (t.tail, t.behind, t.line, t.is, ap (along s.mark) (sym t.count));
  behind = sym t.rest;
  apart = subst (λ l. IsPassedOver s.mark s.rest (along s.mark n) l) t.rest t.apart;
}

pub separation_passes : (s : Cursor) → Given (λ (x : SkipTabs × Cursor). OnLine s x.1) (separation Yes s)
unfolding separation behind_separation
separation_passes s = grind (arith, tail_on_line, separation_tail)
