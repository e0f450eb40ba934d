-- Where the header of a block scalar is: its line is passed character by character, and its break, where one ends
-- it.
use Rattle.saphyr_scalar.proofs.Common.{◌≡◌, ℕ, suc, ◌+◌, ◌≤◌, ◌⊎◌, Bool, true, false, List, [], ◌∷◌, length, drop, Result, Ok, Err, refl, sym, ap, arith, subst, inl, inr, prefix_len, nat_tests, is_break, is_breakz, is_z, is_yaml_non_break, next_2_are, is_skipped, blank_len, separation_len, SkipTabs, Yes, Chomping, Marker, Refusal, BlockHeader, and_true_left, by_test, either, not-false, eqb-true, non_break_no_break}
use Rattle.std.specs.Prelude.{slice_index, ◌==◌, min, Option, Some, None}
use Rattle.saphyr_scalar.specs.Views.Cursor.{Cursor, along, next_line, pass, pass_blanks, pass_break, behind_separation, separation}
use Rattle.saphyr_scalar.specs.Passing as passing
use Rattle.saphyr_scalar.specs.Passing.{IsPassed}
use Rattle.saphyr_scalar.specs.Steps.Quoted.{break_len}
use Rattle.saphyr_scalar.specs.Steps.Block.{chomping, indicator, header_break, header_end, last_chomping, header_behind, header}
use Rattle.saphyr_scalar.proofs.Moving.{along_none, along_more, drop_more}
use Rattle.saphyr_scalar.proofs.Given.{Given, given_bind, given_of}

-- the greatest number of a line
abbrev pub top : ℕ
top = 18446744073709551615

pub passed_passed : (m : Marker) (t : List ℕ) (n : Marker) (u : List ℕ) (k : Marker) (v : List ℕ) → IsPassed m t n u
    → IsPassed n u k v → IsPassed m t k v
passed_passed _ _ _ _ k v (passing.nothing m t) q = q
passed_passed _ _ _ _ k v (passing.character m c t n u e p) q =
    passing.character m c t k v e (passed_passed (along m 1) t n u k v p q)
passed_passed _ _ _ _ k v (passing.line_break m t n u e p) q =
    passing.line_break m t k v e (passed_passed (next_line m (break_len t)) (drop (break_len t) t) n u k v p q)

-- lines count up
pub passed_lines : (m : Marker) (t : List ℕ) (n : Marker) (u : List ℕ) → IsPassed m t n u → m.line ≤ top
    → m.line ≤ n.line
passed_lines _ _ _ _ (passing.nothing m t) h = omega arith
passed_lines _ _ _ _ (passing.character m c t n u e p) h = passed_lines (along m 1) t n u p h
passed_lines _ _ _ _ (passing.line_break m t n u e p) h =
    let q = passed_lines (next_line m (break_len t)) (drop (break_len t) t) n u p (omega arith) in omega (arith, q, h)

-- ## On the header's line

pub record Goes (s t : Cursor) : Type 0 where
  pub passes : IsPassed s.mark s.rest t.mark t.rest
  pub line : t.mark.line ≡ s.mark.line

pub goes_nowhere : (s : Cursor) → Goes s s
goes_nowhere s = record { passes = passing.nothing s.mark s.rest; line = refl }

goes_goes : (s t u : Cursor) → Goes s t → Goes t u → Goes s u
goes_goes s t u a b = grind (arith, passed_passed)

pub one_passed : (s : Cursor) → is_break (slice_index s.rest 0) ≡ false → 1 ≤ length s.rest → Goes s (pass 1 s)
one_passed s e h = record { passes = by s.mark s.rest e h; line = refl }
  where
    by : (m : Marker) (t : List ℕ) → is_break (slice_index t 0) ≡ false → 1 ≤ length t
        → IsPassed m t (along m 1) (drop 1 t)
    by m [] e h = absurd (omega (arith, h))
    by m (c ∷ cs) e h = passing.character m c cs (along m 1) cs e (passing.nothing (along m 1) cs)

chomping_goes : (s : Cursor) → Goes s (chomping s).1
unfolding chomping
chomping_goes s = grind (arith, by_test, goes_nowhere, eqb-true, one_passed)

indicator_goes : (start : Marker) (s : Cursor) → Given (λ (x : ℕ × Cursor). Goes s x.1) (indicator start s)
unfolding indicator
indicator_goes start s = grind (arith, by_test, goes_nowhere, one_passed, nat_tests)

pub run_passed : (p : ℕ → Bool) (m : Marker) (t : List ℕ) → ((c : ℕ) → p c ≡ true → is_break c ≡ false)
    → IsPassed m t (along m (prefix_len p t)) (drop (prefix_len p t) t)
run_passed p m [] h = rw (along_none m) (passing.nothing m [])
run_passed p m (c ∷ cs) h =
    by_test (p c) (1 + prefix_len p cs) 0 (λ n. IsPassed m (c ∷ cs) (along m n) (drop n (c ∷ cs))) (λ e.
    let one : 1 + prefix_len p cs ≡ suc (prefix_len p cs) = omega arith in
    let q = run_passed p (along m 1) cs h in
    let k = along_more m 1 (prefix_len p cs) (1 + prefix_len p cs) refl in
    let whole : IsPassed m (c ∷ cs) (along m (1 + prefix_len p cs)) (drop (prefix_len p cs) cs) =
    passing.character m c cs _ _ (h c e)
    (subst (λ (j : Marker). IsPassed (along m 1) cs j (drop (prefix_len p cs) cs)) k q) in
    subst (λ n. IsPassed m (c ∷ cs) (along m (1 + prefix_len p cs)) (drop n (c ∷ cs))) (sym one) whole)
    (λ _. subst (λ (k : Marker). IsPassed m (c ∷ cs) k (c ∷ cs)) (sym (along_none m)) (passing.nothing m (c ∷ cs)))

skipped_no_break : (tabs : SkipTabs) (c : ℕ) → is_skipped tabs c ≡ true → is_break c ≡ false
skipped_no_break tabs c e = grind arith

pub line_passed : (tabs : SkipTabs) (s : Cursor) → Goes s (pass_blanks (separation_len tabs s.rest) s)
line_passed tabs s = by_test (blank_len tabs s.rest == 0) _ _ (λ n. Goes s (pass_blanks n s)) (λ _. none)
    (λ _. let b = prefix_len (is_skipped tabs) s.rest in
    let first = run_passed (is_skipped tabs) s.mark s.rest (skipped_no_break tabs) in
    by_test (slice_index (drop b s.rest) 0 == 35) _ _ (λ n. Goes s (pass_blanks (b + n) s))
    (λ _. let n = prefix_len is_yaml_non_break (drop b s.rest) in
    let second = run_passed is_yaml_non_break (along s.mark b) (drop b s.rest) non_break_no_break in
    let whole = passed_passed s.mark s.rest (along s.mark b) (drop b s.rest) _ _ first second in
    record {
      passes =
          rw (along_more s.mark b n (b + n) refl) at (subst (λ u. IsPassed s.mark s.rest (along (along s.mark b) n) u)
          (drop_more n b (b + n) s.rest refl) whole);
      line = refl;
    })
    (λ _. let e : b ≡ b + 0 =
    omega arith in subst (λ n. Goes s (pass_blanks n s)) e (record { passes = first; line = refl })))
  where
    none : Goes s (pass_blanks 0 s)
    none = record {
      passes = subst (λ (m : Marker). IsPassed s.mark s.rest m s.rest) (sym (along_none s.mark))
          (passing.nothing s.mark s.rest);
      line = refl;
    }

separation_goes : (s : Cursor) → Given (λ (x : SkipTabs × Cursor). Goes s x.1) (separation Yes s)
unfolding separation behind_separation
separation_goes s = grind (arith, by_test, line_passed)

-- ## The end of the header

pub record EndsHeaderLine (s t : Cursor) : Type 0 where
  pub passes : IsPassed s.mark s.rest t.mark t.rest
  pub line : (t.mark.line ≡ min (s.mark.line + 1) top) ⊎ (is_z (slice_index t.rest 0) ≡ true)

pub break_ends : (s : Cursor) → is_breakz (slice_index s.rest 0) ≡ true → EndsHeaderLine s (pass_break s)
break_ends s e = by_test (next_2_are s.rest 13 10) _ _ (EndsHeaderLine s)
    (λ n. let two : break_len s.rest ≡ 2 = rw n refl in
    let c = ap is_break (eqb-true (slice_index s.rest 0) 13
    (and_true_left (slice_index s.rest 0 == 13) (slice_index s.rest 1 == 10) n)) in
    record {
      passes = passing.line_break s.mark s.rest _ _ c (rw two (passing.nothing _ _));
      line = inl refl;
    })
    (λ n. let one : break_len s.rest ≡ 1 = rw n refl in
    by_test (is_break (slice_index s.rest 0)) _ _ (EndsHeaderLine s)
    (λ c. record {
      passes = passing.line_break s.mark s.rest _ _ c (rw one (passing.nothing _ _));
      line = inl refl;
    })
    (λ c. record {
      passes = passing.nothing s.mark s.rest;
      line = inr (either (is_break (slice_index s.rest 0)) (is_z (slice_index s.rest 0))
          (is_z (slice_index s.rest 0) ≡ true) e (λ k. absurd (cc)) (λ k. k));
    }))

ends_from : (s t : Cursor) (r : Result Cursor Refusal) → Goes s t → Given (EndsHeaderLine t) r
    → Given (EndsHeaderLine s) r
ends_from s t (Ok u) g h = (grind (arith, passed_passed))
ends_from s t (Err e) g h = tt

header_end_ends : (start : Marker) (s t : Cursor) → Goes s t → Given (EndsHeaderLine s) (header_end start t)
unfolding header_end header_break
header_end_ends start s t g =
    grind (arith, given_bind, given_of, separation_goes, ends_from, goes_goes, by_test, break_ends, not-false)

last_goes : (first : Option Chomping) (s : Cursor) → Goes s (last_chomping first s).1
unfolding last_chomping
last_goes (Some first) s = goes_nowhere s
last_goes None s = chomping_goes s

header_behind_ends : (start : Marker) (i : ℕ) (s : Cursor) (x : Chomping × Cursor) → Goes s x.1
    → Given (λ (y : BlockHeader × Cursor). EndsHeaderLine s y.1) (header_behind start i x)
unfolding header_behind
header_behind_ends start i s x g = grind (arith, given_bind, given_of, header_end_ends)

-- where the header's indicators end; z is the place s, or that after the first character
header_goes_from : (z s : Cursor) (x : ℕ × Cursor) → Goes z (pass 1 s) → indicator s.mark (chomping (pass 1 s)).1 ≡ Ok x
    → Goes z (last_chomping (chomping (pass 1 s)).0 x.1).1
header_goes_from z s x g e =
    let first = chomping (pass 1 s) in
    let k = goes_goes z first.1 x.1 (goes_goes z (pass 1 s) first.1 g (chomping_goes (pass 1 s)))
    (given_of (λ (y : ℕ × Cursor). Goes first.1 y.1) (indicator s.mark first.1) x (indicator_goes s.mark first.1) e) in
    goes_goes z x.1 (last_chomping first.0 x.1).1 k (last_goes first.0 x.1)

pub header_goes : (s : Cursor) (x : ℕ × Cursor) → Goes s (pass 1 s) → indicator s.mark (chomping (pass 1 s)).1 ≡ Ok x
    → Goes s (last_chomping (chomping (pass 1 s)).0 x.1).1
header_goes s = header_goes_from s s

pub header_ends_from : (z s : Cursor) → Goes z (pass 1 s)
    → Given (λ (y : BlockHeader × Cursor). EndsHeaderLine z y.1) (header s)
unfolding header
header_ends_from z s g =
    let first = chomping (pass 1 s) in
    given_bind (λ (y : BlockHeader × Cursor). EndsHeaderLine z y.1) (indicator s.mark first.1) _ (λ x e.
    header_behind_ends s.mark x.0 z (last_chomping first.0 x.1) (header_goes_from z s x g e))

pub header_ends : (s : Cursor) → Goes s (pass 1 s)
    → Given (λ (y : BlockHeader × Cursor). EndsHeaderLine s y.1) (header s)
header_ends s = header_ends_from s s
