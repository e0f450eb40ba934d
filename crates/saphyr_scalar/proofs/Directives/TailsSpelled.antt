-- What is passed after a directive on its line is spelled so: blanks, and after some a comment.
use Rattle.saphyr_scalar.proofs.Common.{◌≡◌, ◌≢◌, ℕ, ◌+◌, true, false, List, [], ◌∷◌, ◌++◌, length, length-append, append_assoc, take, drop, slice_index, nat_eq, cond, Ok, Err, refl, sym, ap, ◌∙◌, arith, subst, inl, prefix_len, eqb-true, nat_tests, take-append-drop, is_blank, is_breakz, is_yaml_non_break, separation_len, blank_len, comment_len, SkipTabs, Yes, Marker, by_test}
use Rattle.saphyr_scalar.specs.declared.scalar.fault.FaultText.TheVariants as fault
use Rattle.saphyr_scalar.specs.Views.Cursor.{Cursor, along, pass_break, separation, behind_separation}
use Rattle.saphyr_scalar.specs.Steps.Directive.{line_end}
use Rattle.saphyr_scalar.specs.Spelling.Directive.{IsLineTail}
use Rattle.saphyr_scalar.specs.Steps.Quoted.{mid_line}
use Rattle.saphyr_scalar.proofs.Moving.{drop_more}
use Rattle.saphyr_scalar.proofs.Runs.{run_is_in}
use Rattle.saphyr_scalar.proofs.Properties.TagsSpelled.{cut_at}
use Rattle.saphyr_scalar.proofs.Directives.TailsRead.{no_tail, Tail}
use Rattle.saphyr_scalar.proofs.Steps.{bind_ok, cond_ok}
use Rattle.saphyr_scalar.proofs.Directives.NamesSpelled.{run_count}
use Rattle.saphyr_scalar.proofs.Directives.VersionsSpelled.{some_of_length}

pub record TailOf (m : Marker) (xs : List ℕ) (u : Cursor) : Type 0 where
  pub tail : List ℕ
  pub behind : List ℕ
  pub text : xs ≡ tail ++ behind
  pub is : IsLineTail tail
  pub ends : is_breakz (slice_index behind 0) ≡ true
  pub place : u ≡ pass_break (mid_line (along m (length tail)) behind)

comment_in_tail : (blanks zs : List ℕ) → blanks ≢ [] → Tail blanks (take (comment_len zs) zs)
comment_in_tail blanks zs some =
    by_test (nat_eq (slice_index zs 0) 35) (prefix_len is_yaml_non_break zs) 0 (λ n. Tail blanks (take n zs)) (λ e.
    let more : zs ≡ 35 ∷ drop 1 zs = cut_at 35 zs refl (eqb-true (slice_index zs 0) 35 e) in
    rw more (grind (arith, take, run_is_in))) (λ _. inl refl)

comment_count : (zs : List ℕ) → length (take (comment_len zs) zs) ≡ comment_len zs
comment_count zs = grind (arith, by_test, nat_eq, slice_index, take, run_count)

separation_spelled : (m : Marker) (xs : List ℕ) (x : SkipTabs × Cursor) → separation Yes (mid_line m xs) ≡ Ok x
    → mid_line (along m (separation_len Yes xs)) (drop (separation_len Yes xs) xs) ≡ x.1
unfolding separation behind_separation
separation_spelled m xs x h = grind arith

abbrev IsTailLine : Marker → List ℕ → List ℕ → ℕ → Type 0
IsTailLine m xs tail n = (xs ≡ tail ++ drop n xs) × IsLineTail tail × (length tail ≡ n)

no_blanks : (m : Marker) (xs : List ℕ) → nat_eq (blank_len Yes xs) 0 ≡ true
    → (tail : List ℕ) × IsTailLine m xs tail (separation_len Yes xs)
no_blanks m xs e =
    let none : 0 ≡ separation_len Yes xs = rw e refl in rw (← none) ([], (refl, no_tail, refl))

some_blanks : (m : Marker) (xs : List ℕ) → nat_eq (blank_len Yes xs) 0 ≡ false
    → (tail : List ℕ) × IsTailLine m xs tail (separation_len Yes xs)
some_blanks m xs e =
    let b = prefix_len is_blank xs in
    let blanks = take b xs in
    let zs = drop b xs in
    let c = comment_len zs in
    let comment = take c zs in
    let some : b + c ≡ separation_len Yes xs = rw e refl in
    let test : nat_eq b 0 ≡ false = e in
    let blank : blanks ≢ [] = some_of_length blanks (let k = run_count is_blank xs in grind (arith, nat_tests)) in
    let text : xs ≡ (blanks ++ comment) ++ drop (b + c) xs = sym (take-append-drop b xs)
    ∙ ap (λ r. blanks ++ r) (sym (take-append-drop c zs) ∙ ap (λ r. comment ++ r) (drop_more c b (b + c) xs refl))
    ∙ sym (append_assoc blanks comment (drop (b + c) xs)) in
    let len : length (blanks ++ comment) ≡ b + c = rw (length-append blanks comment)
    (omega (arith, run_count is_blank xs, comment_count zs)) in
    subst (λ n. (tail : List ℕ) × IsTailLine m xs tail n) some
    (blanks ++ comment, (text, (blanks, comment, run_is_in is_blank xs, comment_in_tail blanks zs blank, refl), len))

pub tail_line_of : (m : Marker) (xs : List ℕ) → (tail : List ℕ) × IsTailLine m xs tail (separation_len Yes xs)
tail_line_of m xs = by_test {A = Unit {0}} (nat_eq (blank_len Yes xs) 0) tt tt
    (λ _. (tail : List ℕ) × IsTailLine m xs tail (separation_len Yes xs)) (no_blanks m xs) (some_blanks m xs)

pub line_spelled : (start m : Marker) (xs : List ℕ) (u : Cursor) → line_end start (mid_line m xs) ≡ Ok u → TailOf m xs u
unfolding line_end
line_spelled start m xs u h =
    let n = separation_len Yes xs in
    let one = bind_ok (separation Yes (mid_line m xs))
    (λ (x : SkipTabs × Cursor). cond (is_breakz (slice_index x.1.rest 0)) (Ok (pass_break x.1))
    (Err (record { text = fault.DirectiveEndExpected; mark = start; may_change = false }))) u h in
    let there : mid_line (along m n) (drop n xs) ≡ one.given.1 = separation_spelled m xs one.given one.first in
    let is = cond_ok {A = Cursor} (is_breakz (slice_index one.given.1.rest 0)) (pass_break one.given.1) u
    (record { text = fault.DirectiveEndExpected; mark = start; may_change = false }) one.next in
    let line = tail_line_of m xs in
    record {
      tail = line.0;
      behind = drop n xs;
      text = line.1.0;
      is = line.1.1;
      ends = subst (λ (y : Cursor). is_breakz (slice_index y.rest 0) ≡ true) (sym there) is.test;
      place = cc;
    }
