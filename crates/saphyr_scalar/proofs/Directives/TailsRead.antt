-- What comes after a directive on its line is passed: blanks, and after some a comment.
use Rattle.std.proofs.Common.{◌≡◌, ℕ, suc, ◌+◌, true, false, List, [], ◌∷◌, ◌++◌, length, length-append, append_assoc, drop, slice_index, nat_eq, nat_lt, cond, Ok, refl, sym, ap, ◌∙◌, arith, inl, inr}
use Rattle.std.specs.Prelude.{◌⊎◌}
use Rattle.saphyr_scalar.proofs.Common.{drop-append_seam, or_left, or_right, and_right, nat_tests, is_blank, is_breakz, is_blank_or_breakz, is_bom, separation_len, comment_len, is_bare_comment, found_blanks, Yes, run_stops, Marker, other_than, breakz_no_non_break}
use Rattle.saphyr_scalar.specs.Views.Cursor.{Cursor, along, pass_break, separation, behind_separation}
use Rattle.saphyr_scalar.specs.Steps.Directive.{line_end}
use Rattle.saphyr_scalar.specs.Spelling.Directive.{IsTailComment, IsLineTail}
use Rattle.saphyr_scalar.specs.Steps.Quoted.{mid_line}
use Rattle.saphyr_scalar.specs.Spelling.Tag.{AreIn}
use Rattle.saphyr_scalar.proofs.Runs.{run_len}
use Rattle.saphyr_scalar.proofs.Directives.PartEnds.{blanks_passed}

no_bom : (c : ℕ) → is_breakz c ≡ true → is_bom c ≡ false
no_bom c h = other_than is_breakz 65279 c refl h

break_is_no_blank : (c : ℕ) → is_breakz c ≡ true → is_blank c ≡ false
break_is_no_blank c h = rw (other_than is_breakz 32 c refl h, other_than is_breakz 9 c refl h) refl

abbrev pub Tail : List ℕ → List ℕ → Type 0
Tail blanks comment = (comment ≡ []) ⊎ IsTailComment blanks comment

tail_begins : (blanks comment x : List ℕ) → AreIn is_blank blanks → Tail blanks comment
    → is_breakz (slice_index x 0) ≡ true → is_blank_or_breakz (slice_index (blanks ++ (comment ++ x)) 0) ≡ true
tail_begins (b ∷ bs) comment x (is, are) tail ends = or_left (is_blank b) (is_breakz b) is
tail_begins [] comment x are (inl none) ends = grind (arith, nat_tests, or_right, slice_index)
tail_begins [] comment x are (inr (words, some, in_line, is)) ends = absurd (some refl)

comment_begins : (blanks comment x : List ℕ) → Tail blanks comment → is_breakz (slice_index x 0) ≡ true
    → is_blank (slice_index (comment ++ x) 0) ≡ false
comment_begins blanks comment x h ends = grind arith

comment_is : (blanks comment x : List ℕ) → Tail blanks comment → is_breakz (slice_index x 0) ≡ true
    → comment_len (comment ++ x) ≡ length comment
comment_is blanks comment x u0 ends = grind (arith, other_than, slice_index, run_len, breakz_no_non_break)

abbrev separated : ℕ → List ℕ → ℕ
separated n xs = cond (nat_eq n 0) 0 (n + comment_len (drop n xs))

separated_some : (n : ℕ) (xs : List ℕ) → separated (suc n) xs ≡ suc n + comment_len (drop (suc n) xs)
separated_some n xs = let some : nat_eq (suc n) 0 ≡ false = grind (arith, nat_tests) in rw some refl

separation_is : (blanks comment x : List ℕ) → AreIn is_blank blanks → Tail blanks comment
    → is_breakz (slice_index x 0) ≡ true
    → separation_len Yes (blanks ++ (comment ++ x)) ≡ length blanks + length comment
separation_is [] comment x are (inl none) ends =
    rw none (ap (λ n. separated n x) (run_stops is_blank x (break_is_no_blank (slice_index x 0) ends)))
separation_is [] comment x are (inr (words, some, in_line, is)) ends = absurd (some refl)
separation_is (b ∷ bs) comment x are tail ends =
    let xs = b ∷ (bs ++ (comment ++ x)) in
    ap (λ n. separated n xs)
    (run_len is_blank (b ∷ bs) (comment ++ x) are (comment_begins (b ∷ bs) comment x tail ends))
    ∙ separated_some (length bs) xs
    ∙ ap (λ u. suc (length bs) + comment_len u) (drop-append_seam (b ∷ bs) (comment ++ x))
    ∙ ap (λ n. suc (length bs) + n) (comment_is (b ∷ bs) comment x tail ends)

pub nothing_refused : (text : List ℕ) (s : Cursor) → is_bom (slice_index s.rest 0) ≡ false
    → is_bare_comment Yes text ≡ false → behind_separation Yes text s ≡ Ok (found_blanks Yes text, s)
unfolding behind_separation
nothing_refused text s bom bare = rw (and_right (nat_lt 0 s.mark.col) (is_bom (slice_index s.rest 0)) bom, bare) refl

pub tail_first : (tail x : List ℕ) → IsLineTail tail → is_breakz (slice_index x 0) ≡ true
    → is_blank_or_breakz (slice_index (tail ++ x) 0) ≡ true
tail_first tail x (blanks, comment, are, end, e) ends =
    rw (e, append_assoc blanks comment x) (tail_begins blanks comment x are end ends)

tail_len : (tail x : List ℕ) → IsLineTail tail → is_breakz (slice_index x 0) ≡ true
    → separation_len Yes (tail ++ x) ≡ length tail
tail_len tail x (blanks, comment, are, end, e) ends = rw (e, append_assoc blanks comment x)
    (separation_is blanks comment x are end ends ∙ sym (length-append blanks comment))

separation_read : (m : Marker) (tail x : List ℕ) → IsLineTail tail → is_breakz (slice_index x 0) ≡ true
    → separation Yes (mid_line m (tail ++ x)) ≡ Ok (found_blanks Yes (tail ++ x), mid_line (along m (length tail)) x)
unfolding separation
separation_read m tail x is ends =
    grind (
      arith,
      nat_tests,
      blanks_passed,
      tail_len,
      drop-append_seam,
      nothing_refused,
      no_bom,
      and_right,
      other_than,
      tail_first,
    )

pub line_read : (start m : Marker) (tail x : List ℕ) → IsLineTail tail → is_breakz (slice_index x 0) ≡ true
    → line_end start (mid_line m (tail ++ x)) ≡ Ok (pass_break (mid_line (along m (length tail)) x))
unfolding line_end
line_read start m tail x is ends = rw (separation_read m tail x is ends, ends) refl

pub no_tail : IsLineTail []
no_tail = ([], [], tt, inl refl, refl)
