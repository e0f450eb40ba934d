-- The blanks that are skipped, in the bytes and in the characters.
use Rattle.std.proofs.Common.{◌≡◌, ℕ, ◌+◌, ◌≤◌, Bool, true, false, List, length, take, drop, IsUtf8, refl, sym, ap, ◌∙◌, arith}
use Rattle.std.specs.Prelude.{◌==◌}
use Rattle.std.specs.List.{prefix_len, list_any}
use Rattle.std.specs.Str.{chars}
use Rattle.std.proofs.lemmas.Bool.Decides.{nat_tests}
use Rattle.std.proofs.lemmas.List.{length-drop}
use Rattle.std.proofs.lemmas.List.Sums.{prefix_len-le-length}
use Rattle.saphyr_input.specs.Classes.{space, tab}
use Rattle.saphyr_input.specs.Fronts.{IsAsciiClass}
use Rattle.saphyr_input.specs.Fronts as spec
use Rattle.saphyr_input.specs.Separation as separation
use Rattle.saphyr_input.specs.declared.input.SkipTabs.{SkipTabs}
use Rattle.saphyr_input.specs.declared.input.SkipTabs.TheVariants.{Yes, No, Result}
use Rattle.saphyr_input.proofs.Ascii.{AsciiRun, PastAscii, ascii_class_run}
use Rattle.saphyr_input.proofs.Texts.{length-chars}

skipped_ascii : (t : SkipTabs) → IsAsciiClass (separation.is_skipped t)
skipped_ascii Yes = λ c h. grind (arith, nat_tests)
skipped_ascii No = λ c h. grind (arith, nat_tests)
skipped_ascii (Result a b) = λ c h. grind (arith, nat_tests)

pub with_tabs : (t : SkipTabs) (b : Bool) → t ≡ Yes → b ≡ true → (c : ℕ)
    → spec.is_passed_blank b c ≡ separation.is_skipped t c
with_tabs t b e f c = rw (e, f) refl

pub without_tabs : (t : SkipTabs) (b : Bool) → ¬ (t ≡ Yes) → b ≡ false → (c : ℕ)
    → spec.is_passed_blank b c ≡ separation.is_skipped t c
without_tabs Yes b n f c = absurd (n refl)
without_tabs No b n f c = rw f refl
without_tabs (Result x y) b n f c = rw f refl

pub record SkippedBlanks (t : SkipTabs) (bs : List ℕ) (n : ℕ) (tabs spaces : Bool) : Type 0 where
  pub past : PastAscii bs n
  pub count : n ≡ separation.blank_len t (chars bs)
  pub found : Result tabs spaces ≡ separation.found_blanks t (chars bs)

pub blanks_are : (t : SkipTabs) (b : Bool) (bs : List ℕ) (n : ℕ) (tabs spaces : Bool) → IsUtf8 bs
    → ((c : ℕ) → spec.is_passed_blank b c ≡ separation.is_skipped t c)
    → n ≡ prefix_len (spec.is_passed_blank b) bs → tabs ≡ list_any (λ c. c == tab) (take n bs)
    → spaces ≡ list_any (λ c. c == space) (take n bs) → SkippedBlanks t bs n tabs spaces
blanks_are t b bs n tabs spaces u same e f g =
    let run : AsciiRun (separation.is_skipped t) bs n = ascii_class_run (separation.is_skipped t)
    (spec.is_passed_blank b) bs
    n u (skipped_ascii t) same e in
    let count = run.ends (skipped_ascii t) in
    let front : take n bs ≡ take (separation.blank_len t (chars bs)) (chars bs) =
    sym run.past.front ∙ ap (λ (m : ℕ). take m (chars bs)) count in
    record {
      past = run.past;
      count = count;
      found = rw (f, g, front) refl;
    }

-- the blanks and the comment after them are no longer than the text
pub two_runs_fit : (p q : ℕ → Bool) (bs rs : List ℕ) (n k : ℕ) → IsUtf8 bs → n ≡ prefix_len p (chars bs)
    → chars rs ≡ drop n (chars bs) → k ≡ prefix_len q (chars rs) → n + k ≤ length bs
two_runs_fit p q bs rs n k u a b c =
    omega (
      arith,
      a,
      c,
      length-chars bs u,
      prefix_len-le-length p (chars bs),
      prefix_len-le-length q (chars rs),
      ap
          length b,
      length-drop n (chars bs),
    )
