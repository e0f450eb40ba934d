-- No document marker begins a line of directives.
use Rattle.yaml_laws.proofs.Common.{List, [], arith, encode_utf8_all, false, refl, slice_index, subst, sym, ℕ, ◌++◌, ◌||◌, ◌∷◌, ◌≡◌, ◌==◌, nat_tests, is_alpha, exclamation_mark, percent_sign, Directive, Reserved, TagPrefix, Version, AreDirectives, IsDirective, ReadDirective, version, tag_prefix, reserved, AreSomeBlanks, IsTagDirective, IsReadTagDirective, IsReadDirective, IsLineTail, NoBreaks, no_breaks_both, directive_no_break, tail_no_break}
use Rattle.yaml_laws.proofs.InBlock.Skips.{nothing, one_break, filler_skipped}
use Rattle.yaml_laws.proofs.InBlock.LineStarts.{IsUnmarked, both_unmarked, line_unmarked, skipped_unmarked}

-- blanks end a handle
ends_handle : (blanks behind : List ℕ) → AreSomeBlanks blanks
    → (is_alpha (slice_index (blanks ++ behind) 0) || (slice_index (blanks ++ behind) 0 == exclamation_mark)) ≡ false
ends_handle [] behind (some, are) = absurd (some refl)
ends_handle (c ∷ cs) behind (some, are) = grind (arith, nat_tests)

tag_read : (handle prefix t : List ℕ) → IsTagDirective handle prefix t → IsReadTagDirective handle prefix t
tag_read handle prefix t (first, second, written, first_are, second_are, handle_is, prefix_is, e) = search (ends_handle)

percent_unmarked : (t : List ℕ) → slice_index t 0 ≡ percent_sign → NoBreaks t → IsUnmarked t
percent_unmarked [] first line = absurd (cc)
percent_unmarked (c ∷ cs) first line =
    subst (λ (x : ℕ). IsUnmarked (x ∷ cs)) (sym first) (line_unmarked 37 cs refl refl (refl, line.1))

with_tail : (d : ReadDirective) (text tail t : List ℕ) → IsReadDirective d text → IsLineTail tail → t ≡ text ++ tail
    → slice_index t 0 ≡ percent_sign → IsUnmarked t
with_tail d text tail t is tail_is e first =
    grind (arith, percent_unmarked, no_breaks_both, directive_no_break, tail_no_break)

directive_unmarked : (d : Directive) (t : List ℕ) → IsDirective d t → IsUnmarked t
directive_unmarked (Version major minor) t (text, tail, is, tail_is, e) =
    with_tail (version major minor) text tail t is tail_is e (cc)
directive_unmarked (TagPrefix handle prefix) t (written, text, tail, handle_is, is, tail_is, e) =
    with_tail (tag_prefix (encode_utf8_all written) (encode_utf8_all prefix)) text tail t
    (written, prefix, tag_read written prefix text is, refl, refl) tail_is e (cc)
directive_unmarked (Reserved name) t is =
    percent_unmarked t (cc) (directive_no_break (reserved (encode_utf8_all name)) t (name, is, refl))

pub directives_unmarked : (ds : List Directive) (t : List ℕ) → AreDirectives ds t → IsUnmarked t
directives_unmarked [] t h = rw h (λ at_start o. refl)
directives_unmarked (d ∷ ds) t (directive, filler, more, is, filler_is, others, e) =
    rw e (both_unmarked directive (10 ∷ (filler ++ more)) (directive_unmarked d directive is)
    (both_unmarked (10 ∷ []) (filler ++ more) (skipped_unmarked (10 ∷ []) (one_break [] nothing))
    (both_unmarked filler more (skipped_unmarked filler (filler_skipped filler filler_is))
    (directives_unmarked ds more others))))
