-- Texts of one line: names, tags, and blanks with a comment.
use Rattle.std.proofs.Common.{ℕ, List, refl, sym, subst, inl, inr, arith}
use Rattle.std.specs.Prelude.{codes}
use Rattle.saphyr_input.specs.Classes.{is_anchor_char, is_tag_char, is_uri_char}
use Rattle.saphyr_scalar.specs.Spelling.Directive.{IsLineTail}
use Rattle.saphyr_scalar.specs.Spelling.Tag.{IsAnchorName, IsTagText}
use Rattle.saphyr_scalar.proofs.NoBreaks.{NoBreaks, no_breaks_both, no_breaks_in, decoded_no_break, handle_no_break}

pub name_no_break : (name : List ℕ) → IsAnchorName name → NoBreaks name
name_no_break name is = no_breaks_in is_anchor_char refl refl name is.1

pub tag_no_break : (t handle suffix : List ℕ) → IsTagText t handle suffix → NoBreaks t
tag_no_break t handle suffix (inl h) = subst NoBreaks (sym h.0) (refl, tt)
tag_no_break t handle suffix (inr (inl h)) = subst NoBreaks (sym h.3)
    (refl, (refl, no_breaks_both h.0 (codes ">") (decoded_no_break is_uri_char refl refl suffix h.0 h.1) (refl, tt)))
tag_no_break t handle suffix (inr (inr h)) = subst NoBreaks (sym h.4)
    (no_breaks_both handle h.0 (handle_no_break handle h.1) (decoded_no_break is_tag_char refl refl suffix h.0 h.3))

pub tail_no_break : (t : List ℕ) → IsLineTail t → NoBreaks t
tail_no_break t h = grind (arith, no_breaks_both, no_breaks_in)
