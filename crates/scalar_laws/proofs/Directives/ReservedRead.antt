-- Each spelled reserved directive is read.
use Rattle.scalar_laws.proofs.Common.{◌≡◌, ◌≢◌, ℕ, ◌+◌, true, List, [], ◌∷◌, ◌++◌, length, length-append, append_assoc, slice_index, Ok, ap, ◌∙◌, arith, encode_utf8_all, IsTrue, inl, inr, ◌⊎◌, codes, drop-append_seam, or_left, or_right, is_blank, is_breakz, is_blank_or_breakz, is_yaml_non_break, Marker, Cursor, along, pass_break, pass_comment, mid_line, AreIn, breakz_no_non_break, line_read, no_tail, name_read, whole_line, tail_given, line_place, directive_same}
use Rattle.saphyr_scalar.specs.Steps.Directive.{name, value, directive}
use Rattle.saphyr_scalar.specs.Spelling.Directive.{reserved, IsReservedDirective}
use Rattle.saphyr_scalar.proofs.Runs.{run_len}
use Rattle.saphyr_scalar.proofs.Places.{along_three}
use Rattle.saphyr_scalar.proofs.Directives.PartEnds.{said}
use Rattle.saphyr_scalar.proofs.Directives.LowBytes.{not_text}

more_begins : (more x : List ℕ) → (more ≡ []) ⊎ IsTrue (is_blank (slice_index more 0))
    → is_breakz (slice_index x 0) ≡ true → is_blank_or_breakz (slice_index (more ++ x) 0) ≡ true
more_begins [] x is ends = or_right (is_blank (slice_index x 0)) (is_breakz (slice_index x 0)) ends
more_begins (c ∷ more) x (inl none) ends = absurd (cc)
more_begins (c ∷ more) x (inr blank) ends = or_left (is_blank c) (is_breakz c) blank

comment_passed : (k : Marker) (more x : List ℕ) → AreIn is_yaml_non_break more → is_breakz (slice_index x 0) ≡ true
    → pass_comment (mid_line k (more ++ x)) ≡ mid_line (along k (length more)) x
comment_passed k more x are ends = search (run_len, breakz_no_non_break, drop-append_seam)

reserved_line : (m : Marker) (name t x : List ℕ) → IsReservedDirective name t → is_breakz (slice_index x 0) ≡ true
    → directive (mid_line m (t ++ x))
    ≡ tail_given (reserved (encode_utf8_all name)) (along m (length t)) (along m (length t)) x
unfolding value
reserved_line m name t x (more, some, no_yaml, no_tag, are, in_line, begins, e) ends =
    let d = reserved (encode_utf8_all name) in
    let parts = more ++ x in
    let whole : t ++ x ≡ 37 ∷ (name ++ parts) = cc (append_assoc name more x) in
    let len : length t ≡ 1 + length name + length more = rw e (omega (arith, length-append name more)) in
    let a = along (along m 1) (length name) in
    let b = along a (length more) in
    let none : length t + 0 ≡ length t = omega arith in
    cc (
      whole_line (mid_line m (37 ∷ (name ++ parts))) (pass_break (mid_line (along b 0) x)) d (encode_utf8_all name)
          (mid_line a parts) (mid_line b x) (name_read (along m 1) name parts some are (more_begins more x begins ends))
          ((grind (arith, not_text)) ∙ ap (λ s. said d s)
          (comment_passed a more x in_line ends)) (line_read m b [] x no_tail ends),
      line_place d m b (length t) [] x (along_three m 1 (length name) (length more) (length t) len),
    )

pub reads_reserved : (s : Cursor) (name t x : List ℕ) → s.rest ≡ t ++ x → IsReservedDirective name t
    → is_breakz (slice_index x 0) ≡ true → directive s ≡ Ok (
      reserved (encode_utf8_all name),
      along s.mark (length t),
      pass_break
          (mid_line (along s.mark (length t)) x),
    )
reads_reserved s name t x e is ends = cc (directive_same s, reserved_line s.mark name t x is ends)
