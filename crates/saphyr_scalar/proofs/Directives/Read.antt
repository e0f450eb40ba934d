-- Each spelled directive is read, on its whole line.
use Rattle.saphyr_scalar.proofs.Common.{◌≡◌, ◌≢◌, ℕ, ◌+◌, true, List, [], ◌∷◌, ◌++◌, length, length-append, append_assoc, slice_index, Result, Ok, refl, ap, ◌∙◌, arith, encode_utf8_all, codes, or_left, is_blank, is_breakz, is_blank_or_breakz, is_yaml_non_space, Marker, Refusal, Cursor, along, pass, pass_break}
use Rattle.std.proofs.Math.Utf8.{encode}
use Rattle.saphyr_scalar.specs.Steps.Directive.{directive_name_of, name, version_directive, handle, prefix, tag_directive, value, line_end, directive}
use Rattle.saphyr_scalar.specs.Spelling.Directive.{ReadDirective, version, tag_prefix, reserved, IsVersionDirective, IsTagDirective, IsDirectiveText, IsLineTail}
use Rattle.saphyr_scalar.specs.Steps.Quoted.{mid_line}
use Rattle.saphyr_scalar.specs.Spelling.Tag.{AreIn}
use Rattle.saphyr_scalar.proofs.Moving.{along_more}
use Rattle.saphyr_scalar.proofs.Runs.{run_read}
use Rattle.saphyr_scalar.proofs.Properties.TagsRead.{some_bytes}
use Rattle.saphyr_scalar.proofs.Places.{along_three}
use Rattle.saphyr_scalar.proofs.Directives.PartEnds.{ends_at, first_of}
use Rattle.saphyr_scalar.proofs.Directives.VersionsRead.{version_read}
use Rattle.saphyr_scalar.proofs.Directives.TagPrefixesRead.{tag_read}
use Rattle.saphyr_scalar.proofs.Directives.TailsRead.{tail_first, line_read}

pub name_read : (m : Marker) (w y : List ℕ) → w ≢ [] → AreIn is_yaml_non_space w
    → is_blank_or_breakz (slice_index y 0) ≡ true
    → name (mid_line m (w ++ y)) ≡ Ok (encode_utf8_all w, mid_line (along m (length w)) y)
unfolding name directive_name_of
name_read m w y some are ends =
    ap (directive_name_of m) (run_read is_yaml_non_space m w y are (ends_at (slice_index y 0) ends).no_name)
    ∙ rw (some_bytes w some, ends) refl

pub whole_line : (s t : Cursor) (d : ReadDirective) (text : List ℕ) (a b : Cursor) → name (pass 1 s) ≡ Ok (text, a)
    → value s.mark (text, a) ≡ Ok (d, b) → line_end s.mark b ≡ Ok t → directive s ≡ Ok (d, b.mark, t)
unfolding directive
whole_line s t d text a b named says ends = rw (named, says, ends) refl

yaml_value : (start : Marker) (s : Cursor) → value start (encode_utf8_all (codes "YAML"), s) ≡ version_directive start s
unfolding value encode
yaml_value start s = refl

tag_value : (start : Marker) (s : Cursor) → value start (encode_utf8_all (codes "TAG"), s) ≡ tag_directive start s
unfolding value encode
tag_value start s = refl

-- The whole directive.

abbrev line_given : ReadDirective → Marker → List ℕ → List ℕ → Result (ReadDirective × Marker × Cursor) Refusal
line_given d k tail x = Ok (d, k, pass_break (mid_line (along k (length tail)) x))

abbrev pub tail_given : ReadDirective → Marker → Marker → List ℕ → Result (ReadDirective × Marker × Cursor) Refusal
tail_given d k j x = Ok (d, k, pass_break (mid_line j x))

pub line_place : (d : ReadDirective) (m k : Marker) (n : ℕ) (tail x : List ℕ) → k ≡ along m n
    → line_given d k tail x ≡ tail_given d (along m n) (along m (n + length tail)) x
line_place d m k n tail x e = cc (along_more m n (length tail) (n + length tail) refl)

pub directive_same : (s : Cursor) → directive s ≡ directive (mid_line s.mark s.rest)
unfolding directive
directive_same s = refl

yaml_some : codes "YAML" ≢ []
yaml_some e = cc

tag_some : codes "TAG" ≢ []
tag_some e = cc

version_line : (m : Marker) (major minor : ℕ) (t tail x : List ℕ) → IsVersionDirective major minor t → IsLineTail tail
    → is_breakz (slice_index x 0) ≡ true
    → directive (mid_line m (t ++ (tail ++ x)))
    ≡ tail_given (version major minor) (along m (length t)) (along m (length t + length tail)) x
version_line m major minor t tail x (gap, high, low, blanks, first, second, e) is_tail ends =
    let z = tail ++ x in
    let parts = gap ++ (high ++ (46 ∷ (low ++ z))) in
    let whole : t ++ z ≡ 37 ∷ 89 ∷ 65 ∷ 77 ∷ 76 ∷ parts = ap (λ u. u ++ z) e ∙ ap (λ u. 37 ∷ 89 ∷ 65 ∷ 77 ∷ 76 ∷ u)
    (append_assoc gap (high ++ (46 ∷ low)) z ∙ ap (λ u. gap ++ u) (append_assoc high (46 ∷ low) z)) in
    let n = length gap + length high + 1 + length low in
    let len : length t ≡ 1 + 4 + n =
    rw e (omega (arith, length-append gap (high ++ (46 ∷ low)), length-append high (46 ∷ low))) in
    let a = along (along m 1) 4 in
    let gap_first = or_left (is_blank (slice_index parts 0)) (is_breakz (slice_index parts 0))
    (first_of is_blank gap (high ++ (46 ∷ (low ++ z))) blanks.0 blanks.1) in
    ap (λ u. directive (mid_line m u)) whole ∙ whole_line (mid_line m (37 ∷ 89 ∷ 65 ∷ 77 ∷ 76 ∷ parts))
    (pass_break (mid_line (along (along a n) (length tail)) x))
    (version major minor) (encode_utf8_all (codes "YAML")) (mid_line a parts) (mid_line (along a n) z)
    (name_read (along m 1) (codes "YAML") parts yaml_some (refl, (refl, (refl, (refl, tt)))) gap_first)
    (yaml_value m (mid_line a parts) ∙ version_read m a major minor gap high low z blanks first second
    (ends_at (slice_index z 0) (tail_first tail x is_tail ends)).no_digit) (line_read m (along a n) tail x is_tail ends)
    ∙ line_place (version major minor) m (along a n) (length t) tail x (along_three m 1 4 n (length t) len)

-- A line that is spelled as a tag directive is read as one. It is parted into `%TAG`, the value and the end of the
-- line, each read by a lemma of its own. Then the lengths of the parts are added up to the place behind the line.
tag_line : (m : Marker) (h p t tail x : List ℕ) → IsTagDirective h p t → IsLineTail tail
    → is_breakz (slice_index x 0) ≡ true
    → directive (mid_line m (t ++ (tail ++ x)))
    ≡ tail_given (tag_prefix (encode_utf8_all h) (encode_utf8_all p)) (along m (length t))
    (along m (length t + length tail)) x
tag_line m h p t tail x (first, second, written, before, between, is_h, is_p, e) is_tail ends =
    let z = tail ++ x in
    let d = tag_prefix (encode_utf8_all h) (encode_utf8_all p) in
    let parts = first ++ (h ++ (second ++ (written ++ z))) in
    let whole : t ++ z ≡ 37 ∷ 84 ∷ 65 ∷ 71 ∷ parts = ap (λ u. u ++ z) e ∙ ap (λ u. 37 ∷ 84 ∷ 65 ∷ 71 ∷ u)
    (append_assoc first (h ++ (second ++ written)) z ∙ ap (λ u. first ++ u) (append_assoc h (second ++ written) z
    ∙ ap (λ u. h ++ u) (append_assoc second written z))) in
    let n = length first + length h + length second + length written in
    let len : length t ≡ 1 + 3 + n =
    rw e (omega (
      arith,
      length-append first (h ++ (second ++ written)),
      length-append h (second ++ written),
      length-append second written,
    )) in
    let a = along (along m 1) 3 in
    let gap_first = or_left (is_blank (slice_index parts 0)) (is_breakz (slice_index parts 0))
    (first_of is_blank first (h ++ (second ++ (written ++ z))) before.0 before.1) in
    ap (λ u. directive (mid_line m u)) whole
    ∙ whole_line (mid_line m (37 ∷ 84 ∷ 65 ∷ 71 ∷ parts)) (pass_break (mid_line (along (along a n) (length tail)) x)) d
    (encode_utf8_all (codes "TAG")) (mid_line a parts) (mid_line (along a n) z)
    (name_read (along m 1) (codes "TAG") parts tag_some (refl, (refl, (refl, tt))) gap_first)
    (tag_value m (mid_line a parts) ∙ tag_read m a first h second p written z before is_h between is_p
    (tail_first tail x is_tail ends)) (line_read m (along a n) tail x is_tail ends)
    ∙ line_place d m (along a n) (length t) tail x (along_three m 1 3 n (length t) len)

directive_with_tail : (m : Marker) (d : ReadDirective) (t tail x : List ℕ) → IsDirectiveText d t → IsLineTail tail
    → is_breakz (slice_index x 0) ≡ true
    → directive (mid_line m (t ++ (tail ++ x))) ≡ tail_given d (along m (length t)) (along m (length t + length tail)) x
directive_with_tail m (version major minor) t tail x is is_tail ends =
    version_line m major minor t tail x is is_tail ends
directive_with_tail m (tag_prefix handle prefix) t tail x (h, p, is, is_h, is_p) is_tail ends =
    rw (is_h, is_p) (tag_line m h p t tail x is is_tail ends)
directive_with_tail m (reserved name) t tail x is is_tail ends = absurd is

pub reads_directive : (s : Cursor) (d : ReadDirective) (t tail x : List ℕ) → s.rest ≡ t ++ (tail ++ x)
    → IsDirectiveText d t → IsLineTail tail → is_breakz (slice_index x 0) ≡ true
    → directive s ≡ Ok (d, along s.mark (length t), pass_break (mid_line (along s.mark (length t + length tail)) x))
reads_directive s d t tail x e is tail_is ends =
    directive_same s ∙ ap (λ u. directive (mid_line s.mark u)) e ∙ directive_with_tail s.mark d t tail x is tail_is ends
