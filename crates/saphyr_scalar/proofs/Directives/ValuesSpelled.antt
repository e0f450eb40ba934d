-- What is read after a directive's name is spelled so.
use Rattle.saphyr_scalar.proofs.Common.{◌≡◌, ◌≢◌, ℕ, ◌+◌, true, false, List, [], ◌∷◌, ◌++◌, length, length-append, append_assoc, take, drop, slice_index, cond, Result, Ok, refl, sym, ap, ◌∙◌, arith, subst, encode_utf8_all, lit<, IsTrue, prefix_len, false≢true, take-append-drop, bytes_eq-Decides, percent_sign, is_blank, is_blank_or_breakz, is_yaml_non_break, is_yaml_non_space, Marker, Refusal, Cursor, along, pass_comment, by_test}
use Rattle.std.specs.Prelude.{◌⊎◌, codes, bytes_eq}
use Rattle.std.proofs.Math.Utf8.{encode}
use Rattle.saphyr_scalar.specs.Steps.Directive.{version_directive, tag_directive, value}
use Rattle.saphyr_scalar.specs.Spelling.Directive.{ReadDirective, version, tag_prefix, reserved, IsReadDirective}
use Rattle.saphyr_scalar.specs.Steps.Quoted.{mid_line}
use Rattle.saphyr_scalar.specs.Spelling.Tag.{AreIn}
use Rattle.saphyr_scalar.proofs.Runs.{run_is_in}
use Rattle.saphyr_scalar.proofs.Directives.LowBytes.{low_unique, AreLow}
use Rattle.saphyr_scalar.proofs.Steps.{ok_same}
use Rattle.saphyr_scalar.proofs.Directives.NamesSpelled.{run_count}
use Rattle.saphyr_scalar.proofs.Directives.VersionsSpelled.{VersionOf, version_spelled}
use Rattle.saphyr_scalar.proofs.Directives.TagPrefixesSpelled.{TagOf, tag_spelled}

pub record ValueOf (d : ReadDirective) (k : Marker) (w zs : List ℕ) (u : Cursor) : Type 0 where
  pub more : List ℕ
  pub text : zs ≡ more ++ u.rest
  pub place : u ≡ mid_line (along k (length more)) u.rest
  pub is : IsReadDirective d (percent_sign ∷ (w ++ more))

version_value : (d : ReadDirective) (k : Marker) (zs : List ℕ) (u : Cursor) → VersionOf d k zs u
    → ValueOf d k (codes "YAML") zs u
version_value d k zs u is =
    let more = is.gap ++ (is.high ++ (46 ∷ is.low)) in
    let len : length is.gap + length is.high + 1 + length is.low ≡ length more =
    omega (arith, length-append is.gap (is.high ++ (46 ∷ is.low)), length-append is.high (46 ∷ is.low)) in
    let spelled : IsReadDirective (version is.major is.minor) (37 ∷ (codes "YAML" ++ more)) =
    (is.gap, is.high, is.low, is.blanks, is.first, is.second, refl) in
    record {
      more = more;
      text = cc (append_assoc is.gap (is.high ++ (46 ∷ is.low)) u.rest, append_assoc is.high (46 ∷ is.low) u.rest);
      place = is.place ∙ ap (λ n. mid_line (along k n) u.rest) len;
      is = subst (λ (e : ReadDirective). IsReadDirective e (37 ∷ (codes "YAML" ++ more))) is.says spelled;
    }

-- The four parts of a tag directive's value are one piece of the text behind the name, as long as the parts together.
tag_value : (d : ReadDirective) (k : Marker) (zs : List ℕ) (u : Cursor) → TagOf d k zs u
    → ValueOf d k (codes "TAG") zs u
tag_value d k zs u is =
    let more = is.first ++ (is.handle ++ (is.second ++ is.written)) in
    let len : length is.first + length is.handle + length is.second + length is.written ≡ length more =
    omega (
      arith,
      length-append is.first (is.handle ++ (is.second ++ is.written)),
      length-append is.handle
          (is.second ++ is.written),
      length-append is.second is.written,
    ) in
    let spelled : IsReadDirective (tag_prefix (encode_utf8_all is.handle) (encode_utf8_all is.value))
    (37 ∷ (codes "TAG" ++ more)) = (
      is.handle,
      is.value,
      (is.first, is.second, is.written, is.before, is.between, is.is_handle, is.whole, is.is_prefix, refl),
      refl,
      refl,
    ) in
    record {
      more = more;
      text = is.text ∙ sym (append_assoc is.first (is.handle ++ (is.second ++ is.written)) u.rest
          ∙ ap (λ r. is.first ++ r) (append_assoc is.handle (is.second ++ is.written) u.rest
          ∙ ap (λ r. is.handle ++ r) (append_assoc is.second is.written u.rest)));
      place = is.place ∙ ap (λ n. mid_line (along k n) u.rest) len;
      is = subst (λ (e : ReadDirective). IsReadDirective e (37 ∷ (codes "TAG" ++ more))) is.says spelled;
    }

abbrev Begins : List ℕ → Type 0
Begins t = (t ≡ []) ⊎ IsTrue (is_blank (slice_index t 0))

parameters_begin : (zs : List ℕ) → is_blank_or_breakz (slice_index zs 0) ≡ true
    → Begins (take (prefix_len is_yaml_non_break zs) zs)
parameters_begin zs h = grind arith

yaml_eq : bytes_eq (encode_utf8_all (codes "YAML")) (codes "YAML") ≡ true
unfolding encode
yaml_eq = refl

tag_eq : bytes_eq (encode_utf8_all (codes "TAG")) (codes "TAG") ≡ true
unfolding encode
tag_eq = refl

other_name : (w text : List ℕ) → bytes_eq (encode_utf8_all text) text ≡ true → bytes_eq (encode_utf8_all w) text ≡ false
    → w ≢ text
other_name w text same other e = false≢true (sym other ∙ ap (λ v. bytes_eq (encode_utf8_all v) text) e ∙ same)

same_name : (w text : List ℕ) → AreLow text → bytes_eq (encode_utf8_all w) text ≡ true → w ≡ text
same_name w text low e = low_unique w text low ((bytes_eq-Decides (encode_utf8_all w) text).0 e)

reserved_value : (w : List ℕ) (k : Marker) (zs : List ℕ) → w ≢ [] → w ≢ codes "YAML" → w ≢ codes "TAG"
    → AreIn is_yaml_non_space w → is_blank_or_breakz (slice_index zs 0) ≡ true
    → ValueOf (reserved (encode_utf8_all w)) k w zs (pass_comment (mid_line k zs))
reserved_value w k zs some no_yaml no_tag all ends =
    let n = prefix_len is_yaml_non_break zs in
    let more = take n zs in
    record {
      more = more;
      text = sym (take-append-drop n zs);
      place = ap (λ j. mid_line (along k j) (drop n zs)) (sym (run_count is_yaml_non_break zs));
      is = (
        w,
        (more, some, no_yaml, no_tag, all, run_is_in is_yaml_non_break zs, parameters_begin zs ends, refl),
        refl,
      );
    }

abbrev OfValue : Marker → List ℕ → List ℕ → ReadDirective × Cursor → Type 0
OfValue k w zs x = ValueOf x.0 k w zs x.1

pub value_spelled : (start k : Marker) (w zs : List ℕ) (d : ReadDirective) (u : Cursor) → w ≢ []
    → AreIn is_yaml_non_space w → is_blank_or_breakz (slice_index zs 0) ≡ true
    → value start (encode_utf8_all w, mid_line k zs) ≡ Ok (d, u) → ValueOf d k w zs u
unfolding value
value_spelled start k w zs d u some all ends =
    by_test (bytes_eq (encode_utf8_all w) (codes "YAML")) (version_directive start (mid_line k zs))
    (cond (bytes_eq (encode_utf8_all w) (codes "TAG")) (tag_directive start (mid_line k zs))
    (Ok (reserved (encode_utf8_all w), pass_comment (mid_line k zs))))
    (λ (r : Result (ReadDirective × Cursor) Refusal). r ≡ Ok (d, u) → ValueOf d k w zs u)
    (λ yaml h. rw (same_name w (codes "YAML") (lit< tt, (lit< tt, (lit< tt, (lit< tt, tt)))) yaml)
    (version_value d k zs u (version_spelled start k zs d u ends h)))
    (λ no_yaml. by_test (bytes_eq (encode_utf8_all w) (codes "TAG")) (tag_directive start (mid_line k zs))
    (Ok (reserved (encode_utf8_all w), pass_comment (mid_line k zs)))
    (λ (r : Result (ReadDirective × Cursor) Refusal). r ≡ Ok (d, u) → ValueOf d k w zs u)
    (λ is_tag h. subst (λ v. ValueOf d k v zs u)
    (sym (same_name w (codes "TAG") (lit< tt, (lit< tt, (lit< tt, tt))) is_tag))
    (tag_value d k zs u (tag_spelled start k zs d u ends h)))
    (λ no_tag h. subst (OfValue k w zs)
    (ok_same {A = ReadDirective × Cursor} (reserved (encode_utf8_all w), pass_comment (mid_line k zs)) (d, u) h)
    (reserved_value w k zs some (other_name w (codes "YAML") yaml_eq no_yaml) (other_name w (codes "TAG") tag_eq no_tag)
    all ends)))
