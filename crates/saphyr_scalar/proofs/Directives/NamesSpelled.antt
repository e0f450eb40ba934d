-- What is read as a directive's name is spelled so.
use Rattle.saphyr_scalar.proofs.Common.{◌≡◌, ◌≢◌, ℕ, Bool, true, false, List, [], ◌++◌, length, take, drop, slice_index, nat_eq, cond, Ok, Err, sym, ap, ◌∙◌, encode_utf8_all, prefix_len, take-append-drop, length-take-le, prefix_len-le-length, is_blank_or_breakz, is_yaml_non_space, Marker, Cursor, along}
use Rattle.saphyr_scalar.specs.declared.scalar.fault.FaultText.TheVariants as fault
use Rattle.saphyr_scalar.specs.Steps.Directive.{directive_name_of, name}
use Rattle.saphyr_scalar.specs.Steps.Quoted.{mid_line}
use Rattle.saphyr_scalar.specs.Spelling.Tag.{AreIn}
use Rattle.saphyr_scalar.proofs.Runs.{run_is_in}
use Rattle.saphyr_scalar.proofs.Properties.TagsSpelled.{some_value}
use Rattle.saphyr_scalar.proofs.Steps.{cond_ok, cond_not}

pub run_count : (p : ℕ → Bool) (xs : List ℕ) → length (take (prefix_len p xs) xs) ≡ prefix_len p xs
run_count p xs = length-take-le (prefix_len p xs) xs (prefix_len-le-length p xs)

pub record NameOf (m : Marker) (xs text : List ℕ) (u : Cursor) : Type 0 where
  pub word : List ℕ
  pub some : word ≢ []
  pub all : AreIn is_yaml_non_space word
  pub text_is : xs ≡ word ++ u.rest
  pub bytes : encode_utf8_all word ≡ text
  pub ends : is_blank_or_breakz (slice_index u.rest 0) ≡ true
  pub place : u ≡ mid_line (along m (length word)) u.rest

pub name_spelled : (m : Marker) (xs text : List ℕ) (u : Cursor) → name (mid_line m xs) ≡ Ok (text, u)
    → NameOf m xs text u
unfolding name directive_name_of
name_spelled m xs text u h =
    let n = prefix_len is_yaml_non_space xs in
    let w = take n xs in
    let taken : List ℕ × Cursor = (encode_utf8_all w, mid_line (along m n) (drop n xs)) in
    let some = cond_not {A = List ℕ × Cursor} (nat_eq (length (encode_utf8_all w)) 0)
    (cond (is_blank_or_breakz (slice_index (drop n xs) 0)) (Ok taken)
    (Err (record { text = fault.DirectiveNameCharacter; mark = m; may_change = false }))) (text, u)
    _ h in
    let is = cond_ok {A = List ℕ × Cursor} (is_blank_or_breakz (slice_index (drop n xs) 0)) taken (text, u)
    (record { text = fault.DirectiveNameCharacter; mark = m; may_change = false }) some.same in
    let left : mid_line (along m n) (drop n xs) ≡ u = ap (λ (x : List ℕ × Cursor). x.1) is.same in
    let rest : drop n xs ≡ u.rest = ap (λ (x : Cursor). x.rest) left in
    record {
      word = w;
      some = some_value w some.test;
      all = run_is_in is_yaml_non_space xs;
      text_is = sym (take-append-drop n xs) ∙ ap (λ r. w ++ r) rest;
      bytes = ap (λ (x : List ℕ × Cursor). x.0) is.same;
      ends = rw (← rest) is.test;
      place = cc (run_count is_yaml_non_space xs);
    }
