-- What is read as a version directive is spelled so.
use Rattle.std.proofs.Common.{◌≡◌, ◌≢◌, ℕ, suc, ◌+◌, ◌-◌, ◌*◌, ◌<◌, ◌≤◌, Bool, true, false, List, [], ◌∷◌, ◌++◌, length, take, drop, slice_index, nat_eq, nat_lt, Result, Ok, Err, refl, sym, ap, ◌∙◌, arith}
use Rattle.saphyr_scalar.proofs.Common.{prefix_len, eqb-true, nat_tests, take-append-drop, full_stop, is_digit, is_blank, is_blank_or_breakz, Marker, Refusal, Cursor, ◌>>=◌, along, pass, pass_all_blanks, by_test}
use Rattle.saphyr_scalar.specs.declared.scalar.fault.FaultText.TheVariants as fault
use Rattle.saphyr_scalar.specs.Steps.Directive.{number_end, number_from, number, behind_major, version_directive}
use Rattle.saphyr_scalar.specs.Spelling.Directive.{ReadDirective, version, AreSomeBlanks, decimal_from, IsVersionNumber}
use Rattle.saphyr_scalar.specs.Steps.Quoted.{mid_line}
use Rattle.saphyr_scalar.specs.Spelling.Tag.{AreIn}
use Rattle.saphyr_scalar.proofs.Moving.{along_none, along_more}
use Rattle.saphyr_scalar.proofs.Runs.{run_is_in}
use Rattle.saphyr_scalar.proofs.Properties.TagsSpelled.{cut_at}
use Rattle.saphyr_scalar.proofs.Directives.PartEnds.{ends_at, first_of}
use Rattle.saphyr_scalar.proofs.Steps.{no_result, bind_ok, ok_same, cond_not, cond_then}
use Rattle.saphyr_scalar.proofs.Places.{along_four}
use Rattle.saphyr_scalar.proofs.Directives.NamesSpelled.{run_count}

pub record DigitsOf (n v w : ℕ) (m : Marker) (xs : List ℕ) (u : Cursor) : Type 0 where
  pub digits : List ℕ
  pub all : AreIn is_digit digits
  pub few : n + length digits ≤ 9
  pub some : 0 < n + length digits
  pub value : decimal_from v digits ≡ w
  pub text : xs ≡ digits ++ u.rest
  pub place : u ≡ mid_line (along m (length digits)) u.rest

number_ended : (start : Marker) (n v w : ℕ) (m : Marker) (xs : List ℕ) (u : Cursor) → n ≤ 9
    → number_end start n v (mid_line m xs) ≡ Ok (w, u) → DigitsOf n v w m xs u
unfolding number_end
number_ended start n v w m xs u le h = grind (arith, cond_not, ok_same, nat_tests, along_none)

digits_spelled : (start : Marker) (n v : ℕ) (m : Marker) (xs : List ℕ) (w : ℕ) (u : Cursor) → n ≤ 9
    → number_from start n v m xs ≡ Ok (w, u) → DigitsOf n v w m xs u
unfolding number_from
digits_spelled start n v m [] w u le = λ h. number_ended start n v w m [] u le h
digits_spelled start n v m (c ∷ cs) w u le =
    by_test (is_digit c) _ _ (λ (r : Result (ℕ × Cursor) Refusal). r ≡ Ok (w, u) → DigitsOf n v w m (c ∷ cs) u)
    (λ digit. by_test (nat_lt n 9) (number_from start (suc n) (v * 10 + (c - 48)) (along m 1) cs)
    (Err (record { text = fault.VersionNumberTooLong; mark = start; may_change = false }))
    (λ (r : Result (ℕ × Cursor) Refusal). r ≡ Ok (w, u) → DigitsOf n v w m (c ∷ cs) u) (λ small h.
    let lt : n < 9 = grind (arith, nat_tests) in
    let others = digits_spelled start (suc n) (v * 10 + (c - 48)) (along m 1) cs w u (omega arith) h in
    record {
      digits = c ∷ others.digits;
      all = (digit, others.all);
      few = omega (arith, others.few);
      some = omega arith;
      value = others.value;
      text = ap (λ r. c ∷ r) others.text;
      place = cc (along_more m 1 (length others.digits) (suc (length others.digits)) (omega arith));
    })
    (λ _ h. no_result (record { text = fault.VersionNumberTooLong; mark = start; may_change = false }) (w, u)
    (DigitsOf n v w m (c ∷ cs) u) h)) (λ _ h. number_ended start n v w m (c ∷ cs) u le h)

pub some_of_length : (t : List ℕ) → 0 < length t → t ≢ []
some_of_length t lt e = let k : length t ≡ 0 = ap (λ (u : List ℕ). length u) e in absurd (omega arith)

-- where a blank or a break comes first, there are blanks before what begins otherwise
pub gap_some : (p : ℕ → Bool) (xs gap behind : List ℕ) → ((c : ℕ) → is_blank_or_breakz c ≡ true → p c ≡ false)
    → is_blank_or_breakz (slice_index xs 0) ≡ true → xs ≡ gap ++ behind → p (slice_index behind 0) ≡ true → gap ≢ []
gap_some p xs gap behind apart first text begins none = grind arith

is_version_number : (w : ℕ) (m : Marker) (xs : List ℕ) (u : Cursor) (is : DigitsOf 0 0 w m xs u)
    → IsVersionNumber w is.digits
is_version_number w m xs u is =
    (some_of_length is.digits (omega (arith, is.some)), omega (arith, is.few), is.all, is.value)

pub record VersionOf (d : ReadDirective) (m : Marker) (xs : List ℕ) (u : Cursor) : Type 0 where
  pub major : ℕ
  pub minor : ℕ
  pub gap : List ℕ
  pub high : List ℕ
  pub low : List ℕ
  pub says : version major minor ≡ d
  pub blanks : AreSomeBlanks gap
  pub first : IsVersionNumber major high
  pub second : IsVersionNumber minor low
  pub text : xs ≡ gap ++ (high ++ (full_stop ∷ (low ++ u.rest)))
  pub place : u ≡ mid_line (along m (length gap + length high + 1 + length low)) u.rest

-- What was read as a version is spelled as one: blanks, digits, a full stop, digits. The steps of the reading are
-- taken apart, and both numbers are known by `digits_spelled`. The blanks are some, since the directive's name ends
-- where they begin.
pub version_spelled : (start m : Marker) (xs : List ℕ) (d : ReadDirective) (u : Cursor)
    → is_blank_or_breakz (slice_index xs 0) ≡ true → version_directive start (mid_line m xs) ≡ Ok (d, u)
    → VersionOf d m xs u
unfolding version_directive behind_major
version_spelled start m xs d u begins h =
    let n = prefix_len is_blank xs in
    let gap = take n xs in
    let one = bind_ok (number start (pass_all_blanks (mid_line m xs))) (λ (x : ℕ × Cursor). behind_major start x)
    (d, u) h in
    let a = digits_spelled start 0 0 (along m n) (drop n xs) one.given.0 one.given.1 (omega arith) one.first in
    let high = a.digits in
    let mid = one.given.1 in
    let dot = cond_then {A = ReadDirective × Cursor} (nat_eq (slice_index mid.rest 0) 46)
    (number start (pass 1 mid) >>= λ (y : ℕ × Cursor). Ok (version one.given.0 y.0, y.1)) (d, u)
    _ one.next in
    let two = bind_ok (number start (pass 1 mid)) (λ (y : ℕ × Cursor). Ok (version one.given.0 y.0, y.1)) (d, u)
    dot.same in
    let same = ok_same {A = ReadDirective × Cursor} (version one.given.0 two.given.0, two.given.1) (d, u) two.next in
    let left : two.given.1 ≡ u = ap (λ (x : ReadDirective × Cursor). x.1) same in
    let b = rw left at (digits_spelled start 0 0 (along mid.mark 1) (drop 1 mid.rest) two.given.0 two.given.1
    (omega arith) two.first) in
    let first = is_version_number one.given.0 (along m n) (drop n xs) mid a in
    let mark : mid.mark ≡ along (along m n) (length high) = ap (λ (y : Cursor). y.mark) a.place in
    let more : mid.rest ≡ 46 ∷ drop 1 mid.rest = cut_at 46 mid.rest refl
    (eqb-true (slice_index mid.rest 0) 46 dot.test) in
    let point : drop n xs ≡ high ++ (46 ∷ (b.digits ++ u.rest)) = cc in
    record {
      major = one.given.0;
      minor = two.given.0;
      gap = gap;
      high = high;
      low = b.digits;
      says = ap (λ (x : ReadDirective × Cursor). x.0) same;
      blanks = (
        gap_some is_digit xs gap (drop n xs) (λ c e. (ends_at c e).no_digit) begins (sym (take-append-drop n xs))
            (rw point (first_of is_digit high (46 ∷ (b.digits ++ u.rest)) first.0 first.2)),
        run_is_in is_blank xs,
      );
      first = first;
      second = is_version_number two.given.0 (along mid.mark 1) (drop 1 mid.rest) u b;
      text = sym (take-append-drop n xs) ∙ ap (λ r. gap ++ r) point;
      place = b.place ∙ ap (λ (k : Marker). mid_line (along (along k 1) (length b.digits)) u.rest) mark
          ∙ ap (λ k. mid_line k u.rest) (along_four m n (length high) 1 (length b.digits)
          (length gap + length high + 1 + length b.digits)
          (ap (λ k. k + length high + 1 + length b.digits) (run_count is_blank xs)));
    }
