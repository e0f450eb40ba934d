-- A text whose first bytes are ASCII begins with these bytes as characters.
use Rattle.std.proofs.Common.{◌≡◌, ℕ, ◌+◌, ◌<◌, ◌≤◌, Bool, true, false, List, [], ◌∷◌, ◌++◌, length, take, drop, get_or, IsUtf8, refl, sym, ap, ◌∙◌, subst, arith, add-one, inl, inr, ◌&&◌, ◌==◌, encode_utf8, encode_utf8_all, zero, suc, lit<, add-zero, rules, length-append}
use Rattle.std.specs.List.{prefix_len}
use Rattle.std.specs.Str.{chars, IsAscii, IsCharBoundary}
use Rattle.std.proofs.lemmas.Bool.{cases_lt, eqb-true, false≢true}
use Rattle.std.proofs.lemmas.Bool.Decides.{nat_tests}
use Rattle.std.proofs.lemmas.List.{append-nil, get_or_append_left, take-append-drop, drop_at, take_at, length-take-le, get_or-take, get_or-drop, drop_all, get_or_past}
use Rattle.std.proofs.lemmas.List.Sums.{prefix_len-le-length, prefix_len_passes, prefix_len_stops}
use Rattle.std.proofs.lemmas.Str.{chars-nil, chars-append, chars-IsAscii, IsUtf8-from_ascii, IsUtf8-drop, IsCharBoundary-start, IsCharBoundary-after_ascii, byte_from_char, char_from_byte, chars_from_encodes, length-encode, len_utf8_bounds}
use Rattle.std.proofs.lemmas.Str.Ascii.{IsAscii-from_reads}
use Rattle.std.specs.Prelude.{nat_lt, not}
use Rattle.saphyr_input.specs.Fronts.{ascii_in, IsAsciiClass, StandsFor, IsFirstByte, is_marker}
use Rattle.saphyr_input.specs.Classes.{is_blank_or_breakz, is_yaml_non_break, is_yaml_non_space}
use Rattle.saphyr_input.proofs.Basics.Booleans.{and_true_left, and_true_right}

-- n ASCII bytes come first
pub record PastAscii (bs : List ℕ) (n : ℕ) : Type 0 where
  pub split : chars bs ≡ take n bs ++ chars (drop n bs)
  pub rest : chars (drop n bs) ≡ drop n (chars bs)
  pub front : take n (chars bs) ≡ take n bs
  pub utf8 : IsUtf8 (drop n bs)
  pub boundary : IsCharBoundary bs n

boundary_past : (bs : List ℕ) (n : ℕ) → IsUtf8 bs → n ≤ length bs → ((k : ℕ) → k < n → get_or bs k 0 < 128)
    → IsCharBoundary bs n
boundary_past bs zero u l h = IsCharBoundary-start bs u
boundary_past bs (suc n) u l h =
    let lt : n < length bs = omega (arith, l) in
    let here : get_or bs n 0 < 128 = h n (omega arith) in
    rw (← add-one n) (IsCharBoundary-after_ascii bs n u lt here)

front_IsAscii : (bs : List ℕ) (n : ℕ) → n ≤ length bs → ((k : ℕ) → k < n → get_or bs k 0 < 128) → IsAscii (take n bs)
front_IsAscii bs n l h =
    IsAscii-from_reads (take n bs) n (omega (arith, length-take-le n bs l)) (λ k lt. rw get_or-take (h k lt))

split_past : (bs : List ℕ) (n : ℕ) → IsAscii (take n bs) → chars bs ≡ take n bs ++ chars (drop n bs)
split_past bs n a =
    ap chars (sym (take-append-drop n bs)) ∙ chars-append (take n bs) (drop n bs) (IsUtf8-from_ascii (take n bs) a)
    ∙ ap (λ (xs : List ℕ). xs ++ chars (drop n bs)) (chars-IsAscii (take n bs) a)

pub past_ascii : (bs : List ℕ) (n : ℕ) → IsUtf8 bs → n ≤ length bs → ((k : ℕ) → k < n → get_or bs k 0 < 128)
    → PastAscii bs n
past_ascii bs n u l h =
    let s = split_past bs n (front_IsAscii bs n l h) in
    let len : length (take n bs) ≡ n = length-take-le n bs l in
    let b = boundary_past bs n u l h in
    record {
      split = s;
      rest = sym (ap (drop n) s ∙ drop_at (take n bs) (chars (drop n bs)) n len);
      front = ap (take n) s ∙ take_at (take n bs) (chars (drop n bs)) n len;
      utf8 = IsUtf8-drop bs n u b;
      boundary = b;
    }

pub at_drop : (xs : List ℕ) (n : ℕ) → get_or (drop n xs) 0 0 ≡ get_or xs n 0
at_drop xs n = get_or-drop n xs 0 0 ∙ ap (λ (i : ℕ). get_or xs i 0) (add-zero n)

-- the first byte stands for the first character
first_of : (cs bs : List ℕ) → encode_utf8_all cs ≡ bs → StandsFor (get_or bs 0 0) (get_or cs 0 0)
first_of [] bs e = rw (← e) (inl refl)
first_of (c ∷ cs) bs e =
    let rest = encode_utf8_all cs in
    let some : 0 < length bs = rw (← e) (simp length-append (omega (arith, length-encode c, len_utf8_bounds c))) in
    elim (cases_lt (get_or bs 0 0) 128) [
      | inl b ↦ inl (sym (char_from_byte bs rest c (sym e) b some))
      | inr b ↦ elim (cases_lt c 128) [
        | inl d ↦ inl (byte_from_char bs rest c (sym e) d)
        | inr d ↦ inr (b, d)
      ]
    ]

pub first_stands : (bs : List ℕ) → IsUtf8 bs → StandsFor (get_or bs 0 0) (get_or (chars bs) 0 0)
first_stands bs u =
    let same : u.0 ≡ chars bs = chars_from_encodes u.0 bs u u.1.1 in
    subst (λ (cs : List ℕ). StandsFor (get_or bs 0 0) (get_or cs 0 0)) same (first_of u.0 bs u.1.1)

-- a test that no character above ASCII passes takes a byte as it does the character
pub same_test : (p : ℕ → Bool) (b c : ℕ) → IsAsciiClass p → StandsFor b c → p b ≡ p c
same_test p b c h (inl e) = ap p e
same_test p b c h (inr d) = h b d.0 ∙ sym (h c d.1)

-- a run stops where its first character fails
pub run_stops : (p : ℕ → Bool) (xs : List ℕ) → (0 < length xs → p (get_or xs 0 0) ≡ false) → prefix_len p xs ≡ 0
run_stops p [] h = refl
run_stops p (x ∷ xs) h = rw (h (omega arith)) refl

run_append : (p : ℕ → Bool) (xs ys : List ℕ) → ((k : ℕ) → k < length xs → p (get_or xs k 0) ≡ true)
    → prefix_len p (xs ++ ys) ≡ length xs + prefix_len p ys
run_append p [] ys h = omega arith
run_append p (x ∷ xs) ys h =
    let t : p x ≡ true = h 0 (omega arith) in
    rw t (omega (arith, run_append p xs ys (λ k l. h (suc k) (omega (arith, l)))))

-- n ASCII bytes of a run come first
pub record AsciiRun (p : ℕ → Bool) (bs : List ℕ) (n : ℕ) : Type 0 where
  pub past : PastAscii bs n
  pub goes_on : n + prefix_len p (chars (drop n bs)) ≡ prefix_len p (chars bs)
  pub ends : IsAsciiClass p → n ≡ prefix_len p (chars bs)

passing_bytes : (p : ℕ → Bool) (bs : List ℕ) (n k : ℕ) → n ≡ prefix_len (ascii_in p) bs → k < n
    → (get_or bs k 0 < 128) × (p (get_or bs k 0) ≡ true)
passing_bytes p bs n k e l =
    let lt : k < prefix_len (ascii_in p) bs = omega (arith, l, e) in
    let h = prefix_len_passes (ascii_in p) bs k 0 lt in
    (grind (arith, nat_tests), grind (arith, nat_tests))

passing_front : (p : ℕ → Bool) (bs : List ℕ) (n : ℕ) → n ≤ length bs → ((k : ℕ) → k < n → p (get_or bs k 0) ≡ true)
    → PastAscii bs n → n + prefix_len p (chars (drop n bs)) ≡ prefix_len p (chars bs)
passing_front p bs n l h s =
    let len : length (take n bs) ≡ n = length-take-le n bs l in
    let all : (k : ℕ) → k < length (take n bs) → p (get_or (take n bs) k 0) ≡ true =
    λ k m. (let lt : k < n = omega (arith, m, len) in rw get_or-take (h k lt)) in
    let e = run_append p (take n bs) (chars (drop n bs)) all in
    ap (λ (m : ℕ). m + prefix_len p (chars (drop n bs))) (sym len) ∙ sym e ∙ ap (prefix_len p) (sym s.split)

pub ascii_in_class : (p : ℕ → Bool) → IsAsciiClass (ascii_in p)
ascii_in_class p c h = grind (arith, nat_tests)

failing_char : (p : ℕ → Bool) (c : ℕ) → IsAsciiClass p → ascii_in p c ≡ false → p c ≡ false
failing_char p c h f = elim (cases_lt c 128) [ inl lt ↦ grind (arith, nat_tests) | inr ge ↦ h c ge ]

-- the byte after them fails, and so does its character, if it is ASCII
failing_next : (p : ℕ → Bool) (bs : List ℕ) (n : ℕ) → n ≡ prefix_len (ascii_in p) bs → n ≤ length bs → IsAsciiClass p
    → PastAscii bs n → prefix_len p (chars (drop n bs)) ≡ 0
failing_next p bs n e l h s =
    run_stops p (chars (drop n bs))
    (λ some. failing_char p (get_or (chars (drop n bs)) 0 0) h (sym (same_byte some) ∙ stops some))
  where
    short : 0 < length (chars (drop n bs)) → n < length bs
    short some = elim (cases_lt n (length bs)) [
      | inl lt ↦ lt
      | inr ge ↦ (let none : chars (drop n bs) ≡ [] =
          rw (drop_all n bs ge, chars-nil) refl in absurd (omega (arith, some, ap length none)))
    ]

    stops : 0 < length (chars (drop n bs)) → ascii_in p (get_or (drop n bs) 0 0) ≡ false
    stops some =
        let lt : prefix_len (ascii_in p) bs < length bs = omega (arith, e, short some) in
        let f = prefix_len_stops (ascii_in p) bs 0 lt in
        rw (at_drop bs n, e) f

    same_byte : 0 < length (chars (drop n bs))
        → ascii_in p (get_or (drop n bs) 0 0) ≡ ascii_in p (get_or (chars (drop n bs)) 0 0)
    same_byte some = same_test (ascii_in p) (get_or (drop n bs) 0 0) (get_or (chars (drop n bs)) 0 0) (ascii_in_class p)
        (first_stands (drop n bs) s.utf8)

pub ascii_run_is : (p : ℕ → Bool) (bs : List ℕ) (n : ℕ) → IsUtf8 bs → n ≡ prefix_len (ascii_in p) bs → AsciiRun p bs n
ascii_run_is p bs n u e =
    let l : n ≤ length bs = omega (arith, e, prefix_len-le-length (ascii_in p) bs) in
    let s = past_ascii bs n u l (λ k lt. (passing_bytes p bs n k e lt).0) in
    let on = passing_front p bs n l (λ k lt. (passing_bytes p bs n k e lt).1) s in
    record { past = s; goes_on = on; ends = λ h. omega (arith, on, failing_next p bs n e l h s) }

-- the second character, where it and the first are ASCII
first_two : (bs : List ℕ) → get_or bs 0 0 < 128 → get_or bs 1 0 < 128 → (k : ℕ) → k < 2 → get_or bs k 0 < 128
first_two bs a b zero l = a
first_two bs a b (suc zero) l = b
first_two bs a b (suc (suc k)) l = absurd (omega arith)

pub second_is : (bs : List ℕ) → IsUtf8 bs → 1 < length bs → get_or bs 0 0 < 128 → get_or bs 1 0 < 128
    → get_or (chars bs) 1 0 ≡ get_or bs 1 0
second_is bs u l a b =
    let s = past_ascii bs 2 u (omega (arith, l)) (first_two bs a b) in
    sym (get_or-take 2 (chars bs) 1 0 (lit< tt)) ∙ ap (λ (xs : List ℕ). get_or xs 1 0) s.front
    ∙ get_or-take 2 bs 1 0 (lit< tt)

first_three : (bs : List ℕ) → get_or bs 0 0 < 128 → get_or bs 1 0 < 128 → get_or bs 2 0 < 128 → (k : ℕ) → k < 3
    → get_or bs k 0 < 128
first_three bs a b c zero l = a
first_three bs a b c (suc zero) l = b
first_three bs a b c (suc (suc zero)) l = c
first_three bs a b c (suc (suc (suc k))) l = absurd (omega arith)

pub third_is : (bs : List ℕ) → IsUtf8 bs → 2 < length bs → get_or bs 0 0 < 128 → get_or bs 1 0 < 128
    → get_or bs 2 0 < 128 → get_or (chars bs) 2 0 ≡ get_or bs 2 0
third_is bs u l a b c =
    let s = past_ascii bs 3 u (omega (arith, l)) (first_three bs a b c) in
    sym (get_or-take 3 (chars bs) 2 0 (lit< tt)) ∙ ap (λ (xs : List ℕ). get_or xs 2 0) s.front
    ∙ get_or-take 3 bs 2 0 (lit< tt)

marks_fit : (bs : List ℕ) (n mark : ℕ) → 0 < mark → ((k : ℕ) → k < n → get_or bs k 0 ≡ mark) → n ≤ length bs
marks_fit bs zero mark some h = search rules
marks_fit bs (suc n) mark some h = elim (cases_lt n (length bs)) [
  | inl lt ↦ omega (arith, lt)
  | inr ge ↦ absurd (omega (arith, some, h n (omega arith), get_or_past bs n 0 ge))
]

-- a test of the place after n equal marks, on the byte and on the character
test_at : (p : ℕ → Bool) (bs : List ℕ) (n mark : ℕ) → IsUtf8 bs → IsAsciiClass p → mark < 128 → 0 < mark
    → ((k : ℕ) → k < n → get_or bs k 0 ≡ mark) → p (get_or bs n 0) ≡ p (get_or (chars bs) n 0)
test_at p bs n mark u a l some h =
    let s = past_ascii bs n u (marks_fit bs n mark some h) (λ k lt. omega (arith, l, h k lt)) in
    ap p (sym (at_drop bs n))
    ∙ same_test p (get_or (drop n bs) 0 0) (get_or (chars (drop n bs)) 0 0) a (first_stands (drop n bs) s.utf8)
    ∙ ap (λ (xs : List ℕ). p (get_or xs 0 0)) s.rest ∙ ap p (at_drop (chars bs) n)

one_mark : (bs : List ℕ) (mark : ℕ) → (get_or bs 0 0 == mark) ≡ true → (k : ℕ) → k < 1 → get_or bs k 0 ≡ mark
one_mark bs mark t zero l = eqb-true (get_or bs 0 0) mark t
one_mark bs mark t (suc k) l = absurd (omega arith)

two_marks : (bs : List ℕ) (mark : ℕ) → ((get_or bs 0 0 == mark) && (get_or bs 1 0 == mark)) ≡ true → (k : ℕ) → k < 2
    → get_or bs k 0 ≡ mark
two_marks bs mark t zero l = eqb-true (get_or bs 0 0) mark (and_true_left _ _ t)
two_marks bs mark t (suc zero) l = eqb-true (get_or bs 1 0) mark (and_true_right _ _ t)
two_marks bs mark t (suc (suc k)) l = absurd (omega arith)

three_marks : (bs : List ℕ) (mark : ℕ)
    → ((get_or bs 0 0 == mark) && (get_or bs 1 0 == mark) && (get_or bs 2 0 == mark)) ≡ true → (k : ℕ) → k < 3
    → get_or bs k 0 ≡ mark
three_marks bs mark t zero l = eqb-true (get_or bs 0 0) mark (and_true_left _ _ (and_true_left _ _ t))
three_marks bs mark t (suc zero) l = eqb-true (get_or bs 1 0) mark (and_true_right _ _ (and_true_left _ _ t))
three_marks bs mark t (suc (suc zero)) l = eqb-true (get_or bs 2 0) mark (and_true_right _ _ t)
three_marks bs mark t (suc (suc (suc k))) l = absurd (omega arith)

and_same : (x y p q : Bool) → x ≡ y → (x ≡ true → p ≡ q) → (x && p) ≡ (y && q)
and_same true y p q e h = ap (λ (b : Bool). true && b) (h refl) ∙ ap (λ (b : Bool). b && q) e
and_same false y p q e h = ap (λ (b : Bool). b && q) e

-- three marks before the end of a line, in the bytes and in the characters
pub same_marker : (mark : ℕ) (bs : List ℕ) → IsUtf8 bs → mark < 128 → 0 < mark
    → is_marker mark bs ≡ is_marker mark (chars bs)
same_marker mark bs u l some =
    let p : ℕ → Bool = λ x. x == mark in
    let a : IsAsciiClass p = λ c h. grind (arith, nat_tests) in
    let b : IsAsciiClass is_blank_or_breakz = λ c h. grind (arith, nat_tests) in
    and_same _ _ _ _
    (and_same _ _ _ _
    (and_same _ _ _ _
    (test_at p bs 0 mark u a l some (λ k lt. absurd (omega (arith, lt))))
    (λ t. test_at p bs 1 mark u a l some (one_mark bs mark t)))
    (λ t. test_at p bs 2 mark u a l some (two_marks bs mark t)))
    (λ t. test_at is_blank_or_breakz bs 3 mark u b l some (three_marks bs mark t))

-- an ASCII character comes first

small_byte : (b c : ℕ) → StandsFor b c → c < 128 → b < 128
small_byte b c (inl e) l = rw e l
small_byte b c (inr d) l = absurd (omega (arith, d.1, l))

bytes_left : (bs : List ℕ) → 0 < length (chars bs) → 0 < length bs
bytes_left [] h = absurd (omega (arith, h, ap length chars-nil))
bytes_left (b ∷ bs) h = omega arith

pub first_one : (bs : List ℕ) → get_or bs 0 0 < 128 → (k : ℕ) → k < 1 → get_or bs k 0 < 128
first_one bs a zero l = a
first_one bs a (suc k) l = absurd (omega arith)

pub past_one : (bs : List ℕ) → IsUtf8 bs → 0 < length (chars bs) → get_or (chars bs) 0 0 < 128 → PastAscii bs 1
past_one bs u l a = past_ascii bs 1 u (bytes_left bs l) (first_one bs (small_byte _ _ (first_stands bs u) a))

prefix_same : (p q : ℕ → Bool) (xs : List ℕ) → ((c : ℕ) → p c ≡ q c) → prefix_len p xs ≡ prefix_len q xs
prefix_same p q [] h = refl
prefix_same p q (x ∷ xs) h = rw (h x, prefix_same p q xs h) refl

ascii_same : (p : ℕ → Bool) → IsAsciiClass p → (c : ℕ) → p c ≡ ascii_in p c
ascii_same p h c = elim (cases_lt c 128)
    [ inl lt ↦ grind (arith, nat_tests) | inr ge ↦ h c ge ∙ sym (ascii_in_class p c ge) ]

-- a run of a class of ASCII characters is the same in the bytes
pub ascii_class_run : (p q : ℕ → Bool) (bs : List ℕ) (n : ℕ) → IsUtf8 bs → IsAsciiClass p → ((c : ℕ) → q c ≡ p c)
    → n ≡ prefix_len q bs → AsciiRun p bs n
ascii_class_run p q bs n u h e m =
    ascii_run_is p bs n u (m ∙ prefix_same q (ascii_in p) bs (λ c. e c ∙ ascii_same p h c))

second : (a b : Bool) → (a && b) ≡ false → a ≡ true → b ≡ false
second true b h e = h
second false b h e = absurd (cc)

pub not_in : (p : ℕ → Bool) (b c : ℕ) → StandsFor b c → ascii_in p b ≡ false → b < 128 → p c ≡ false
not_in p b c (inl same) h less =
    let ascii : nat_lt b 128 ≡ true = grind (arith, nat_tests) in ap p (sym same) ∙ second (nat_lt b 128) (p b) h ascii
not_in p b c (inr wide) h less = absurd (omega (arith, wide.0, less))

-- no run begins with an ASCII character that is not of the class
pub no_ascii_run : (p : ℕ → Bool) (bs : List ℕ) → IsUtf8 bs → ascii_in p (get_or bs 0 0) ≡ false → get_or bs 0 0 < 128
    → prefix_len p (chars bs) ≡ 0
no_ascii_run p bs u h less =
    run_stops p (chars bs) (λ _. not_in p (get_or bs 0 0) (get_or (chars bs) 0 0) (first_stands bs u) h less)

-- the first byte is the first of the first character
first_byte_of : (cs bs : List ℕ) → encode_utf8_all cs ≡ bs → 0 < length bs → IsFirstByte (get_or bs 0 0) (get_or cs 0 0)
first_byte_of [] bs e some = let none : bs ≡ [] = sym e in absurd (omega (arith, some, ap length none))
first_byte_of (c ∷ cs) bs e some =
    let long : 0 < length (encode_utf8 c) = omega (arith, length-encode c, len_utf8_bounds c) in
    sym (ap (λ (xs : List ℕ). get_or xs 0 0) (sym e) ∙ get_or_append_left (encode_utf8 c) (encode_utf8_all cs) 0 0 long)

pub first_byte_is : (bs : List ℕ) → IsUtf8 bs → 0 < length bs → IsFirstByte (get_or bs 0 0) (get_or (chars bs) 0 0)
first_byte_is bs u some =
    let same : u.0 ≡ chars bs = chars_from_encodes u.0 bs u u.1.1 in
    subst (λ (cs : List ℕ). IsFirstByte (get_or bs 0 0) (get_or cs 0 0)) same (first_byte_of u.0 bs u.1.1 some)

-- a character that does not begin with an ASCII byte is not ASCII
pub wide_first : (b c : ℕ) → 128 ≤ b → IsFirstByte b c → 128 ≤ c
wide_first b c wide first = elim (cases_lt c 128) [
  | inl lt ↦ (let same = byte_from_char (encode_utf8 c) [] c (sym (append-nil (encode_utf8 c))) lt in
      absurd (omega (arith, wide, lt, first, same)))
  | inr ge ↦ ge
]

-- one that begins with another byte than a byte order mark does is none
no_mark_first : (b c : ℕ) → (b ≡ 239 → ⊥) → IsFirstByte b c → c ≡ 65279 → ⊥
unfolding lib.Utf8.encode
no_mark_first b c other first mark = other (sym first ∙ ap (λ x. get_or (encode_utf8 x) 0 0) mark)

-- a run goes on with a character of the class
pub first_of_run : (p : ℕ → Bool) (xs ys : List ℕ) → p 0 ≡ false → p (get_or xs 0 0) ≡ true → ys ≡ drop 1 xs
    → prefix_len p xs ≡ 1 + prefix_len p ys
first_of_run p [] ys nul is e = absurd (false≢true (sym nul ∙ is))
first_of_run p (x ∷ xs) ys nul is e = rw (e, is) (omega arith)

other_byte : (b : ℕ) → not (b == 239) ≡ true → b ≡ 239 → ⊥
other_byte b t e = let same : (b == 239) ≡ true = grind (arith, nat_tests) in false≢true (sym (ap not same) ∙ t)

not_same : (a b : ℕ) → (a ≡ b → ⊥) → (a == b) ≡ false
not_same a b h = grind (arith, nat_tests)

pub no_mark : (b c : ℕ) → not (b == 239) ≡ true → IsFirstByte b c → (c == 65279) ≡ false
no_mark b c other first = not_same c 65279 (no_mark_first b c (other_byte b other) first)

-- such a character is no break, and no blank
pub wide_non_break : (b c : ℕ) → 128 ≤ b → not (b == 239) ≡ true → IsFirstByte b c → is_yaml_non_break c ≡ true
wide_non_break b c wide other first =
    let high : 128 ≤ c = wide_first b c wide first in rw (no_mark b c other first) (grind (arith, nat_tests))

pub wide_non_space : (b c : ℕ) → 128 ≤ b → not (b == 239) ≡ true → IsFirstByte b c → is_yaml_non_space c ≡ true
wide_non_space b c wide other first =
    let high : 128 ≤ c = wide_first b c wide first in rw (no_mark b c other first) (grind (arith, nat_tests))
