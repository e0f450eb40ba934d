-- Words of a set with what joins them, and runs of spaces that may have a limit.
use Rattle.std.proofs.Common.{◌≡◌, ℕ, suc, ◌+◌, ◌^◌, ◌<◌, ◌≤◌, Bool, true, false, List, [], ◌∷◌, ◌++◌, length, take, drop, get_or, IsUtf8, refl, sym, ap, ◌∙◌, subst, arith, inl, inr, encode_utf8, encode_utf8_all}
use Rattle.std.specs.Prelude.{◌||◌, ◌==◌, min}
use Rattle.std.specs.List.{prefix_len}
use Rattle.std.specs.Str.{chars}
use Rattle.std.proofs.lemmas.Bool.Decides.{nat_tests}
use Rattle.std.proofs.lemmas.List.{drop-drop, get_or_past}
use Rattle.std.proofs.lemmas.List.Sums.{prefix_len-le-length, prefix_len_passes}
use Rattle.saphyr_input.specs.Fronts.{IsAsciiClass, StandsFor}
use Rattle.saphyr_input.specs.Places.{goes_on, words_len, spaces_within, TransfersWords}
use Rattle.saphyr_input.proofs.Ascii.{PastAscii, past_ascii, ascii_class_run, first_stands, at_drop, first_one}
use Rattle.saphyr_input.proofs.Basics.Booleans.{by_test}
pub use Rattle.saphyr_input.proofs.Basics.Lists.{run_ends}
use Rattle.saphyr_input.proofs.Runs.{text_on}
use Rattle.saphyr_input.proofs.Texts.{length-chars}

abbrev Set : Type 0
Set = ℕ → Bool

abbrev Joint : Type 0
Joint = ℕ → ℕ → Bool

-- words go on with the first character
record WordGoes (p : Set) (q : Joint) (xs : List ℕ) : Type 0 where
  run : words_len p q xs ≡ 1 + words_len p q (drop 1 xs)
  total : length xs ≡ 1 + length (drop 1 xs)

word_goes : (p : Set) (q : Joint) (xs : List ℕ) → 0 < get_or xs 0 0 → goes_on p q xs ≡ true → WordGoes p q xs
unfolding words_len
word_goes p q [] some h = absurd (omega (arith, some))
word_goes p q (c ∷ cs) some h = record { run = rw h refl; total = omega arith }

-- or end there
pub words_end : (p : Set) (q : Joint) (xs : List ℕ) → goes_on p q xs ≡ false → words_len p q xs ≡ 0
unfolding words_len
words_end p q [] h = refl
words_end p q (c ∷ cs) h = rw h refl

pub neither : (p : Set) (q : Joint) (xs : List ℕ) → p (get_or xs 0 0) ≡ false
    → q (get_or xs 0 0) (get_or xs 1 0) ≡ false
    → words_len p q xs ≡ 0
neither p q xs set join = words_end p q xs (rw (set, join) refl)

-- words begin with the run of their set
words_on : (p : Set) (q : Joint) (xs : List ℕ)
    → words_len p q xs ≡ prefix_len p xs + words_len p q (drop (prefix_len p xs) xs)
unfolding words_len
words_on p q [] = refl
words_on p q (c ∷ cs) =
    let one : 1 + prefix_len p cs ≡ suc (prefix_len p cs) = omega arith in
    by_test (p c) (1 + prefix_len p cs) 0 (λ n. words_len p q (c ∷ cs) ≡ n + words_len p q (drop n (c ∷ cs)))
    (λ h. rw one (omega (arith, here h, words_on p q cs)))
    (λ h. omega arith)
  where
    here : p c ≡ true → words_len p q (c ∷ cs) ≡ 1 + words_len p q cs
    here h = rw h refl

-- and go on behind a part of that
pub words_past : (p : Set) (q : Joint) (n : ℕ) (xs rest : List ℕ) → n + prefix_len p rest ≡ prefix_len p xs
    → rest ≡ drop n xs → n + words_len p q rest ≡ words_len p q xs
words_past p q n xs rest e b =
    let same : drop (prefix_len p rest) rest ≡ drop (prefix_len p xs) xs = ap (drop (prefix_len p rest)) b
    ∙ drop-drop (prefix_len p rest) n xs ∙ ap (λ (k : ℕ). drop k xs) e in
    omega (arith, words_on p q xs, words_on p q rest, e, ap (words_len p q) same)

-- what follows them does not go on with them
pub words_stop : (p : Set) (q : Joint) (xs : List ℕ) → goes_on p q [] ≡ false
    → goes_on p q (drop (words_len p q xs) xs) ≡ false
unfolding words_len
words_stop p q [] z = z
words_stop p q (c ∷ cs) z =
    let one : 1 + words_len p q cs ≡ suc (words_len p q cs) = omega arith in
    by_test (goes_on p q (c ∷ cs)) (1 + words_len p q cs) 0 (λ n. goes_on p q (drop n (c ∷ cs)) ≡ false)
    (λ _. rw one (words_stop p q cs z)) (λ h. h)

pub words_some : (p : Set) (q : Joint) (xs : List ℕ) → 0 < length xs → goes_on p q xs ≡ true → 0 < words_len p q xs
unfolding words_len
words_some p q [] some h = absurd (omega (arith, some))
words_some p q (c ∷ cs) some h = rw h (omega arith)

pub words_within : (p : Set) (q : Joint) (xs : List ℕ) → words_len p q xs ≤ length xs
unfolding words_len
words_within p q [] = omega arith
words_within p q (c ∷ cs) = by_test (goes_on p q (c ∷ cs)) (1 + words_len p q cs) 0 (λ n. n ≤ length (c ∷ cs))
    (λ _. omega (arith, words_within p q cs)) (λ _. omega arith)

pub words_fit : (p : Set) (q : Joint) (bs : List ℕ) → IsUtf8 bs → words_len p q (chars bs) ≤ length bs
words_fit p q bs u = omega (arith, words_within p q (chars bs), length-chars bs u)

-- A character that joins words, told by its byte and the next one.

left : (xs : List ℕ) → 0 < get_or xs 0 0 → 1 ≤ length xs
left [] h = absurd (omega (arith, h))
left (x ∷ xs) h = omega arith

pub one_past : (bs : List ℕ) → IsUtf8 bs → 0 < get_or bs 0 0 → get_or bs 0 0 < 128 → PastAscii bs 1
one_past bs u some ascii = past_ascii bs 1 u (left bs some) (first_one bs ascii)

second_stands : (bs : List ℕ) → IsUtf8 bs → 1 < length bs → get_or bs 0 0 < 128
    → StandsFor (get_or bs 1 0) (get_or (chars bs) 1 0)
second_stands bs u l ascii =
    let s = past_ascii bs 1 u (omega (arith, l)) (first_one bs ascii) in
    let next : get_or (chars (drop 1 bs)) 0 0 ≡ get_or (chars bs) 1 0 = ap (λ (xs : List ℕ). get_or xs 0 0) s.rest
    ∙ at_drop (chars bs) 1 in
    subst (StandsFor (get_or bs 1 0)) next
    (subst (λ (b : ℕ). StandsFor b (get_or (chars (drop 1 bs)) 0 0)) (at_drop bs 1) (first_stands (drop 1 bs) s.utf8))

pub joint_known : (q : Joint) (bs : List ℕ) (known : Bool) → IsUtf8 bs → 1 < length bs
    → ((c d : ℕ) → StandsFor (get_or bs 0 0) c → (get_or bs 0 0 < 128 → StandsFor (get_or bs 1 0) d) → known ≡ q c d)
    → known ≡ q (get_or (chars bs) 0 0) (get_or (chars bs) 1 0)
joint_known q bs known u l value =
    value (get_or (chars bs) 0 0) (get_or (chars bs) 1 0) (first_stands bs u) (second_stands bs u l)

pub no_joint : (q : Joint) (bs : List ℕ) → IsUtf8 bs → length bs ≤ 1 → ((c : ℕ) → q c 0 ≡ false)
    → false ≡ q (get_or (chars bs) 0 0) (get_or (chars bs) 1 0)
no_joint q bs u l ends =
    let none : get_or (chars bs) 1 0 ≡ 0 = get_or_past (chars bs) 1 0 (omega (arith, l, length-chars bs u)) in
    sym (ap (q (get_or (chars bs) 0 0)) none ∙ ends (get_or (chars bs) 0 0))

pub joint_first : (p : Set) (q : Joint) (bs : List ℕ) → IsUtf8 bs → 0 < get_or bs 0 0 → get_or bs 0 0 < 128
    → q (get_or (chars bs) 0 0) (get_or (chars bs) 1 0) ≡ true
    → 1 + words_len p q (chars (drop 1 bs)) ≡ words_len p q (chars bs)
joint_first p q bs u some ascii join =
    let s = one_past bs u some ascii in
    let there : 0 < get_or (chars bs) 0 0 = shown (first_stands bs u) in
    let goes : goes_on p q (chars bs) ≡ true = either (p (get_or (chars bs) 0 0)) join in
    rw s.rest (sym (word_goes p q (chars bs) there goes).run)
  where
    shown : StandsFor (get_or bs 0 0) (get_or (chars bs) 0 0) → 0 < get_or (chars bs) 0 0
    shown (inl e) = rw (← e) some
    shown (inr d) = omega (arith, d.1)

    either : (a : Bool) {b : Bool} → b ≡ true → (a || b) ≡ true
    either true h = refl
    either false h = h

-- n characters of words were passed
pub record WordsPast (p : Set) (q : Joint) (start now : List ℕ) (n : ℕ) : Type 0 where
  pub run : n + words_len p q now ≡ words_len p q start
  pub behind : now ≡ drop n start

-- then k, and a part of a run
pub words_more : (p : Set) (q : Joint) (start now next last : List ℕ) (n k m : ℕ) → WordsPast p q start now n
    → k + words_len p q next ≡ words_len p q now → next ≡ drop k now → m + prefix_len p last ≡ prefix_len p next
    → last ≡ drop m next → WordsPast p q start last (n + (k + m))
words_more p q start now next last n k m r c d e f = record {
  run = omega (arith, r.run, c, words_past p q m next last e f);
  behind = f ∙ ap (drop m) d ∙ drop-drop m k now ∙ ap (drop (k + m)) r.behind ∙ drop-drop (k + m) n start;
}

-- A loop that takes words off a character at a time: c is read, and the text that it began at can be counted.
pub record TakesWords (p : Set) (q : Joint) (start now text grown : List ℕ) (n c loaded : ℕ) : Type 0 where
  pub run : n + words_len p q now ≡ words_len p q start
  pub left : now ≡ drop n start
  pub total : n + length now ≡ length start
  pub read : c ≡ get_or now 0 0
  pub ready : 2 ≤ loaded
  pub countable : length start < 2 ^ 64
  pub moved : grown ≡ text ++ encode_utf8_all (take n start)

turn : {p : Set} {q : Joint} {start now text grown : List ℕ} {n c d loaded : ℕ}
    → TakesWords p q start now text grown n c loaded → d ≡ get_or now 1 0 → 0 < c → (p c || q c d) ≡ true
    → WordGoes p q now
turn {p} {q} {now = now} t next some h = word_goes p q now (rw (← t.read) some) (rw (← t.read, ← next) h)

pub takes_more : {p : Set} {q : Joint} {start now after text grown pushed : List ℕ} {n c d e loaded more : ℕ}
    → TakesWords p q start now text grown n c loaded → d ≡ get_or now 1 0 → 0 < c → (p c || q c d) ≡ true
    → after ≡ drop 1 now → pushed ≡ grown ++ encode_utf8 c → e ≡ get_or after 0 0 → 2 ≤ more
    → TakesWords p q start after text pushed (n + 1) e more
takes_more {start = start} {now} {text = text} {grown} {pushed} {n} t next some h taken put read ready =
    let one = turn t next some h in
    record {
      run = rw taken (omega (arith, one.run, t.run));
      left = taken ∙ ap (drop 1) t.left ∙ drop-drop 1 n start;
      total = rw taken (omega (arith, one.total, t.total));
      read = read;
      ready = ready;
      countable = t.countable;
      moved = text_on start now text grown pushed n t.left (omega (arith, one.total, t.total)) t.moved
          (rw (← t.read) put);
    }

pub takes_all : {p : Set} {q : Joint} {start now text grown : List ℕ} {n c d loaded : ℕ}
    → TakesWords p q start now text grown n c loaded → d ≡ get_or now 1 0 → (p c || q c d) ≡ false
    → TransfersWords p q n start now text grown
takes_all {p} {q} {now = now} t next h =
    let none = words_end p q now (rw (← t.read, ← next) h) in
    record { count = omega (arith, none, t.run); transfers = record { taken = t.left; appended = t.moved } }

-- spaces, in the bytes and in the characters

abbrev is_space : Set
is_space c = c == 32

space_ascii : IsAsciiClass is_space
space_ascii c h = grind (arith, nat_tests)

pub record SpacesPast (most : ℕ) (bs : List ℕ) (n : ℕ) : Type 0 where
  pub past : PastAscii bs n
  pub count : n ≡ spaces_within most (chars bs)

pub spaces_past : (most : ℕ) (bs : List ℕ) (n : ℕ) → IsUtf8 bs → n ≡ spaces_within most bs → SpacesPast most bs n
spaces_past most bs n u e =
    let all = ascii_class_run is_space is_space bs (prefix_len is_space bs) u space_ascii (λ c. refl) refl in
    let less : n ≤ prefix_len is_space bs = omega (arith, e) in
    let ascii : (k : ℕ) → k < n → get_or bs k 0 < 128 = λ k l.
    (let h = prefix_len_passes is_space bs k 0 (omega (arith, l, less)) in let same : get_or bs k 0 ≡ 32 =
    grind (arith, nat_tests) in omega (arith, same)) in
    record {
      past = past_ascii bs n u (omega (arith, less, prefix_len-le-length is_space bs)) ascii;
      count = e ∙ ap (min most) (all.ends space_ascii);
    }
