-- What is read behind words that were taken off in one piece, where it is told behind each character of them.
use Rattle.std.proofs.Common.{◌≡◌, ℕ, zero, suc, ◌+◌, ◌≤◌, Bool, true, List, [], ◌∷◌, ◌++◌, take, drop, sym, ap, ◌∙◌, arith, encode_utf8, encode_utf8_all}
use Rattle.std.specs.Prelude.{Result, Ok, Err, OnOk}
use Rattle.saphyr_input.specs.Places.{goes_on, words_len, TransfersWords}
use Rattle.saphyr_scalar.proofs.Common.{by_test, Marker, along}
use Rattle.saphyr_scalar.proofs.Moving.{along_none, along_more}

-- `read` gives what is read of a text from a place on, and `behind` puts it behind a text
pub record Reads {Y : Type 0} (p : ℕ → Bool) (q : ℕ → ℕ → Bool) (behind : List ℕ → Y → Y) (read : Marker → List ℕ → Y)
    : Type 0 where
  pub none : (y : Y) → behind [] y ≡ y
  pub twice : (a b : List ℕ) (y : Y) → behind a (behind b y) ≡ behind (a ++ b) y
  pub passes : (m : Marker) (c : ℕ) (cs : List ℕ) → goes_on p q (c ∷ cs) ≡ true
      → read m (c ∷ cs) ≡ behind (encode_utf8 c) (read (along m 1) cs)

words_read : {Y : Type 0} (p : ℕ → Bool) (q : ℕ → ℕ → Bool) (behind : List ℕ → Y → Y) (read : Marker → List ℕ → Y)
    → Reads p q behind read → (n : ℕ) (m : Marker) (xs : List ℕ) → n ≤ words_len p q xs
    → read m xs ≡ behind (encode_utf8_all (take n xs)) (read (along m n) (drop n xs))
unfolding words_len
words_read p q behind read r zero m xs l =
    sym (r.none (read m xs)) ∙ ap (λ x. behind [] (read x xs)) (sym (along_none m))
words_read p q behind read r (suc n) m [] l = absurd (omega (arith, l))
words_read p q behind read r (suc n) m (c ∷ cs) l = by_test (goes_on p q (c ∷ cs)) (1 + words_len p q cs) 0
    (λ k. suc n ≤ k → read m (c ∷ cs) ≡ behind (encode_utf8_all (take (suc n) (c ∷ cs)))
    (read (along m (suc n)) (drop n cs)))
    (λ h less. r.passes m c cs h
    ∙ ap (behind (encode_utf8 c)) (words_read p q behind read r n (along m 1) cs (omega (arith, less)))
    ∙ r.twice (encode_utf8 c) (encode_utf8_all (take n cs)) _
    ∙ ap (λ x. behind (encode_utf8 c ++ encode_utf8_all (take n cs)) (read x (drop n cs)))
    (along_more m 1 n (suc n) (omega arith))) (λ _ less. absurd (omega (arith, less))) l

-- behind a text to which they were moved
pub words_behind : {Y : Type 0} (p : ℕ → Bool) (q : ℕ → ℕ → Bool) (behind : List ℕ → Y → Y)
    (read : Marker → List ℕ → Y) → Reads p q behind read → (n : ℕ) (m : Marker) (xs left text grown : List ℕ)
    → TransfersWords p q n xs left text grown → behind grown (read (along m n) left) ≡ behind text (read m xs)
words_behind p q behind read r n m xs left text grown t = rw (t.transfers.taken, t.transfers.appended)
    (sym (ap (behind text) (words_read p q behind read r n m xs (omega (arith, t.count)))
    ∙ r.twice text (encode_utf8_all (take n xs)) _))

-- what follows where a call succeeded
pub on_ok : {X E P Q : Type 0} (r : Result X E) → (P → Q) → OnOk r P → OnOk r Q
on_ok (Ok x) f h = f h
on_ok (Err e) f h = h
