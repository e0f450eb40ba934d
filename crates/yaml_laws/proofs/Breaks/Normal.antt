-- A text beside its normalized text: how long both are, and what comes first in them.
use Rattle.yaml_laws.proofs.Common.{Bool, List, ap, arith, cond, false, length, refl, sym, true, ℕ, ◌∙◌, ◌≡◌, ◌≤◌, not, slice_index, ◌&&◌, ◌==◌, ◌||◌, normalized, byte_order_mark, carriage_return, is_blank_or_breakz, is_break, is_flow, can_be_plain, is_document_end, is_document_indicator, is_document_start, eqb-true, AreIn, Remaining, Kind, no_return, Normal, normal, first_in, second_in, nothing, character, feed, return, pair, Scans, HaveSameKinds}
use Rattle.scalar_laws.proofs.Breaks.Separations.{marker_alike, indicator_alike}

pub beside : (t : List ℕ) → Normal t (normalized t)
beside t = normal t (normalized t) refl

shorter : {t n : List ℕ} → Normal t n → length n ≤ length t
shorter nothing = omega arith
shorter (character c e h) = let l = shorter h in omega (arith, l)
shorter (feed h) = let l = shorter h in omega (arith, l)
shorter (return e h) = let l = shorter h in omega (arith, l)
shorter (pair h) = let l = shorter h in omega (arith, l)

pub normal_shorter : (t : List ℕ) → length (normalized t) ≤ length t
normal_shorter t = shorter (beside t)

none_as_long : {t n : List ℕ} → Normal t n → (length n == 0) ≡ (length t == 0)
none_as_long h = grind (arith, nothing, character, feed, return, pair)

pub normal_none : (t : List ℕ) → (length (normalized t) == 0) ≡ (length t == 0)
normal_none t = none_as_long (beside t)

-- ## What the first characters are, where CR is what LF is

pub first_is : (p : ℕ → Bool) → p 13 ≡ p 10 → (t : List ℕ) → p (slice_index (normalized t) 0) ≡ p (slice_index t 0)
first_is p q t = sym (first_in p q (beside t))

pub second_is : (p : ℕ → Bool) → p 13 ≡ p 10 → (t : List ℕ) → is_break (slice_index t 0) ≡ false
    → p (slice_index (normalized t) 1) ≡ p (slice_index t 1)
second_is p q t k = sym (second_in p q k (beside t))

-- ## Document markers, and what a plain scalar goes on with

pub start_so : (t : List ℕ) → is_document_start (normalized t) ≡ is_document_start t
start_so t = sym (marker_alike 45 refl refl (beside t))

pub end_so : (t : List ℕ) → is_document_end (normalized t) ≡ is_document_end t
end_so t = sym (marker_alike 46 refl refl (beside t))

pub indicator_so : (t : List ℕ) → is_document_indicator (normalized t) ≡ is_document_indicator t
indicator_so t = sym (indicator_alike (beside t))

chosen : {X : Type 0} → (b : Bool) (x y v w : X) → (b ≡ true → v ≡ x) → (b ≡ false → w ≡ y) → cond b v w ≡ cond b x y
chosen b x y v w h k = grind arith

pub plain_so : (in_flow : Bool) (t : List ℕ) → can_be_plain in_flow (normalized t) ≡ can_be_plain in_flow t
plain_so f t =
    let n = normalized t in
    let inside : (slice_index t 0 == 58) ≡ true → is_break (slice_index t 0) ≡ false = grind (arith, eqb-true) in
    let p : ℕ → Bool = λ c. not (is_blank_or_breakz c || (f && is_flow c)) in
    let q : ℕ → Bool = λ c. not ((c == byte_order_mark) || (f && is_flow c)) in
    ap (λ d. cond d (p (slice_index n 1)) (q (slice_index n 0))) (first_is (λ c. c == 58) refl t)
    ∙ chosen (slice_index t 0 == 58) (p (slice_index t 1)) (q (slice_index t 0)) (p (slice_index n 1))
    (q (slice_index n 0)) (λ e. second_is p refl t (inside e)) (λ _. first_is q refl t)

abbrev HasNoReturn : List ℕ → Type 0
HasNoReturn t = AreIn (λ c. not (c == carriage_return)) t

pub no_return_left : {t n : List ℕ} → Normal t n → HasNoReturn n
no_return_left nothing = tt
no_return_left (character c e h) = (ap not (no_return c e), no_return_left h)
no_return_left (feed h) = (refl, no_return_left h)
no_return_left (return e h) = (refl, no_return_left h)
no_return_left (pair h) = (refl, no_return_left h)

pub scans_too : (ts : List Kind) (r q : Remaining) → HaveSameKinds r q → Scans ts q → Scans ts r
scans_too ts r q h s = grind arith
