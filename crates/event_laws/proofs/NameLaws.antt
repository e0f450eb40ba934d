-- What names stand for, once one of them got a meaning.
use Rattle.event_laws.proofs.Common.{Ordering, Less, Equal, Greater, ◌≡◌, ◌≢◌, ℕ, Bool, true, false, cond, List, [], ◌∷◌, Option, Some, refl, sym, ap, ◌∙◌, arith, ◌||◌, if◌then◌else◌, bytes_eq, bytes_eq-Decides, or_parts, Names, meaning, with_meaning, is_listed, with_name}
use Rattle.std.specs.BTreeMap.{is_at}
use Rattle.std.specs.Map.{lookup}
use Rattle.std.specs.Ordering.{is_eq, nat_cmp, match_ordering}
use Rattle.std.specs.Cmp.Lexicographic.{slice_cmp}
use Rattle.std.proofs.lemmas.Map.Text.{is_eq-slice_cmp}
use Rattle.std.proofs.lemmas.Map.Lookups.{exact_bytes}

-- a name that comes after another is another name
behind_is_other : (a b : List ℕ) → slice_cmp nat_cmp a b ≡ Greater → bytes_eq a b ≡ false
behind_is_other a b h = sym (is_eq-slice_cmp a b) ∙ ap is_eq h

-- ## Meanings

-- the tests of two names on a third are not both passed, where that one is not the first
order : {X : Type 0} (a b : Bool) (x y : X) (o : Option X) → (a ≡ true → b ≡ true → ⊥)
    → cond a (Some x) (cond b (Some y) o) ≡ cond b (Some y) (cond a (Some x) o)
order k a x y o h = grind arith

twice : {X : Type 0} (b : Bool) (x y : X) (o : Option X) → cond b (Some x) o ≡ cond b (Some x) (cond b (Some y) o)
twice u0 x y o = grind arith

meaning_found : {X : Type 0} → List ℕ → Names X → Option X
meaning_found name es = lookup (λ (k : List ℕ). bytes_eq name k) es

found_meaning : {X : Type 0} (name : List ℕ) (es : Names X) → meaning name es ≡ meaning_found name es
unfolding meaning_found
found_meaning name u0 = grind (arith, is_eq-slice_cmp)

not_both : (name other key : List ℕ) → bytes_eq other key ≡ false → bytes_eq name key ≡ true
    → bytes_eq name other ≡ true → ⊥
not_both name other key h a b = grind (arith, bytes_eq-Decides)

given_found : {X : Type 0} (name other : List ℕ) (x : X) (es : Names X)
    → meaning_found name (with_meaning other x es) ≡ cond (bytes_eq name other) (Some x) (meaning_found name es)
unfolding meaning_found
given_found name other x [] = refl
given_found {X} name other x (e ∷ es) = by (slice_cmp nat_cmp other e.0) refl (given_found name other x es)
  where
    by : (o : Ordering) → slice_cmp nat_cmp other e.0 ≡ o
        → lookup (λ (k : List ℕ). bytes_eq name k) (with_meaning other x es)
        ≡ cond (bytes_eq name other) (Some x) (lookup (λ (k : List ℕ). bytes_eq name k) es)
        → lookup (λ (k : List ℕ). bytes_eq name k)
        (match_ordering o ((other, x) ∷ e ∷ es) ((e.0, x) ∷ es) (e ∷ with_meaning other x es))
        ≡ cond (bytes_eq name other) (Some x)
        (cond (bytes_eq name e.0) (Some e.1) (lookup (λ (k : List ℕ). bytes_eq name k) es))
    by Less h ih = refl
    by Equal h ih = cc (twice (bytes_eq name e.0) x e.1 _, exact_bytes other e.0 h)
    by Greater h ih = cc (order (bytes_eq name e.0) (bytes_eq name other) e.1 x _ (not_both name other e.0
        (behind_is_other other e.0 h)))

pub given_meaning : {X : Type 0} (name other : List ℕ) (x : X) (es : Names X)
    → meaning name (with_meaning other x es) ≡ (if bytes_eq name other then Some x else meaning name es)
given_meaning {X} name other x es = grind (arith, found_meaning, given_found)

-- ## Lists of names

or_swapped : (a b r : Bool) → (a || (b || r)) ≡ (b || (a || r))
or_swapped a b r = grind arith

once : (a r : Bool) → (a || r) ≡ (a || (a || r))
once u0 r = grind arith

pub listed_test : (name other : List ℕ) (names : List (List ℕ))
    → is_listed name (with_name other names) ≡ (is_at (slice_cmp nat_cmp name) other || is_listed name names)
listed_test name other [] = refl
listed_test name other (k ∷ ks) = by (slice_cmp nat_cmp other k) refl (listed_test name other ks)
  where
    by : (o : Ordering) → slice_cmp nat_cmp other k ≡ o
        → is_listed name (with_name other ks) ≡ (is_at (slice_cmp nat_cmp name) other || is_listed name ks)
        → is_listed name (match_ordering o (other ∷ k ∷ ks) (k ∷ ks) (k ∷ with_name other ks))
        ≡ (is_at (slice_cmp nat_cmp name) other || (is_at (slice_cmp nat_cmp name) k || is_listed name ks))
    by Less h ih = refl
    by Equal h ih = cc (once (is_at (slice_cmp nat_cmp name) k) (is_listed name ks), exact_bytes other k h)
    by Greater h ih =
        cc (or_swapped (is_at (slice_cmp nat_cmp name) k) (is_at (slice_cmp nat_cmp name) other) (is_listed name ks))

pub different : (a b : List ℕ) → a ≢ b → bytes_eq a b ≡ false
different a b h = grind (arith, bytes_eq-Decides)

-- another name is listed if it was
pub still_unlisted : (name other : List ℕ) (names : List (List ℕ)) → other ≢ name → is_listed name names ≡ false
    → is_listed name (with_name other names) ≡ false
still_unlisted name other names h u = grind (arith, is_eq-slice_cmp, different, listed_test)

pub was_unlisted : (name other : List ℕ) (names : List (List ℕ)) → is_listed name (with_name other names) ≡ false
    → (other ≢ name) × (is_listed name names ≡ false)
was_unlisted name other names h = grind (arith, or_parts, listed_test, is_eq-slice_cmp, bytes_eq-Decides)
