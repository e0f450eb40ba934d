-- A call of `next` on an iterator that gives the items of a list, and what may still be taken from it.
use Rattle.std.proofs.Common.{◌≡◌, ℕ, suc, zero, ◌+◌, ◌-◌, ◌<◌, ◌≤◌, List, [], ◌∷◌, length, take, drop, length-take, Option, Some, None, refl, sym, ◌∙◌, ap, subst, arith}
use Rattle.std.proofs.lemmas.List.{drop-drop}
use Rattle.saphyr_input.specs.Listed.{Lists, Lists-one, Listed, Pending, pending}
use Rattle.saphyr_input.specs.Sources.{items}
use Rattle.saphyr_input.specs.declared.input.buffered.source.Source.{Source}

module _ {S : Type 0} (can : S → Type 0) (gives : S → Option ℕ → S → Type 0) where
  lists_callable : (s : S) (xs : List ℕ) → Lists can gives s xs → can s
  lists_callable s [] h = h.0.1
  lists_callable s (x ∷ xs) h = h.0.1

  -- the first item comes off
  pub after_some : (s t : S) (c : ℕ) (xs : List ℕ) → Lists can gives s xs → gives s (Some c) t
      → (ys : List ℕ) × (xs ≡ c ∷ ys) × Lists can gives t ys
  after_some s t c [] h step = let e = h.1.1 (Some c) t step in let no : ⊥ = cc in absurd no
  after_some s t c (x ∷ xs) h step =
      let e = h.1.1 (Some c) t step in (xs, cc, h.2 t (subst (λ (r : Option ℕ). gives s r t) e step))

  -- no item is left
  pub after_none : (s t : S) (xs : List ℕ) → Lists can gives s xs → gives s None t → xs ≡ []
  after_none s t [] h step = refl
  after_none s t (x ∷ xs) h step = let e = h.1.1 None t step in let no : ⊥ = cc in absurd no

  pub pending_callable : (left : ℕ) (s : S) → Pending can gives left s → 0 < left → can s
  pending_callable zero s p some = absurd (omega arith)
  pending_callable (suc left) s p some = lists_callable s p.0 p.1

  pub listed_pending : (left : ℕ) (s : S) → Listed can gives s → Pending can gives left s
  listed_pending zero s listed = tt
  listed_pending (suc left) s listed = listed

  pub pending_is : (left : ℕ) (s : S) (p : Pending can gives left s) (xs : List ℕ) → Lists can gives s xs
      → pending can gives left s p ≡ take left xs
  pending_is zero s p xs h = refl
  pending_is (suc left) s p xs h = ap (take (suc left)) (Lists-one can gives s p.0 xs p.1 h)

  pub pending_within : (left : ℕ) (s : S) (p : Pending can gives left s) → length (pending can gives left s p) ≤ left
  pending_within zero s p = omega arith
  pending_within (suc left) s p = omega (arith, length-take (suc left) p.0)

  -- an item was taken, and one less may still be
  pub pending_more : (left : ℕ) (s t : S) (c : ℕ) → Pending can gives left s → gives s (Some c) t
      → Pending can gives (left - 1) t
  pending_more zero s t c p step = tt
  pending_more (suc left) s t c p step =
      let behind = after_some s t c p.0 p.1 step in
      let e : left ≡ suc left - 1 = omega arith in
      subst (λ (n : ℕ). Pending can gives n t) e (listed_pending left t (behind.0, behind.2))

  pub pending_first : (left : ℕ) (s t : S) (c : ℕ) (p : Pending can gives left s) (q : Pending can gives (left - 1) t)
      → 0 < left → gives s (Some c) t
      → pending can gives left s p ≡ c ∷ pending can gives (left - 1) t q
  pending_first zero s t c p q some step = absurd (omega arith)
  pending_first (suc left) s t c p q some step =
      let behind = after_some s t c p.0 p.1 step in
      let e : suc left - 1 ≡ left = omega arith in
      let rest : pending can gives (suc left - 1) t q ≡ take left behind.0 =
      pending_is (suc left - 1) t q behind.0 behind.2 ∙ ap (λ (n : ℕ). take n behind.0) e in
      ap (take (suc left)) behind.1 ∙ ap (λ (zs : List ℕ). c ∷ zs) (sym rest)

  pub pending_none : (left : ℕ) (s t : S) (p : Pending can gives left s) → gives s None t
      → pending can gives left s p ≡ []
  pending_none zero s t p step = refl
  pending_none (suc left) s t p step = ap (take (suc left)) (after_none s t p.0 p.1 step)

  -- a clone that gives the same list

  pub pending_of_clone : (left : ℕ) (s t : S) → Pending can gives left s
      → ((xs : List ℕ) → Lists can gives s xs → Lists can gives t xs) → Pending can gives left t
  pending_of_clone zero s t p same = tt
  pending_of_clone (suc left) s t p same = (p.0, same p.0 p.1)

  pub pending_clone : (left : ℕ) (s t : S) (p : Pending can gives left s) (q : Pending can gives left t)
      → ((xs : List ℕ) → Lists can gives s xs → Lists can gives t xs)
      → pending can gives left t q ≡ pending can gives left s p
  pending_clone zero s t p q same = refl
  pending_clone (suc left) s t p q same = pending_is (suc left) t q p.0 (same p.0 p.1)

-- one character more was taken off
pub skipped_more : (start now after : List ℕ) (count : ℕ) → now ≡ drop count start → after ≡ drop 1 now
    → after ≡ drop (count + 1) start
skipped_more start now after count e f = f ∙ ap (drop 1) e ∙ drop-drop 1 count start

-- so that the characters of an input can be counted
pub items_within : {I : Type 0} {g : _} (s : Source I g) → length (items s) ≤ 4294967296
items_within {I} {g} s =
    let h = pending_within g.can_next g.next_gives s.left s.iter s.listed in let b = s.bounded in omega arith
