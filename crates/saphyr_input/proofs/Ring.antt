-- What a ring holds of a text, and what the iterator after it still gives.
use Rattle.std.specs.Prelude.{Option, slice_get, unwrap_or}
use Rattle.circular_buffer.specs.Buffer.{Buffer, buffer, keep_last}
use Rattle.std.proofs.Common.{◌≡◌, ℕ, zero, suc, ◌+◌, ◌-◌, ◌<◌, ◌≤◌, List, [], ◌∷◌, ◌++◌, length, drop, slice_index, refl, sym, ap, ◌∙◌, arith}
use Rattle.std.proofs.lemmas.List.{length-append}

-- with no loaded place it holds nothing

none_held : (held : List ℕ) (loaded : ℕ) → length held ≤ loaded → loaded ≡ 0 → held ≡ []
none_held [] loaded few none = refl
none_held (x ∷ xs) loaded few none = absurd (omega (arith, few, none))

rest_is : (held items : List ℕ) (loaded : ℕ) → length held ≤ loaded → loaded ≡ 0 → held ++ items ≡ items
rest_is held items loaded few none = ap (λ (xs : List ℕ). xs ++ items) (none_held held loaded few none)

pub one_first : (held items left : List ℕ) (loaded c : ℕ) → length held ≤ loaded → loaded ≡ 0 → items ≡ c ∷ left
    → c ≡ slice_index (held ++ items) 0
one_first held items left loaded c few none is =
    sym (ap (λ (xs : List ℕ). slice_index xs 0) (rest_is held items loaded few none ∙ is))

pub one_behind : (held items left : List ℕ) (loaded c : ℕ) → length held ≤ loaded → loaded ≡ 0 → items ≡ c ∷ left
    → held ++ left ≡ drop 1 (held ++ items)
one_behind held items left loaded c few none is =
    rest_is held left loaded few none ∙ sym (ap (drop 1) (rest_is held items loaded few none ∙ is))

-- a character that is put into a ring with room

pub pushed : (before after : Buffer ℕ) (c : ℕ)
    → after ≡ buffer (keep_last before.capacity (before.items ++ (c ∷ []))) before.capacity
    → length before.items < before.capacity → after.items ≡ before.items ++ (c ∷ [])
pushed before after c put room =
    let none : length (before.items ++ (c ∷ [])) - before.capacity ≡ 0 =
    omega (arith, length-append before.items (c ∷ []), room) in
    ap (λ (b : Buffer ℕ). b.items) put ∙ ap (λ (n : ℕ). drop n (before.items ++ (c ∷ []))) none

-- a character that is put back where no place is loaded

pub put_back : (before after : Buffer ℕ) (loaded c : ℕ) → length before.items ≤ loaded → loaded ≡ 0
    → before.capacity ≡ 16
    → after ≡ buffer (keep_last before.capacity (before.items ++ (c ∷ []))) before.capacity
    → after.items ≡ c ∷ []
put_back before after loaded c few none room put =
    pushed before after c put (omega (arith, few, none, room))
    ∙ ap (λ (xs : List ℕ). xs ++ (c ∷ [])) (none_held before.items loaded few none)

pub put_back_rest : (held items left after : List ℕ) (loaded c : ℕ) → length held ≤ loaded → loaded ≡ 0
    → items ≡ c ∷ left → after ≡ c ∷ [] → after ++ left ≡ held ++ items
put_back_rest held items left after loaded c few none is put =
    ap (λ (xs : List ℕ). xs ++ left) put ∙ sym is ∙ sym (rest_is held items loaded few none)

pub one_held : (held : List ℕ) (c : ℕ) → held ≡ c ∷ [] → length held ≤ 1
one_held held c is = rw is (omega arith)

pub one_not_short : (held : List ℕ) (c : ℕ) → held ≡ c ∷ [] → length held < 1 → ⊥
one_not_short held c is less = let one : length held ≡ 1 = ap length is in omega (arith, one, less)

pub none_short : (n loaded : ℕ) → loaded ≡ 0 → n < loaded → ⊥
none_short n loaded none less = omega (arith, none, less)

-- one place fewer is loaded, and one more was taken off
pub loaded_on : (first now after taken : ℕ) → first ≤ now + taken → now ≤ after + 1 → first ≤ after + (taken + 1)
loaded_on first now after taken least less = omega arith

-- a loaded place, where nothing comes after a ring that is shorter than that

shown_in : (held items : List ℕ) (n : ℕ) → (length held ≤ n → items ≡ [])
    → slice_get held n ≡ slice_get (held ++ items) n
shown_in [] items n end = sym (ap (λ (xs : List ℕ). slice_get xs n) (end (omega arith)))
shown_in (x ∷ xs) items zero end = refl
shown_in (x ∷ xs) items (suc n) end = shown_in xs items n (λ l. end (omega (arith, l)))

index_is : (xs : List ℕ) (n : ℕ) → unwrap_or (slice_get xs n) 0 ≡ slice_index xs n
index_is [] n = refl
index_is (x ∷ xs) zero = refl
index_is (x ∷ xs) (suc n) = index_is xs n

pub place_get : (o : Option ℕ) (held items : List ℕ) (n loaded : ℕ) → o ≡ slice_get held n
    → (length held < loaded → items ≡ []) → n < loaded → o ≡ slice_get (held ++ items) n
place_get o held items n loaded get end ready =
    get ∙ shown_in held items n (λ l. end (omega (arith, l, ready)))

pub place_index : (o : Option ℕ) (held items : List ℕ) (n loaded r : ℕ) → r ≡ unwrap_or o 0 → o ≡ slice_get held n
    → (length held < loaded → items ≡ []) → n < loaded → r ≡ slice_index (held ++ items) n
place_index o held items n loaded r or get end ready =
    or ∙ ap (λ (p : Option ℕ). unwrap_or p 0) (place_get o held items n loaded get end ready)
    ∙ index_is (held ++ items) n
