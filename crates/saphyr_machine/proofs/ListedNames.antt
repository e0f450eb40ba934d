-- Names stay as they are when others are put after them.
use Rattle.std.proofs.Common.{◌≡◌, ℕ, ◌+◌, ◌-◌, ◌<◌, ◌≤◌, List, [], ◌∷◌, ◌++◌, drop, length, get_or, take, refl, sym, ap, subst, arith, ◌∙◌}
use Rattle.std.specs.Prelude.{Result, Ok, Err, IsOk, OnErr, is_ok, map, slice_range, IsUtf8}
use Rattle.std.specs.List.{All, AllZip}
use Rattle.std.proofs.Math.Seq.{take-append_seam}
use Rattle.std.proofs.lemmas.List.{drop-append-le, length-append, length-drop, map-append, take-append-drop, take-append-le}
use Rattle.std.proofs.lemmas.List.Elements.{All-head, All-push, All-tail}
use Rattle.saphyr_machine.specs.declared.name_list.Name.{Name}
use Rattle.saphyr_machine.specs.ListedNames.{GrowsBehind, HasName, bytes_of_name, with_id}

range_of_append : (old more : List ℕ) (a b : ℕ) → a ≤ b → b ≤ length old
    → slice_range (old ++ more) a b ≡ slice_range old a b
range_of_append old more a b h k = grind (arith, length-drop, take, drop-append-le, take-append-le, drop)

grown : (old new : List ℕ) → GrowsBehind old new → new ≡ old ++ drop (length old) new
grown old new g = sym (take-append-drop (length old) new) ∙ ap (λ r. r ++ drop (length old) new) g

stays : (old new : List ℕ) (n : Name) → GrowsBehind old new → HasName old n
    → HasName new n × (bytes_of_name new n ≡ bytes_of_name old n)
stays old new n g h =
    let e = ap (λ bs. bytes_of_name bs n) (grown old new g)
    ∙ range_of_append old (drop (length old) new) n.start (n.start + n.count) (omega arith) h.0 in
    let longer = ap length (grown old new g) ∙ length-append old (drop (length old) new) in
    let within = h.0 in
    ((omega (arith, longer, within), subst (λ bs. ∥ IsUtf8 bs ∥₁) (sym e) h.1), e)

pub names_stay : (old new : List ℕ) (ns : List Name) → GrowsBehind old new → All (HasName old) ns
    → All (HasName new) ns × (map (with_id new) ns ≡ map (with_id old) ns)
names_stay old new ns g h = ((λ k d lt. (stays old new (get_or ns k d) g (h k d lt)).0), seen ns h)
  where
    seen : (ns : List Name) → All (HasName old) ns → map (with_id new) ns ≡ map (with_id old) ns
    seen [] h = refl
    seen (n ∷ ns) h = λ i.
        ((stays old new n g (All-head (HasName old) n ns h)).1 i, n.id)
        ∷ seen ns (All-tail (HasName old) n ns h) i

-- after the names comes one more, whose text comes after theirs
pub name_put : (old new : List ℕ) (ns : List Name) (n : Name) (e : List ℕ × ℕ)
    → GrowsBehind old new → All (HasName old) ns → HasName new n → with_id new n ≡ e
    → All (HasName new) (ns ++ n ∷ [])
    × (map (with_id new) (ns ++ n ∷ []) ≡ map (with_id old) ns ++ e ∷ [])
name_put old new ns n e g h has is =
    let stay = names_stay old new ns g h in (
      All-push (HasName new) ns n stay.0 has,
      map-append (with_id new) ns (n ∷ []) ∙ (λ i. stay.1 i ++ is i ∷ []),
    )

-- the first names come behind the others, and are cut off
pub left_behind : {X : Type 0} (xs ys zs : List X) (n all : ℕ)
    → ys ≡ drop n xs ++ take n xs → all ≡ length xs → zs ≡ take (all - n) ys → zs ≡ drop n xs
left_behind xs ys zs n all turned len cut =
    cut ∙ (λ i. take (len i - n) (turned i))
    ∙ ap (λ (k : ℕ). take k (drop n xs ++ take n xs)) (sym (length-drop n xs))
    ∙ take-append_seam (drop n xs) (take n xs)

pub element : (bytes : List ℕ) (ns : List Name) (k : ℕ) (n : Name) → k < length ns → n ≡ get_or ns k n
    → All (HasName bytes) ns → HasName bytes n
element bytes ns k n lt is h = subst (HasName bytes) (sym is) (h k n lt)

pub copied : {A : Type 0} (xs ys : List A) → AllZip (λ (x y : A). y ≡ x) xs ys → ys ≡ xs
copied [] [] e = refl
copied [] (y ∷ ys) e = absurd e
copied (x ∷ xs) [] e = absurd e
copied (x ∷ xs) (y ∷ ys) e = λ i. e.0 i ∷ copied xs ys e.1 i

-- what a failed call says holds
pub from_err : {T E P : Type 0} (r : Result T E) (e : E) → r ≡ Err e → OnErr r P → P
from_err {T} {E} {P} r e is = subst (λ (s : Result T E). OnErr s P) is

pub from_ok : {T E : Type 0} (r : Result T E) (x : T) → r ≡ Ok x → IsOk r
from_ok {T} {E} r x is = ap (λ (s : Result T E). is_ok s) is

-- what holds anyway holds of a call that failed
pub on_err : {T E P : Type 0} (r : Result T E) → P → OnErr r P
on_err (Ok x) p = tt
on_err (Err e) p = p
