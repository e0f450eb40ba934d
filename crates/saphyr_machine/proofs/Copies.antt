-- Copies that contracts see as what they are copies of.
use Rattle.std.proofs.Common.{◌≡◌, ℕ, List, [], ◌∷◌, refl, ap, inl, inr, arith}
use Rattle.std.specs.Prelude.{String, string_bytes, ◌⊎◌}
use Rattle.std.specs.List.{AllZip}
use Rattle.std.specs.BTreeMap.{BTreeMap, IsClone}
use Rattle.saphyr_machine.specs.Names.{ids_of, texts_of}
use Rattle.saphyr_machine.specs.Cursor.{EventCursor}
use Rattle.saphyr_machine.proofs.Names.{seen}

-- ## Maps from texts

seen_copied : {A X Z : Type 0} (f : X → Z) (es fs : List (String A × X))
    → AllZip (λ (p q : String A × X). (string_bytes q.0 ≡ string_bytes p.0) × (f q.1 ≡ f p.1)) es fs
    → seen f fs ≡ seen f es
seen_copied f [] [] e = refl
seen_copied f [] (y ∷ ys) e = absurd e
seen_copied f (x ∷ xs) [] e = absurd e
seen_copied f (x ∷ xs) (y ∷ ys) e = λ i. (e.0.0 i, e.0.1 i) ∷ seen_copied f xs ys e.1 i

pub ids_copied : {A : Type 0} (m n : BTreeMap (String A) ℕ)
    → IsClone (λ s t. string_bytes t ≡ string_bytes s) (λ x y. y ≡ x) m n → ids_of n ≡ ids_of m
ids_copied m n e = seen_copied (λ (x : ℕ). x) m.entries n.entries e

pub same_or_copied : {A : Type 0} (m n : BTreeMap (String A) ℕ)
    → (n ≡ m) ⊎ IsClone (λ s t. string_bytes t ≡ string_bytes s) (λ x y. y ≡ x) m n → ids_of n ≡ ids_of m
same_or_copied {A} m n (inl same) = ap (λ (x : BTreeMap (String A) ℕ). ids_of x) same
same_or_copied m n (inr e) = ids_copied m n e

pub texts_copied : {A : Type 0} (m n : BTreeMap (String A) (String A))
    → IsClone (λ s t. string_bytes t ≡ string_bytes s) (λ s t. string_bytes t ≡ string_bytes s) m n
    → texts_of n ≡ texts_of m
texts_copied m n e = seen_copied string_bytes m.entries n.entries e

-- ## A reader, part by part

pub same_reader : (c d : EventCursor) → c.current ≡ d.current → c.kept ≡ d.kept → c.machine ≡ d.machine
    → c.inside ≡ d.inside → c.finished ≡ d.finished → c ≡ d
same_reader c d current kept machine inside finished = grind arith
