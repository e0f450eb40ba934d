-- What the entry of a number tells.
use Rattle.std.proofs.Common.{arith, ◌≡◌, ◌<◌, subst, ℕ, zero, suc, ◌+◌, List, [], ◌∷◌, Some, None, length}
use Rattle.std.specs.List.{slice_get}
use Rattle.yaml_tree.specs.declared.table.Entry.{Entry}
use Rattle.yaml_tree.specs.declared.table.NodeTable.{NodeTable}
use Rattle.yaml_tree.specs.Tables.{AreEntriesFrom, Event, IsEntryAt, IsTable, Store, nodes_begun, store_of}

entry_from : (es : List Event) (s : Store) (n k m : ℕ) (xs : List Entry) (e : Entry) → AreEntriesFrom es s n xs
    → slice_get xs k ≡ Some e → m ≡ n + k → IsEntryAt es s m e
entry_from es s n k m [] e h is at = absurd (cc)
entry_from es s n zero m (x ∷ xs) e h is at =
    let same : x ≡ e = cc in
    let here : n ≡ m = omega (arith, at) in
    subst (λ (i : ℕ). IsEntryAt es s i e) here (subst (IsEntryAt es s n) same h.0)
entry_from es s n (suc k) m (x ∷ xs) e h is at = entry_from es s (suc n) k m xs e h.1 is (omega (arith, at))

-- the entry with a number is that of the node with this number
pub entry_told : (es : List Event) (t : NodeTable) (number : ℕ) (e : Entry) → IsTable es t
    → slice_get t.entries.items number ≡ Some e → IsEntryAt es (store_of t) number e
entry_told es t number e is found =
    entry_from es (store_of t) 0 number number t.entries.items e is.entries found (omega arith)

none_within : {X : Type 0} (xs : List X) (n : ℕ) → slice_get xs n ≡ None → n < length xs → ⊥
none_within [] n e l = omega (arith, l)
none_within (x ∷ xs) zero e l = cc
none_within (x ∷ xs) (suc n) e l = none_within xs n e (omega (arith, l))

-- each node has an entry
pub entry_there : (es : List Event) (t : NodeTable) (number : ℕ) → IsTable es t → number < nodes_begun es
    → slice_get t.entries.items number ≡ None → ⊥
entry_there es t number is within found =
    let many = is.nodes in none_within t.entries.items number found (omega (arith, many, within))
