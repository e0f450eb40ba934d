-- The weights of trees, and what each step of a drop does to them.
use Rattle.std.proofs.Common.{◌≡◌, ℕ, ◌+◌, ◌-◌, ◌*◌, ◌<◌, ◌≤◌, ◌↔◌, List, [], ◌∷◌, ◌++◌, map, length, get_or, Option, Some, None, IfSome, Bool, true, false, true≢false, IsTrue, ◌==◌, zero, suc, String, Vec, Global, sum_by, refl, ap, sym, ◌∙◌, arith, rules, vec_len}
use Rattle.std.proofs.lemmas.Bool.{eqb-true, eq-eqb}
use Rattle.std.proofs.lemmas.List.{get_or_default}
use Rattle.std.specs.Vec.{with_item}
use Rattle.std.proofs.lemmas.List.Sums.{sum_by-set, sum_by-append, sum_by-cons, get_or-le-sum_by}
use Rattle.saphyr_scalar.specs.declared.scalar.style.ScalarStyle.{ScalarStyle}
use Rattle.saphyr_parser.specs.Types.Tag.{Tag}
use Rattle.yaml_tree.specs.declared.node.Node.{Node, Alias, Scalar, Seq, Map, the_lemmas, fold-Node, fold_out-Node}
use Rattle.yaml_tree.specs.declared.node.Node.TheOpen.{Node-F}
use Rattle.yaml_tree.specs.Weight.{node_weight, weight_step, pair_weight, IsBare, turns}

-- ## The weight of each node

pub load : Node × Node → ℕ
load p = node_weight p.0 + 2 * node_weight p.1

sum_of_weights : (nodes : List Node) → sum_by (λ w. w) (map node_weight nodes) ≡ sum_by node_weight nodes
sum_of_weights [] = refl
sum_of_weights (n ∷ ns) = sum_by-cons (λ w. w) (node_weight n) (map node_weight ns)
    ∙ ap (λ s. node_weight n + s) (sum_of_weights ns) ∙ sym (sum_by-cons node_weight n ns)

pub weight-Seq : (id : ℕ) (tag : Option Tag) (v : Vec Node Global)
    → node_weight (Seq id tag v) ≡ 2 + sum_by node_weight v.items
unfolding node_weight
weight-Seq id tag v = let e : fold-Node ℕ weight_step (Seq id tag v) ≡ 2 + sum_by (λ w. w)
    (map (fold-Node ℕ weight_step) v.items) = search (rules, the_lemmas) in e ∙ ap (λ s. 2 + s) (sum_of_weights v.items)

sum_of_loads : (pairs : List (Node × Node))
    → sum_by pair_weight (map (λ (p : Node × Node). (node_weight p.0, node_weight p.1)) pairs) ≡ sum_by load pairs
unfolding load
sum_of_loads [] = refl
sum_of_loads (p ∷ ps) = sum_by-cons pair_weight (node_weight p.0, node_weight p.1)
    (map (λ (q : Node × Node). (node_weight q.0, node_weight q.1)) ps)
    ∙ ap (λ s. node_weight p.0 + 2 * node_weight p.1 + s) (sum_of_loads ps) ∙ sym (sum_by-cons load p ps)

pub weight-Map : (id : ℕ) (tag : Option Tag) (v : Vec (Node × Node) Global)
    → node_weight (Map id tag v) ≡ 2 + sum_by load v.items
unfolding node_weight
weight-Map id tag v = let e : fold-Node ℕ weight_step (Map id tag v) ≡ 2 + sum_by pair_weight
    (map (λ (p : Node × Node). (fold-Node ℕ weight_step p.0, fold-Node ℕ weight_step p.1)) v.items) = search
    (rules, the_lemmas) in e ∙ ap (λ s. 2 + s) (sum_of_loads v.items)

pub weight-Scalar : (text : String Global) (style : ScalarStyle) (id : ℕ) (tag : Option Tag)
    → node_weight (Scalar text style id tag) ≡ 1
unfolding node_weight
weight-Scalar text style id tag = search (rules, the_lemmas)

pub weight-Alias : (id : ℕ) → node_weight (Alias id) ≡ 1
unfolding node_weight
weight-Alias id = search (rules, the_lemmas)

step_positive : (layer : Node-F ℕ) → 1 ≤ weight_step layer
step_positive (Node-F.Alias id) = omega arith
step_positive _ = omega arith

pub positive : (n : Node) → 1 ≤ node_weight n
unfolding node_weight
positive n = rw fold_out-Node (step_positive _)

-- ## Numbers

pub nonzero : (n : ℕ) → false ≡ (n == 0) → 0 < n
nonzero zero e = absurd (cc)
nonzero (suc n) e = omega arith

same_turn : (t u p q : ℕ) → t ≡ u → p < q → t * (t + 1) + p < u * (u + 1) + q
same_turn t u p q e h = rw e (omega arith)

less_turn_by : (t k p q : ℕ) → p ≤ t → t * (t + 1) + p < (t + 1 + k) * (t + 1 + k + 1) + q
less_turn_by t k p q h = omega arith

less_turn : (t u k p q : ℕ) → u ≡ t + 1 + k → p ≤ t → t * (t + 1) + p < u * (u + 1) + q
less_turn t u k p q e h = rw e (less_turn_by t k p q h)

-- ## Steps

pub turned_node : (outer part d : Node) (v : Vec Node Global) (i : ℕ) → i < length v.items
    → part ≡ get_or v.items i d → turns (Seq 0 None (with_item v i outer)) part < turns outer (Seq 0 None v)
turned_node outer part d v i h e =
    let s = sum_by-set node_weight v.items i outer d h in
    let p = get_or-le-sum_by node_weight v.items i d h in
    let w = ap node_weight e in
    let old = weight-Seq 0 None v in
    let new = weight-Seq 0 None (with_item v i outer) in
    same_turn _ _ _ _ (omega arith) (omega arith)

pub turned_pair : (outer : Node) (part d : Node × Node) (v : Vec (Node × Node) Global) (i : ℕ) → i < length v.items
    → part ≡ get_or v.items i d
    → turns (Map 0 None (with_item v i (outer, part.1))) part.0 < turns outer (Map 0 None v)
unfolding load
turned_pair outer part d v i h e =
    let s = sum_by-set load v.items i (outer, part.1) d h in
    let p = get_or-le-sum_by load v.items i d h in
    let w = ap load e in
    let old = weight-Map 0 None v in
    let new = weight-Map 0 None (with_item v i (outer, part.1)) in
    same_turn _ _ _ _ (omega arith) (omega arith)

-- what is bare is dropped, and a part of what is outer comes next
pub next_turn : (outer self : Node) (next : Option (Node × Node))
    → IfSome next (λ n. node_weight n.0 + node_weight n.1 ≤ node_weight outer)
    → IfSome next (λ n. turns n.0 n.1 < turns outer self)
next_turn outer self None h = tt
next_turn outer self (Some n) h =
    let w = positive self in
    let k = (node_weight outer + node_weight self) - (node_weight n.0 + node_weight n.1 + 1) in
    less_turn _ (node_weight outer + node_weight self) k _ _ (omega (arith, h)) (omega arith)

pub taken_value : (pair d : Node × Node) (v : Vec (Node × Node) Global) (i : ℕ) → i < length v.items
    → pair ≡ get_or v.items i d → 2 < node_weight pair.1
    → node_weight (Map 0 None (with_item v i (pair.0, Alias 0))) + node_weight pair.1 ≤ node_weight (Map 0 None v)
unfolding load
taken_value pair d v i h e heavy =
    let s = sum_by-set load v.items i (pair.0, Alias 0) d h in
    let w = ap load e in
    let leaf = weight-Alias 0 in
    let old = weight-Map 0 None v in
    let new = weight-Map 0 None (with_item v i (pair.0, Alias 0)) in
    omega arith

pub taken_key : (key value : Node) (old new : Vec (Node × Node) Global) → old.items ≡ new.items ++ (key, value) ∷ []
    → node_weight (Map 0 None new) + node_weight key ≤ node_weight (Map 0 None old)
unfolding load
taken_key key value old new e =
    let s = ap (sum_by load) e ∙ sum_by-append load new.items ((key, value) ∷ []) in
    let before = weight-Map 0 None old in
    let after = weight-Map 0 None new in
    let last = sum_by-cons load (key, value) [] in
    omega arith

pub taken_node : (part : Node) (old new : Vec Node Global) → old.items ≡ new.items ++ part ∷ []
    → node_weight (Seq 0 None new) + node_weight part ≤ node_weight (Seq 0 None old)
taken_node part old new e =
    let s = ap (sum_by node_weight) e ∙ sum_by-append node_weight new.items (part ∷ []) in
    let before = weight-Seq 0 None old in
    let after = weight-Seq 0 None new in
    let last = sum_by-cons node_weight part [] in
    omega arith

-- the last part of a collection is left alone
pub last_node : (part : Node) (old new : Vec Node Global) → old.items ≡ new.items ++ part ∷ []
    → node_weight part + node_weight (Alias 0) ≤ node_weight (Seq 0 None old)
last_node part old new e =
    let taken = taken_node part old new e in
    let shell = weight-Seq 0 None new in
    let leaf = weight-Alias 0 in
    omega arith

pub last_key : (key value : Node) (old new : Vec (Node × Node) Global) → old.items ≡ new.items ++ (key, value) ∷ []
    → node_weight key + node_weight (Alias 0) ≤ node_weight (Map 0 None old)
last_key key value old new e =
    let taken = taken_key key value old new e in
    let shell = weight-Map 0 None new in
    let leaf = weight-Alias 0 in
    omega arith

-- ## Bare nodes

no_node : (nodes : List Node) → sum_by node_weight nodes ≤ 0 → length nodes ≡ 0
no_node [] h = refl
no_node (n ∷ ns) h = let w = positive n in let s = sum_by-cons node_weight n ns in absurd (omega arith)

no_weight : (nodes : List Node) → length nodes ≡ 0 → sum_by node_weight nodes ≡ 0
no_weight [] h = refl
no_weight (n ∷ ns) h = absurd (omega arith)

no_pair : (pairs : List (Node × Node)) → sum_by load pairs ≤ 0 → length pairs ≡ 0
unfolding load
no_pair [] h = refl
no_pair (p ∷ ps) h = let w = positive p.0 in let s = sum_by-cons load p ps in absurd (omega arith)

no_load : (pairs : List (Node × Node)) → length pairs ≡ 0 → sum_by load pairs ≡ 0
no_load [] h = refl
no_load (p ∷ ps) h = absurd (omega arith)

pub bare_nodes : (id : ℕ) (tag : Option Tag) (v : Vec Node Global) → (vec_len v ≡ 0) ↔ IsBare (Seq id tag v)
bare_nodes id tag v =
    let w = weight-Seq id tag v in
    let size = v.ok.0 in (
      λ h. let none : sum_by node_weight v.items ≡ 0 = no_weight v.items (omega arith) in
          omega arith,
      λ h. let none : length v.items ≡ 0 = no_node v.items (omega arith) in omega arith,
    )

pub bare_pairs : (id : ℕ) (tag : Option Tag) (v : Vec (Node × Node) Global) → (vec_len v ≡ 0) ↔ IsBare (Map id tag v)
bare_pairs id tag v =
    let w = weight-Map id tag v in
    let size = v.ok.0 in (
      λ h. let none : sum_by load v.items ≡ 0 = no_load v.items (omega arith) in
          omega arith,
      λ h. let none : length v.items ≡ 0 = no_pair v.items (omega arith) in omega arith,
    )

pub tests_leaf : (n : Node) → node_weight n ≡ 1 → IsTrue true ↔ IsBare n
tests_leaf n e = (λ _. omega arith, λ _. refl)

pub tests_length : (b : Bool) (k : ℕ) (n : Node) → b ≡ (k == 0) → (k ≡ 0) ↔ IsBare n → IsTrue b ↔ IsBare n
tests_length b k n e h = (λ t. h.0 (eqb-true k 0 (sym e ∙ t)), λ bare. e ∙ eq-eqb k 0 (h.1 bare))

pub heavy : (n m : Node) → (IsBare n → IsTrue false) → n ≡ m → 2 < node_weight m
heavy n m h e = let light : node_weight n ≤ 2 → ⊥ = (λ w. true≢false (sym (h w))) in
    let w = ap node_weight e in omega arith

pub weight_of_nodes : (n : Node) (id : ℕ) (tag : Option Tag) (v : Vec Node Global) → n ≡ Seq id tag v
    → node_weight n ≡ node_weight (Seq 0 None v)
weight_of_nodes n id tag v e = ap node_weight e ∙ weight-Seq id tag v ∙ sym (weight-Seq 0 None v)

pub weight_of_pairs : (n : Node) (id : ℕ) (tag : Option Tag) (v : Vec (Node × Node) Global) → n ≡ Map id tag v
    → node_weight n ≡ node_weight (Map 0 None v)
weight_of_pairs n id tag v e = ap node_weight e ∙ weight-Map id tag v ∙ sym (weight-Map 0 None v)

-- a place of a list is read twice
pub read_twice : (pairs : List (Node × Node)) (i : ℕ) (p q : Node × Node) → i < length pairs → p ≡ get_or pairs i p
    → q ≡ get_or pairs i q → p.1 ≡ q.1
read_twice pairs i p q h e f = ap (λ (r : Node × Node). r.1) (e ∙ get_or_default pairs i p q h ∙ sym f)
