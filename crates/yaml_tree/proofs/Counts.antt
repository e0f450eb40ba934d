-- A count of expanded nodes, event after event, is the count of the tree.
use Rattle.std.proofs.Common.{◌≡◌, ℕ, ◌+◌, min, List, [], ◌∷◌, ◌++◌, Option, Result, Ok, Err, OnOk, refl, sym, ap, subst, ◌∙◌, arith, rules, String, Global}
use Rattle.saphyr_scalar.specs.declared.scalar.style.ScalarStyle.{ScalarStyle}
use Rattle.saphyr_parser.specs.Types.Tag.{Tag}
use Rattle.saphyr_parser.specs.Events.{Happening, SequenceEnd, MappingEnd}
use Rattle.yaml_tree.specs.declared.node.Node.{Node, Alias, Scalar, out-Node, the_lemmas}
use Rattle.yaml_tree.specs.declared.expanding.Counter.{Counter}
use Rattle.yaml_tree.specs.Unloading.{node_events}
use Rattle.yaml_tree.specs.Expanding.{Sizes, Expanded, most, no_sizes, followed_by, expanded}
use Rattle.yaml_tree.specs.CounterSeen.{Count, with_nodes, begun, left_to, left, entered_layer, counted, counted_all, AreOpen, HoldsCount, IsCounting}
use Rattle.yaml_tree.specs.SizesSeen.{size_in}
use Rattle.yaml_tree.proofs.EachNode.{of_node}
use Rattle.yaml_tree.proofs.LastItems.{none_is_last, same_last}

-- ## The events of a node

count : ℕ → Sizes → List (ℕ × ℕ) → Count
count nodes sizes levels = record { nodes = nodes; sizes = sizes; levels = levels }

-- a part more of the collection that is open
abbrev grown : Expanded → Count → Count
grown e c = record { nodes = c.nodes + e.nodes; sizes = e.sizes; levels = c.levels }

grown-none : (c : Count) → c ≡ grown (record { nodes = 0; sizes = c.sizes }) c
unfolding count
grown-none c = let e : c.nodes ≡ c.nodes + 0 = omega arith in ap (λ (n : ℕ). count n c.sizes c.levels) e

grown-twice : (e f : Expanded) (c : Count)
    → grown f (grown e c) ≡ grown (record { nodes = e.nodes + f.nodes; sizes = f.sizes }) c
unfolding count
grown-twice e f c = let same : (c.nodes + e.nodes) + f.nodes ≡ c.nodes + (e.nodes + f.nodes) = omega arith in
    ap (λ (n : ℕ). count n f.sizes c.levels) same

pub counted-append : (xs ys : List Happening) (c : Count) → counted_all (xs ++ ys) c ≡ counted_all ys (counted_all xs c)
counted-append [] ys c = refl
counted-append (x ∷ xs) ys c = counted-append xs ys (counted x c)

-- these events grow a count by what is expanded
record Grows (hs : List Happening) (e : Sizes → Expanded) : Type 0 where
  by : (c : Count) → counted_all hs c ≡ grown (e c.sizes) c

grows_by_none : Grows [] (λ sizes. record { nodes = 0; sizes = sizes })
grows_by_none = record { by = grown-none }

grows_by_both : (xs ys : List Happening) (e f : Sizes → Expanded) → Grows xs e → Grows ys f
    → Grows (xs ++ ys) (λ sizes. followed_by (e sizes) f)
grows_by_both xs ys e f first second = record {
  by = λ c. counted-append xs ys c ∙ ap (counted_all ys) (first.by c)
      ∙ second.by (grown (e c.sizes) c) ∙ grown-twice (e c.sizes) (f (e c.sizes).sizes) c;
}

abbrev IsCounted : Node → Type 0
IsCounted n = Grows (node_events n) (expanded n)

around : (inner : List Happening) (e : Sizes → Expanded) (end : Happening) (id : ℕ) (c : Count) → Grows inner e
    → ((d : Count) → counted end d ≡ left d)
    → counted_all (inner ++ end ∷ []) (begun id c)
    ≡ with_nodes id (1 + (e c.sizes).nodes) (record { nodes = c.nodes; sizes = (e c.sizes).sizes; levels = c.levels })
around inner e end id c grows ends = counted-append inner (end ∷ []) (begun id c)
    ∙ ap (counted_all (end ∷ [])) (grows.by (begun id c)) ∙ ends (grown (e c.sizes) (begun id c))

counts_node : (n : Node) → IsCounted n
counts_node = of_node Grows (record {
  nothing = grows_by_none;
  both = grows_by_both;
  alias = λ id. record { by = λ c. refl };
  scalar = λ text style id tag. record { by = λ c. refl };
  sequence = λ id tag inner e h. record { by = λ c. around inner e SequenceEnd id c h (λ d. refl) };
  mapping = λ id tag inner e h. record { by = λ c. around inner e MappingEnd id c h (λ d. refl) };
})

-- from nothing the count is that of the tree
pub counts_root : (root : Node)
    → (counted_all (node_events root) (record { nodes = 0; sizes = no_sizes; levels = [] })).nodes
    ≡ (expanded root no_sizes).nodes
counts_root root =
    let none : Count = record { nodes = 0; sizes = no_sizes; levels = [] } in
    let all = ap (λ (c : Count). c.nodes) ((counts_node root).by none) in omega (arith, all)

pub counts_none : (root : Node) (to_come : List Happening) (counter : Counter)
    → HoldsCount counter (record { nodes = 0; sizes = no_sizes; levels = [] }) → to_come ≡ node_events root
    → IsCounting root to_come counter
counts_none root to_come counter holds e =
    let none : Count = record { nodes = 0; sizes = no_sizes; levels = [] } in
    let all = ap (λ (c : Count). c.nodes)
    (ap (λ (hs : List Happening). counted_all hs none) e ∙ (counts_node root).by none) in
    record { so_far = none; holds = holds; whole = omega (arith, all) }

pub counts_all : (root : Node) (to_come : List Happening) (counter : Counter) → IsCounting root to_come counter
    → to_come ≡ [] → counter.nodes ≡ min most (expanded root no_sizes).nodes
counts_all root to_come counter k e = k.holds.nodes ∙ ap (min most)
    (ap (λ (hs : List Happening). (counted_all hs k.so_far).nodes) (sym e) ∙ k.whole)

-- ## What a counter holds

left_to_holds : (levels : List (ℕ × ℕ)) (old mid new : Counter) (id nodes : ℕ) (c : Count)
    → old.levels.items ≡ mid.levels.items ++ (id, mid.nodes) ∷ [] → AreOpen old.levels.items levels
    → ((k : ℕ) → size_in mid.sizes k ≡ min most (c.sizes k)) → nodes ≡ min most c.nodes
    → ((d : Count) (n : ℕ) → nodes ≡ min most n → HoldsCount mid d → HoldsCount new (with_nodes id n d))
    → HoldsCount new (left_to levels c)
left_to_holds [] old mid new id nodes c e are sizes same adds =
    absurd (none_is_last mid.levels.items (id, mid.nodes) (sym e ∙ are))
left_to_holds (outer ∷ levels) old mid new id nodes c e (front, kept, others) sizes same adds =
    let ends = same_last mid.levels.items front (id, mid.nodes) (outer.0, min most outer.1) (sym e ∙ kept) in
    let before : Count = record { nodes = outer.1; sizes = c.sizes; levels = levels } in
    subst (λ (k : ℕ). HoldsCount new (with_nodes k c.nodes before)) (ap (λ (p : ℕ × ℕ). p.0) ends.1)
    (adds before c.nodes same (record {
      nodes = ap (λ (p : ℕ × ℕ). p.1) ends.1;
      sizes = sizes;
      levels = subst (λ (l : List (ℕ × ℕ)). AreOpen l levels) (sym ends.0) others;
    }))

pub leaves : {T E : Type 0} (result : Result T E) (old mid new : Counter) (id nodes : ℕ)
    → old.levels.items ≡ mid.levels.items ++ (id, mid.nodes) ∷ [] → nodes ≡ old.nodes → mid.sizes ≡ old.sizes
    → OnOk result ((d : Count) (n : ℕ) → nodes ≡ min most n → HoldsCount mid d → HoldsCount new (with_nodes id n d))
    → OnOk result ((c : Count) → HoldsCount old c → HoldsCount new (left c))
leaves (Ok t) old mid new id nodes e same sizes adds = λ c h. left_to_holds c.levels old mid new id nodes c e h.levels
    (λ k. ap (λ m. size_in m k) sizes ∙ h.sizes k) (same ∙ h.nodes) adds
leaves (Err f) old mid new id nodes e same sizes adds = tt

-- an alias or a scalar begins, which is all of it
pub enters : {T E : Type 0} (result : Result T E) (old new : Counter) (node : Node) (id nodes : ℕ)
    → ((c : Count) → HoldsCount old c
    → (n : ℕ) × (nodes ≡ min most n) × (with_nodes id n c ≡ entered_layer (out-Node node) c))
    → OnOk result ((c : Count) (n : ℕ) → nodes ≡ min most n → HoldsCount old c → HoldsCount new (with_nodes id n c))
    → OnOk result ((c : Count) → HoldsCount old c → HoldsCount new (entered_layer (out-Node node) c))
enters (Ok t) old new node id nodes layer adds = λ c h. let own = layer c h in
    subst (HoldsCount new) own.2 (adds c own.0 own.1 h)
enters (Err f) old new node id nodes layer adds = tt

enters_alias : (id : ℕ) (c : Count) → with_nodes 0 (c.sizes id) c ≡ entered_layer (out-Node (Alias id)) c
enters_alias id c = search (rules, the_lemmas)

pub alias_layer : (old : Counter) (node : Node) (id nodes : ℕ) → node ≡ Alias id → nodes ≡ size_in old.sizes id
    → (c : Count) → HoldsCount old c
    → (n : ℕ) × (nodes ≡ min most n) × (with_nodes 0 n c ≡ entered_layer (out-Node node) c)
alias_layer old node id nodes is size c h = (
  c.sizes id,
  size ∙ h.sizes id,
  enters_alias id c ∙ ap (λ (n : Node). entered_layer (out-Node n) c) (sym is),
)

enters_scalar : (text : String Global) (style : ScalarStyle) (id : ℕ) (tag : Option Tag) (c : Count)
    → with_nodes id 1 c ≡ entered_layer (out-Node (Scalar text style id tag)) c
enters_scalar text style id tag c = search (rules, the_lemmas)

pub scalar_layer : (old : Counter) (node : Node) (text : String Global) (style : ScalarStyle) (id : ℕ)
    (tag : Option Tag) → node ≡ Scalar text style id tag → (c : Count) → HoldsCount old c
    → (n : ℕ) × (1 ≡ min most n) × (with_nodes id n c ≡ entered_layer (out-Node node) c)
scalar_layer old node text style id tag is c h = (
  1,
  refl,
  enters_scalar text style id tag c ∙ ap (λ (n : Node). entered_layer (out-Node n) c) (sym is),
)
