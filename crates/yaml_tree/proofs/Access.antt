-- A key is looked up pair after pair, and an id is compared with that of an anchor.
use Rattle.std.proofs.Common.{◌≡◌, ◌↔◌, ◌==◌, ℕ, suc, ◌+◌, ◌<◌, ◌≤◌, Bool, true, false, IsTrue, cond, List, ◌∷◌, length, get_or, drop, Option, Some, None, option_map, arith, refl, sym, ap, ◌∙◌}
use Rattle.std.proofs.lemmas.Bool.{eqb-true, eq-eqb}
use Rattle.std.proofs.lemmas.List.{at_drop_more, drop_all}
use Rattle.std.proofs.lemmas.Option.{same_Some}
use Rattle.yaml_tree.specs.declared.node.Node.{Node}
use Rattle.yaml_tree.specs.Accessing.{first_pair, first_value, is_this_text, text_of_node}

at_pair : (key : List ℕ) (pairs : List (Node × Node)) (i : ℕ) (pair : Node × Node) (b : Bool) → i < length pairs
    → pair ≡ get_or pairs i pair → b ≡ is_this_text key (text_of_node pair.0)
    → first_value key (drop i pairs) ≡ cond b (Some pair.1) (first_value key (drop (i + 1) pairs))
at_pair key pairs i pair b h is test = at_drop_more (first_value key) pairs i pair h
    ∙ ap (λ (p : Node × Node). first_value key (p ∷ drop (i + 1) pairs)) (sym is)
    ∙ ap (λ (t : Bool). cond t (Some pair.1) (first_value key (drop (i + 1) pairs))) (sym test)

pub finds_here : (key : List ℕ) (pairs : List (Node × Node)) (i : ℕ) (pair : Node × Node) → i < length pairs
    → pair ≡ get_or pairs i pair → true ≡ is_this_text key (text_of_node pair.0)
    → first_value key (drop i pairs) ≡ Some pair.1
finds_here key pairs i pair h is test = at_pair key pairs i pair true h is test

pub finds_later : (key : List ℕ) (pairs : List (Node × Node)) (i : ℕ) (pair : Node × Node) → i < length pairs
    → pair ≡ get_or pairs i pair → false ≡ is_this_text key (text_of_node pair.0)
    → first_value key (drop i pairs) ≡ first_value key (drop (i + 1) pairs)
finds_later key pairs i pair h is test = at_pair key pairs i pair false h is test

-- the first pair with the key is behind so many others
abbrev pub ComesBehind : List ℕ → List (Node × Node) → ℕ → Type 0
ComesBehind key pairs i = first_pair key pairs ≡ option_map (λ (n : ℕ). i + n) (first_pair key (drop i pairs))

pub behind_none : (key : List ℕ) (pairs : List (Node × Node)) → ComesBehind key pairs 0
behind_none key pairs = by (first_pair key pairs)
  where
    by : (o : Option ℕ) → o ≡ option_map (λ (n : ℕ). 0 + n) o
    by None = refl
    by (Some n) = ap Some (omega arith)

at_first : (key : List ℕ) (pairs : List (Node × Node)) (i : ℕ) (pair : Node × Node) (b : Bool) → i < length pairs
    → pair ≡ get_or pairs i pair → b ≡ is_this_text key (text_of_node pair.0)
    → first_pair key (drop i pairs) ≡ cond b (Some 0) (option_map suc (first_pair key (drop (i + 1) pairs)))
at_first key pairs i pair b h is test = at_drop_more (first_pair key) pairs i pair h
    ∙ ap (λ (p : Node × Node). first_pair key (p ∷ drop (i + 1) pairs)) (sym is)
    ∙ ap (λ (t : Bool). cond t (Some 0) (option_map suc (first_pair key (drop (i + 1) pairs)))) (sym test)

pub is_first : (key : List ℕ) (pairs : List (Node × Node)) (i : ℕ) (pair : Node × Node) → ComesBehind key pairs i
    → i < length pairs → pair ≡ get_or pairs i pair → true ≡ is_this_text key (text_of_node pair.0)
    → first_pair key pairs ≡ Some i
is_first key pairs i pair behind h is test =
    let same : i + 0 ≡ i = omega arith in
    behind ∙ ap (option_map (λ (n : ℕ). i + n)) (at_first key pairs i pair true h is test) ∙ ap Some same

pub behind_more : (key : List ℕ) (pairs : List (Node × Node)) (i : ℕ) (pair : Node × Node) → ComesBehind key pairs i
    → i < length pairs → pair ≡ get_or pairs i pair → false ≡ is_this_text key (text_of_node pair.0)
    → ComesBehind key pairs (i + 1)
behind_more key pairs i pair behind h is test =
    behind ∙ ap (option_map (λ (n : ℕ). i + n)) (at_first key pairs i pair false h is test)
    ∙ by (first_pair key (drop (i + 1) pairs))
  where
    by : (o : Option ℕ) → option_map (λ (n : ℕ). i + n) (option_map suc o) ≡ option_map (λ (n : ℕ). i + 1 + n) o
    by None = refl
    by (Some n) = ap Some (omega arith)

pub none_first : (key : List ℕ) (pairs : List (Node × Node)) (i : ℕ) → ComesBehind key pairs i → length pairs ≤ i
    → first_pair key pairs ≡ None
none_first key pairs i behind h =
    behind ∙ ap (λ (ps : List (Node × Node)). option_map (λ (n : ℕ). i + n) (first_pair key ps)) (drop_all i pairs h)

-- an id is a node's anchor where they are equal
pub tests_anchor : (a : Option ℕ) (own id : ℕ) → Some own ≡ a → IsTrue (own == id) ↔ a ≡ Some id
tests_anchor a own id e =
    (λ t. sym e ∙ ap Some (eqb-true own id t), λ h. eq-eqb own id (same_Some own id (e ∙ h)))
