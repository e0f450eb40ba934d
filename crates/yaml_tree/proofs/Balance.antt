-- In a node's events as many collections begin as end.
use Rattle.std.proofs.Common.{◌≡◌, ℕ, ◌+◌, List, [], ◌∷◌, ◌++◌, length, refl, arith}
use Rattle.std.specs.List.{flat_map}
use Rattle.saphyr_parser.specs.Events.{Happening, SequenceStart, SequenceEnd, MappingStart, MappingEnd}
use Rattle.yaml_tree.specs.declared.node.Node.{Node}
use Rattle.yaml_tree.specs.declared.walk.Rest.{Rest}
use Rattle.yaml_tree.specs.declared.walk.Rest.TheVariants.{Items, Pairs, Value}
use Rattle.yaml_tree.specs.Unloading.{node_events, pair_events}
use Rattle.yaml_tree.specs.Walking.{opening, openings, closing, closings, rest_events, frames_events}
use Rattle.yaml_tree.proofs.EachNode.{of_node}

openings-append : (xs ys : List Happening) → openings (xs ++ ys) ≡ openings xs + openings ys
openings-append [] ys = omega arith
openings-append (x ∷ xs) ys = omega (arith, openings-append xs ys)

closings-append : (xs ys : List Happening) → closings (xs ++ ys) ≡ closings xs + closings ys
closings-append [] ys = omega arith
closings-append (x ∷ xs) ys = omega (arith, closings-append xs ys)

-- so many more end than begin
abbrev EndMore : ℕ → List Happening → Type 0
EndMore n hs = closings hs ≡ n + openings hs

joined_more : (m n : ℕ) (xs ys : List Happening) → EndMore m xs → EndMore n ys → EndMore (m + n) (xs ++ ys)
joined_more m n xs ys h k = omega (arith, closings-append xs ys, openings-append xs ys)

abbrev IsBalanced : Node → Type 0
IsBalanced n = EndMore 0 (node_events n)

around : (start end : Happening) (inner : List Happening) → opening start ≡ 1 → closing start ≡ 0 → opening end ≡ 0
    → closing end ≡ 1 → EndMore 0 inner → EndMore 0 (start ∷ (inner ++ end ∷ []))
around start end inner a b c d h =
    omega (arith, closings-append inner (end ∷ []), openings-append inner (end ∷ []))

pub balanced : (n : Node) → IsBalanced n
balanced = of_node (λ hs e. EndMore 0 hs) (record {
  nothing = refl;
  both = λ xs ys e f. joined_more 0 0 xs ys;
  alias = λ id. refl;
  scalar = λ text style id tag. refl;
  sequence = λ id tag inner e. around (SequenceStart id tag) SequenceEnd inner refl refl refl refl;
  mapping = λ id tag inner e. around (MappingStart id tag) MappingEnd inner refl refl refl refl;
})

-- ## What is to be visited

balanced_nodes : (ns : List Node) → EndMore 0 (flat_map node_events ns)
balanced_nodes [] = refl
balanced_nodes (n ∷ ns) = joined_more 0 0 _ _ (balanced n) (balanced_nodes ns)

balanced_pairs : (ps : List (Node × Node)) → EndMore 0 (flat_map pair_events ps)
balanced_pairs [] = refl
balanced_pairs (p ∷ ps) =
    joined_more 0 0 _ _ (joined_more 0 0 _ _ (balanced p.0) (balanced p.1)) (balanced_pairs ps)

ends_rest : (rest : Rest) → EndMore 1 (rest_events rest)
ends_rest (Items all left) = joined_more 0 1 _ _ (balanced_nodes left.now) refl
ends_rest (Pairs all left) = joined_more 0 1 _ _ (balanced_pairs left.now) refl
ends_rest (Value value all left) =
    joined_more 0 1 _ _ (balanced value.now) (joined_more 0 1 _ _ (balanced_pairs left.now) refl)

pub ends_frames : (rests : List Rest) → closings (frames_events rests) ≡ length rests + openings (frames_events rests)
ends_frames [] = refl
ends_frames (rest ∷ rests) =
    let both = joined_more (length rests) 1 _ _ (ends_frames rests) (ends_rest rest) in
    omega (arith, both)
