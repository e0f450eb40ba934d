-- The parts of a forest, in the order of their events: a collection comes before its entries and ends after them, a
-- key comes before its value (YAML 1.2.2, 3.2.2.1 and 3.2.3).
use Rattle.std.specs.Prelude.{ℕ, Bool, true, false, List, [], ◌∷◌, ◌++◌}
use Rattle.saphyr_scanner.specs.Grammar.Forest.{Style, Properties, Node, Alias, Scalar, Seq, Map, Nodes, NoNode, MoreNodes, Pairs, NoPair, MorePairs, Directive, Forest}

pub data Part : Type 0 where
  OpenStream : Part
  CloseStream : Part
  OpenDocument : Bool → List Directive → Part
  CloseDocument : Part
  Reference : List ℕ → Part
  Leaf : Properties → Style → List ℕ → Part
  OpenSequence : Properties → Part
  CloseSequence : Part
  OpenMapping : Properties → Part
  CloseMapping : Part

abbrev pub opens_document : Part → Bool
opens_document (OpenDocument _ _) = true
opens_document _ = false

-- the directives of the document that a part opens
abbrev pub directives_of : Part → List Directive
directives_of (OpenDocument _ directives) = directives
directives_of _ = []

abbrev mutual
  pub node_parts : Node → List Part
  node_parts (Alias name) = Reference name ∷ []
  node_parts (Scalar p style value) = Leaf p style value ∷ []
  node_parts (Seq p nodes) = OpenSequence p ∷ (entry_parts nodes ++ CloseSequence ∷ [])
  node_parts (Map p pairs) = OpenMapping p ∷ (pair_parts pairs ++ CloseMapping ∷ [])

  pub entry_parts : Nodes → List Part
  entry_parts NoNode = []
  entry_parts (MoreNodes node nodes) = node_parts node ++ entry_parts nodes

  pub pair_parts : Pairs → List Part
  pair_parts NoPair = []
  pair_parts (MorePairs key value pairs) = node_parts key ++ (node_parts value ++ pair_parts pairs)

abbrev pub document_parts : Forest → List Part
document_parts [] = CloseStream ∷ []
document_parts (d ∷ ds) =
    OpenDocument d.explicit d.directives ∷ (node_parts d.node ++ CloseDocument ∷ document_parts ds)

abbrev pub parts : Forest → List Part
parts forest = OpenStream ∷ document_parts forest
