-- Unloading: the events of documents (YAML 1.2.2, 3.1). A node's events come in preorder, a collection's start before
-- its parts and its end after them, a key before its value. It is what a loader turns round.
use Rattle.std.specs.Prelude.{List, [], ◌∷◌, ◌++◌, option_map, string_bytes}
use Rattle.std.specs.List.{flat_map}
use Rattle.saphyr_parser.specs.Events.{Happening, StreamStart, StreamEnd, DocumentStart, DocumentEnd, Alias, Scalar, SequenceStart, SequenceEnd, MappingStart, MappingEnd}
use Rattle.saphyr_parser.specs.Views.Events.{resolved_tag}
use Rattle.yaml_tree.specs.declared.node.Node.{Node, fold-Node}
use Rattle.yaml_tree.specs.declared.node.Node.TheOpen.{Node-F}
use Rattle.yaml_tree.specs.declared.document.Document.{Document}

-- a pair's events, from those of its key and of its value
abbrev pub both_events : List Happening × List Happening → List Happening
both_events pair = pair.0 ++ pair.1

-- a node's events, from those of the nodes inside
abbrev pub unload_step : Node-F (List Happening) → List Happening
unload_step (Node-F.Alias id) = Alias id ∷ []
unload_step (Node-F.Scalar text style id tag) = Scalar (string_bytes text) style id (option_map resolved_tag tag) ∷ []
unload_step (Node-F.Seq id tag nodes) =
    SequenceStart id (option_map resolved_tag tag) ∷ (flat_map (λ events. events) nodes.items ++ SequenceEnd ∷ [])
unload_step (Node-F.Map id tag pairs) =
    MappingStart id (option_map resolved_tag tag) ∷ (flat_map both_events pairs.items ++ MappingEnd ∷ [])

abbrev pub node_events : Node → List Happening
node_events = fold-Node (List Happening) unload_step

abbrev pub pair_events : Node × Node → List Happening
pair_events pair = node_events pair.0 ++ node_events pair.1

abbrev pub document_events : Document → List Happening
document_events d = DocumentStart d.explicit ∷ (node_events d.root ++ DocumentEnd ∷ [])

-- the events of all documents of a stream
abbrev pub unload : List Document → List Happening
unload documents = StreamStart ∷ (flat_map document_events documents ++ StreamEnd ∷ [])
