-- The events of collections.
use Rattle.std.proofs.Common.{◌≡◌, ℕ, List, [], ◌∷◌, ◌++◌, map, Option, None, option_map, Vec, Global, sym, ap, ◌∙◌, append-nil, rules}
use Rattle.std.specs.List.{flat_map}
use Rattle.std.proofs.lemmas.List.Folds.{flat_map-map}
use Rattle.saphyr_parser.specs.Types.Tag.{Tag}
use Rattle.saphyr_parser.specs.Events.{Happening, SequenceStart, SequenceEnd, MappingStart, MappingEnd}
use Rattle.saphyr_parser.specs.Views.Events.{resolved_tag}
use Rattle.yaml_tree.specs.declared.node.Node.{Node, Seq, Map, the_lemmas}
use Rattle.yaml_tree.specs.declared.open.Open.TheVariants.{Mapping}
use Rattle.yaml_tree.specs.OpenSeen.{open_events}
use Rattle.yaml_tree.specs.Unloading.{both_events, node_events, pair_events}

sequence : (id : ℕ) (tag : Option Tag) → List Happening → List Happening
sequence id tag inner = SequenceStart id (option_map resolved_tag tag) ∷ (inner ++ SequenceEnd ∷ [])

mapping : (id : ℕ) (tag : Option Tag) → List Happening → List Happening
mapping id tag inner = MappingStart id (option_map resolved_tag tag) ∷ (inner ++ MappingEnd ∷ [])

pub node_events-Seq : (id : ℕ) (tag : Option Tag) (v : Vec Node Global)
    → node_events (Seq id tag v) ≡ SequenceStart id (option_map resolved_tag tag) ∷
    (flat_map node_events v.items ++ SequenceEnd ∷ [])
unfolding sequence
node_events-Seq id tag v =
    let e : node_events (Seq id tag v) ≡ sequence id tag (flat_map (λ events. events) (map node_events v.items)) =
    search (rules, the_lemmas) in
    e ∙ ap (sequence id tag) (flat_map-map (λ events. events) node_events v.items)

events_of_both : Node × Node → List Happening × List Happening
events_of_both p = (node_events p.0, node_events p.1)

pub node_events-Map : (id : ℕ) (tag : Option Tag) (v : Vec (Node × Node) Global)
    → node_events (Map id tag v) ≡ MappingStart id (option_map resolved_tag tag) ∷
    (flat_map pair_events v.items ++ MappingEnd ∷ [])
unfolding mapping events_of_both
node_events-Map id tag v =
    let e : node_events (Map id tag v) ≡ mapping id tag (flat_map both_events (map events_of_both v.items)) =
    search (rules, the_lemmas) in
    e ∙ ap (mapping id tag) (flat_map-map both_events events_of_both v.items)

-- a mapping without a key that waits for its value may end
pub ends_mapping : (id : ℕ) (tag : Option Tag) (v : Vec (Node × Node) Global)
    → node_events (Map id tag v) ≡ open_events (Mapping id tag v None) ++ MappingEnd ∷ []
unfolding mapping
ends_mapping id tag v = node_events-Map id tag v ∙ ap (mapping id tag) (sym (append-nil (flat_map pair_events v.items)))
