-- Copies of trees have their events.
use Rattle.std.proofs.Common.{◌≡◌, ℕ, Option, option_map, Vec, Global, sym, ap, ◌∙◌}
use Rattle.std.specs.List.{flat_map}
use Rattle.saphyr_parser.specs.Types.Tag.{Tag}
use Rattle.saphyr_parser.specs.Views.Events.{resolved_tag}
use Rattle.yaml_tree.specs.declared.node.Node.{Node, Seq, Map}
use Rattle.yaml_tree.specs.Unloading.{node_events, pair_events}
use Rattle.yaml_tree.proofs.Unloads.{node_events-Seq, node_events-Map}

pub copied_sequence : (n : Node) (id : ℕ) (tag copied : Option Tag) (v w : Vec Node Global) → n ≡ Seq id tag v
    → option_map resolved_tag copied ≡ option_map resolved_tag tag
    → flat_map node_events w.items ≡ flat_map node_events v.items → node_events (Seq id copied w) ≡ node_events n
copied_sequence n id tag copied v w e t h = let one = node_events-Seq id copied w in let two =
    node_events-Seq id tag v in let three = ap node_events e in one ∙ rw (t, h) (sym two) ∙ sym three

pub copied_mapping : (n : Node) (id : ℕ) (tag copied : Option Tag) (v w : Vec (Node × Node) Global)
    → n ≡ Map id tag v → option_map resolved_tag copied ≡ option_map resolved_tag tag
    → flat_map pair_events w.items ≡ flat_map pair_events v.items → node_events (Map id copied w) ≡ node_events n
copied_mapping n id tag copied v w e t h = let one = node_events-Map id copied w in let two =
    node_events-Map id tag v in let three = ap node_events e in one ∙ rw (t, h) (sym two) ∙ sym three
