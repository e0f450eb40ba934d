-- What a node was, once it is taken apart.
use Rattle.std.specs.Prelude.{◌≡◌}
use Rattle.yaml_tree.specs.declared.node.Node.{Node, Alias, Scalar, Seq, Map}
use Rattle.yaml_tree.specs.declared.node.Layer.{Layer}
use Rattle.yaml_tree.specs.declared.node.Layer.TheVariants as layer

abbrev pub IsLayerOf : Node → Layer → Type 0
IsLayerOf node (layer.Alias id) = node ≡ Alias id
IsLayerOf node (layer.Scalar text style id tag) = node ≡ Scalar text style id tag
IsLayerOf node (layer.Seq id tag nodes) = node ≡ Seq id tag nodes
IsLayerOf node (layer.Map id tag pairs) = node ≡ Map id tag pairs
