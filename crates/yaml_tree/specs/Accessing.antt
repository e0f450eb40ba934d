-- What a node is made of (YAML 1.2.2, 3.2.1): its kind, its text and style, its tag, its anchor, and its parts.
use Rattle.std.specs.Prelude.{ℕ, zero, suc, Bool, true, false, cond, List, [], ◌∷◌, Option, Some, None, option_map, string_bytes}
use Rattle.std.specs.Str.{bytes_eq}
use Rattle.saphyr_parser.specs.Types.Tag.{Tag}
use Rattle.saphyr_scalar.specs.declared.scalar.style.ScalarStyle.{ScalarStyle}
use Rattle.yaml_tree.specs.declared.node.Node.{Node, out-Node}
use Rattle.yaml_tree.specs.declared.node.Node.TheOpen.{Node-F}

-- ## Kinds

abbrev pub is_alias_layer : Node-F Node → Bool
is_alias_layer (Node-F.Alias id) = true
is_alias_layer _ = false

abbrev pub is_alias_node : Node → Bool
is_alias_node node = is_alias_layer (out-Node node)

abbrev pub is_scalar_layer : Node-F Node → Bool
is_scalar_layer (Node-F.Scalar text style id tag) = true
is_scalar_layer _ = false

abbrev pub is_scalar_node : Node → Bool
is_scalar_node node = is_scalar_layer (out-Node node)

abbrev pub is_sequence_layer : Node-F Node → Bool
is_sequence_layer (Node-F.Seq id tag nodes) = true
is_sequence_layer _ = false

abbrev pub is_sequence_node : Node → Bool
is_sequence_node node = is_sequence_layer (out-Node node)

abbrev pub is_mapping_layer : Node-F Node → Bool
is_mapping_layer (Node-F.Map id tag pairs) = true
is_mapping_layer _ = false

abbrev pub is_mapping_node : Node → Bool
is_mapping_node node = is_mapping_layer (out-Node node)

-- ## What a node has

abbrev pub text_in_layer : Node-F Node → Option (List ℕ)
text_in_layer (Node-F.Scalar text style id tag) = Some (string_bytes text)
text_in_layer _ = None

-- a scalar's text
abbrev pub text_of_node : Node → Option (List ℕ)
text_of_node node = text_in_layer (out-Node node)

abbrev pub style_in_layer : Node-F Node → Option ScalarStyle
style_in_layer (Node-F.Scalar text style id tag) = Some style
style_in_layer _ = None

-- how a scalar is written
abbrev pub style_of_node : Node → Option ScalarStyle
style_of_node node = style_in_layer (out-Node node)

abbrev pub tag_in_layer : Node-F Node → Option Tag
tag_in_layer (Node-F.Alias id) = None
tag_in_layer (Node-F.Scalar text style id tag) = tag
tag_in_layer (Node-F.Seq id tag nodes) = tag
tag_in_layer (Node-F.Map id tag pairs) = tag

abbrev pub tag_of_node : Node → Option Tag
tag_of_node node = tag_in_layer (out-Node node)

-- an id of an anchor; 0 is none
abbrev pub some_anchor : ℕ → Option ℕ
some_anchor zero = None
some_anchor (suc id) = Some (suc id)

abbrev pub anchor_in_layer : Node-F Node → Option ℕ
anchor_in_layer (Node-F.Alias id) = None
anchor_in_layer (Node-F.Scalar text style id tag) = some_anchor id
anchor_in_layer (Node-F.Seq id tag nodes) = some_anchor id
anchor_in_layer (Node-F.Map id tag pairs) = some_anchor id

-- the id of a node's anchor
abbrev pub anchor_of_node : Node → Option ℕ
anchor_of_node node = anchor_in_layer (out-Node node)

abbrev pub alias_in_layer : Node-F Node → Option ℕ
alias_in_layer (Node-F.Alias id) = Some id
alias_in_layer _ = None

-- the id of the anchor that an alias stands for
abbrev pub alias_of_node : Node → Option ℕ
alias_of_node node = alias_in_layer (out-Node node)

-- ## Parts

abbrev pub items_in_layer : Node-F Node → Option (List Node)
items_in_layer (Node-F.Seq id tag nodes) = Some nodes.items
items_in_layer _ = None

-- the nodes of a sequence
abbrev pub items_of_node : Node → Option (List Node)
items_of_node node = items_in_layer (out-Node node)

abbrev pub pairs_in_layer : Node-F Node → Option (List (Node × Node))
pairs_in_layer (Node-F.Map id tag pairs) = Some pairs.items
pairs_in_layer _ = None

-- the pairs of a mapping
abbrev pub pairs_of_node : Node → Option (List (Node × Node))
pairs_of_node node = pairs_in_layer (out-Node node)

abbrev pub is_this_text : List ℕ → Option (List ℕ) → Bool
is_this_text key (Some text) = bytes_eq text key
is_this_text key None = false

-- the value of the first of these pairs whose key is a scalar with this text
abbrev pub first_value : List ℕ → List (Node × Node) → Option Node
first_value key [] = None
first_value key (pair ∷ pairs) =
    cond (is_this_text key (text_of_node pair.0)) (Some pair.1) (first_value key pairs)

-- which of these pairs is the first with such a key, from 0
abbrev pub first_pair : List ℕ → List (Node × Node) → Option ℕ
first_pair key [] = None
first_pair key (pair ∷ pairs) =
    cond (is_this_text key (text_of_node pair.0)) (Some zero) (option_map suc (first_pair key pairs))

abbrev pub value_among : List ℕ → Option (List (Node × Node)) → Option Node
value_among key (Some pairs) = first_value key pairs
value_among key None = None

-- the value in a mapping of the first key that is a scalar with this text
abbrev pub value_at_key : List ℕ → Node → Option Node
value_at_key key node = value_among key (pairs_of_node node)
