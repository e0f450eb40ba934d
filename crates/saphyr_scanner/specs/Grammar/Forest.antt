-- What a text stands for: documents, and in each a tree of nodes (YAML 1.2.2, chapter 3).
-- Every text here is a list of Unicode characters, read as the standard reads it: scalars are folded and
-- their escapes resolved, and so are the percent escapes of tags and prefixes.
use Rattle.std.specs.Prelude.{◌≢◌, ℕ, ◌+◌, max, Bool, false, List, [], ◌∷◌, ◌++◌, Option, None, codes, encode_utf8_all}
pub use Rattle.saphyr_scalar.specs.declared.scalar.style.ScalarStyle.{ScalarStyle}
pub use Rattle.saphyr_scalar.specs.declared.scalar.style.ScalarStyle.TheVariants.{Plain, SingleQuoted, DoubleQuoted, Literal, Folded}

-- how a scalar is written (7.3, 8.1)
abbrev pub Style : Type 0
Style = ScalarStyle

-- the handle of a tag (6.8.2.1): `!`, `!!`, or `!word!` with its word
pub data Handle : Type 0 where
  Primary : Handle
  Secondary : Handle
  Named : List ℕ → Handle

-- A tag (6.9.1): `!` alone, `!<uri>`, or a handle with a suffix.
-- The uri and the suffix are decoded: a percent escape is as the character that it encodes.
pub data Tag : Type 0 where
  NonSpecific : Tag
  Verbatim : List ℕ → Tag
  Shorthand : Handle → List ℕ → Tag

-- an anchor's name and a tag, each optional (6.9)
pub record Properties : Type 0 where
  pub anchor : Option (List ℕ)
  pub tag : Option Tag

abbrev pub no_properties : Properties
no_properties = record { anchor = None; tag = None }

-- an anchor, a tag or both
abbrev pub HasOne : Option (List ℕ) → Option Tag → Type 0
HasOne None None = ⊥
HasOne _ _ = Unit {0}

abbrev pub HasProperty : Properties → Type 0
HasProperty p = HasOne p.anchor p.tag

-- a node, the nodes of a sequence, and the pairs of a mapping, each a key and a value (3.2.1)
mutual
  pub data Node : Type 0 where
    Alias : List ℕ → Node
    Scalar : Properties → Style → List ℕ → Node
    Seq : Properties → Nodes → Node
    Map : Properties → Pairs → Node

  pub data Nodes : Type 0 where
    NoNode : Nodes
    MoreNodes : Node → Nodes → Nodes

  pub data Pairs : Type 0 where
    NoPair : Pairs
    MorePairs : Node → Node → Pairs → Pairs

-- a node that is left out (7.2)
abbrev pub left_out : Node
left_out = Scalar no_properties Plain []

-- A directive (6.8): a version with its two numbers, a handle with its prefix, which is decoded as a
-- tag's suffix is, or a reserved one with its name.
pub data Directive : Type 0 where
  Version : ℕ → ℕ → Directive
  TagPrefix : Handle → List ℕ → Directive
  Reserved : List ℕ → Directive

-- a document (9.1), which is explicit where a `---` begins it
pub record Document : Type 0 where
  pub explicit : Bool
  pub directives : List Directive
  pub node : Node

-- a document of a node alone
abbrev pub bare : Node → Document
bare n = record { explicit = false; directives = []; node = n }

-- the documents of a stream, in order (9.2)
abbrev pub Forest : Type 0
Forest = List Document

-- ## Handles

abbrev pub handle_text : Handle → List ℕ
handle_text Primary = codes "!"
handle_text Secondary = codes "!!"
handle_text (Named word) = codes "!" ++ (word ++ codes "!")

-- A handle in UTF-8. Two handles are the same where these are.
abbrev pub handle_bytes : Handle → List ℕ
handle_bytes handle = encode_utf8_all (handle_text handle)

-- ## At most one version directive, and one tag directive for each handle (6.8.1, 6.8.2)

abbrev pub GoesWith : Directive → Directive → Type 0
GoesWith (Version _ _) (Version _ _) = ⊥
GoesWith (TagPrefix handle _) (TagPrefix other _) = handle_bytes handle ≢ handle_bytes other
GoesWith _ _ = Unit {0}

abbrev pub GoesWithAll : Directive → List Directive → Type 0
GoesWithAll d [] = Unit {0}
GoesWithAll d (other ∷ others) = GoesWith d other × GoesWithAll d others

abbrev pub AreCompatible : List Directive → Type 0
AreCompatible [] = Unit {0}
AreCompatible (d ∷ others) = GoesWithAll d others × AreCompatible others

-- ## How many collections are open at once, at most

abbrev mutual
  pub open_collections : Node → ℕ
  open_collections (Alias _) = 0
  open_collections (Scalar _ _ _) = 0
  open_collections (Seq _ nodes) = open_in_nodes nodes + 1
  open_collections (Map _ pairs) = open_in_pairs pairs + 1

  pub open_in_nodes : Nodes → ℕ
  open_in_nodes NoNode = 0
  open_in_nodes (MoreNodes node others) = max (open_collections node) (open_in_nodes others)

  pub open_in_pairs : Pairs → ℕ
  open_in_pairs NoPair = 0
  open_in_pairs (MorePairs key value others) =
      max (open_collections key) (max (open_collections value) (open_in_pairs others))

abbrev pub open_in_forest : Forest → ℕ
open_in_forest [] = 0
open_in_forest (d ∷ others) = max (open_collections d.node) (open_in_forest others)
