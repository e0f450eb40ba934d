-- The node that an alias stands for (YAML 1.2.2, 7.1), and the value of a key where aliases are followed.
use Rattle.std.specs.Prelude.{◌≡◌, ◌<◌, ℕ, Bool, true, false, List, [], ◌∷◌, Option, Some, None}
use Rattle.saphyr_parser.specs.Events.{Happening, Alias, Scalar}
use Rattle.yaml_tree.specs.declared.paths.Step.TheVariants.{Key, Value}
use Rattle.yaml_tree.specs.declared.table.NodeTable.{NodeTable}
use Rattle.yaml_tree.specs.Accessing.{is_this_text}
use Rattle.yaml_tree.specs.Tables.{Event, FindsNumber, HasNoNode, IsNodeAt, IsTable, HasNumber, nodes_begun}

-- ## The node that an alias names

-- the id of the anchor that an alias names
abbrev pub named_by : Happening → Option ℕ
named_by (Alias id) = Some id
named_by _ = None

abbrev pub named_in : List Event → Option ℕ
named_in [] = None
named_in (e ∷ es) = named_by e.0

-- the node with the anchor that an alias names, or none; of any other node its own number
abbrev pub LeadsFrom : List Event → ℕ → Option ℕ → Option ℕ → Type 0
LeadsFrom es number (Some id) found = FindsNumber es id found
LeadsFrom es number None found = found ≡ Some number

-- that of the node with this number
abbrev pub FollowsIn : List Event → ℕ → Option ℕ → Type 0
FollowsIn es number found = (own : List Event) × IsNodeAt es number own × LeadsFrom es number (named_in own) found

abbrev pub FollowsAlias : ℕ → Option ℕ → NodeTable → Type 0
FollowsAlias number found table = ((es : List Event) → IsTable es table → number < nodes_begun es → FollowsIn es number found)
    × (HasNoNode number table → found ≡ None)

-- ## The value of a key

-- there is a node with this number, if it is one
abbrev pub IsThere : List Event → Option ℕ → Type 0
IsThere es (Some number) = number < nodes_begun es
IsThere es None = Unit {0}

-- a scalar's text
abbrev pub scalar_text : Happening → Option (List ℕ)
scalar_text (Scalar text style id tag) = Some text
scalar_text _ = None

abbrev pub text_of_first : List Event → Option (List ℕ)
text_of_first [] = None
text_of_first (e ∷ es) = scalar_text e.0

-- whether it is the number of a scalar with this text
abbrev pub IsTextOfKey : List Event → List ℕ → Option ℕ → Bool → Type 0
IsTextOfKey es text (Some number) b =
    (own : List Event) × IsNodeAt es number own × (b ≡ is_this_text text (text_of_first own))
IsTextOfKey es text None b = b ≡ false

-- whether a node has this text, or the node that it names
abbrev pub HasKeyText : List Event → List ℕ → ℕ → Bool → Type 0
HasKeyText es text number b = (found : Option ℕ) × FollowsIn es number found × IsTextOfKey es text found b

-- whether there is a key at this index, and it has this text
abbrev pub IsKey : List Event → List ℕ → List Event → ℕ → ℕ → Bool → Type 0
IsKey es text own number index true =
    (key : ℕ) × HasNumber own number (Key index) (Some key) × HasKeyText es text key true
IsKey es text own number index false =
    (key : ℕ) → HasNumber own number (Key index) (Some key) → HasKeyText es text key false

-- the pair with this index
abbrev pub IsPairOfParts : List Event → ℕ → ℕ → ℕ → ℕ → Type 0
IsPairOfParts own number index key value =
    HasNumber own number (Key index) (Some key) × HasNumber own number (Value index) (Some value)

-- the value of the first pair whose key has this text
abbrev pub GetsIn : List Event → List ℕ → List Event → ℕ → Option ℕ → Type 0
GetsIn es text own number (Some value) = (index : ℕ) × (key : ℕ) × IsPairOfParts own number index key value
    × HasKeyText es text key true
    × ((before k v : ℕ) → before < index → IsPairOfParts own number before k v → HasKeyText es text k false)
GetsIn es text own number None = (index k v : ℕ) → IsPairOfParts own number index k v → HasKeyText es text k false

-- That of the node that it is or names. If this is no mapping, or there is no such node, it is none.
abbrev pub GetsAt : List Event → List ℕ → Option ℕ → Option ℕ → Type 0
GetsAt es text (Some number) found =
    (own : List Event) × IsNodeAt es number own × GetsIn es text own number found
GetsAt es text None found = found ≡ None

abbrev pub GetsFollowed : ℕ → List ℕ → Option ℕ → NodeTable → Type 0
GetsFollowed number text found table = (followed : Option ℕ) × FollowsAlias number followed table
    × ((es : List Event) → IsTable es table → GetsAt es text followed found)
