-- Tables of nodes (YAML 1.2.2, 3.2.1), right from a text's events: which events each entry tells, and by their places.
use Rattle.std.specs.Prelude.{◌≡◌, ◌⊎◌, ◌<◌, ℕ, zero, suc, ◌+◌, ◌*◌, ◌/◌, Bool, true, false, List, [], ◌∷◌, ◌++◌, length, slice_get, Option, Some, None, min}
use Rattle.std.specs.Option.{option_and_then}
use Rattle.saphyr_scalar.specs.declared.scalar.position.Span.{Span}
use Rattle.saphyr_scalar.specs.declared.scalar.position.Marker.{Marker}
use Rattle.saphyr_parser.specs.Events.{Happening, ResolvedTag, Nothing, StreamStart, StreamEnd, DocumentStart, DocumentEnd, Alias, Scalar, SequenceStart, SequenceEnd, MappingStart, MappingEnd}
use Rattle.saphyr_parser.specs.Nesting.{happenings}
use Rattle.yaml_tree.specs.declared.node.Node.{Node}
use Rattle.yaml_tree.specs.declared.paths.Step.{Step}
use Rattle.yaml_tree.specs.declared.paths.Step.TheVariants.{Index, Key, Value}
use Rattle.yaml_tree.specs.declared.table.Content.{Content}
use Rattle.yaml_tree.specs.declared.table.Content.TheVariants as content
use Rattle.yaml_tree.specs.declared.table.Entry.{Entry}
use Rattle.yaml_tree.specs.declared.table.Mark.{Mark}
use Rattle.yaml_tree.specs.declared.table.NodeTable.{NodeTable}
use Rattle.yaml_tree.specs.declared.table.Properties.{Properties}
use Rattle.yaml_tree.specs.declared.table.Root.{Root}
use Rattle.yaml_tree.specs.declared.table.Row.{Row}
use Rattle.yaml_tree.specs.declared.table.TagRows.{TagRows}
use Rattle.yaml_tree.specs.Expanding.{most, no_sizes, expanded}
use Rattle.yaml_tree.specs.Unloading.{node_events}

-- ## Nodes by their events

-- an event with its place
abbrev pub Event : Type 0
Event = Happening × Span

-- it is a whole node
abbrev pub IsLeafEvent : Happening → Type 0
IsLeafEvent (Alias id) = Unit {0}
IsLeafEvent (Scalar text style id tag) = Unit {0}
IsLeafEvent _ = ⊥

abbrev pub IsStart : Happening → Type 0
IsStart (SequenceStart id tag) = Unit {0}
IsStart (MappingStart id tag) = Unit {0}
IsStart _ = ⊥

abbrev pub IsEnd : Happening → Type 0
IsEnd SequenceEnd = Unit {0}
IsEnd MappingEnd = Unit {0}
IsEnd _ = ⊥

-- it is no event of a node, and no document ends with it
abbrev pub IsBeside : Happening → Type 0
IsBeside Nothing = Unit {0}
IsBeside StreamStart = Unit {0}
IsBeside StreamEnd = Unit {0}
IsBeside (DocumentStart explicit) = Unit {0}
IsBeside _ = ⊥

-- how many nodes an event begins
abbrev pub beginning : Happening → ℕ
beginning (Alias id) = 1
beginning (Scalar text style id tag) = 1
beginning (SequenceStart id tag) = 1
beginning (MappingStart id tag) = 1
beginning _ = 0

-- how many nodes events begin
abbrev pub nodes_begun : List Event → ℕ
nodes_begun [] = 0
nodes_begun (e ∷ es) = beginning e.0 + nodes_begun es

abbrev pub all_of : List (List Event) → List Event
all_of [] = []
all_of (own ∷ others) = own ++ all_of others

mutual
  -- The events of one node. That the kinds of start and end are the same is a promise of the parser.
  pub data IsNode : List Event → Type 0 where
    leaf : (e : Event) → IsLeafEvent e.0 → IsNode (e ∷ [])
    whole : (first : Event) (parts : List (List Event)) (last : Event) → IsStart first.0 → AreNodes parts
        → IsEnd last.0 → IsNode (first ∷ (all_of parts ++ last ∷ []))

  -- the events of nodes, one after the other
  pub data AreNodes : List (List Event) → Type 0 where
    none : AreNodes []
    one_more : (own : List Event) (others : List (List Event)) → IsNode own → AreNodes others → AreNodes (own ∷ others)

-- a node's first event, the events of each of its parts, and its last event, which is the first of a leaf
abbrev pub IsMadeOf : List Event → Event → List (List Event) → Event → Type 0
IsMadeOf own first parts last =
    (IsLeafEvent first.0 × (own ≡ first ∷ []) × (parts ≡ []) × (last ≡ first))
    ⊎ (IsStart first.0 × (own ≡ first ∷ (all_of parts ++ last ∷ [])) × AreNodes parts × IsEnd last.0)

-- ## Numbers

-- A node's number is its place: how many nodes begin before it. These are the events of that node.
pub record IsNodeAt (es : List Event) (number : ℕ) (own : List Event) : Type 0 where
  pub front : List Event
  pub behind : List Event
  pub split : es ≡ front ++ (own ++ behind)
  pub first : nodes_begun front ≡ number
  pub node : IsNode own

-- the numbers of nodes that come one after the other, from the first one's
abbrev pub numbers : ℕ → List (List Event) → List ℕ
numbers n [] = []
numbers n (own ∷ others) = n ∷ numbers (n + nodes_begun own) others

-- ## Entries

-- these stand in a row
abbrev pub StandIn : List ℕ → Row → List ℕ → Type 0
StandIn xs row all = (front : List ℕ) × (behind : List ℕ) × (all ≡ front ++ (xs ++ behind))
    × (length front ≡ row.first) × (length xs ≡ row.count)

abbrev pub MaybeTag : Type 0
MaybeTag = Option ResolvedTag

abbrev pub HasTagRows : List ℕ → Option TagRows → MaybeTag → Type 0
HasTagRows texts (Some rows) (Some tag) = StandIn tag.handle rows.handle texts × StandIn tag.suffix rows.suffix texts
HasTagRows texts None tag = tag ≡ None
HasTagRows texts _ _ = ⊥

-- What is told of nodes beside their entries. It only grows while a table is made.
pub record Store : Type 0 where
  pub parts : List ℕ
  pub texts : List ℕ
  pub properties : List Properties

abbrev pub store_of : NodeTable → Store
store_of t = record { parts = t.parts.items; texts = t.texts.items; properties = t.properties.items }

-- the properties with this number, or none at 0, are this id and this tag
abbrev pub StoresProperties : Store → ℕ → ℕ → MaybeTag → Type 0
StoresProperties s zero id tag = (id ≡ 0) × (tag ≡ None)
StoresProperties s (suc n) id tag = (p : Properties) × (slice_get s.properties n ≡ Some p) × (p.anchor ≡ id)
    × HasTagRows s.texts p.tag tag

abbrev pub HasProperties : NodeTable → ℕ → ℕ → MaybeTag → Type 0
HasProperties t number id tag = StoresProperties (store_of t) number id tag

-- the content tells this of the event that begins the node
abbrev pub TellsFirst : Store → Content → Happening → Type 0
TellsFirst s (content.Alias id) h = h ≡ Alias id
TellsFirst s (content.Scalar style row number) h = (text : List ℕ) × (id : ℕ) × (tag : MaybeTag)
    × (h ≡ Scalar text style id tag) × StandIn text row s.texts × StoresProperties s number id tag
TellsFirst s (content.Sequence row number) h =
    (id : ℕ) × (tag : MaybeTag) × (h ≡ SequenceStart id tag) × StoresProperties s number id tag
TellsFirst s (content.Mapping row number) h =
    (id : ℕ) × (tag : MaybeTag) × (h ≡ MappingStart id tag) × StoresProperties s number id tag

-- it has these numbers of parts in a row
abbrev pub HasParts : Store → Content → List ℕ → Type 0
HasParts s (content.Sequence row number) ns = StandIn ns row s.parts
HasParts s (content.Mapping row number) ns = StandIn ns row s.parts
HasParts s _ ns = ns ≡ []

abbrev pub marker_of : Mark → Marker
marker_of m = record { index = m.index; line = m.line; col = m.col }

-- what the entry of the node with this number and these events tells
pub record TellsNode (s : Store) (number : ℕ) (e : Entry) (own : List Event) : Type 0 where
  pub first : Event
  pub parts : List (List Event)
  pub last : Event
  pub made : IsMadeOf own first parts last
  pub told : TellsFirst s e.content first.0
  pub row : HasParts s e.content (numbers (suc number) parts)
  pub start : marker_of e.start ≡ first.1.start
  pub end : marker_of e.end ≡ last.1.end

-- the entry is that of the node with this number
abbrev pub IsEntryAt : List Event → Store → ℕ → Entry → Type 0
IsEntryAt es s number e = (own : List Event) × IsNodeAt es number own × TellsNode s number e own

abbrev pub AreEntriesFrom : List Event → Store → ℕ → List Entry → Type 0
AreEntriesFrom es s number [] = Unit {0}
AreEntriesFrom es s number (e ∷ others) = IsEntryAt es s number e × AreEntriesFrom es s (suc number) others

-- ## Roots

-- how many documents end
abbrev pub documents_ended_by : Happening → ℕ
documents_ended_by DocumentEnd = 1
documents_ended_by _ = 0

abbrev pub documents_ended : List Event → ℕ
documents_ended [] = 0
documents_ended (e ∷ es) = documents_ended_by e.0 + documents_ended es

-- The document's nodes, once it is expanded (`nodes_once_expanded`). Events of a parser are those of such a root: they
-- nest, which the law `nests_events` says, so starts and ends are of one kind and each key has a value.
abbrev pub IsExpanded : List Event → ℕ → Type 0
IsExpanded own nodes =
    (root : Node) → node_events root ≡ happenings own → nodes ≡ min most (expanded root no_sizes).nodes

-- the root of the document that ends behind so many others
pub record IsRootAt (es : List Event) (index : ℕ) (root : Root) : Type 0 where
  pub front : List Event
  pub own : List Event
  pub last : Event
  pub behind : List Event
  pub split : es ≡ front ++ (own ++ (last ∷ behind))
  pub documents : documents_ended front ≡ index
  pub number : nodes_begun front ≡ root.number
  pub node : IsNode own
  pub ends : last.0 ≡ DocumentEnd
  pub expanded : IsExpanded own root.expanded

abbrev pub AreRootsFrom : List Event → ℕ → List Root → Type 0
AreRootsFrom es index [] = Unit {0}
AreRootsFrom es index (r ∷ others) = IsRootAt es index r × AreRootsFrom es (suc index) others

-- the entries are those of all nodes, and the roots those of all documents
pub record IsTable (es : List Event) (t : NodeTable) : Type 0 where
  pub entries : AreEntriesFrom es (store_of t) 0 t.entries.items
  pub nodes : length t.entries.items ≡ nodes_begun es
  pub roots : AreRootsFrom es 0 t.roots.items
  pub documents : length t.roots.items ≡ documents_ended es

-- ## What a table tells

-- this holds of the node with this number, in whichever events the table is of
abbrev pub OfNode : NodeTable → ℕ → (List Event → Type 0) → Type 0
OfNode t number Holds = (es : List Event) → IsTable es t → number < nodes_begun es
    → (own : List Event) × IsNodeAt es number own × Holds own

-- no node has this number
abbrev pub HasNoNode : ℕ → NodeTable → Type 0
HasNoNode number t = slice_get t.entries.items number ≡ None

-- how many items a sequence has, or how many pairs a mapping
abbrev pub count_of : Happening → ℕ → ℕ
count_of (SequenceStart id tag) n = n
count_of (MappingStart id tag) n = n / 2
count_of _ n = 0

pub record CountsParts (own : List Event) (result : ℕ) : Type 0 where
  pub first : Event
  pub parts : List (List Event)
  pub last : Event
  pub made : IsMadeOf own first parts last
  pub counts : result ≡ count_of first.0 (length parts)

-- which part a step leads to; a mapping's keys and values take turns
abbrev pub part_of_step : Happening → Step → Option ℕ
part_of_step (SequenceStart id tag) (Index n) = Some n
part_of_step (MappingStart id tag) (Key n) = Some (2 * n)
part_of_step (MappingStart id tag) (Value n) = Some (2 * n + 1)
part_of_step _ _ = None

-- the number of that part
pub record HasNumber (own : List Event) (number : ℕ) (step : Step) (result : Option ℕ) : Type 0 where
  pub first : Event
  pub parts : List (List Event)
  pub last : Event
  pub made : IsMadeOf own first parts last
  pub leads : result ≡ option_and_then (slice_get (numbers (suc number) parts)) (part_of_step first.0 step)

-- the id of the anchor that a node has, or 0
abbrev pub id_of_anchor : Happening → ℕ
id_of_anchor (Scalar text style id tag) = id
id_of_anchor (SequenceStart id tag) = id
id_of_anchor (MappingStart id tag) = id
id_of_anchor _ = 0

abbrev pub anchor_in : List Event → ℕ
anchor_in [] = 0
anchor_in (e ∷ es) = id_of_anchor e.0

-- whether it is this id; where it isn't, the id may still be 0, which is none
abbrev pub TellsAnchor : ℕ → ℕ → Bool → Type 0
TellsAnchor id own true = own ≡ id
TellsAnchor id own false = own ≡ id → id ≡ 0

-- a node with this anchor, or there is none
abbrev pub FindsNumber : List Event → ℕ → Option ℕ → Type 0
FindsNumber es zero result = result ≡ None
FindsNumber es id (Some number) = (own : List Event) × IsNodeAt es number own × (anchor_in own ≡ id)
FindsNumber es id None =
    (front behind : List Event) (e : Event) → es ≡ front ++ (e ∷ behind) → id_of_anchor e.0 ≡ id → ⊥

-- a table without nodes
pub record IsEmptyTable (t : NodeTable) : Type 0 where
  pub entries : t.entries.items ≡ []
  pub parts : t.parts.items ≡ []
  pub texts : t.texts.items ≡ []
  pub properties : t.properties.items ≡ []
  pub roots : t.roots.items ≡ []
