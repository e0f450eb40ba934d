-- A walk through a tree: what it visits of the tree's events (YAML 1.2.2, 3.1), each with its span.
use Rattle.std.specs.Prelude.{◌≡◌, ℕ, zero, suc, ◌+◌, ◌-◌, List, [], ◌∷◌, ◌++◌, length, zip, Option, Some, None, Result, Ok, Err}
use Rattle.std.specs.List.{flat_map}
use Rattle.std.specs.Borrow.{Bor}
use Rattle.std.specs.declared.alloc.AllocError.{AllocError}
use Rattle.saphyr_scalar.specs.declared.scalar.position.Span.{Span}
use Rattle.saphyr_parser.specs.Events.{Happening, SequenceStart, SequenceEnd, MappingStart, MappingEnd}
use Rattle.saphyr_parser.specs.Nesting.{happenings}
use Rattle.yaml_tree.specs.declared.node.Node.{Node}
use Rattle.yaml_tree.specs.declared.paths.Step.{Step}
use Rattle.yaml_tree.specs.declared.paths.Step.TheVariants as steps
use Rattle.yaml_tree.specs.declared.walk.Rest.{Rest}
use Rattle.yaml_tree.specs.declared.walk.Rest.TheVariants.{Items, Pairs, Value}
use Rattle.yaml_tree.specs.declared.walk.Turn.{Turn}
use Rattle.yaml_tree.specs.declared.walk.Turn.TheVariants.{Enter, Leave, Over}
use Rattle.yaml_tree.specs.declared.walk.Visit.{Visit}
use Rattle.yaml_tree.specs.declared.walk.Walk.{Walk}
use Rattle.yaml_tree.specs.Unloading.{node_events, pair_events}
use Rattle.yaml_tree.specs.Accessing.{items_of_node, pairs_of_node}
use Rattle.yaml_tree.specs.Following.{at_step, behind_step, LeadsTo}

-- a collection ends
abbrev pub IsCollectionEnd : Happening → Type 0
IsCollectionEnd SequenceEnd = Unit {0}
IsCollectionEnd MappingEnd = Unit {0}
IsCollectionEnd _ = ⊥

abbrev pub AreCollectionEnds : List (Happening × Span) → Type 0
AreCollectionEnds [] = Unit {0}
AreCollectionEnds (e ∷ es) = IsCollectionEnd e.0 × AreCollectionEnds es

-- how many collections an event begins, and how many it ends
abbrev pub opening : Happening → ℕ
opening (SequenceStart id tag) = 1
opening (MappingStart id tag) = 1
opening _ = 0

abbrev pub closing : Happening → ℕ
closing SequenceEnd = 1
closing MappingEnd = 1
closing _ = 0

abbrev pub openings : List Happening → ℕ
openings [] = 0
openings (h ∷ hs) = opening h + openings hs

abbrev pub closings : List Happening → ℕ
closings [] = 0
closings (h ∷ hs) = closing h + closings hs

-- The next of these events begins the node, whose events they begin with; and so many collections are around it as
-- end after it and don't begin there.
pub record BeginsNode (node : Node) (depth : ℕ) (events others : List Happening) : Type 0 where
  pub start : Happening
  pub next : events ≡ start ∷ others
  pub behind : List Happening
  pub own : events ≡ node_events node ++ behind
  pub around : closings behind ≡ depth + openings behind

-- ## What is to be visited

abbrev pub rest_events : Rest → List Happening
rest_events (Items all left) = flat_map node_events left.now ++ SequenceEnd ∷ []
rest_events (Pairs all left) = flat_map pair_events left.now ++ MappingEnd ∷ []
rest_events (Value value all left) = node_events value.now ++ (flat_map pair_events left.now ++ MappingEnd ∷ [])

-- of the collections that are open, the outermost first
abbrev pub frames_events : List Rest → List Happening
frames_events [] = []
frames_events (rest ∷ rests) = frames_events rests ++ rest_events rest

abbrev pub root_events : Option (Bor Node) → List Happening
root_events None = []
root_events (Some root) = node_events root.now

-- the events of all that a walk has still to visit
abbrev pub to_visit : Walk → List Happening
to_visit w = root_events w.root ++ frames_events w.levels.items

-- the same with their spans, as far as there are any
abbrev pub left_to_visit : Walk → List (Happening × Span)
left_to_visit w = zip (to_visit w) w.spans.now

-- ## Where a walk is

-- the step to the last of so many parts
abbrev pub last_step : (ℕ → Step) → ℕ → List Step
last_step step zero = []
last_step step (suc n) = step n ∷ []

-- the step to the part of a collection that began last; none before the first of them
abbrev pub step_in : Rest → List Step
step_in (Items all left) = last_step steps.Index (length all.now - length left.now)
step_in (Pairs all left) = last_step steps.Value (length all.now - length left.now)
step_in (Value value all left) = last_step steps.Key (length all.now - length left.now)

-- the path to the node that began last, through the collections that are open
abbrev pub path_of : Walk → List Step
path_of w = flat_map step_in w.levels.items

-- this is what is left of the node's parts
abbrev pub IsRestOf : Rest → Node → Type 0
IsRestOf (Items all left) node =
    (items_of_node node ≡ Some all.now) × (passed : List Node) × (all.now ≡ passed ++ left.now)
IsRestOf (Pairs all left) node =
    (pairs_of_node node ≡ Some all.now) × (passed : List (Node × Node)) × (all.now ≡ passed ++ left.now)
IsRestOf (Value value all left) node =
    (pairs_of_node node ≡ Some all.now)
    × (passed : List (Node × Node)) × (key : Node) × (all.now ≡ passed ++ (key, value.now) ∷ left.now)

-- of the node's parts this one began last
pub record BeganLast (rest : Rest) (node part : Node) : Type 0 where
  pub step : Step
  pub is : step_in rest ≡ step ∷ []
  pub leads : at_step step node ≡ Some part
  pub behind : rest_events rest ≡ behind_step step node

-- The part that begins next, and what is left then; or only the collection's end is left.
abbrev pub Splits : Rest → Option (Bor Node × Rest) → Type 0
Splits rest None = (h : Happening) × IsCollectionEnd h × (rest_events rest ≡ h ∷ [])
Splits rest (Some next) = (rest_events rest ≡ node_events next.0.now ++ rest_events next.1)
    × ((node : Node) → IsRestOf rest node → IsRestOf next.1 node × BeganLast next.1 node next.0.now)

-- The first of these collections is the one node, and each further one is the part of the one before it that began
-- last; of the last collection that is the other node.
abbrev pub LeadDown : Node → List Rest → Node → Type 0
LeadDown last [] node = node ≡ last
LeadDown last (rest ∷ rests) node =
    IsRestOf rest node × (part : Node) × BeganLast rest node part × LeadDown last rests part

-- a level is what is left of a collection to which those around it lead
pub record IsLevel (rests : List Rest) (rest : Rest) (root : Node) : Type 0 where
  pub node : Node
  pub leads : LeadDown node rests root
  pub left : IsRestOf rest node

abbrev pub StandBelow : List Rest → Node → Type 0
StandBelow levels root = (rests : List Rest) (rest : Rest) → levels ≡ rests ++ rest ∷ [] → IsLevel rests rest root

abbrev pub HasRoot : Option (Bor Node) → List Rest → Node → Type 0
HasRoot (Some top) levels root = (top.now ≡ root) × (levels ≡ [])
HasRoot None levels root = StandBelow levels root

-- it is a walk through the tree of this node
abbrev pub IsWalkOf : Node → Walk → Type 0
IsWalkOf root w = HasRoot w.root w.levels.items root

-- ## Steps

abbrev pub Turns : Turn → List Happening → List Happening → Type 0
Turns (Enter node depth) old new = BeginsNode node.now depth old new
Turns Leave old new = (h : Happening) × IsCollectionEnd h × (old ≡ h ∷ new)
Turns Over old new = old ≡ []

-- the walk stays in the tree, and its path leads to a node that begins
abbrev pub TurnsWithin : Node → Turn → List Happening → Walk → Type 0
TurnsWithin root (Enter node depth) old new = IsWalkOf root new × LeadsTo (path_of new) root node.now old
TurnsWithin root _ old new = IsWalkOf root new

-- a node begins, after which the events `old` come
abbrev pub Enters : Turn → Node → List Happening → List Happening → ℕ → Type 0
Enters (Enter entered depth) node old new around =
    (entered.now ≡ node) × (depth ≡ around) × (start : Happening) × (node_events node ++ old ≡ start ∷ new)
Enters _ node old new around = ⊥

-- A visit of the next node: only ends of collections are passed before its event, whose span it has, and the path leads
-- to it. Where no visit comes, no node with a span is left. Then, and after lack of memory, no span is left, so that
-- nothing more comes.
abbrev pub Visits : Walk → Option (Result Visit AllocError) → Walk → Type 0
Visits old None new = AreCollectionEnds (left_to_visit old) × (new.spans.now ≡ [])
Visits old (Some (Err e)) new = new.spans.now ≡ []
Visits old (Some (Ok visit)) new =
    (passed : List (Happening × Span)) × (events : List Happening) × AreCollectionEnds passed
    × (to_visit old ≡ happenings passed ++ events) × BeginsNode visit.node.now visit.depth events (to_visit new)
    × (left_to_visit old ≡ passed ++ zip events (visit.span ∷ new.spans.now))
    × ((root : Node) → IsWalkOf root old → IsWalkOf root new × LeadsTo (path_of new) root visit.node.now events)
