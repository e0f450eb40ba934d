-- What C's calls on trees do and tell.
use Rattle.std.specs.Prelude.{◌≡◌, ℕ, ℤ, ◌-◌, ◌^◌, List, slice_get, Some, None, Result, Ok, Err, option_map, IsUtf8}
use Rattle.std.specs.Prelude as std
use mathlib.Core.Option.{Option, none, some}
use Rattle.saphyr_scalar.specs.declared.scalar.position.Marker.{Marker}
use Rattle.saphyr_parser.specs.Types.Fault.{Fault}
use Rattle.saphyr_parser.specs.Cursor.{EventCursor, to_come}
use Rattle.yaml_tree.specs.declared.fault.TreeFault.{TreeFault}
use Rattle.yaml_tree.specs.declared.fault.TreeFault.TheVariants as tree
use Rattle.yaml_tree.specs.declared.paths.Step.{Step}
use Rattle.yaml_tree.specs.declared.tally.Limits.{Limits}
use Rattle.yaml_tree.specs.declared.table.NodeTable.{NodeTable}
use Rattle.yaml_tree.specs.declared.table.Root.{Root}
use Rattle.yaml_tree.specs.Leaving.{LeavesParser}
use Rattle.yaml_tree.specs.TableLoading.{LoadsTable}
use Rattle.yaml_tree.specs.Tables.{CountsParts, Event, FindsNumber, HasNoNode, IsEmptyTable, IsMadeOf, IsTable, HasNumber, OfNode}
use Rattle.saphyr_parser_c.specs.declared.inner.Inner.{Inner}
use Rattle.saphyr_parser_c.specs.declared.shown.CEvent.{CEvent}
use Rattle.saphyr_parser_c.specs.declared.source.Source.{Source}
use Rattle.saphyr_parser_c.specs.declared.source.Source.TheVariants as source
use Rattle.saphyr_parser_c.specs.declared.status.Status.{Status}
use Rattle.saphyr_parser_c.specs.declared.status.Status.TheVariants as status
use Rattle.saphyr_parser_c.specs.Exports.{WritesNone}
use Rattle.saphyr_parser_c.specs.Inner.{KeepsTrees}
use Rattle.saphyr_parser_c.specs.Followed.{FollowsAlias, GetsFollowed}
use Rattle.saphyr_parser_c.specs.Inner.{handed}
use Rattle.saphyr_parser_c.specs.Same.{IsSameFault}
use Rattle.saphyr_parser_c.specs.Shown.{HasFields, WritesFault, no_fields, nowhere, fields_of_event}
use Rattle.saphyr_parser_c.specs.Status.{code_of}

-- ## Numbers of nodes

-- the number of no node
abbrev pub IsNowhere : ℕ → Type 0
IsNowhere number = number ≡ 2 ^ 64 - 1

abbrev pub IsNumberOf : std.Option ℕ → ℕ → Type 0
IsNumberOf (Some node) number = number ≡ node
IsNumberOf None number = IsNowhere number

-- ## Loading

abbrev pub IsEmptyEvent : CEvent → Type 0
IsEmptyEvent c = HasFields no_fields nowhere nowhere c

-- a limit is passed at this place
abbrev pub WritesPlace : Marker → Status → CEvent → Type 0
WritesPlace place s c = (s ≡ status.TooLarge) × HasFields no_fields place place c

-- Why nothing was loaded. A fault of the text is kept until the next call, so that its text may be read.
abbrev pub WritesUnloaded : TreeFault → Status → CEvent → Inner → Type 0
WritesUnloaded (tree.Parse f) s c after =
    (g : Fault) × IsSameFault f g × WritesFault g s c × (handed after ≡ Some (Err g))
WritesUnloaded (tree.TooManyNodes place most) s c after = WritesPlace place s c
WritesUnloaded (tree.TooDeep place most) s c after = WritesPlace place s c
WritesUnloaded tree.OutOfMemory s c after = (s ≡ status.NoMemory) × IsEmptyEvent c
WritesUnloaded tree.NotFresh s c after = (s ≡ status.Late) × IsEmptyEvent c

-- all stays, if it isn't a fault of the text
abbrev pub KeepsElse : TreeFault → Inner → Inner → Type 0
KeepsElse (tree.Parse f) before after = Unit {0}
KeepsElse _ before after = after ≡ before

-- all stays, but that a fault of the text is what was handed out last
abbrev pub KeepsButFault : TreeFault → Inner → Inner → Type 0
KeepsButFault f before after = (after.source ≡ before.source) × (after.shown ≡ before.shown)
    × KeepsTrees before after × KeepsElse f before after

-- the documents are those of `load_table`, or there are none
abbrev pub WritesLoaded : Result NodeTable TreeFault → Status → CEvent → Inner → Type 0
WritesLoaded (Ok table) s c after = (s ≡ status.Done) × IsEmptyEvent c × (after.table ≡ table)
WritesLoaded (Err f) s c after = WritesUnloaded f s c after × IsEmptyTable after.table

-- Of a text in pieces not all trees are loaded at once. What was shown stays to be handed out.
abbrev pub DropsTrees : Inner → Status → CEvent → Inner → Type 0
DropsTrees before s c after =
    (s ≡ status.Late) × IsEmptyEvent c × IsEmptyTable after.table × (after ≡ record before { table = after.table })

abbrev pub LoadsFrom : Limits → Source → Inner → Status → CEvent → Inner → Type 0
LoadsFrom limits (source.Whole old) before s c after =
    (new : EventCursor) × (result : Result NodeTable TreeFault) × (after.source ≡ source.Whole new)
    × LoadsTable limits result (to_come old) (to_come new) × LeavesParser result old new × WritesLoaded result s c after
LoadsFrom limits (source.Pieces old) before s c after = DropsTrees before s c after

abbrev pub LoadsToC : Limits → Inner → Status → CEvent → Inner → Type 0
LoadsToC limits before s c after = LoadsFrom limits before.source before s c after

abbrev pub LoadsTrees : Limits → Option Inner → ℤ → CEvent → Option Inner → Type 0
LoadsTrees limits none code c new = WritesNone code c new
LoadsTrees limits (some old) code c new =
    (inner : Inner) × (s : Status) × (new ≡ some inner) × (code ≡ code_of s) × LoadsToC limits old s c inner

-- ## Questions

-- It is answered by the trees that the parser has, and all stays; without a parser there is no answer.
abbrev pub Asks : (NodeTable → Type 0) → Type 0 → Option Inner → Option Inner → Type 0
Asks answers missing none new = missing × (new ≡ none)
Asks answers missing (some old) new = answers old.table × (new ≡ some old)

abbrev pub number_in : std.Option Root → std.Option ℕ
number_in root = option_map (λ (r : Root). r.number) root

-- the root of the document with this index
abbrev pub TellsRoot : ℕ → ℕ → NodeTable → Type 0
TellsRoot index result table = IsNumberOf (number_in (slice_get table.roots.items index)) result

abbrev pub expanded_in : std.Option Root → ℕ
expanded_in (Some root) = root.expanded
expanded_in None = 0

abbrev pub Expands : ℕ → ℕ → NodeTable → Type 0
Expands index result table = result ≡ expanded_in (slice_get table.roots.items index)

-- how many items or pairs the node has
abbrev pub CountsAt : ℕ → ℕ → NodeTable → Type 0
CountsAt number result table = OfNode table number (λ own. CountsParts own result) × (HasNoNode number table → result ≡ 0)

-- It is the number of the part to which a step leads from the node with this number. If there is no such part, or no
-- such node, it is none.
abbrev pub LeadsToPart : ℕ → Step → ℕ → NodeTable → Type 0
LeadsToPart number step result table = (found : std.Option ℕ) × IsNumberOf found result
    × OfNode table number (λ own. HasNumber own number step found) × (HasNoNode number table → found ≡ None)

-- the value of a key, which is none if the bytes are no text
abbrev pub Gets : ℕ → List ℕ → ℕ → NodeTable → Type 0
Gets number key result table = (found : std.Option ℕ) × IsNumberOf found result
    × (IsUtf8 key → GetsFollowed number key found table) × ((IsUtf8 key → ⊥) → found ≡ None)

-- the node that an alias names, and any other node itself
abbrev pub LeadsOn : ℕ → ℕ → NodeTable → Type 0
LeadsOn number result table = (found : std.Option ℕ) × IsNumberOf found result × FollowsAlias number found table

-- the node of an anchor
abbrev pub Finds : ℕ → ℕ → NodeTable → Type 0
Finds id result table = (found : std.Option ℕ) × IsNumberOf found result
    × ((es : List Event) → IsTable es table → FindsNumber es id found)

-- ## What is told of a node

-- only the anchor and what is told of the tag are written
abbrev pub IsSameButProperties : CEvent → CEvent → Type 0
IsSameButProperties old new = new ≡ record old {
  anchor = new.anchor;
  has_tag = new.has_tag;
  tag_handle = new.tag_handle;
  tag_suffix = new.tag_suffix;
}

-- its first event, from the start of its first span to the end of its last
pub record WritesPlaced (s : Status) (c : CEvent) (own : List Event) : Type 0 where
  pub first : Event
  pub parts : List (List Event)
  pub last : Event
  pub made : IsMadeOf own first parts last
  pub is_there : s ≡ status.Event
  pub fields : HasFields (fields_of_event first.0) first.1.start last.1.end c

abbrev pub WritesNothing : Status → CEvent → Type 0
WritesNothing s c = (s ≡ status.End) × IsEmptyEvent c

abbrev pub WritesNode : ℕ → Status → CEvent → NodeTable → Type 0
WritesNode number s c table = OfNode table number (WritesPlaced s c) × (HasNoNode number table → WritesNothing s c)

abbrev pub WritesAt : ℕ → Option Inner → ℤ → CEvent → Option Inner → Type 0
WritesAt number none code c new = WritesNone code c new
WritesAt number (some old) code c new =
    (s : Status) × (new ≡ some old) × (code ≡ code_of s) × WritesNode number s c old.table
