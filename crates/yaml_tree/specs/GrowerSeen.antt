-- What contracts see of a table that grows, event after event.
use Rattle.std.specs.Prelude.{◌≡◌, ℕ, List, [], ◌∷◌, ◌++◌, length, take, drop, min, Some, slice_get, slice_set}
use Rattle.saphyr_scalar.specs.declared.scalar.position.Span.{Span}
use Rattle.saphyr_parser.specs.Events.{Happening}
use Rattle.saphyr_parser.specs.Nesting.{happenings}
use Rattle.yaml_tree.specs.declared.expanding.Counter.{Counter}
use Rattle.yaml_tree.specs.declared.growing.Growth.{Growth}
use Rattle.yaml_tree.specs.declared.growing.Level.{Level}
use Rattle.yaml_tree.specs.declared.table.Content.{Content}
use Rattle.yaml_tree.specs.declared.table.Content.TheVariants as content
use Rattle.yaml_tree.specs.declared.table.Entry.{Entry}
use Rattle.yaml_tree.specs.declared.table.Mark.{Mark}
use Rattle.yaml_tree.specs.declared.table.NodeTable.{NodeTable}
use Rattle.yaml_tree.specs.declared.table.Properties.{Properties}
use Rattle.yaml_tree.specs.declared.table.Root.{Root}
use Rattle.yaml_tree.specs.declared.table.Row.{Row}
use Rattle.yaml_tree.specs.CounterSeen.{Count, HoldsCount, counted, counted_all, with_nodes}
use Rattle.yaml_tree.specs.Expanding.{most, no_sizes}
use Rattle.yaml_tree.specs.Tables.{AreEntriesFrom, AreNodes, AreRootsFrom, Event, IsStart, Store, TellsFirst, all_of, nodes_begun, documents_ended, marker_of, numbers, store_of}

-- ## What is stored

-- the second has all of the first, and may have more behind
pub record IsMore (a b : Store) : Type 0 where
  pub more_parts : List ℕ
  pub more_texts : List ℕ
  pub more_properties : List Properties
  pub parts : b.parts ≡ a.parts ++ more_parts
  pub texts : b.texts ≡ a.texts ++ more_texts
  pub properties : b.properties ≡ a.properties ++ more_properties

-- the text is stored in this row, and all else stays
pub record StoresText (text : List ℕ) (row : Row) (old new : NodeTable) : Type 0 where
  pub others : new ≡ record old { texts = new.texts }
  pub texts : new.texts.items ≡ old.texts.items ++ text
  pub first : row.first ≡ length old.texts.items
  pub count : row.count ≡ length text

-- more is stored, and the nodes stay
pub record Stores (old new : NodeTable) : Type 0 where
  pub entries : new.entries ≡ old.entries
  pub roots : new.roots ≡ old.roots
  pub more : IsMore (store_of old) (store_of new)

-- the nodes stay, their properties and their texts
pub record KeepsNodes (old new : NodeTable) : Type 0 where
  pub entries : new.entries ≡ old.entries
  pub roots : new.roots ≡ old.roots
  pub store : store_of new ≡ store_of old

-- more texts are stored, and all else stays
abbrev pub StoresTexts : NodeTable → NodeTable → Type 0
StoresTexts old new = (more : List ℕ) × (new ≡ record old { texts = new.texts })
    × (new.texts.items ≡ old.texts.items ++ more)

-- a content with other parts
abbrev pub with_row : Row → Content → Content
with_row row (content.Alias id) = content.Alias id
with_row row (content.Scalar style text number) = content.Scalar style text number
with_row row (content.Sequence old number) = content.Sequence row number
with_row row (content.Mapping old number) = content.Mapping row number

-- the entry of a collection with its parts and its end
abbrev pub closed : Row → Mark → Entry → Entry
closed row end e = record { content = with_row row e.content; start = e.start; end = end }

-- the entry with this number gets its parts and its end
pub record ClosesEntry (number : ℕ) (row : Row) (end : Mark) (entry : Entry) (old new : NodeTable) : Type 0 where
  pub others : new ≡ record old { entries = new.entries }
  pub entries : new.entries.items ≡ slice_set old.entries.items number (closed row end entry)

-- ## What has begun

-- Behind the events of the base these nodes have ended. Their numbers wait, and their entries are the last.
pub record Inside (es base : List Event) (s : Store) (waiting before : List ℕ) (entries outer : List Entry)
    : Type 0 where
  pub parts : List (List Event)
  pub inner : List Entry
  pub events : es ≡ base ++ all_of parts
  pub nodes : AreNodes parts
  pub waits : waiting ≡ before ++ numbers (nodes_begun base) parts
  pub split : entries ≡ outer ++ inner
  pub first : length outer ≡ nodes_begun base
  pub count : length inner ≡ nodes_begun (all_of parts)
  pub told : AreEntriesFrom es s (nodes_begun base) inner

-- the entry is that of a collection which this event begins
pub record IsOpen (s : Store) (x : Event) (e : Entry) : Type 0 where
  pub start : IsStart x.0
  pub told : TellsFirst s e.content x.0
  pub place : marker_of e.start ≡ x.1.start

-- the collections that are open, the innermost first, in a document behind these events
abbrev pub Holds : List Event → List Event → Store → List Level → List ℕ → List Entry → Type 0
Holds doc es s [] waiting entries =
    (outer : List Entry) × Inside es doc s waiting [] entries outer × AreEntriesFrom doc s 0 outer
Holds doc es s (l ∷ ls) waiting entries = (x : Event) × (around : List Event) × (before : List ℕ) × (e : Entry)
    × (outer : List Entry) × Inside es (around ++ x ∷ []) s waiting before entries (outer ++ e ∷ []) × IsOpen s x e
    × (l.number ≡ length outer) × (l.waiting ≡ length before) × Holds doc around s ls before outer

-- the same, the outermost first
abbrev pub IsStack : List Level → List Level → Type 0
IsStack kept [] = kept ≡ []
IsStack kept (l ∷ ls) = (front : List Level) × (kept ≡ front ++ l ∷ []) × IsStack front ls

abbrev pub no_count : Count
no_count = record { nodes = 0; sizes = no_sizes; levels = [] }

-- the nodes of exactly these events
pub record HasGrown (es : List Event) (g : Growth) : Type 0 where
  pub doc : List Event
  pub since : List Event
  pub split : es ≡ doc ++ since
  pub inside : List Level
  pub stack : IsStack g.levels.items inside
  pub holds : Holds doc es (store_of g.table) inside g.waiting.items g.table.entries.items
  pub counts : HoldsCount g.counter (counted_all (happenings since) no_count)
  pub roots : AreRootsFrom es 0 g.table.roots.items
  pub documents : length g.table.roots.items ≡ documents_ended es
  pub documents_before : length g.table.roots.items ≡ documents_ended doc

-- no document is open
pub record HasNoneOpen (g : Growth) : Type 0 where
  pub levels : g.levels.items ≡ []
  pub waiting : g.waiting.items ≡ []

-- this event more
abbrev pub AddsEvent : Event → Growth → Growth → Type 0
AddsEvent e old new = (es : List Event) → HasGrown es old → HasGrown (es ++ e ∷ []) new

-- a node with this anchor and so many nodes, once it is expanded, is what the event adds to a count
abbrev pub CountsExpanded : Happening → ℕ → ℕ → Counter → Type 0
CountsExpanded h id nodes counter = (c : Count) → HoldsCount counter c
    → (n : ℕ) × (nodes ≡ min most n) × (with_nodes id n c ≡ counted h c)

-- ## Steps

-- a leaf's entry comes, and its number waits
pub record AddsLeaf (what : Content) (span : Span) (old new : Growth) : Type 0 where
  pub entry : Entry
  pub levels : new.levels ≡ old.levels
  pub counter : new.counter ≡ old.counter
  pub table : new.table ≡ record old.table { entries = new.table.entries }
  pub entries : new.table.entries.items ≡ old.table.entries.items ++ entry ∷ []
  pub waiting : new.waiting.items ≡ old.waiting.items ++ length old.table.entries.items ∷ []
  pub content : entry.content ≡ what
  pub start : marker_of entry.start ≡ span.start
  pub end : marker_of entry.end ≡ span.end

-- a collection's entry comes, and the collection is open
pub record OpensLevel (what : Content) (span : Span) (old new : Growth) : Type 0 where
  pub entry : Entry
  pub level : Level
  pub levels : new.levels.items ≡ old.levels.items ++ level ∷ []
  pub number : level.number ≡ length old.table.entries.items
  pub before : level.waiting ≡ length old.waiting.items
  pub counter : new.counter ≡ old.counter
  pub table : new.table ≡ record old.table { entries = new.table.entries }
  pub entries : new.table.entries.items ≡ old.table.entries.items ++ entry ∷ []
  pub waiting : new.waiting ≡ old.waiting
  pub content : entry.content ≡ what
  pub start : marker_of entry.start ≡ span.start

-- the innermost collection gets the numbers that wait as its parts, and its own waits
pub record EndsLevel (span : Span) (old new : Growth) : Type 0 where
  pub level : Level
  pub row : Row
  pub end : Mark
  pub entry : Entry
  pub levels : old.levels.items ≡ new.levels.items ++ level ∷ []
  pub counter : new.counter ≡ old.counter
  pub parts : new.table.parts.items ≡ old.table.parts.items ++ drop level.waiting old.waiting.items
  pub waiting : new.waiting.items ≡ take level.waiting old.waiting.items ++ level.number ∷ []
  pub first : row.first ≡ length old.table.parts.items
  pub count : row.count ≡ length (drop level.waiting old.waiting.items)
  pub there : slice_get old.table.entries.items level.number ≡ Some entry
  pub entries : new.table.entries.items ≡ slice_set old.table.entries.items level.number (closed row end entry)
  pub texts : new.table.texts ≡ old.table.texts
  pub properties : new.table.properties ≡ old.table.properties
  pub roots : new.table.roots ≡ old.table.roots
  pub place : marker_of end ≡ span.end

-- the number of the only node that waits is that of a root
pub record EndsDocument (old new : Growth) : Type 0 where
  pub root : Root
  pub before : old.levels.items ≡ []
  pub waiting : old.waiting.items ≡ root.number ∷ []
  pub between : HasNoneOpen new
  pub table : new.table ≡ record old.table { roots = new.table.roots }
  pub roots : new.table.roots.items ≡ old.table.roots.items ++ root ∷ []
  pub expanded : root.expanded ≡ old.counter.nodes
  pub counter : HoldsCount new.counter no_count
