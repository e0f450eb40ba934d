-- The keys of the mappings that are open, and which of them are twice.
use Rattle.std.specs.Prelude.{◌≡◌, ℕ, List, [], ◌∷◌, ◌++◌, Option, Some, None, option_map, Result, IfOk, OnOk}
use Rattle.std.specs.Ordering.{ordering_then, nat_cmp}
use Rattle.std.specs.declared.alloc.AllocError.{AllocError}
use Rattle.std.specs.declared.cmp.Ordering.{Ordering}
use Rattle.std.specs.Cmp.Lexicographic.{slice_cmp}
use Rattle.std.specs.Map.{lookup}
use Rattle.std.specs.BTreeMap.{insert_entry, is_at}
use Rattle.saphyr_parser.specs.Words.Marker.{Marker}
use Rattle.saphyr_parser.specs.Words.Span.{Span}
use Rattle.saphyr_parser.specs.Events.{ResolvedTag, Happening, Alias, Scalar, SequenceStart, SequenceEnd, MappingStart, MappingEnd}
use Rattle.yaml_check.specs.declared.keys.Next.{Next}
use Rattle.yaml_check.specs.declared.keys.Next.TheVariants as next
use Rattle.yaml_check.specs.declared.warning.PlacedWarning.{PlacedWarning}
use Rattle.yaml_check.specs.declared.warning.Warning.TheVariants as warning

-- the text of a scalar and the name of its tag, empty where it has none
abbrev pub Key : Type 0
Key = List ℕ × List ℕ

abbrev pub tag_name : Option ResolvedTag → List ℕ
tag_name None = []
tag_name (Some tag) = tag.handle ++ tag.suffix

abbrev pub key_of : List ℕ → Option ResolvedTag → Key
key_of text tag = (text, tag_name tag)

-- keys by their texts, and equal texts by their tags
abbrev pub key_cmp : Key → Key → Ordering
key_cmp k q = ordering_then (slice_cmp nat_cmp k.0 q.0) (slice_cmp nat_cmp k.1 q.1)

-- where an equal key comes first among others, if one does
abbrev pub first_among : Key → List (Key × Marker) → Option Marker
first_among key places = lookup (is_at (key_cmp key)) places

abbrev pub keep_first : Option Marker → Key → Marker → List (Key × Marker) → List (Key × Marker)
keep_first (Some first) key place places = places
keep_first None key place places = insert_entry key_cmp places key place

-- a key with its place among others, unless an equal one is there
abbrev pub with_first_among : Key → Marker → List (Key × Marker) → List (Key × Marker)
with_first_among key place places = keep_first (first_among key places) key place places

-- A key is added with its place to others, unless memory runs out: what is returned is where an equal one comes first.
pub record AddsKey (key : Key) (place : Marker) (old : List (Key × Marker))
    (result : Result (Option Marker) AllocError) (new : List (Key × Marker)) : Type 0 where
  pub first : IfOk result (λ first. first ≡ first_among key old)
  pub kept : OnOk result (new ≡ with_first_among key place old)

-- What the next node is in a collection, and where each key comes first that it has so far.
pub record KeyLevel : Type 0 where
  pub next : Next
  pub places : List (Key × Marker)

abbrev pub new_level : Next → KeyLevel
new_level n = record { next = n; places = [] }

abbrev pub next_behind : Next → Next
next_behind next.Entry = next.Entry
next_behind next.Key = next.Value
next_behind next.Value = next.Key

abbrev pub behind_node : KeyLevel → KeyLevel
behind_node l = record { next = next_behind l.next; places = l.places }

abbrev pub with_first_place : Key → Marker → KeyLevel → KeyLevel
with_first_place key place l = record { next = l.next; places = with_first_among key place l.places }

-- of a scalar that is a key: where an equal key comes first in its mapping, if one does
abbrev pub first_if : Next → Key → KeyLevel → Option Marker
first_if next.Key key l = first_among key l.places
first_if _ key l = None

abbrev pub equal_key_place : Key → KeyLevel → Option Marker
equal_key_place key l = first_if l.next key l

abbrev pub with_key_if : Next → Key → Marker → KeyLevel → KeyLevel
with_key_if next.Key key place l = with_first_place key place l
with_key_if _ key place l = l

abbrev pub level_behind_scalar : Key → Marker → KeyLevel → KeyLevel
level_behind_scalar key place l = behind_node (with_key_if l.next key place l)

-- The innermost collection, and what it is in, the innermost first. The last stands for the stream.
pub record KeysOpen : Type 0 where
  pub here : KeyLevel
  pub outer : List KeyLevel

abbrev pub no_keys : KeysOpen
no_keys = record { here = new_level next.Entry; outer = [] }

abbrev pub with_here : KeyLevel → KeysOpen → KeysOpen
with_here l k = record { here = l; outer = k.outer }

abbrev pub keys_inside : Next → KeysOpen → KeysOpen
keys_inside n k = record { here = new_level n; outer = k.here ∷ k.outer }

abbrev pub keys_ended_in : List KeyLevel → KeysOpen → KeysOpen
keys_ended_in [] k = k
keys_ended_in (l ∷ ls) k = record { here = behind_node l; outer = ls }

abbrev pub keys_outside : KeysOpen → KeysOpen
keys_outside k = keys_ended_in k.outer k

abbrev pub keys_behind : Happening → Span → KeysOpen → KeysOpen
keys_behind (Alias id) span k = with_here (behind_node k.here) k
keys_behind (Scalar text style id tag) span k = with_here (level_behind_scalar (key_of text tag) span.start k.here) k
keys_behind (SequenceStart id tag) span k = keys_inside next.Entry k
keys_behind SequenceEnd span k = keys_outside k
keys_behind (MappingStart id tag) span k = keys_inside next.Key k
keys_behind MappingEnd span k = keys_outside k
keys_behind _ span k = k

-- what is told of an event
abbrev pub key_warning : KeysOpen → Happening → Span → Option PlacedWarning
key_warning k (Scalar text style id tag) span =
    option_map (λ first. record { span = span; warning = warning.DuplicateKey first })
    (equal_key_place (key_of text tag) k.here)
key_warning _ _ _ = None
