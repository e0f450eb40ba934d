-- Which entries of a folder are checked, and in which order.
use Rattle.std.specs.Prelude.{◌≡◌, ◌↔◌, ℕ, Bool, false, not, ◌||◌, ◌==◌, if◌then◌else◌, List, [], ◌∷◌, ◌++◌, map, Option, None, Some, IsTrue, codes, string_bytes}
use Rattle.std.specs.List.{ends_with, filter, starts_with}
use Rattle.std.specs.List.Sorted.{IsPermutation, IsSortedBy}
use Rattle.std.specs.Cmp.Lexicographic.{slice_cmp}
use Rattle.std.specs.Ordering.{is_lt, nat_cmp}
use Rattle.std.specs.Str.{IsUtf8}
use Rattle.std.specs.Str.Lossy.{utf8_lossy}
use Rattle.yaml_check.specs.declared.folders.Entry.{Entry}
use Rattle.yaml_check.specs.declared.folders.FileName.{FileName}
use Rattle.yaml_check.specs.declared.folders.Kind.{Kind}
use Rattle.yaml_check.specs.declared.folders.Kind.TheVariants as kind

-- a name with these bytes: its text is theirs, with U+FFFD in the place of what is not UTF-8
pub record NamesFile (bytes : List ℕ) (name : FileName) : Type 0 where
  pub text : string_bytes name.text ≡ utf8_lossy bytes
  pub is_utf8 : IsTrue name.is_utf8 ↔ IsUtf8 bytes

-- files with one of the two endings, and folders that are not hidden
abbrev pub is_taken_as : Kind → List ℕ → Bool
is_taken_as kind.File name = ends_with ◌==◌ name (codes ".yaml") || ends_with ◌==◌ name (codes ".yml")
is_taken_as kind.Folder name = not (starts_with ◌==◌ name (codes "."))
is_taken_as kind.Other name = false

abbrev pub is_taken : Entry → Bool
is_taken e = is_taken_as e.kind (string_bytes e.name.text)

-- the first comes after the second, by the bytes of their names
abbrev pub comes_after : Entry → Entry → Bool
comes_after a b = is_lt (slice_cmp nat_cmp (string_bytes b.name.text) (string_bytes a.name.text))

-- all entries of a folder that are checked and no others, each once, by their names; the last is the next that is
pub record AreChecked (listed taken : List Entry) : Type 0 where
  pub all : IsPermutation (filter is_taken listed) taken
  pub order : IsSortedBy comes_after taken

-- the path of a folder, as it is before a name in it
abbrev pub with_slash : List ℕ → List ℕ
with_slash folder = if ends_with ◌==◌ folder (codes "/") then folder else folder ++ codes "/"

-- What contracts see of an entry: the path or the name, whether that is UTF-8, and what has it.
pub record PathSeen : Type 0 where
  pub text : List ℕ
  pub is_utf8 : Bool
  pub kind : Kind

abbrev pub path_seen : Entry → PathSeen
path_seen e = record { text = string_bytes e.name.text; is_utf8 = e.name.is_utf8; kind = e.kind }

-- the same of an entry of a folder, with its path
abbrev pub below : List ℕ → Entry → PathSeen
below folder e =
    record { text = with_slash folder ++ string_bytes e.name.text; is_utf8 = e.name.is_utf8; kind = e.kind }

-- the entries come behind what was, with their paths
abbrev pub AddsEntries : List ℕ → List Entry → List Entry → List Entry → Type 0
AddsEntries folder entries old new = map path_seen new ≡ map path_seen old ++ map (below folder) entries

-- The last entry is taken, or none was left.
abbrev pub TakesNext : Option Entry → List Entry → List Entry → Type 0
TakesNext None old new = (old ≡ []) × (new ≡ [])
TakesNext (Some e) old new = old ≡ new ++ (e ∷ [])

-- A folder is entered: what is checked of it comes behind what was still to come, of which the last is the next.
pub record EntersFolder (folder : List ℕ) (listed old new : List Entry) : Type 0 where
  pub taken : List Entry
  pub are : AreChecked listed taken
  pub added : AddsEntries folder taken old new
