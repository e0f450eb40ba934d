-- Maps from texts, as lists of names.
use Rattle.std.specs.Prelude.{ℕ, List, [], ◌∷◌, Option, Some, None, map, String, string_bytes}
use Rattle.std.specs.Arc.{arc_value}
use Rattle.std.specs.declared.sync.Arc.{Arc}
use Rattle.std.specs.List.{fold}
use Rattle.std.specs.BTreeMap.{BTreeMap}
use Rattle.std.specs.BTreeSet.{BTreeSet}
use Rattle.saphyr_machine.specs.declared.name_list.NameList.{NameList}
use Rattle.saphyr_machine.specs.declared.name_map.NameMap.{NameMap}
use Rattle.saphyr_machine.specs.ListedNames.{with_id}
use Rattle.saphyr_machine.specs.Steps.Machine.{Names, with_meaning}

abbrev pub ids_of : {A : Type 0} → BTreeMap (String A) ℕ → Names ℕ
ids_of {A} m = map (λ (e : String A × ℕ). (string_bytes e.0, e.1)) m.entries

-- names with those that were given ids after them, the latest last
abbrev pub with_listed : List (List ℕ × ℕ) → Names ℕ → Names ℕ
with_listed listed names = fold (λ (ns : Names ℕ) (e : List ℕ × ℕ). with_meaning e.0 e.1 ns) names listed

-- the names of anchors, the latest last
abbrev pub listed_names : NameList → List (List ℕ × ℕ)
listed_names r = map (with_id r.bytes.items) r.names.items

-- the names of a map in front of others, which they replace
abbrev pub laid_over : Names ℕ → Names ℕ → Names ℕ
laid_over [] names = names
laid_over (e ∷ es) names = with_meaning e.0 e.1 (laid_over es names)

-- what copies share
abbrev pub shared_ids : {A B : Type 0} → Option (Arc (BTreeMap (String A) ℕ) B) → Names ℕ
shared_ids None = []
shared_ids (Some shared) = ids_of (arc_value shared)

abbrev pub mapped_ids : NameMap → Names ℕ
mapped_ids m = laid_over (ids_of m.own) (shared_ids m.shared)

abbrev pub texts_of : {A : Type 0} → BTreeMap (String A) (String A) → Names (List ℕ)
texts_of {A} m = map (λ (e : String A × String A). (string_bytes e.0, string_bytes e.1)) m.entries

abbrev pub names_of : {A : Type 0} → BTreeSet (String A) → List (List ℕ)
names_of {A} s = map (λ (k : String A). string_bytes k) s.keys
