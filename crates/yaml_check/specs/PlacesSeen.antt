-- What contracts see of the first place of each key of a mapping.
use Rattle.std.specs.Prelude.{ℕ, List, [], ◌∷◌, map, min, take, Option, option_map, String, string_bytes, Vec}
use Rattle.std.specs.BTreeMap.{insert_entry}
use Rattle.saphyr_parser.specs.Types.Tag.{Tag}
use Rattle.saphyr_parser.specs.Views.Events.{resolved_tag}
use Rattle.saphyr_parser.specs.Words.Marker.{Marker}
use Rattle.yaml_check.specs.declared.first_places.ShortText.{ShortText}
use Rattle.yaml_check.specs.declared.first_places.FirstPlaces.{FirstPlaces}
use Rattle.yaml_check.specs.Keys.{Key, key_cmp, key_of}

abbrev pub short_bytes : ShortText → List ℕ
short_bytes t = take (min t.len 40) t.bytes

-- the key that is a scalar
abbrev pub scalar_key : List ℕ → Option Tag → Key
scalar_key text tag = key_of text (option_map resolved_tag tag)

-- the key that is a short text without a tag
abbrev pub short_key : ShortText → Key
short_key t = (short_bytes t, [])

abbrev pub key_bytes : {X Y : Type 0} → Vec ℕ X × String Y → Key
key_bytes key = (key.0.items, string_bytes key.1)

abbrev pub few_of : List (ShortText × Marker) → List (Key × Marker)
few_of few = map (λ e. (short_key e.0, e.1)) few

abbrev pub many_of : {X Y : Type 0} → List ((Vec ℕ X × String Y) × Marker) → List (Key × Marker)
many_of many = map (λ e. (key_bytes e.0, e.1)) many

-- keys with their places are added to others, one after the other
abbrev pub with_all : List (Key × Marker) → List (Key × Marker) → List (Key × Marker)
with_all [] places = places
with_all (e ∷ es) places = with_all es (insert_entry key_cmp places e.0 e.1)

abbrev pub places_of : FirstPlaces → List (Key × Marker)
places_of p = with_all (few_of p.few.items) (many_of p.many.entries)
