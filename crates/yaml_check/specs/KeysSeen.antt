-- What contracts see of the keys of the mappings that are open.
use Rattle.std.specs.Prelude.{map, reverse}
use Rattle.yaml_check.specs.declared.keys.Level.{Level}
use Rattle.yaml_check.specs.declared.keys.Keys.{Keys}
use Rattle.yaml_check.specs.Keys.{KeyLevel, KeysOpen}
use Rattle.yaml_check.specs.PlacesSeen.{places_of}

abbrev pub level_of : Level → KeyLevel
level_of l = record { next = l.next; places = places_of l.places }

abbrev pub keys_of : Keys → KeysOpen
keys_of k = record { here = level_of k.here; outer = reverse (map level_of k.outer.items) }
