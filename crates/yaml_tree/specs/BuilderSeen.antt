-- What contracts see of a builder: the events of what it holds, and how they nest.
use Rattle.std.specs.Prelude.{◌≡◌, List, [], ◌∷◌, ◌++◌, map, reverse, Option, Some, None, Result, Ok, Err, Vec}
use Rattle.std.specs.Global.{Global}
use Rattle.std.specs.List.{flat_map}
use Rattle.saphyr_parser.specs.Events.{Happening}
use Rattle.yaml_tree.specs.declared.fault.TreeFault.{TreeFault}
use Rattle.yaml_tree.specs.declared.fault.TreeFault.TheVariants as fault
use Rattle.yaml_tree.specs.declared.open.Open.{Open}
use Rattle.yaml_tree.specs.declared.builder.Builder.{Builder}
use Rattle.yaml_tree.specs.declared.document.Document.{Document}
use Rattle.yaml_tree.specs.Unloading.{unload}
use Rattle.yaml_tree.specs.OpenSeen.{open_events, place_of}
use Rattle.saphyr_parser.specs.Nesting.{Nest, nest_around, nest_behind_stream, nest_behind_event}

-- the events so far
abbrev pub builder_events : Builder → List Happening
builder_events b = flat_map open_events b.outer.items ++ open_events b.innermost

abbrev pub nest_of : Builder → Nest
nest_of b = record { innermost = place_of b.innermost; outer = reverse (map place_of b.outer.items) }

-- The events grow by these, and then nest so. Where they may not come, the call is refused.
abbrev pub Grows : Result (Unit {0}) TreeFault → List Happening → Option Nest → Builder → Builder → Type 0
Grows (Ok u) more nest old new = (builder_events new ≡ builder_events old ++ more) × (nest ≡ Some (nest_of new))
Grows (Err fault.NotFresh) more nest old new = nest ≡ None
Grows (Err fault.OutOfMemory) more nest old new = Unit {0}
Grows (Err _) more nest old new = ⊥

-- one event more
abbrev pub Follows : Result (Unit {0}) TreeFault → Happening → Builder → Builder → Type 0
Follows result event old new = Grows result (event ∷ []) (nest_behind_event event (nest_of old)) old new

-- what has begun last is handed out, and what is around it is left
abbrev pub HandsOutInnermost : Result Open TreeFault → Builder → Builder → Type 0
HandsOutInnermost (Ok inner) old new =
    (builder_events old ≡ builder_events new ++ open_events inner) × (nest_around (nest_of old) ≡ Some (nest_of new))
    × (place_of inner ≡ place_of old.innermost)
HandsOutInnermost (Err fault.NotFresh) old new = nest_around (nest_of old) ≡ None
HandsOutInnermost (Err _) old new = ⊥

-- The documents' events are all events so far. They are refused where these are not complete.
abbrev pub Finishes : Result (Vec Document Global) TreeFault → Builder → Type 0
Finishes (Ok documents) b = (unload documents.items ≡ builder_events b) × (nest_of b ≡ nest_behind_stream)
Finishes (Err fault.NotFresh) b = nest_of b ≡ nest_behind_stream → ⊥
Finishes (Err _) b = ⊥
