-- What contracts see of a stream, a document or a collection that has not ended.
use Rattle.std.specs.Prelude.{◌≡◌, List, [], ◌∷◌, ◌++◌, Option, Some, None, option_map, Result, Ok, Err, Vec}
use Rattle.std.specs.Global.{Global}
use Rattle.std.specs.List.{flat_map}
use Rattle.saphyr_parser.specs.Events.{Happening, StreamStart, StreamEnd, DocumentStart, SequenceStart, MappingStart}
use Rattle.saphyr_parser.specs.Views.Events.{resolved_tag}
use Rattle.yaml_tree.specs.declared.fault.TreeFault.{TreeFault}
use Rattle.yaml_tree.specs.declared.fault.TreeFault.TheVariants as fault
use Rattle.yaml_tree.specs.declared.node.Node.{Node}
use Rattle.yaml_tree.specs.declared.document.Document.{Document}
use Rattle.yaml_tree.specs.declared.open.Open.{Open}
use Rattle.yaml_tree.specs.declared.open.Open.TheVariants as variants
use Rattle.yaml_tree.specs.Unloading.{node_events, pair_events, document_events, unload}
use Rattle.saphyr_parser.specs.Nesting.{NestPlace, BeforeStream, InStream, BehindStream, BeforeRoot, BehindRoot, InSequence, BeforeKey, BeforeValue}

abbrev pub any_events : Option Node → List Happening
any_events None = []
any_events (Some node) = node_events node

-- the events so far
abbrev pub open_events : Open → List Happening
open_events variants.Nothing = []
open_events (variants.Stream documents) = StreamStart ∷ flat_map document_events documents.items
open_events (variants.Document explicit root) = DocumentStart explicit ∷ any_events root
open_events (variants.Sequence id tag nodes) = SequenceStart id
    (option_map resolved_tag tag) ∷ flat_map node_events nodes.items
open_events (variants.Mapping id tag pairs key) = MappingStart id (option_map resolved_tag tag) ∷
    (flat_map pair_events pairs.items ++ any_events key)
open_events (variants.Ended documents) = StreamStart ∷ (flat_map document_events documents.items ++ StreamEnd ∷ [])

-- the place after them
abbrev pub place_of : Open → NestPlace
place_of variants.Nothing = BeforeStream
place_of (variants.Stream documents) = InStream
place_of (variants.Document explicit None) = BeforeRoot
place_of (variants.Document explicit (Some root)) = BehindRoot
place_of (variants.Sequence id tag nodes) = InSequence
place_of (variants.Mapping id tag pairs None) = BeforeKey
place_of (variants.Mapping id tag pairs (Some key)) = BeforeValue
place_of (variants.Ended documents) = BehindStream

-- The events grow by these, after which this place is. Where there is no such place, the call is refused.
abbrev pub GrowsBy : Result Open TreeFault → List Happening → Option NestPlace → Open → Type 0
GrowsBy (Ok new) more place old = (open_events new ≡ open_events old ++ more) × (place ≡ Some (place_of new))
GrowsBy (Err fault.NotFresh) more place old = place ≡ None
GrowsBy (Err fault.OutOfMemory) more place old = Unit {0}
GrowsBy (Err _) more place old = ⊥

-- the same in place
abbrev pub GrowsInPlace : Result (Unit {0}) TreeFault → List Happening → Option NestPlace → Open → Open → Type 0
GrowsInPlace (Ok u) more place old new = GrowsBy (Ok new) more place old
GrowsInPlace (Err f) more place old new = GrowsBy (Err f) more place old

-- What ends has these events, the last its own end. It is refused elsewhere than at this place.
abbrev pub EndsWhole : {X : Type 0} → (X → List Happening) → Result X TreeFault → Happening → NestPlace → Open → Type 0
EndsWhole events (Ok x) end place old = (events x ≡ open_events old ++ end ∷ []) × (place_of old ≡ place)
EndsWhole events (Err fault.NotFresh) end place old = place_of old ≡ place → ⊥
EndsWhole events (Err _) end place old = ⊥

-- The documents of a stream that has ended have all its events.
abbrev pub Completes : Result (Vec Document Global) TreeFault → Open → Type 0
Completes (Ok documents) old = (unload documents.items ≡ open_events old) × (place_of old ≡ BehindStream)
Completes (Err fault.NotFresh) old = place_of old ≡ BehindStream → ⊥
Completes (Err _) old = ⊥
