-- The events of a forest.
use Rattle.std.specs.Prelude.{Bool, List, [], ◌∷◌, Option, Some, None, option_map, encode_utf8_all}
use Rattle.saphyr_scanner.specs.Grammar.Forest.{Forest}
use Rattle.event_laws.specs.Preorder.{Part, OpenStream, CloseStream, OpenDocument, CloseDocument, Reference, Leaf, OpenSequence, CloseSequence, OpenMapping, CloseMapping, parts}
use Rattle.saphyr_machine.specs.Events.{Happening, StreamStart, StreamEnd, DocumentStart, DocumentEnd, Alias, Scalar, SequenceStart, SequenceEnd, MappingStart, MappingEnd}
use Rattle.event_laws.specs.Anchors.{latest_id, own_id}
use Rattle.event_laws.specs.TagResolution.{any_resolution}

-- The event of a part, after the parts before it, the latest first. There is none for an alias without an anchor of
-- its name, nor for a tag whose handle is not declared.
abbrev pub event_of_part : Bool → List Part → Part → Option Happening
event_of_part keep front OpenStream = Some StreamStart
event_of_part keep front CloseStream = Some StreamEnd
event_of_part keep front (OpenDocument explicit directives) = Some (DocumentStart explicit)
event_of_part keep front CloseDocument = Some DocumentEnd
event_of_part keep front (Reference name) = option_map Alias (latest_id (encode_utf8_all name) front)
event_of_part keep front (Leaf p style value) =
    option_map (Scalar (encode_utf8_all value) style (own_id front p.anchor)) (any_resolution keep p.tag front)
event_of_part keep front (OpenSequence p) =
    option_map (SequenceStart (own_id front p.anchor)) (any_resolution keep p.tag front)
event_of_part keep front CloseSequence = Some SequenceEnd
event_of_part keep front (OpenMapping p) =
    option_map (MappingStart (own_id front p.anchor)) (any_resolution keep p.tag front)
event_of_part keep front CloseMapping = Some MappingEnd

abbrev pub first_and_others : Option Happening → Option (List Happening) → Option (List Happening)
first_and_others (Some event) (Some others) = Some (event ∷ others)
first_and_others _ _ = None

-- the events of parts, after the parts before them
abbrev pub events_behind : Bool → List Part → List Part → Option (List Happening)
events_behind keep front [] = Some []
events_behind keep front (part ∷ others) =
    first_and_others (event_of_part keep front part) (events_behind keep (part ∷ front) others)

-- The events of a forest, `keep` telling whether prefixes of tags are kept for later documents. There are none where an
-- alias or a handle stands for nothing.
abbrev pub events : Forest → Bool → Option (List Happening)
events forest keep = events_behind keep [] (parts forest)
