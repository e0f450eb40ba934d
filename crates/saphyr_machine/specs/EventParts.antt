-- What the methods of an event tell of it: the tag and the anchor of its node, and whether something begins or ends.
use Rattle.std.specs.Prelude.{ℕ, nat_eq, Bool, true, false, Option, Some, None, if◌then◌else◌}
use Rattle.saphyr_machine.specs.Events.{ResolvedTag, Happening, StreamStart, StreamEnd, DocumentStart, DocumentEnd, Scalar, SequenceStart, SequenceEnd, MappingStart, MappingEnd}

abbrev pub node_tag : Happening → Option ResolvedTag
node_tag (Scalar text style id tag) = tag
node_tag (SequenceStart id tag) = tag
node_tag (MappingStart id tag) = tag
node_tag _ = None

abbrev pub anchor_numbered : ℕ → Option ℕ
anchor_numbered id = if nat_eq id 0 then None else Some id

-- the id of the node's own anchor
abbrev pub node_anchor : Happening → Option ℕ
node_anchor (Scalar text style id tag) = anchor_numbered id
node_anchor (SequenceStart id tag) = anchor_numbered id
node_anchor (MappingStart id tag) = anchor_numbered id
node_anchor _ = None

-- the stream, a document or a collection begins
abbrev pub begins_part : Happening → Bool
begins_part StreamStart = true
begins_part (DocumentStart explicit) = true
begins_part (SequenceStart id tag) = true
begins_part (MappingStart id tag) = true
begins_part _ = false

-- one of these ends
abbrev pub ends_part : Happening → Bool
ends_part StreamEnd = true
ends_part DocumentEnd = true
ends_part SequenceEnd = true
ends_part MappingEnd = true
ends_part _ = false
