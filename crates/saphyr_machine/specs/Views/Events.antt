-- What contracts see of events and tags.
use Rattle.std.specs.Prelude.{ℕ, Bool, false, is_some, List, ◌++◌, option_map, codes, if◌then◌else◌}
use Rattle.std.specs.Str.{bytes_eq}
use Rattle.std.specs.String.{string_bytes}
use Rattle.std.specs.Cow.{cow_str_bytes}
use Rattle.saphyr_scalar.specs.declared.scalar.style.ScalarStyle.{ScalarStyle}
use Rattle.saphyr_machine.specs.declared.tag.Tag.{Tag}
use Rattle.saphyr_machine.specs.declared.event.Event.{Event}
use Rattle.saphyr_machine.specs.declared.event.Event.TheVariants as events
use Rattle.saphyr_machine.specs.Events.{ResolvedTag, Happening, Nothing, StreamStart, StreamEnd, DocumentStart, DocumentEnd, Alias, Scalar, SequenceStart, SequenceEnd, MappingStart, MappingEnd}

abbrev pub resolved_tag : Tag → ResolvedTag
resolved_tag tag = record { handle = string_bytes tag.handle; suffix = string_bytes tag.suffix }

-- how a tag is printed
abbrev pub displayed_tag : ResolvedTag → List ℕ
displayed_tag tag = if bytes_eq tag.handle (codes "!") then codes "!" ++ tag.suffix else tag.handle
    ++ (codes "!" ++ tag.suffix)

-- what an event tells
abbrev pub happening : Event → Happening
happening events.Nothing = Nothing
happening events.StreamStart = StreamStart
happening events.StreamEnd = StreamEnd
happening (events.DocumentStart explicit) = DocumentStart explicit
happening events.DocumentEnd = DocumentEnd
happening (events.Alias id) = Alias id
happening (events.Scalar text style id tag) = Scalar (cow_str_bytes text) style id (option_map resolved_tag tag)
happening (events.SequenceStart id tag) = SequenceStart id (option_map resolved_tag tag)
happening events.SequenceEnd = SequenceEnd
happening (events.MappingStart id tag) = MappingStart id (option_map resolved_tag tag)
happening events.MappingEnd = MappingEnd

-- whether an event has a tag
abbrev pub has_tag : Event → Bool
has_tag events.Nothing = false
has_tag events.StreamStart = false
has_tag events.StreamEnd = false
has_tag (events.DocumentStart explicit) = false
has_tag events.DocumentEnd = false
has_tag (events.Alias id) = false
has_tag (events.Scalar text style id tag) = is_some tag
has_tag (events.SequenceStart id tag) = is_some tag
has_tag events.SequenceEnd = false
has_tag (events.MappingStart id tag) = is_some tag
has_tag events.MappingEnd = false

-- a scalar in another style, without an anchor
abbrev pub restyled : ScalarStyle → Event → Event
restyled style (events.Scalar text old id tag) = events.Scalar text style 0 tag
restyled style events.Nothing = events.Nothing
restyled style events.StreamStart = events.StreamStart
restyled style events.StreamEnd = events.StreamEnd
restyled style (events.DocumentStart explicit) = events.DocumentStart explicit
restyled style events.DocumentEnd = events.DocumentEnd
restyled style (events.Alias id) = events.Alias id
restyled style (events.SequenceStart id tag) = events.SequenceStart id tag
restyled style events.SequenceEnd = events.SequenceEnd
restyled style (events.MappingStart id tag) = events.MappingStart id tag
restyled style events.MappingEnd = events.MappingEnd
