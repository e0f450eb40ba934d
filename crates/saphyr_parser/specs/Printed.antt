-- How events are printed, a line for each, in UTF-8.
use Rattle.std.specs.Prelude.{◌≡◌, ℕ, ◌<◌, ◌≤◌, List, [], ◌∷◌, ◌++◌, ◌==◌, if◌then◌else◌, Option, Some, None, codes, slice_index}
use Rattle.std.specs.Fmt.{decimal}
use Rattle.saphyr_input.specs.Classes.{carriage_return, line_feed, tab}
use Rattle.saphyr_input.specs.Indicators.{backslash}
use Rattle.saphyr_scalar.specs.declared.scalar.position.Span.{Span}
use Rattle.saphyr_scanner.specs.Grammar.Forest.{Style, Plain, SingleQuoted, DoubleQuoted, Literal, Folded}
use Rattle.saphyr_machine.specs.Events.{ResolvedTag, Happening, Nothing, StreamStart, StreamEnd, DocumentStart, DocumentEnd, Alias, Scalar, SequenceStart, SequenceEnd, MappingStart, MappingEnd}

-- A byte of a scalar's text: a backslash, LF, CR, a backspace and a tab are escaped, and all else is as it is.
abbrev pub printed_byte : ℕ → List ℕ
printed_byte byte = if byte == backslash then codes "\\\\" else
    (if byte == line_feed then codes "\\n" else
    (if byte == carriage_return then codes "\\r" else
    (if byte == 8 then codes "\\b" else (if byte == tab then codes "\\t" else byte ∷ []))))

abbrev pub printed_bytes : List ℕ → List ℕ
printed_bytes [] = []
printed_bytes (byte ∷ bytes) = printed_byte byte ++ printed_bytes bytes

-- the bytes of a text from one place up to another are as they are
abbrev pub ArePlain : List ℕ → ℕ → ℕ → Type 0
ArePlain text start end =
    (i : ℕ) → start ≤ i → i < end → printed_byte (slice_index text i) ≡ slice_index text i ∷ []

-- the id of an anchor, where there is one
abbrev pub anchor_text : ℕ → List ℕ
anchor_text id = if id == 0 then [] else codes " &" ++ decimal id

abbrev pub tag_text : Option ResolvedTag → List ℕ
tag_text None = []
tag_text (Some tag) = codes " <" ++ (tag.handle ++ (tag.suffix ++ codes ">"))

-- a node's name and properties
abbrev pub node_text : List ℕ → ℕ → Option ResolvedTag → List ℕ
node_text name id tag = name ++ (anchor_text id ++ tag_text tag)

-- the mark of a style
abbrev pub style_mark : Style → List ℕ
style_mark Plain = codes ":"
style_mark SingleQuoted = codes "'"
style_mark DoubleQuoted = codes "\""
style_mark Literal = codes "|"
style_mark Folded = codes ">"

-- No text has `Nothing` among its events, which has no line.
abbrev pub printed_line : Happening → List ℕ
printed_line Nothing = []
printed_line StreamStart = codes "+STR\n"
printed_line StreamEnd = codes "-STR\n"
printed_line (DocumentStart explicit) = codes "+DOC\n"
printed_line DocumentEnd = codes "-DOC\n"
printed_line (Alias id) = codes "=ALI *" ++ (decimal id ++ codes "\n")
printed_line (Scalar text style id tag) =
    node_text (codes "=VAL") id tag ++ ((codes " " ++ style_mark style) ++ (printed_bytes text ++ codes "\n"))
printed_line (SequenceStart id tag) = node_text (codes "+SEQ") id tag ++ codes "\n"
printed_line SequenceEnd = codes "-SEQ\n"
printed_line (MappingStart id tag) = node_text (codes "+MAP") id tag ++ codes "\n"
printed_line MappingEnd = codes "-MAP\n"

abbrev pub printed_lines : List (Happening × Span) → List ℕ
printed_lines [] = []
printed_lines (e ∷ es) = printed_line e.0 ++ printed_lines es
