-- The texts of what is found, and of its place.
use Rattle.std.specs.Prelude.{ℕ, List, ◌++◌, codes}
use Rattle.std.specs.Fmt.{decimal}
use Rattle.saphyr_parser.specs.Words.Marker.{Marker}
use Rattle.saphyr_scalar.specs.Faults.{line_and_column}
use Rattle.yaml_check.specs.declared.note.Remark.{Remark}
use Rattle.yaml_check.specs.declared.note.Remark.TheVariants as remark
use Rattle.yaml_check.specs.declared.warning.Warning.{Warning}
use Rattle.yaml_check.specs.declared.warning.Warning.TheVariants as warning

abbrev pub warning_text : Warning → List ℕ
warning_text (warning.DuplicateKey first) = codes "duplicate key; first at " ++ line_and_column first
warning_text warning.AliasInItself = codes "this alias is inside the node that it repeats"
warning_text (warning.WideAlias most) = codes "this alias stands for more than " ++ (decimal most ++ codes " nodes")
warning_text warning.EmptyDocument = codes "this document has no content"
warning_text (warning.TooDeep most) = codes "more than " ++ (decimal most ++ codes " collections are open here")
warning_text (warning.TooManyNodes most) = codes "the text has more than " ++ (decimal most ++ codes " nodes")

abbrev pub remark_text : Remark → List ℕ
remark_text remark.SequenceOpen = codes "the sequence that begins here is not closed yet"
remark_text remark.MappingOpen = codes "the mapping that begins here is not closed yet"
remark_text remark.SequenceColumn = codes "the dashes of this sequence are in this column"
remark_text remark.MappingColumn = codes "the keys of this mapping begin in this column"
remark_text remark.Mixed = codes "a collection has either keys or entries with dashes: write this as those before it"
remark_text remark.NoColon =
    codes "a ':' with a blank behind it is missing in this line, or the line is indented wrongly"
remark_text remark.ValueColumn = codes "indent a value further than its key"
remark_text remark.BlockScalarColumn = codes "indent this as the first line of the text above it"
remark_text remark.TooFarRight = codes "this is too far right for a key, and goes on with the text of the line before"
remark_text remark.OtherColumn =
    codes "this is in another column than the lines below, or a '-' before it is missing"
remark_text remark.NoDash = codes "a '-' before this is missing, as the lines below have it"
remark_text remark.NoBlankBehindDash = codes "write a blank behind this dash"
remark_text remark.KeyBeginsWithDash = codes "write a blank behind this dash: it is a part of the key"
remark_text remark.NoBlankBehindColon = codes "write a blank behind this colon"
remark_text remark.WideColon =
    codes "this is a colon of another width, which is a part of a text: write ':' and a blank"
remark_text remark.ColonInText = codes "a text with ': ' in it needs quotes"
remark_text remark.FirstCharacter = codes "a text that begins with this character needs quotes"
remark_text remark.Template = codes "a text that begins with {{ or {% needs quotes"
remark_text remark.CommentInText = codes "a text with ' #' in it needs quotes, and a comment ends a text"
remark_text remark.OtherComment = codes "a comment begins with '#'"
remark_text remark.BlockScalarHeader = codes "the text of a block scalar begins on the next line"
remark_text remark.CommaBehind = codes "a ',' is between entries in brackets alone: take it away"
remark_text remark.QuotesOpen = codes "these quotes are not closed, or a line in them is not indented"
remark_text remark.QuotesEnd =
    codes "the quotes from here on end before that: is a quote, a comma, a colon or an escape missing?"
remark_text remark.Apostrophe = codes "write '' for a ' in single quotes"
remark_text remark.JsonText = codes "write single quotes around a text with double quotes in it"
remark_text remark.TypographersQuote = codes "this is a typographer's quote, which is a part of a text: write \" or '"
remark_text remark.NoBreakSpace = codes "this is a no-break space, which is a part of a text: write a space"
remark_text remark.IdeographicSpace = codes "this is an ideographic space, which is a part of a text: write a space"
remark_text remark.OtherSpace = codes "this is a space of another width, which is a part of a text: write a space"
remark_text remark.ZeroWidth = codes "this is a character without width, which is a part of a text: take it away"
remark_text remark.MissingComma = codes "a ',' is missing before this, or a text with ': ' in it needs quotes"
remark_text remark.Escape = codes "this is no character's escape; in single quotes a backslash stands for itself"
remark_text remark.Tab = codes "indent with spaces: a tab is no indentation"
remark_text remark.SequenceLine = codes "a sequence begins on a line of its own, below its key"
remark_text remark.BracketColumn = codes "indent each line between brackets, and the closing one"
remark_text remark.UnknownAlias = codes "no anchor has this name; a text that begins with * needs quotes"
remark_text remark.ConflictMarker = codes "this is the marker of a conflict between versions"
remark_text remark.AllowedTab =
    codes "YAML allows a tab here, and this parser, as the Rust crate, does not: write a space"
remark_text remark.AllowedFirstTab =
    codes "YAML allows a tab here, and this parser, as the Rust crate, does not: write \"\\t\" in quotes"
remark_text remark.AllowedColon =
    codes "YAML allows this colon, and this parser, as the Rust crate, does not: write a blank behind it"
remark_text remark.AllowedColonBehindTag =
    codes "YAML allows this colon, and this parser, as the Rust crate, does not: write a blank before it"
remark_text remark.AllowedDash =
    codes "YAML allows this dash, and this parser, as the Rust crate, does not: write quotes around the text"
remark_text remark.AllowedLine =
    codes "YAML allows this line, and this parser, as the Rust crate, does not: write \"\" for the text before it"
remark_text remark.AllowedQuestionMark =
    codes "YAML allows a '?' at the end, and this parser, as the Rust crate, does not: write a line break"

-- the name of a text, as it is shown, and a place in it
abbrev pub name_and_place : List ℕ → Marker → List ℕ
name_and_place name place = name ++ (codes ":" ++ (line_and_column place ++ codes ": "))
