-- Where remarks on a fault are told, and where a text is mended that the parser refuses.
use Rattle.std.specs.Prelude.{Bool, true, false}
use Rattle.yaml_check.specs.declared.note.Remark.{Remark}
use Rattle.yaml_check.specs.declared.note.Remark.TheVariants as remark

-- a remark tells the place where a person mends the text
abbrev pub mends : Remark → Bool
mends remark.SequenceColumn = false
mends remark.MappingColumn = false
mends _ = true

-- a remark is told where the fault is
abbrev pub is_at_fault : Remark → Bool
is_at_fault remark.ColonInText = true
is_at_fault remark.FirstCharacter = true
is_at_fault remark.CommentInText = true
is_at_fault remark.QuotesOpen = true
is_at_fault remark.SequenceLine = true
is_at_fault remark.UnknownAlias = true
is_at_fault remark.Mixed = true
is_at_fault remark.BracketColumn = true
is_at_fault remark.MissingComma = true
is_at_fault remark.CommaBehind = true
is_at_fault remark.BlockScalarHeader = true
is_at_fault remark.AllowedColon = true
is_at_fault remark.AllowedDash = true
is_at_fault remark.AllowedLine = true
is_at_fault remark.AllowedQuestionMark = true
is_at_fault _ = false

-- a remark is told where the innermost collection begins
abbrev pub is_of_collection : Remark → Bool
is_of_collection remark.MappingColumn = true
is_of_collection remark.SequenceColumn = true
is_of_collection remark.KeyBeginsWithDash = true
is_of_collection _ = false
