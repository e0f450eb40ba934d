-- Which remarks may help with a fault, by its words. The first that has a place is told: no clause says that.
use Rattle.std.specs.Prelude.{ℕ, Bool, ◌||◌, if◌then◌else◌, List, [], ◌∷◌, codes}
use Rattle.std.specs.Str.{bytes_eq}
use Rattle.saphyr_scalar.specs.Texts.{words}
use Rattle.saphyr_scalar.specs.declared.scalar.fault.FaultText.TheVariants as fault
use Rattle.yaml_check.specs.declared.note.Remark.{Remark}
use Rattle.yaml_check.specs.declared.note.Remark.TheVariants as remark

abbrev pub is_on_first_character : List ℕ → Bool
is_on_first_character m = bytes_eq m (codes "unexpected character: `@'")
    || (bytes_eq m (codes "unexpected character: ``'")
    || (bytes_eq m (codes "unexpected character: `%'")
    || bytes_eq m (words fault.AnchorNameExpected)))

abbrev pub is_on_quotes : List ℕ → Bool
is_on_quotes m = bytes_eq m (words fault.QuotedIndentation)
    || (bytes_eq m (words fault.EndInsideQuotes)
    || bytes_eq m (words fault.DocumentIndicatorInsideQuotes))

abbrev pub is_on_escape : List ℕ → Bool
is_on_escape m = bytes_eq m (words fault.UnknownEscape)
    || (bytes_eq m (words fault.HexadecimalDigitExpected)
    || bytes_eq m (words fault.EscapedCodePoint))

abbrev pub is_on_tab : List ℕ → Bool
is_on_tab m = bytes_eq m (words fault.TabInBlockIndentation)
    || (bytes_eq m (words fault.TabAsIndentation)
    || bytes_eq m (words fault.TabInsidePlain))

abbrev pub is_behind_question_mark : List ℕ → Bool
is_behind_question_mark m = bytes_eq m (words fault.WhitespaceExpected)
    || bytes_eq m (words fault.TabNotAllowed)

abbrev pub is_on_bracket_column : List ℕ → Bool
is_on_bracket_column m = bytes_eq m (words fault.InvalidIndentation)
    || bytes_eq m (words fault.FlowIndentation)

abbrev pub is_on_flow_entry : List ℕ → Bool
is_on_flow_entry m = bytes_eq m (words fault.FlowMappingEndExpected)
    || bytes_eq m (words fault.FlowSequenceEndExpected)

abbrev pub remarks_on_signs : List ℕ → List Remark
remarks_on_signs m = if bytes_eq m (words fault.DashInsideFlow)
    then remark.Template ∷ []
    else (if bytes_eq m (words fault.PlainDashBeforeFlow)
    then remark.AllowedDash ∷ []
    else (if bytes_eq m (words fault.ColonBeforeFlow)
    then remark.AllowedColon ∷ []
    else (if bytes_eq m (words fault.ColonWithoutWhitespace)
    then remark.AllowedTab ∷ []
    else (if bytes_eq m (words fault.BlockScalarLineIndentation)
    then remark.AllowedLine ∷ []
    else (if bytes_eq m (words fault.CommentInsideText)
    then remark.CommentInText ∷ []
    else (if bytes_eq m (words fault.BlockScalarHeaderEndExpected)
    then remark.BlockScalarHeader ∷ []
    else []))))))

abbrev pub remarks_on_nodes : List ℕ → List Remark
remarks_on_nodes m = if is_on_first_character m
    then remark.Template ∷ remark.FirstCharacter ∷ []
    else (if bytes_eq m (words fault.TagEndExpected)
    then remark.AllowedColonBehindTag ∷ remark.FirstCharacter ∷ []
    else (if bytes_eq m (words fault.UnknownAnchor)
    then remark.UnknownAlias ∷ []
    else (if is_on_bracket_column m
    then remark.BracketColumn ∷ []
    else (if is_on_flow_entry m
    then remark.OtherComment ∷ remark.AllowedColon ∷ remark.Template ∷ remark.MissingComma ∷ []
    else (remarks_on_signs m)))))

abbrev pub remarks_on_columns : List ℕ → List Remark
remarks_on_columns m = if bytes_eq m (words fault.BlockMappingKeyExpected)
    then remark.Template ∷ remark.NoBreakSpace ∷ remark.IdeographicSpace ∷ remark.OtherSpace ∷ remark.ZeroWidth
    ∷ remark.KeyBeginsWithDash ∷ remark.BlockScalarColumn ∷ remark.NoDash ∷ remark.Mixed ∷ remark.OtherColumn
    ∷ remark.MappingColumn ∷ []
    else (if bytes_eq m (words fault.SequenceEntryExpected)
    then remark.Template ∷ remark.NoBreakSpace ∷ remark.IdeographicSpace ∷ remark.OtherSpace ∷ remark.ZeroWidth
    ∷ remark.NoBlankBehindDash ∷ remark.BlockScalarColumn ∷ remark.Mixed ∷ remark.OtherColumn
    ∷ remark.SequenceColumn ∷ []
    else (if bytes_eq m (words fault.DocumentStartExpected)
    then remark.OtherColumn ∷ []
    else (if bytes_eq m (words fault.SequenceEntryNotAllowed)
    then remark.SequenceLine ∷ []
    else (remarks_on_nodes m))))

abbrev pub remarks_on_lines : List ℕ → List Remark
remarks_on_lines m = if bytes_eq m (words fault.KeyWithoutColon)
    then remark.NoBreakSpace ∷ remark.IdeographicSpace ∷ remark.OtherSpace ∷ remark.ZeroWidth
    ∷ remark.OtherComment ∷ remark.WideColon ∷ remark.NoBlankBehindDash ∷ remark.NoBlankBehindColon
    ∷ remark.BlockScalarColumn ∷ remark.ValueColumn ∷ remark.NoColon ∷ []
    else (if bytes_eq m (words fault.ValueNotAllowed)
    then remark.TypographersQuote ∷ remark.NoBreakSpace ∷ remark.IdeographicSpace ∷ remark.OtherSpace ∷ remark.ZeroWidth
    ∷ remark.OtherComment ∷ remark.ColonInText ∷ remark.WideColon ∷ remark.NoBlankBehindDash ∷ remark.OtherColumn
    ∷ remark.TooFarRight ∷ remark.NoBlankBehindColon ∷ remark.BlockScalarColumn ∷ remark.ValueColumn
    ∷ remark.NoColon ∷ []
    else (remarks_on_columns m))

abbrev pub remarks_on : List ℕ → List Remark
remarks_on m = if is_on_quotes m
    then remark.TypographersQuote ∷ remark.QuotesOpen ∷ []
    else (if is_on_escape m
    then remark.Escape ∷ []
    else (if is_on_tab m
    then remark.Tab ∷ []
    else (if bytes_eq m (words fault.BlockScalarTabFirst)
    then remark.AllowedFirstTab ∷ remark.Tab ∷ []
    else (if is_behind_question_mark m
    then remark.AllowedQuestionMark ∷ remark.AllowedTab ∷ remark.Tab ∷ []
    else (if bytes_eq m (words fault.ContentAfterQuotes)
    then remark.OtherComment ∷ remark.CommaBehind ∷ remark.MissingComma ∷ remark.Apostrophe ∷ remark.JsonText
    ∷ remark.QuotesEnd ∷ []
    else (remarks_on_lines m))))))
