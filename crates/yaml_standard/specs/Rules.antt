-- The rules that the parser does not keep: their names, and what the standard asks, by the numbers of its productions.
use Rattle.std.specs.Prelude.{ℕ, List, codes}
use Rattle.yaml_standard.specs.declared.rule.Rule.{Rule}
use Rattle.yaml_standard.specs.declared.rule.Rule.TheVariants as rule

abbrev pub rule_name : Rule → List ℕ
rule_name rule.CollectionAtColon = codes "collection-at-colon"
rule_name rule.TabIndentation = codes "tab-indentation"
rule_name rule.UnderscoreInHandle = codes "underscore-in-handle"
rule_name rule.BlockIndicatorInFlow = codes "block-indicator-in-flow"
rule_name rule.QuestionInFlow = codes "question-in-flow"
rule_name rule.QuotedIndentation = codes "quoted-indentation"
rule_name rule.FlowIndentation = codes "flow-indentation"
rule_name rule.TabBehindBlockScalar = codes "tab-behind-block-scalar"
rule_name rule.CommentWithoutBlank = codes "comment-without-blank"
rule_name rule.UnprintableCharacter = codes "unprintable-character"
rule_name rule.EscapedEmptyLine = codes "escaped-empty-line"
rule_name rule.LongKeyInFlow = codes "long-key-in-flow"
rule_name rule.BracketBehindProperty = codes "bracket-behind-property"
rule_name rule.PrefixWithoutBlank = codes "prefix-without-blank"
rule_name rule.EmptyVerbatimTag = codes "empty-verbatim-tag"
rule_name rule.TabBehindProperty = codes "tab-behind-property"
rule_name rule.TabInEmptyLine = codes "tab-in-empty-line"
rule_name rule.QuoteAtFirstColumn = codes "quote-at-first-column"
rule_name rule.LoneDashInFlow = codes "lone-dash-in-flow"
rule_name rule.Unnamed = codes "unnamed"

abbrev pub rule_sentence : Rule → List ℕ
rule_sentence rule.CollectionAtColon =
    codes "[194] c-l-block-map-implicit-value: after a key's colon a block collection begins on a later line"
rule_sentence rule.TabIndentation =
    codes "[183], [185], [187]: before the first entry of a block collection are spaces alone"
rule_sentence rule.UnderscoreInHandle =
    codes "[92] c-named-tag-handle: a handle has letters, digits and hyphens between its two '!'"
rule_sentence rule.BlockIndicatorInFlow = codes "[126] ns-plain-first: a plain scalar does not begin with '|' or '>'"
rule_sentence rule.QuestionInFlow =
    codes "[126] ns-plain-first: a plain scalar begins with '?' only before a character of its own"
rule_sentence rule.QuotedIndentation =
    codes "[109], [120]: each line of a quoted scalar begins right of the block collection that it is in"
rule_sentence rule.FlowIndentation =
    codes "[69] s-flow-line-prefix: each line of a flow collection begins right of the block collection that it is in"
rule_sentence rule.TabBehindBlockScalar =
    codes "[169] l-trail-comments: what follows a block scalar is indented by spaces alone"
rule_sentence rule.CommentWithoutBlank =
    codes "[149] c-ns-flow-map-adjacent-value: a blank parts a comment from the colon before it"
rule_sentence rule.UnprintableCharacter =
    codes "[1] c-printable, [2] nb-json: each character is printable, or in quotes and above U+001F"
rule_sentence rule.EscapedEmptyLine =
    codes "[115], [116]: a later line of a quoted scalar has a character before an escaped break"
rule_sentence rule.LongKeyInFlow =
    codes "[154], [155]: the colon of a key in brackets is at most 1024 characters after its start"
rule_sentence rule.BracketBehindProperty = codes "[160], [161]: an anchor or a tag is parted from the bracket behind it"
rule_sentence rule.PrefixWithoutBlank = codes "[88] ns-tag-directive: blanks part the prefix from the handle before it"
rule_sentence rule.EmptyVerbatimTag = codes "[98] c-verbatim-tag: a character at least stands between '!<' and '>'"
rule_sentence rule.TabBehindProperty =
    codes "[96], [200]: the line behind an anchor or a tag is indented by spaces, as its node is"
rule_sentence rule.TabInEmptyLine = codes "[70] l-empty: an empty line of a scalar has no tab left of the indentation"
rule_sentence rule.QuoteAtFirstColumn =
    codes "[112] s-double-escaped: the line after an escaped break is indented as the scalar is"
rule_sentence rule.LoneDashInFlow =
    codes "no rule is broken: YAML 1.2.2 ([130], [132]) has this '-', but the grammar that is checked does not"
rule_sentence rule.Unnamed = codes "no production derives the text from here on"
