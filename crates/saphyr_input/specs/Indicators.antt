-- Characters by name: the indicators (YAML 1.2.2, 5.3), and others that a step asks for. Breaks, white space and the
-- byte order mark (5.2, 5.4, 5.5) are in `Classes`.
use Rattle.std.specs.Prelude.{ℕ}

-- ## Indicators, in the order of 5.3

-- `-`, an entry of a block sequence
abbrev pub hyphen : ℕ
hyphen = 0x2D

-- `?`, a key
abbrev pub question_mark : ℕ
question_mark = 0x3F

-- `:`, a value
abbrev pub colon : ℕ
colon = 0x3A

-- `,`, the end of an entry of a flow collection
abbrev pub comma : ℕ
comma = 0x2C

-- `[` and `]`, a flow sequence
abbrev pub left_bracket : ℕ
left_bracket = 0x5B

abbrev pub right_bracket : ℕ
right_bracket = 0x5D

-- `{` and `}`, a flow mapping
abbrev pub left_brace : ℕ
left_brace = 0x7B

abbrev pub right_brace : ℕ
right_brace = 0x7D

-- `#`, a comment
abbrev pub number_sign : ℕ
number_sign = 0x23

-- `&`, an anchor
abbrev pub ampersand : ℕ
ampersand = 0x26

-- `*`, an alias
abbrev pub asterisk : ℕ
asterisk = 0x2A

-- `!`, a tag
abbrev pub exclamation_mark : ℕ
exclamation_mark = 0x21

-- `|`, a literal scalar
abbrev pub vertical_bar : ℕ
vertical_bar = 0x7C

-- `>`, a folded scalar, and the end of a verbatim tag
abbrev pub greater_than : ℕ
greater_than = 0x3E

-- `'` and `"`, quoted scalars
abbrev pub apostrophe : ℕ
apostrophe = 0x27

abbrev pub quotation_mark : ℕ
quotation_mark = 0x22

-- `%`, a directive, and a byte of a tag
abbrev pub percent_sign : ℕ
percent_sign = 0x25

-- `@` and `` ` ``, which are reserved
abbrev pub at_sign : ℕ
at_sign = 0x40

abbrev pub grave_accent : ℕ
grave_accent = 0x60

-- ## Others

-- `\`, an escape in double quotes (5.7)
abbrev pub backslash : ℕ
backslash = 0x5C

-- `.`, thrice the end of a document, and between the numbers of a version
abbrev pub full_stop : ℕ
full_stop = 0x2E

-- `+`, all breaks at a block scalar's end are kept
abbrev pub plus_sign : ℕ
plus_sign = 0x2B

-- `<`, a verbatim tag
abbrev pub less_than : ℕ
less_than = 0x3C

-- `_`, which names of handles may have
abbrev pub low_line : ℕ
low_line = 0x5F
