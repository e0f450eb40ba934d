-- The promises of `Parser::new`: on all texts, and on those of JSON and of YAML's grammar. Each is of a text and of
-- a parser at its start. The proof of each is under its name in `proofs/Promises`.
use Rattle.std.specs.Prelude.{◌≤◌, ℕ, Bool, List}
use Rattle.scalar_laws.specs.Spelling.Spaces.{IsLineRest}
use Rattle.saphyr_scanner.specs.Grammar.Forest.{Forest, open_in_forest}
use Rattle.saphyr_machine.specs.Cursor.{EventCursor, keeping_tags, to_come}
use Rattle.saphyr_scanner.specs.Limits.{most_open}
use Rattle.yaml_laws.specs.Grammar.Json.{IsJson}
use Rattle.yaml_laws.specs.Grammar.Yaml.{IsYamlText}
use Rattle.event_laws.specs.EventsTaken.{AreTaken}
use Rattle.event_laws.specs.Premises.{ReadsEach, ReadsClosed}
use Rattle.event_laws.specs.SpansWithin.{HasSpansIn, IsLater}

-- of every text: what comes is taken from it, whether prefixes of tags are kept or not
abbrev pub TakesEvents : List ℕ → EventCursor → Type 0
TakesEvents text parser = (keep : Bool) → AreTaken keep text (to_come (keeping_tags keep parser))

-- of every text: the spans of what comes lie in it, whatever is called and whenever it is set whether prefixes of tags
-- are kept
abbrev pub KeepsSpans : List ℕ → EventCursor → Type 0
KeepsSpans text parser = (later : EventCursor) → IsLater parser later → HasSpansIn text (to_come later)

-- a text of JSON with at most so many collections open at once, all of which are in flow style
abbrev pub IsShallowJson : ℕ → Forest → List ℕ → Type 0
IsShallowJson room forest text = IsJson forest text × (open_in_forest forest ≤ room)

-- each text of JSON (RFC 8259) gives exactly its forest's events
abbrev pub ReadsJson : ℕ → List ℕ → EventCursor → Type 0
ReadsJson limit text parser = ReadsEach (IsShallowJson most_open) limit text parser

-- each text of YAML's grammar gives exactly its forest's events
abbrev pub ReadsYaml : ℕ → List ℕ → EventCursor → Type 0
ReadsYaml limit text parser = ReadsEach (IsYamlText most_open) limit text parser

-- After a beginning that a line of `---` or `...` closes, anything may follow. After the marker its line has blanks,
-- and after some blanks a comment.
abbrev pub ReadsClosedYaml : ℕ → List ℕ → EventCursor → Type 0
ReadsClosedYaml limit text parser = ReadsClosed (IsYamlText most_open) IsLineRest limit text parser
