-- What is asked of a text whose forest's events a parser promises to give, and what is promised of its beginnings.
use Rattle.std.specs.Prelude.{◌≡◌, ◌≤◌, ℕ, Bool, true, List, [], ◌∷◌, ◌++◌, length, map, Some}
use Rattle.saphyr_input.specs.Breaks.{normalized}
use Rattle.saphyr_scalar.specs.declared.scalar.position.Span.{Span}
use Rattle.saphyr_scanner.specs.Grammar.Forest.{Forest}
pub use Rattle.yaml_laws.specs.Grammar.ClosedTexts.{DocumentMarker, Starts, Ends, EndsWithMarker}
use Rattle.saphyr_machine.specs.Events.{Happening, StreamEnd, DocumentStart, DocumentEnd, empty_scalar}
use Rattle.event_laws.specs.ForestEvents.{events}
use Rattle.saphyr_machine.specs.Answer.{Answer}
use Rattle.saphyr_machine.specs.Cursor.{EventCursor, keeping_tags, to_come}
use Rattle.event_laws.specs.Exactly.{GivesExactly}

-- A relation of forests and texts, such as a grammar. How many flow collections may be open at once is a part of it.
abbrev pub Grammar : Type 1
Grammar = Forest → List ℕ → Type 0

-- the text has at most so many characters
abbrev pub IsWithin : ℕ → List ℕ → Type 0
IsWithin limit text = length text ≤ limit

-- ## Premises of the promise that a text gives exactly its forest's events

pub record IsPromised (G : Grammar) (limit : ℕ) (keep : Bool) (forest : Forest) (text : List ℕ)
    (emitted : List Happening) : Type 0 where
  pub stands_for : G forest text
  pub within : IsWithin limit text
  pub has_events : events forest keep ≡ Some emitted

-- each text of the grammar gives exactly its forest's events, and no fault
abbrev pub ReadsEach : Grammar → ℕ → List ℕ → EventCursor → Type 0
ReadsEach G limit text parser =
    (forest : Forest) (keep : Bool) (emitted : List Happening) → IsPromised G limit keep forest text emitted
    → GivesExactly emitted (to_come (keeping_tags keep parser))

-- ## One meaning

-- a forest of the one grammar and a forest of the other that stand for the text have the same events, where both have
-- any
abbrev pub MeanTheSame : Grammar → Grammar → List ℕ → Type 0
MeanTheSame G H text =
    (keep : Bool) (one other : Forest) (first second : List Happening) → G one text → H other text
    → events one keep ≡ Some first → events other keep ≡ Some second → first ≡ second

-- all forests of the text that have events have the same
abbrev pub HasOneMeaning : Grammar → List ℕ → Type 0
HasOneMeaning G text = MeanTheSame G G text

-- ## Closed beginnings (9.1.2, 9.1.4)

-- the marker's own event
abbrev pub marker_event : DocumentMarker → Happening
marker_event Starts = DocumentStart true
marker_event Ends = DocumentEnd

-- what follows it where the text ends with the marker's line
abbrev pub events_behind_marker : DocumentMarker → List Happening
events_behind_marker Starts = empty_scalar ∷ DocumentEnd ∷ StreamEnd ∷ []
events_behind_marker Ends = StreamEnd ∷ []

-- The text begins with `front`, which the premises are asked of: it ends with a marker's line, and `first` are its
-- events up to and including the marker's own. IsTail tells what may come after the marker on its line.
pub record IsClosed (G : Grammar) (IsTail : List ℕ → Type 0) (limit : ℕ) (keep : Bool) (text : List ℕ)
    (first : List Happening) : Type 0 where
  pub front : List ℕ
  pub others : List ℕ
  pub begins : normalized text ≡ normalized front ++ others
  pub within : IsWithin limit text
  pub marker : DocumentMarker
  pub ends : EndsWithMarker IsTail marker (normalized front)
  pub forest : Forest
  pub emitted : List Happening
  pub promised : IsPromised G limit keep forest front emitted
  pub earlier : List Happening
  pub is_first : first ≡ earlier ++ marker_event marker ∷ []
  pub are_emitted : emitted ≡ first ++ events_behind_marker marker

-- the answer's events begin with these
abbrev pub GivesFirst : List Happening → Answer → Type 0
GivesFirst es a = (others : List Happening) × (map (λ (e : Happening × Span). e.0) a.events ≡ es ++ others)

-- whatever follows a closed beginning, its events come first
abbrev pub ReadsClosed : Grammar → (List ℕ → Type 0) → ℕ → List ℕ → EventCursor → Type 0
ReadsClosed G IsTail limit text parser =
    (keep : Bool) (first : List Happening) → IsClosed G IsTail limit keep text first
    → GivesFirst first (to_come (keeping_tags keep parser))
