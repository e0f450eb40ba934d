-- Texts that end with the line of a document marker (YAML 1.2.2, 9.1.2, 9.1.4), in texts whose breaks are line feeds.
use Rattle.std.specs.Prelude.{◌≡◌, ◌⊎◌, ℕ, List, [], ◌∷◌, ◌++◌, map, codes}
use Rattle.saphyr_input.specs.Classes.{line_feed}
use Rattle.scalar_laws.specs.Spelling.Spaces.{AreMany, IsLineRest}
use Rattle.yaml_laws.specs.Grammar.Yaml.{IsMarkBehindFiller}
use Rattle.saphyr_scanner.specs.Grammar.Tokens as tokens
use Rattle.saphyr_scanner.specs.Grammar.Tokens.{Kind}
use Rattle.saphyr_scanner.specs.Grammar.Forest.{Forest}
use Rattle.saphyr_scanner.specs.Views.Tokens.{Piece, Remaining}
use Rattle.saphyr_scanner.specs.Grammar.TokenGrammar.{Yields}

-- `---`, which starts a document, and `...`, which ends one
pub data DocumentMarker : Type 0 where
  Starts : DocumentMarker
  Ends : DocumentMarker

abbrev pub marker_text : DocumentMarker → List ℕ
marker_text Starts = codes "---"
marker_text Ends = codes "..."

-- the marker's own token
abbrev pub marker_token : DocumentMarker → Kind
marker_token Starts = tokens.DocumentStart
marker_token Ends = tokens.DocumentEnd

-- after this text a line begins: it is empty, or ends with a break
abbrev pub IsBeforeLine : List ℕ → Type 0
IsBeforeLine front = (front ≡ []) ⊎ ((others : List ℕ) × (front ≡ others ++ line_feed ∷ []))

-- this text ends with byte order marks of the stream, which are at its start, or after a `...` line
abbrev pub EndsWithMark : List ℕ → Type 0
EndsWithMark front =
    (marks : List ℕ) × AreMany IsMarkBehindFiller marks
    × ((front ≡ marks)
    ⊎ ((others rest : List ℕ) × IsBeforeLine others × IsLineRest rest
    × (front ≡ others ++ (codes "..." ++ (rest ++ line_feed ∷ marks)))))

-- after this text a marker's line begins, perhaps with byte order marks, which take up no column
abbrev pub IsBeforeMarker : List ℕ → Type 0
IsBeforeMarker front = IsBeforeLine front ⊎ EndsWithMark front

-- the text ends with the marker's line: the marker, what may come after it on its line, and the break
abbrev pub EndsWithMarker : (List ℕ → Type 0) → DocumentMarker → List ℕ → Type 0
EndsWithMarker IsTail marker text =
    (front tail : List ℕ) × IsTail tail × IsBeforeMarker front
    × (text ≡ front ++ (marker_text marker ++ (tail ++ line_feed ∷ [])))

-- The tokens begin with those of a forest, up to and including a marker's. If the stream's end came next, these would
-- be all.
pub record HandsOut (marker : DocumentMarker) (forest : Forest) (r : Remaining) : Type 0 where
  pub earlier : List Kind
  pub more : List Kind
  pub yields : Yields forest (earlier ++ marker_token marker ∷ tokens.StreamEnd ∷ [])
  pub begins : map (λ (t : Piece). t.kind) r.pieces ≡ earlier ++ marker_token marker ∷ more
