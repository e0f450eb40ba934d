-- The promise on texts of YAML's grammar: a parser that is at the start of one's tokens gives exactly its
-- forest's events.
use Rattle.event_laws.proofs.Common.{◌≡◌, ◌+◌, ◌*◌, ◌≤◌, ◌<◌, ◌^◌, ℕ, List, length, arith, Forest, most_open, Yields, Kind, Scans, scan, EventCursor, at_start, IsYamlText, ReadsYaml}
use Rattle.event_laws.proofs.Promises.ReadsEach.{reads_each}

-- each text of YAML's grammar gives tokens of its forest
abbrev pub ScansYaml : Type 0
ScansYaml = (limit : ℕ) (forest : Forest) (text : List ℕ) → IsYamlText most_open forest text
    → length text ≤ limit → length text < 2 ^ 63
    → (tokens : List Kind) × Yields forest tokens × Scans tokens (scan limit text)

pub reads_yaml : ScansYaml → (limit : ℕ) (text : List ℕ) → limit ≤ 4294967295
    → length (scan limit text).pieces ≤ 5 * limit + 10 → (parser : EventCursor) → parser ≡ at_start (scan limit text)
    → ReadsYaml limit text parser
reads_yaml scans limit text most bound = reads_each (IsYamlText most_open) limit text most bound
    (λ forest yaml short. scans limit forest text yaml short (omega (arith, short, most)))
