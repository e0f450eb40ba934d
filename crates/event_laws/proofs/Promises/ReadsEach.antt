-- A parser gives exactly the events of a text of any grammar whose tokens are those of its forests.
use Rattle.event_laws.proofs.Common.{◌≡◌, ◌+◌, ◌*◌, ◌≤◌, ◌<◌, ◌^◌, ℕ, List, length, arith, length-map, Forest, Scans, scan, Yields, Kind, anchors, parts, EventCursor, at_start, kinds, Grammar, ReadsEach}
use Rattle.event_laws.proofs.AnchorCount.{forest_count}
use Rattle.event_laws.proofs.Promises.Forests.{each_parsed}

-- the tokens of a text within the limit are those of each of its forests
abbrev pub ScansForests : Grammar → ℕ → List ℕ → Type 0
ScansForests G limit text = (forest : Forest) → G forest text → length text ≤ limit
    → (tokens : List Kind) × Yields forest tokens × Scans tokens (scan limit text)

few_anchors : (forest : Forest) (limit : ℕ) (text : List ℕ) → Yields forest (kinds (scan limit text).pieces)
    → length (scan limit text).pieces ≤ 5 * limit + 10 → limit ≤ 4294967295 → anchors (parts forest) < 2 ^ 64
few_anchors forest limit text yields bound most = grind (arith, length-map, forest_count)

pub reads_each : (G : Grammar) (limit : ℕ) (text : List ℕ) → limit ≤ 4294967295
    → length (scan limit text).pieces ≤ 5 * limit + 10 → ScansForests G limit text → (c : EventCursor)
    → c ≡ at_start (scan limit text) → ReadsEach G limit text c
reads_each u0 limit text most bound scans c is forest keep emitted promised = grind (arith, each_parsed, few_anchors)
