-- The promise on texts of JSON: each is a text of YAML's grammar, so a parser that is at the start of its tokens
-- gives exactly its forest's events. Its forest has no anchors, so no limit is asked for.
use Rattle.event_laws.proofs.Common.{◌≡◌, ◌≤◌, ◌<◌, ◌^◌, ℕ, List, length, arith, sym, subst, Forest, open_in_forest, Yields, most_open, scan, IsJson, IsYamlText, EventCursor, at_start, anchors, parts, ReadsJson}
use Rattle.event_laws.proofs.Promises.Forests.{each_parsed}
use Rattle.event_laws.proofs.Promises.JsonEvents.{json_has_no_anchors}
use Rattle.event_laws.proofs.Promises.ReadsYaml.{ScansYaml}

-- each text of JSON is a text of YAML's grammar
abbrev pub JsonIsYaml : Type 0
JsonIsYaml = (room : ℕ) (forest : Forest) (text : List ℕ) → IsJson forest text → open_in_forest forest ≤ room
    → IsYamlText room forest text

few_anchors : (forest : Forest) (text : List ℕ) → IsJson forest text → anchors (parts forest) < 2 ^ 64
few_anchors forest text json = let none = json_has_no_anchors forest text json in omega (arith, none)

pub reads_each_json : JsonIsYaml → ScansYaml → (limit : ℕ) (text : List ℕ) → length text < 2 ^ 63
    → (parser : EventCursor) → parser ≡ at_start (scan limit text) → ReadsJson limit text parser
reads_each_json stands scans limit text small parser is forest keep emitted p =
    let json = p.stands_for.0 in
    let yaml = stands most_open forest text json p.stands_for.1 in
    let scanned = scans limit forest text yaml p.within small in
    let yields = subst (Yields forest) (sym scanned.2.1) scanned.1 in
    rw is
    (each_parsed forest keep (scan limit text) emitted yields scanned.2.0 (few_anchors forest text json) p.has_events)
