-- The promise on closed beginnings, since the scanner's tokens begin with those of a closed beginning.
use Rattle.event_laws.proofs.Common.{◌==◌, slice_index, ◌≡◌, ℕ, ◌+◌, ◌*◌, ◌^◌, ◌<◌, ◌≤◌, Bool, true, false, List, [], ◌∷◌, ◌++◌, map, length, Some, None, refl, sym, ap, ◌∙◌, arith, normalized, Forest, most_open, scan, Piece, Kind, IsYamlText, anchors, parts, Happening, events, EventCursor, at_start, keeping_tags, to_come, kinds, marker_token, ReadsClosedYaml, Grammar, DocumentMarker, EndsWithMarker, GivesFirst, ReadsClosed, events_behind_marker}
use Rattle.std.proofs.lemmas.List.{length-append, length-map}
use Rattle.saphyr_input.specs.Classes.{carriage_return, line_feed}
use Rattle.scalar_laws.specs.Spelling.Spaces.{IsLineRest}
use Rattle.saphyr_scanner.specs.Grammar.Tokens as tokens
use Rattle.yaml_laws.specs.Grammar.ClosedTexts.{HandsOut}
use Rattle.event_laws.proofs.AnchorCount.{forest_count}
use Rattle.event_laws.proofs.ByKinds.{piece_of, kinds_of, closed_kinds}
use Rattle.event_laws.proofs.Promises.Forests.{each_parsed}
use Rattle.saphyr_input.proofs.Basics.Characters.{normalized_other}

-- ## A beginning of the normalized text is one of the text

-- the text begins with `front`, whose breaks are whole: normalized, it is xs
record WholeParts (text xs others : List ℕ) : Type 0 where
  front : List ℕ
  behind : List ℕ
  are_all : text ≡ front ++ behind
  is_front : normalized front ≡ xs
  is_behind : normalized behind ≡ others

before_feed : (c : ℕ) (cs : List ℕ) → (c == carriage_return) ≡ true → (slice_index cs 0 == line_feed) ≡ true
    → normalized (c ∷ cs) ≡ normalized cs
before_feed c cs e f = rw (e, f) refl

lone_return : (c : ℕ) (cs : List ℕ) → (c == carriage_return) ≡ true → (slice_index cs 0 == line_feed) ≡ false
    → normalized (c ∷ cs) ≡ line_feed ∷ normalized cs
lone_return c cs e f = rw (e, f) refl

-- a beginning that isn't empty begins as the whole does
feed_first : (x : ℕ) (xs front behind cs : List ℕ) → cs ≡ front ++ behind → normalized front ≡ x ∷ xs
    → (slice_index cs 0 == line_feed) ≡ true → (slice_index front 0 == line_feed) ≡ true
feed_first x xs [] behind cs e n f = absurd (cc)
feed_first x xs (d ∷ ds) behind cs e n f = rw e at f

front_begins_no_feed : (front behind cs : List ℕ) → cs ≡ front ++ behind → (slice_index cs 0 == line_feed) ≡ false
    → (slice_index front 0 == line_feed) ≡ false
front_begins_no_feed [] behind cs e f = refl
front_begins_no_feed (d ∷ ds) behind cs e f = rw e at f

-- The beginning is found for what is behind the first character: for less of the normalized text (`less`), or for the
-- same (`same`) where the character is the CR of a CR LF, which normalizing drops. What is left to show is that the
-- beginning keeps the CR with its LF, or has no LF behind a lone CR, as the whole text.
with_first : (c : ℕ) (cs : List ℕ) (x : ℕ) (xs others : List ℕ) (return feed : Bool) → (c == carriage_return) ≡ return
    → (slice_index cs 0 == line_feed) ≡ feed → (normalized cs ≡ xs ++ others → WholeParts cs xs others)
    → (normalized cs ≡ x ∷ xs ++ others → WholeParts cs (x ∷ xs) others) → normalized (c ∷ cs) ≡ x ∷ xs ++ others
    → WholeParts (c ∷ cs) (x ∷ xs) others
with_first c cs x xs others false feed e f less same n =
    let p = less (cc) in
    record {
      front = c ∷ p.front;
      behind = p.behind;
      are_all = ap (λ vs. c ∷ vs) p.are_all;
      is_front = normalized_other c p.front e ∙ (let own = p.is_front in cc);
      is_behind = p.is_behind;
    }
with_first c cs x xs others true true e f less same n =
    let p = same (sym (before_feed c cs e f) ∙ n) in
    record {
      front = c ∷ p.front;
      behind = p.behind;
      are_all = ap (λ vs. c ∷ vs) p.are_all;
      is_front = before_feed c p.front e (feed_first x xs p.front p.behind cs p.are_all p.is_front f) ∙ p.is_front;
      is_behind = p.is_behind;
    }
with_first c cs x xs others true false e f less same n =
    let p = less (cc) in
    record {
      front = c ∷ p.front;
      behind = p.behind;
      are_all = ap (λ vs. c ∷ vs) p.are_all;
      is_front =
          lone_return c p.front e (front_begins_no_feed p.front p.behind cs p.are_all f) ∙ (let own = p.is_front in cc);
      is_behind = p.is_behind;
    }

parted : (text xs others : List ℕ) → normalized text ≡ xs ++ others → WholeParts text xs others
parted text [] others e = record { front = []; behind = text; are_all = refl; is_front = refl; is_behind = e }
parted [] (x ∷ xs) others e = absurd (cc)
parted (c ∷ cs) (x ∷ xs) others e =
    with_first c cs x xs others (c == 13) (slice_index cs 0 == 10) refl refl (λ n. parted cs xs others n)
    (λ n. parted cs (x ∷ xs) others n) e

-- ## The promise

-- The tokens of each text that ends with the line of a marker are handed out up to the marker's, whatever follows. The
-- break between is whole.
abbrev pub HandsOutMarkers : Grammar → (List ℕ → Type 0) → ℕ → Type 0
HandsOutMarkers G IsTail limit = (marker : DocumentMarker) (forest : Forest) (text others : List ℕ) → G forest text
    → EndsWithMarker IsTail marker (normalized text)
    → normalized (text ++ others) ≡ normalized text ++ normalized others → length (text ++ others) ≤ limit
    → HandsOut marker forest (scan limit (text ++ others))

-- a text has no more tokens than its limit allows
abbrev pub BoundsTokens : ℕ → Type 0
BoundsTokens limit = (text : List ℕ) → length (scan limit text).pieces ≤ 5 * limit + 10

-- the grammar sees normalized breaks alone
abbrev pub SeesNormalized : Grammar → Type 0
SeesNormalized G = (forest : Forest) (xs ys : List ℕ) → normalized xs ≡ normalized ys → G forest xs → G forest ys

few_anchors : (forest : Forest) (limit : ℕ) (ts earlier more : List Kind) (k end : Kind) → ts ≡ earlier ++ k ∷ more
    → length ts ≤ 5 * limit + 10 → limit ≤ 4294967295 → anchors (parts forest) ≤ length (earlier ++ k ∷ end ∷ [])
    → anchors (parts forest) < 2 ^ 64
few_anchors forest limit ts earlier more k end e bound most count = grind (arith, length-append)

-- Were the stream's end the next token, the forest's events would be given exactly.
gives_first : (limit : ℕ) (keep : Bool) (marker : DocumentMarker) (forest : Forest) (text : List ℕ)
    (first : List Happening) → limit ≤ 4294967295 → BoundsTokens limit → HandsOut marker forest (scan limit text)
    → events forest keep ≡ Some (first ++ events_behind_marker marker)
    → GivesFirst first (to_come (keeping_tags keep (at_start (scan limit text))))
gives_first limit keep marker forest text first most bounds h emitted =
    let all = h.earlier ++ marker_token marker ∷ tokens.StreamEnd ∷ [] in
    let alone = map piece_of all in
    let bound : length (kinds (scan limit text).pieces) ≤ 5 * limit + 10 =
    rw (length-map (scan limit text).pieces (λ (t : Piece). t.kind)) (bounds text) in
    let few = few_anchors forest limit (kinds (scan limit text).pieces) h.earlier h.more (marker_token marker)
    tokens.StreamEnd h.begins bound most (forest_count forest all h.yields) in
    let given = each_parsed forest keep (record { pieces = alone; refusal = None })
    (first ++ events_behind_marker marker) (rw (kinds_of all) h.yields) refl few emitted in
    closed_kinds keep marker h.earlier h.more alone (scan limit text) first (kinds_of all) h.begins given

pub reads_closed : (G : Grammar) (IsTail : List ℕ → Type 0) (limit : ℕ) → limit ≤ 4294967295 → SeesNormalized G
    → BoundsTokens limit → HandsOutMarkers G IsTail limit → (text : List ℕ)
    → ReadsClosed G IsTail limit text (at_start (scan limit text))
reads_closed G IsTail limit most sees bounds hands text keep first c =
    let p = parted text (normalized c.front) c.others c.begins in
    let whole = ap length p.are_all in
    let all_within : length (p.front ++ p.behind) ≤ limit = omega (arith, whole, c.within) in
    let yaml = sees c.forest c.front p.front (sym p.is_front) c.promised.stands_for in
    let apart : normalized (p.front ++ p.behind) ≡ normalized p.front ++ normalized p.behind = cc in
    let hands_out = hands c.marker c.forest p.front p.behind yaml (rw p.is_front c.ends) apart all_within in
    rw p.are_all (gives_first limit keep c.marker c.forest (p.front ++ p.behind) first most bounds hands_out
    (c.promised.has_events ∙ ap Some c.are_emitted))

-- the same of YAML's grammar
pub reads_closed_yaml : (limit : ℕ) → limit ≤ 4294967295 → BoundsTokens limit
    → HandsOutMarkers (IsYamlText most_open) IsLineRest limit → (text : List ℕ) (parser : EventCursor)
    → parser ≡ at_start (scan limit text) → ReadsClosedYaml limit text parser
reads_closed_yaml limit most bounds hands text parser is =
    rw is (reads_closed (IsYamlText most_open) IsLineRest limit most (λ forest xs ys e g. rw e at g) bounds hands text)
