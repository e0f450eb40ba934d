-- The tokens of a forest give its events.
use Rattle.event_laws.proofs.Common.{◌≡◌, ◌<◌, ◌^◌, Bool, true, false, List, [], ◌∷◌, ◌++◌, Some, None, ◌∙◌, ◌⊎◌, append_assoc, arith, Node, Document, AreCompatible, Forest, Kind, DocumentEnd, YieldsDocument, AreEndsAndMarks, YieldDocuments, Yields, Piece, Remaining, anchors, no_span, Part, CloseDocument, node_parts, document_parts, parts, Happening, events, no_anchors, at_start, keeping_tags, to_come, GivesExactly, kinds, answer_of_tokens}
use Rattle.event_laws.proofs.Emitted.Emitting.{SpansByKinds, Memory, dressed, dress}
use Rattle.event_laws.proofs.AddsUp.{IsInNode, of_node}
use Rattle.event_laws.proofs.Emitted.Streams.{stream_says}
use Rattle.event_laws.proofs.MemoryFits.{FitsBetween, Within, same_events}

-- ## The parts of a forest are in their places

alone_within : (p : Part) → IsInNode p → (ps : List Part) → Within true ps → Within true (p ∷ ps)
alone_within k i ps h = grind arith

node_within : (n : Node) (ps : List Part) → Within true ps → Within true (node_parts n ++ ps)
node_within = of_node (λ qs. (ps : List Part) → Within true ps → Within true (qs ++ ps)) (λ ps h. h)
    (λ ps qs f g rs h. rw (append_assoc ps qs rs) (f (qs ++ rs) (g rs h))) alone_within

-- each document's directives go together
abbrev pub AreAllCompatible : Forest → Type 0
AreAllCompatible [] = Unit {0}
AreAllCompatible (d ∷ ds) = AreCompatible d.directives × AreAllCompatible ds

pub documents_within : (ds : Forest) → AreAllCompatible ds → Within false (document_parts ds)
documents_within [] h = (tt, tt)
documents_within (d ∷ ds) h =
    (h.0, node_within d.node (CloseDocument ∷ document_parts ds) (tt, documents_within ds h.1))

document_compatible : (d : Document) (free : Bool) (t : List Kind) → YieldsDocument d free t
    → AreCompatible d.directives
document_compatible d free t h = grind arith

pub all_compatible : (ds : Forest) (free : Bool) (t : List Kind) → YieldDocuments ds free t → AreAllCompatible ds
all_compatible [] free t h = tt
all_compatible (d ∷ ds) free t h = (document_compatible d free h.0 h.2, behind h.3.4 (λ b u g. all_compatible ds b u g))
  where
    behind : ((h.3.1 ≡ []) × YieldDocuments ds false h.3.2)
        ⊎ ((more : List Kind) × AreEndsAndMarks more × (h.3.1 ≡ DocumentEnd ∷ more) × YieldDocuments ds true h.3.2)
        → ((b : Bool) (u : List Kind) → YieldDocuments ds b u → AreAllCompatible ds) → AreAllCompatible ds
    behind h g = grind arith

-- ## The start

abbrev pub at_first : Bool → Memory
at_first keep = record { anchors = no_anchors; prefixes = []; keep = keep }

pub fits_start : (keep : Bool) → FitsBetween keep [] (at_first keep)
fits_start keep = grind arith

pub each_gives : (f : Forest) (keep : Bool) (ts : List Piece) (es : List Happening) → Yields f (kinds ts)
    → anchors (parts f) < 2 ^ 64 → events f keep ≡ Some es → GivesExactly es (answer_of_tokens keep ts)
each_gives f keep ts es y l e =
    let any : (g : SpansByKinds) × (ts ≡ dressed g (kinds ts)) = dress no_span ts in
    let within : Within false (parts f) = (tt, documents_within f (all_compatible f true y.1 y.3)) in
    let same = same_events (parts f) false keep [] (at_first keep) within (fits_start keep) (omega (arith, l)) in
    rw any.1 (stream_says f (kinds ts) y any.0 (at_first keep) es (same ∙ e))

-- the same of a parser before these tokens
pub each_parsed : (f : Forest) (keep : Bool) (ts : Remaining) (es : List Happening) → Yields f (kinds ts.pieces)
    → ts.refusal ≡ None → anchors (parts f) < 2 ^ 64 → events f keep ≡ Some es
    → GivesExactly es (to_come (keeping_tags keep (at_start ts)))
each_parsed f keep ts es y n l e = rw n (each_gives f keep ts.pieces es y l e)
