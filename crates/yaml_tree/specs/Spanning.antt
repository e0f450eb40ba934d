-- The spans of documents: those of their events (YAML 1.2.2, 3.1).
use Rattle.std.specs.Prelude.{◌≡◌, List, [], ◌∷◌, ◌++◌, map}
use Rattle.saphyr_scalar.specs.declared.scalar.position.Span.{Span}
use Rattle.saphyr_parser.specs.Events.{Happening, Nothing, StreamStart, StreamEnd, DocumentStart, DocumentEnd}
use Rattle.saphyr_parser.specs.Nesting.{happenings}
use Rattle.yaml_tree.specs.declared.document.Document.{Document}
use Rattle.yaml_tree.specs.declared.spans.DocumentSpans.{DocumentSpans}
use Rattle.yaml_tree.specs.DocumentLoading.{AtMost}
use Rattle.yaml_tree.specs.Unloading.{document_events}

-- events by their spans alone
abbrev pub places_of_events : List (Happening × Span) → List Span
places_of_events events = map (λ (e : Happening × Span). e.1) events

-- the spans of a document's start, of its nodes' events, and of its end
abbrev pub all_spans : DocumentSpans → List Span
all_spans s = s.start ∷ (s.nodes.items ++ s.end ∷ [])

-- These are the events of the documents, one after the other, and each document's have these spans.
abbrev pub AreSpanned : List Document → List (List Span) → List (Happening × Span) → Type 0
AreSpanned [] [] events = events ≡ []
AreSpanned (d ∷ ds) (spans ∷ others) events =
    (own : List (Happening × Span)) × (behind : List (Happening × Span)) × (events ≡ own ++ behind)
    × (happenings own ≡ document_events d) × (places_of_events own ≡ spans) × AreSpanned ds others behind
AreSpanned _ _ events = ⊥

-- These are the events of a stream, its start and its end around those of the documents, and each document's have
-- these spans.
pub record IsSpannedStream (documents : List Document) (spans : List (List Span))
    (events : List (Happening × Span)) : Type 0 where
  pub first : Span
  pub inner : List (Happening × Span)
  pub last : Span
  pub split : events ≡ (StreamStart, first) ∷ (inner ++ (StreamEnd, last) ∷ [])
  pub spanned : AreSpanned documents spans inner

-- These are the next events, up to the document's end: at most the stream's start, and the document's, which have these
-- spans.
pub record IsSpannedDocument (document : Document) (spans : List Span) (all left : List (Happening × Span))
    : Type 0 where
  pub front : List (Happening × Span)
  pub own : List (Happening × Span)
  pub split : all ≡ front ++ (own ++ left)
  pub first : AtMost StreamStart (happenings front)
  pub events : happenings own ≡ document_events document
  pub places : places_of_events own ≡ spans

-- ## Spans that are kept

-- the spans of the documents that ended, and of the one that is open
pub record KeptSpans : Type 0 where
  pub ended : List (List Span)
  pub start : Span
  pub nodes : List Span

abbrev pub with_node_span : Span → KeptSpans → KeptSpans
with_node_span span k = record { ended = k.ended; start = k.start; nodes = k.nodes ++ span ∷ [] }

abbrev pub kept_behind : Happening → Span → KeptSpans → KeptSpans
kept_behind Nothing span k = k
kept_behind StreamStart span k = k
kept_behind StreamEnd span k = k
kept_behind (DocumentStart explicit) span k = record { ended = k.ended; start = span; nodes = k.nodes }
kept_behind DocumentEnd span k =
    record { ended = k.ended ++ (k.start ∷ (k.nodes ++ span ∷ [])) ∷ []; start = k.start; nodes = [] }
kept_behind _ span k = with_node_span span k

abbrev pub kept_behind_all : List (Happening × Span) → KeptSpans → KeptSpans
kept_behind_all [] k = k
kept_behind_all (e ∷ es) k = kept_behind_all es (kept_behind e.0 e.1 k)
