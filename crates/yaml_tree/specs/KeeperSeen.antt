-- What contracts see of spans that are kept.
use Rattle.std.specs.Prelude.{◌≡◌, ◌++◌, List, [], ◌∷◌, map, Option, Some, None, option_map, Result, Ok, Err, Vec}
use Rattle.std.specs.Global.{Global}
use Rattle.saphyr_scalar.specs.declared.scalar.position.Span.{Span}
use Rattle.saphyr_parser.specs.Answer.{Answer}
use Rattle.yaml_tree.specs.declared.fault.TreeFault.{TreeFault}
use Rattle.yaml_tree.specs.declared.document.Document.{Document}
use Rattle.yaml_tree.specs.declared.spans.DocumentSpans.{DocumentSpans}
use Rattle.yaml_tree.specs.declared.loading.Loader.{Loader}
use Rattle.yaml_tree.specs.declared.spans.NoSpans.{NoSpans}
use Rattle.yaml_tree.specs.declared.spans.SpanKeeper.{SpanKeeper}
use Rattle.yaml_tree.specs.declared.spans.SpannedDocuments.{SpannedDocuments}
use Rattle.yaml_tree.specs.DocumentSeen.{HoldsLast}
use Rattle.yaml_tree.specs.Spanning.{IsSpannedDocument, KeptSpans, all_spans, kept_behind_all}
use Rattle.yaml_tree.specs.Tables.{Event}

abbrev pub kept_spans : SpanKeeper → KeptSpans
kept_spans k = record { ended = map all_spans k.ended.items; start = k.start; nodes = k.nodes.items }

-- an answer without its spans
abbrev pub documents_of : Result SpannedDocuments TreeFault → Result (Vec Document Global) TreeFault
documents_of (Ok spanned) = Ok spanned.documents
documents_of (Err f) = Err f

abbrev pub document_of : Result (Option (Document × DocumentSpans)) TreeFault → Result (Option Document) TreeFault
document_of (Ok found) = Ok (option_map (λ (d : Document × DocumentSpans). d.0) found)
document_of (Err f) = Err f

-- the spans of these events were kept, and no others
abbrev pub AreKept : List Event → SpanKeeper → Type 0
AreKept es k =
    (start : Span) × (kept_spans k ≡ kept_behind_all es (record { ended = []; start = start; nodes = [] }))

-- No spans are wanted of these events.
abbrev pub AreUnkept : List Event → NoSpans → Type 0
AreUnkept es k = Unit {0}

-- a document has the spans of its events
abbrev pub HasSpans : Result (Option (Document × DocumentSpans)) TreeFault → Answer → Answer → Type 0
HasSpans (Ok (Some d)) all left = IsSpannedDocument d.0 (all_spans d.1) all.events left.events
HasSpans _ all left = Unit {0}

-- Of a document that is held it returns the spans that were kept last.
abbrev pub ReturnsLast : Result (Option Document) TreeFault → List DocumentSpans
    → Result (Option (Document × DocumentSpans)) TreeFault → Type 0
ReturnsLast (Ok (Some d)) kept r = (others : List DocumentSpans) (spans : DocumentSpans)
    → kept ≡ others ++ spans ∷ [] → r ≡ Ok (Some (d, spans))
ReturnsLast (Ok None) kept r = r ≡ Ok None
ReturnsLast (Err f) kept r = r ≡ Err f

abbrev pub HandsOutLast : Result (Option (Document × DocumentSpans)) TreeFault → Loader SpanKeeper
    → Type 0
HandsOutLast r l = (held : Result (Option Document) TreeFault) × HoldsLast held l.builder
    × ReturnsLast held l.keeper.ended.items r
