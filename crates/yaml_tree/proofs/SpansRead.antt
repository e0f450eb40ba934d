-- A loader keeps the spans of the events that it takes.
use Rattle.std.proofs.Common.{◌≡◌, ◌++◌, List, [], ◌∷◌, true, false, map, Result, Ok, Err, IfOk, OnOk, refl, sym, ap, subst, ◌∙◌, inl, inr}
use Rattle.std.specs.declared.alloc.AllocError.{AllocError}
use Rattle.saphyr_parser.specs.Answer.{Answer, OutOfMemory}
use Rattle.saphyr_parser.specs.Cursor.{EventCursor, Stays}
use Rattle.yaml_tree.specs.declared.fault.TreeFault.{TreeFault}
use Rattle.yaml_tree.specs.declared.tally.Limits.{Limits}
use Rattle.yaml_tree.specs.declared.spans.SpanKeeper.{SpanKeeper}
use Rattle.yaml_tree.specs.declared.spans.SpannedDocuments.{SpannedDocuments}
use Rattle.yaml_tree.specs.declared.loading.Loader.{Loader}
use Rattle.yaml_tree.specs.BuilderSeen.{Finishes}
use Rattle.yaml_tree.specs.LoaderSeen.{LoaderTakes}
use Rattle.yaml_tree.specs.Leaving.{LeavesParser}
use Rattle.yaml_tree.specs.Spanning.{KeptSpans, IsSpannedStream, all_spans, kept_behind}
use Rattle.yaml_tree.specs.Tables.{Event}
use Rattle.yaml_tree.specs.KeeperSeen.{AreKept, kept_spans, documents_of}
use Rattle.yaml_tree.proofs.Loads.{some_fault}
use Rattle.yaml_tree.proofs.Spanned.{kept_behind_all-append, keeps_stream}

-- ## Event after event

pub keeps_more : (r : Result (Unit {0}) AllocError) (es : List Event) (e : Event) (old new : SpanKeeper)
    → OnOk r (kept_spans new ≡ kept_behind e.0 e.1 (kept_spans old)) → AreKept es old
    → OnOk r (AreKept (es ++ e ∷ []) new)
keeps_more (Ok u) es e old new next (start, kept) =
    (start, next ∙ ap (kept_behind e.0 e.1) kept ∙ sym (kept_behind_all-append es (e ∷ []) _))
keeps_more (Err f) es e old new next kept = tt

-- ## The documents

pub gives_spans : (r : Result SpannedDocuments TreeFault) (limits : Limits) (all mid left : Answer)
    (l : Loader SpanKeeper) → Stays all mid → LoaderTakes AreKept true limits [] (Ok false) mid left l
    → Finishes (documents_of r) l.builder
    → IfOk r (λ s. map all_spans s.spans.items ≡ (kept_spans l.keeper).ended)
    → IfOk r (λ s. IsSpannedStream s.documents.items (map all_spans s.spans.items) all.events)
gives_spans (Err f) limits all mid left l stays t finishes spans = tt
gives_spans (Ok s) limits all mid left l (inl same) t finishes spans =
    let kept = t.holds.1.kept in
    subst (λ (a : Answer). IsSpannedStream s.documents.items (map all_spans s.spans.items) a.events) same
    (keeps_stream s.documents.items mid.events (record { ended = []; start = kept.0; nodes = [] })
    (map all_spans s.spans.items) (finishes.0 ∙ t.holds.1.written) refl refl
    (spans ∙ ap (λ (x : KeptSpans). x.ended) kept.1))
gives_spans (Ok s) limits all mid left l (inr lost) t finishes spans =
    absurd (some_fault OutOfMemory (sym (ap (λ (x : Answer). x.fault) lost.1) ∙ t.fault))

-- an answer leaves the parser as that of its documents does
pub leaves_alike : (r : Result SpannedDocuments TreeFault) (old new : EventCursor)
    → LeavesParser (documents_of r) old new → LeavesParser r old new
leaves_alike (Ok s) old new h = record { looked = h.looked; looks = h.looks; leaves = h.leaves }
leaves_alike _ old new h =
    record { looked = h.looked; looks = h.looks; leaves = h.leaves }
