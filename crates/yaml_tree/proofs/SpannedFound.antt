-- The next document and its spans, and what a call answers.
use Rattle.std.proofs.Common.{◌≡◌, ◌∙◌, List, [], ◌∷◌, ◌++◌, map, Option, Some, None, Bool, true, false, Result, Ok, Err, refl, sym, ap, subst, append-nil}
use Rattle.std.proofs.lemmas.List.{append_cancel_right}
use Rattle.saphyr_scalar.specs.declared.scalar.position.Span.{Span}
use Rattle.saphyr_parser.specs.Answer.{Answer, OutOfMemory, fault_alone}
use Rattle.saphyr_parser.specs.Cursor.{Stays}
use Rattle.saphyr_parser.specs.Events.{Happening, StreamStart}
use Rattle.saphyr_parser.specs.Nesting.{happenings}
use Rattle.yaml_tree.specs.declared.fault.TreeFault.{TreeFault}
use Rattle.yaml_tree.specs.declared.tally.Limits.{Limits}
use Rattle.yaml_tree.specs.declared.document.Document.{Document}
use Rattle.yaml_tree.specs.declared.spans.DocumentSpans.{DocumentSpans}
use Rattle.yaml_tree.specs.declared.spans.SpanKeeper.{SpanKeeper}
use Rattle.yaml_tree.specs.declared.loading.Loader.{Loader}
use Rattle.yaml_tree.specs.DocumentLoading.{AtMost}
use Rattle.yaml_tree.specs.DocumentSeen.{GoesOnBehind, HoldsLast}
use Rattle.yaml_tree.specs.LoaderSeen.{LoaderTakes}
use Rattle.yaml_tree.specs.KeeperSeen.{AreKept, HandsOutLast, HasSpans, ReturnsLast, document_of, kept_spans}
use Rattle.yaml_tree.specs.Unloading.{document_events}
use Rattle.yaml_tree.specs.Spanning.{IsSpannedDocument, KeptSpans, all_spans, kept_behind_all}
use Rattle.yaml_tree.specs.Tables.{Event}
use Rattle.yaml_tree.proofs.DocumentFound.{loads_last, no_events_of}
use Rattle.yaml_tree.proofs.Loads.{behind_look}
use Rattle.yaml_tree.proofs.Spanned.{keeps_next}

one_mapped : {X Y : Type 0} (f : X → Y) (xs : List X) (y : Y) → map f xs ≡ y ∷ []
    → (x : X) × (xs ≡ x ∷ []) × (f x ≡ y)
one_mapped f [] y e = absurd (cc)
one_mapped f (x ∷ []) y e = (x, refl, cc)
one_mapped f (x ∷ (z ∷ xs)) y e = absurd (cc)

abbrev Pair : Type 0
Pair = Document × DocumentSpans

-- the answer is the document that is held, with its own spans
pub record IsPaired (held : Result (Option Document) TreeFault) (r : Result (Option Pair) TreeFault)
    (all left : Answer) : Type 0 where
  pub same : document_of r ≡ held
  pub spans : HasSpans r all left

paired : (d : Document) (s : DocumentSpans) (r : Result (Option Pair) TreeFault) (all left : Answer)
    → r ≡ Ok (Some (d, s)) → IsSpannedDocument d (all_spans s) all.events left.events
    → IsPaired (Ok (Some d)) r all left
paired d s r all left is spanned =
    record { same = ap document_of is; spans = subst (λ x. HasSpans x all left) (sym is) spanned }

-- what was taken up to a document's end, or to that of the stream, has its spans
spans_taken : (limits : Limits) (before : List Happening) (b : Bool) (all left : Answer) (l : Loader SpanKeeper)
    → LoaderTakes AreKept false limits before (Ok b) all left l
    → (taken : List Event) × (all.events ≡ taken ++ left.events) × AreKept taken l.keeper
spans_taken limits before true all left l t = (t.1.taken, t.1.split, t.1.holds.kept)
spans_taken limits before false all left l t = (
  all.events,
  sym (ap (λ (x : Answer). all.events ++ x.events) t.nothing ∙ append-nil all.events),
  t.holds.1.kept,
)

module _ (limits : Limits) (before : List Happening) (b : Bool) (all left : Answer) (l : Loader SpanKeeper)
    (r : Result (Option Pair) TreeFault) (at : AtMost StreamStart before) (on : GoesOnBehind before all)
    (t : LoaderTakes AreKept false limits before (Ok b) all left l) where
  pairs_with : (held : Result (Option Document) TreeFault) → HoldsLast held l.builder
      → ReturnsLast held l.keeper.ended.items r → IsPaired held r all left
  pairs_with (Ok (Some d)) h is =
      let p = loads_last AreKept limits before b all left l (Ok (Some d)) at on t h in
      let k = spans_taken limits before b all left l t in
      let same = append_cancel_right k.0 p.passed left.events (sym k.1 ∙ p.split) in
      let first : KeptSpans = record { ended = []; start = k.2.0; nodes = [] } in
      let next = keeps_next d p.start p.passed all.events left.events (kept_spans l.keeper) first p.first p.own p.split
      (k.2.1 ∙ ap (λ (es : List Event). kept_behind_all es first) same) refl refl in
      let one = one_mapped all_spans l.keeper.ended.items next.spans next.ended in
      paired d one.0 r all left (is [] one.0 one.1)
      (subst (λ (spans : List Span). IsSpannedDocument d spans all.events left.events) (sym one.2) next.spanned)
  pairs_with (Ok None) h is =
      record { same = ap document_of is; spans = subst (λ x. HasSpans x all left) (sym is) tt }
  pairs_with (Err f) h is =
      record { same = ap document_of is; spans = subst (λ x. HasSpans x all left) (sym is) tt }

  pub pairs : (h : HandsOutLast r l) → IsPaired h.0 r all left
  pairs h = pairs_with h.0 h.1 h.2

-- ## A look before

nothing_passed : (d : Document) (front own left : List (Happening × Span)) → [] ≡ front ++ (own ++ left)
    → happenings own ≡ document_events d → ⊥
nothing_passed d [] own left e given = no_events_of own left d [] e given
nothing_passed d (x ∷ front) own left e given = absurd (cc)

no_spans : (d : Document) (spans : List Span) (left : List (Happening × Span)) → IsSpannedDocument d spans [] left → ⊥
no_spans d spans left h = nothing_passed d h.front h.own left h.split h.events

spans_lost : (all left : Answer) (r : Result (Option Pair) TreeFault) → HasSpans r (fault_alone OutOfMemory) left
    → HasSpans r all left
spans_lost all left (Ok (Some d)) h = absurd (no_spans d.0 (all_spans d.1) left.events h)
spans_lost all left _ h = tt

pub spans_found : (before : List Happening) (all mid left : Answer) (r : Result (Option Pair) TreeFault)
    → Stays all mid × GoesOnBehind before mid → (GoesOnBehind before mid → HasSpans r mid left) → HasSpans r all left
spans_found before all mid left r (stays, on) spans =
    behind_look (λ a. HasSpans r a left) all mid stays (λ some h. spans_lost all left r h) (spans on)
