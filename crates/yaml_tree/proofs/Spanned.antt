-- The spans that were kept are those of the documents' events.
use Rattle.std.proofs.Common.{◌≡◌, Bool, List, [], ◌∷◌, ◌++◌, refl, sym, ap, subst, ◌∙◌, append_assoc, append-nil, inl, inr}
use Rattle.std.specs.List.{flat_map}
use Rattle.std.proofs.lemmas.List.{map-append}
use Rattle.saphyr_scalar.specs.declared.scalar.position.Span.{Span}
use Rattle.saphyr_parser.specs.Events.{Happening, Nothing, StreamStart, StreamEnd, DocumentStart, DocumentEnd}
use Rattle.saphyr_parser.specs.Nesting.{happenings}
use Rattle.yaml_tree.specs.declared.document.Document.{Document}
use Rattle.yaml_tree.specs.Unloading.{node_events, document_events, unload}
use Rattle.yaml_tree.specs.DocumentLoading.{AtMost}
use Rattle.yaml_tree.specs.Spanning.{IsSpannedDocument, KeptSpans, with_node_span, kept_behind, kept_behind_all, places_of_events, AreSpanned, IsSpannedStream}
use Rattle.yaml_tree.proofs.NodeEvents.{IsNodeEvent, AreNodeEvents, have_node_events}

-- ## Events by what they tell

record Split (es : List (Happening × Span)) (a b : List Happening) : Type 0 where
  pub front : List (Happening × Span)
  pub back : List (Happening × Span)
  pub split : es ≡ front ++ back
  pub front_given : happenings front ≡ a
  pub back_given : happenings back ≡ b

record First (es : List (Happening × Span)) (h : Happening) (hs : List Happening) : Type 0 where
  pub span : Span
  pub others : List (Happening × Span)
  pub split : es ≡ (h, span) ∷ others
  pub others_given : happenings others ≡ hs

first_event : (es : List (Happening × Span)) (h : Happening) (hs : List Happening) → happenings es ≡ h ∷ hs
    → First es h hs
first_event [] h hs e = absurd (cc)
first_event (x ∷ es) h hs e =
    let head : x.0 ≡ h = cc in
    let tail : happenings es ≡ hs = cc in
    record {
      span = x.1;
      others = es;
      split = ap (λ (k : Happening). (k, x.1) ∷ es) head;
      others_given = tail;
    }

splits : (es : List (Happening × Span)) (a b : List Happening) → happenings es ≡ a ++ b → Split es a b
splits es [] b e = record { front = []; back = es; split = refl; front_given = refl; back_given = e }
splits [] (y ∷ a) b e = absurd (cc)
splits (x ∷ es) (y ∷ a) b e =
    let head : x.0 ≡ y = cc in
    let tail : happenings es ≡ a ++ b = cc in
    let inner = splits es a b tail in
    record {
      front = x ∷ inner.front;
      back = inner.back;
      split = ap (λ (l : List (Happening × Span)). x ∷ l) inner.split;
      front_given = ap (λ (l : List Happening). x.0 ∷ l) inner.front_given ∙ ap (λ (h : Happening). h ∷ a) head;
      back_given = inner.back_given;
    }

none_given : (es : List (Happening × Span)) → happenings es ≡ [] → es ≡ []
none_given [] e = refl
none_given (x ∷ es) e = absurd (cc)

-- an event, others, and one more
record Ends (es : List (Happening × Span)) (a : List Happening) (h : Happening) : Type 0 where
  pub front : List (Happening × Span)
  pub span : Span
  pub split : es ≡ front ++ (h, span) ∷ []
  pub front_given : happenings front ≡ a

last_event : (es : List (Happening × Span)) (a : List Happening) (h : Happening) → happenings es ≡ a ++ h ∷ []
    → Ends es a h
last_event es a h e =
    let parts = splits es a (h ∷ []) e in
    let end = first_event parts.back h [] parts.back_given in
    record {
      front = parts.front;
      span = end.span;
      split = parts.split ∙ ap (λ (l : List (Happening × Span)). parts.front ++ l)
          (end.split ∙ ap (λ (l : List (Happening × Span)). (h, end.span) ∷ l)
          (none_given end.others end.others_given));
      front_given = parts.front_given;
    }

-- ## Event after event

pub kept_behind_all-append : (xs ys : List (Happening × Span)) (k : KeptSpans)
    → kept_behind_all (xs ++ ys) k ≡ kept_behind_all ys (kept_behind_all xs k)
kept_behind_all-append [] ys k = refl
kept_behind_all-append (x ∷ xs) ys k = kept_behind_all-append xs ys (kept_behind x.0 x.1 k)

keeps_node : (h : Happening) (span : Span) (k : KeptSpans) → IsNodeEvent h
    → kept_behind h span k ≡ with_node_span span k
keeps_node Nothing span k h = absurd h
keeps_node StreamStart span k h = absurd h
keeps_node StreamEnd span k h = absurd h
keeps_node (DocumentStart explicit) span k h = absurd h
keeps_node DocumentEnd span k h = absurd h
keeps_node _ span k h = refl

abbrev with_spans : List Span → KeptSpans → KeptSpans
with_spans spans k = record { ended = k.ended; start = k.start; nodes = k.nodes ++ spans }

abbrev with_all : KeptSpans → List Span → KeptSpans
with_all k spans = record { ended = k.ended; start = k.start; nodes = spans }

keeps_nodes : (es : List (Happening × Span)) (k : KeptSpans) → AreNodeEvents (happenings es)
    → kept_behind_all es k ≡ with_spans (places_of_events es) k
keeps_nodes [] k h = ap (with_all k) (sym (append-nil k.nodes))
keeps_nodes (e ∷ es) k h = ap (kept_behind_all es) (keeps_node e.0 e.1 k h.0)
    ∙ keeps_nodes es (with_node_span e.1 k) h.1
    ∙ ap (with_all k) (append_assoc k.nodes (e.1 ∷ []) (places_of_events es))

-- ## A document

abbrev closed : Span → Span → List Span → KeptSpans → List Span → KeptSpans
closed start end spans k nodes =
    record { ended = k.ended ++ (start ∷ ((nodes ++ spans) ++ end ∷ [])) ∷ []; start = start; nodes = [] }

keeps_own : (explicit : Bool) (start end : Span) (front : List (Happening × Span)) (k : KeptSpans)
    → AreNodeEvents (happenings front) → k.nodes ≡ []
    → kept_behind_all ((DocumentStart explicit, start) ∷ (front ++ (DocumentEnd, end) ∷ [])) k
    ≡ closed start end (places_of_events front) k []
keeps_own explicit start end front k h none =
    let begun : KeptSpans = record { ended = k.ended; start = start; nodes = k.nodes } in
    kept_behind_all-append front ((DocumentEnd, end) ∷ []) begun
    ∙ ap (kept_behind_all ((DocumentEnd, end) ∷ [])) (keeps_nodes front begun h)
    ∙ ap (closed start end (places_of_events front) k) none

record KeepsOne (es : List (Happening × Span)) (k : KeptSpans) : Type 0 where
  pub ended : (kept_behind_all es k).ended ≡ k.ended ++ places_of_events es ∷ []
  pub nodes : (kept_behind_all es k).nodes ≡ []

keeps_one : (es front : List (Happening × Span)) (explicit : Bool) (start end : Span) (k : KeptSpans)
    → es ≡ (DocumentStart explicit, start) ∷ (front ++ (DocumentEnd, end) ∷ [])
    → AreNodeEvents (happenings front) → k.nodes ≡ [] → KeepsOne es k
keeps_one es front explicit start end k is h none =
    let own = keeps_own explicit start end front k h none in
    let all = ap (λ l. kept_behind_all l k) is ∙ own in
    let spans : places_of_events es ≡ start ∷ (places_of_events front ++ end ∷ []) =
    ap places_of_events is
    ∙ ap (λ (l : List Span). start ∷ l) (map-append (λ (e : Happening × Span). e.1) front ((DocumentEnd, end) ∷ [])) in
    record {
      ended = ap (λ (x : KeptSpans). x.ended) all ∙ ap (λ (l : List Span). k.ended ++ l ∷ []) (sym spans);
      nodes = ap (λ (x : KeptSpans). x.nodes) all;
    }

keeps_document : (d : Document) (es : List (Happening × Span)) (k : KeptSpans) → happenings es ≡ document_events d
    → k.nodes ≡ [] → KeepsOne es k
keeps_document d es k given none =
    let start = first_event es (DocumentStart d.explicit) _ given in
    let end = last_event start.others (node_events d.root) DocumentEnd start.others_given in
    keeps_one es end.front d.explicit start.span end.span k
    (start.split ∙ ap (λ (l : List (Happening × Span)). (DocumentStart d.explicit, start.span) ∷ l) end.split)
    (subst AreNodeEvents (sym end.front_given) (have_node_events d.root)) none

-- The spans of the next document, which was passed with at most the stream's start.
pub record KeepsNext (d : Document) (all left : List (Happening × Span)) (kept : KeptSpans) : Type 0 where
  pub spans : List Span
  pub ended : kept.ended ≡ spans ∷ []
  pub spanned : IsSpannedDocument d spans all left

keeps_behind : (d : Document) (front own all left : List (Happening × Span)) (kept first : KeptSpans)
    → AtMost StreamStart (happenings front) → happenings own ≡ document_events d → all ≡ front ++ (own ++ left)
    → kept ≡ kept_behind_all own first → first.ended ≡ [] → first.nodes ≡ [] → KeepsNext d all left kept
keeps_behind d front own all left kept first at given split is none_ended none_open = record {
  spans = places_of_events own;
  ended = ap (λ (k : KeptSpans). k.ended) is ∙ (keeps_document d own first given none_open).ended
      ∙ ap (λ (l : List (List Span)). l ++ places_of_events own ∷ []) none_ended;
  spanned = record { front = front; own = own; split = split; first = at; events = given; places = refl };
}

pub keeps_next : (d : Document) (start : List Happening) (passed all left : List (Happening × Span))
    (kept first : KeptSpans) → AtMost StreamStart start → happenings passed ≡ start ++ document_events d
    → all ≡ passed ++ left → kept ≡ kept_behind_all passed first → first.ended ≡ [] → first.nodes ≡ []
    → KeepsNext d all left kept
keeps_next d start passed all left kept first (inl none) given split is none_ended none_open =
    keeps_behind d [] passed all left kept first (inl refl)
    (given ∙ ap (λ (hs : List Happening). hs ++ document_events d) none) split is none_ended none_open
keeps_next d start passed all left kept first (inr one) given split is none_ended none_open =
    let begin = first_event passed StreamStart (document_events d)
    (given ∙ ap (λ (hs : List Happening). hs ++ document_events d) one) in
    keeps_behind d ((StreamStart, begin.span) ∷ []) begin.others all left kept first (inr refl) begin.others_given
    (split ∙ ap (λ (es : List (Happening × Span)). es ++ left) begin.split)
    (is ∙ ap (λ (es : List (Happening × Span)). kept_behind_all es first) begin.split) none_ended none_open

-- ## Documents

record KeepsAll (documents : List Document) (es : List (Happening × Span)) (k : KeptSpans) : Type 0 where
  pub spans : List (List Span)
  pub spanned : AreSpanned documents spans es
  pub ended : (kept_behind_all es k).ended ≡ k.ended ++ spans

keeps_documents : (documents : List Document) (es : List (Happening × Span)) (k : KeptSpans)
    → happenings es ≡ flat_map document_events documents → k.nodes ≡ [] → KeepsAll documents es k
keeps_documents [] es k given none =
    let no_event = none_given es given in
    record {
      spans = [];
      spanned = no_event;
      ended = ap (λ l. (kept_behind_all l k).ended) no_event ∙ sym (append-nil k.ended);
    }
keeps_documents (d ∷ ds) es k given none =
    let parts = splits es (document_events d) (flat_map document_events ds) given in
    let one = keeps_document d parts.front k parts.front_given none in
    let others = keeps_documents ds parts.back (kept_behind_all parts.front k) parts.back_given one.nodes in
    record {
      spans = places_of_events parts.front ∷ others.spans;
      spanned = (parts.front, parts.back, parts.split, parts.front_given, refl, others.spanned);
      ended = ap (λ l. (kept_behind_all l k).ended) parts.split
          ∙ ap (λ (x : KeptSpans). x.ended) (kept_behind_all-append parts.front parts.back k)
          ∙ others.ended ∙ ap (λ (l : List (List Span)). l ++ others.spans) one.ended
          ∙ append_assoc k.ended (places_of_events parts.front ∷ []) others.spans;
    }

pub keeps_stream : (documents : List Document) (es : List (Happening × Span)) (k : KeptSpans)
    (spans : List (List Span)) → unload documents ≡ happenings es → k.ended ≡ [] → k.nodes ≡ []
    → spans ≡ (kept_behind_all es k).ended → IsSpannedStream documents spans es
keeps_stream documents es k spans given none_ended none_open are =
    let start = first_event es StreamStart _ (sym given) in
    let end = last_event start.others (flat_map document_events documents) StreamEnd start.others_given in
    let all = keeps_documents documents end.front k end.front_given none_open in
    let split = start.split ∙ ap (λ (l : List (Happening × Span)). (StreamStart, start.span) ∷ l) end.split in
    let kept = ap (λ l. (kept_behind_all l k).ended) split
    ∙ ap (λ (x : KeptSpans). x.ended) (kept_behind_all-append end.front ((StreamEnd, end.span) ∷ []) k)
    ∙ all.ended ∙ ap (λ (l : List (List Span)). l ++ all.spans) none_ended in
    record {
      first = start.span;
      inner = end.front;
      last = end.span;
      split = split;
      spanned = subst (λ l. AreSpanned documents l end.front) (sym (are ∙ kept)) all.spanned;
    }
