-- Streams of documents are told.
use Rattle.event_laws.proofs.Common.{◌≡◌, Bool, true, false, List, [], ◌∷◌, ◌++◌, map, Ok, refl, subst, sym, ap, ◌∙◌, ◌⊎◌, inl, inr, append_assoc, arith, Span, Directive, Document, Forest, Kind, StreamStart, StreamEnd, DocumentStart, DocumentEnd, ByteOrderMark, directive_token, YieldsBareDocument, YieldsExplicitDocument, YieldsDocument, AreMarks, AreEndsAndMarks, YieldsBehindDocument, YieldDocuments, Yields, Part, OpenStream, OpenDocument, CloseDocument, node_parts, document_parts, parts}
use Rattle.saphyr_machine.specs.declared.state.State.TheVariants as state
use Rattle.saphyr_machine.specs.Events as events
use Rattle.saphyr_machine.specs.Steps.Documents.{is_mark, stream_start, token_behind_marks_at, token_behind_marks, token_behind_document, document_end_at, document_end}
use Rattle.saphyr_machine.specs.Steps.Expected.{event_step}
use Rattle.event_laws.proofs.Emitted.Emitting.{SpansByKinds, Memory, top, at}
use Rattle.event_laws.proofs.Remembering.{closing, EmitsParts, plainly}
use Rattle.event_laws.proofs.NodeStarts.{Next}
use Rattle.event_laws.proofs.DirectivesPass.{passes, marks_pass}
use Rattle.event_laws.proofs.Emitted.Documents.{EndsDocument, MayStandBehindDocument, not_free, next_start, behind_head, stream_ends, stream_ends_at_once, bare_says, implicit_opens, explicit_opens, explicit_says}

-- ## The end of a document

-- what may come after the byte order marks at its end
abbrev MayStandBehindMarks : Kind → Type 0
MayStandBehindMarks StreamEnd = Unit {0}
MayStandBehindMarks DocumentStart = Unit {0}
MayStandBehindMarks DocumentEnd = Unit {0}
MayStandBehindMarks _ = ⊥

-- the step at the end of a document, after the marks
document_end_emitted : (f : SpansByKinds) (j : Kind) (l : List Kind) (e : Memory) → MayStandBehindMarks j
    → event_step (at f (j ∷ l) state.DocumentEnd top e)
    ≡ document_end_at j (record { span = f l; kind = j }) (at f l state.DocumentEnd top (closing e))
unfolding event_step document_end token_behind_document
document_end_emitted f k l e h = grind arith

marks_behind : (f : SpansByKinds) (place : Span) (j : Kind) (l : List Kind) (e : Memory) → MayStandBehindMarks j
    → token_behind_marks_at j place.start (record { span = f l; kind = j }) (at f l state.DocumentEnd top e)
    ≡ Ok (record { span = f l; kind = j }, at f l state.DocumentEnd top e)
marks_behind f place k l e h = grind arith

no_mark : (j : Kind) → MayStandBehindMarks j → is_mark j ≡ false
no_mark j h = grind arith

ended_behind : (f : SpansByKinds) (marks : List Kind) (j : Kind) (l : List Kind) (e : Memory) → AreMarks marks
    → MayStandBehindMarks j → event_step (at f (ByteOrderMark ∷ (marks ++ j ∷ l)) state.DocumentEnd top e)
    ≡ document_end_at j (record { span = f l; kind = j }) (at f l state.DocumentEnd top (closing e))
unfolding event_step document_end token_behind_document token_behind_marks
ended_behind f marks j l e a h =
    cc (
      passes is_mark marks f j l state.DocumentEnd top e (marks_pass marks a) (no_mark j h),
      marks_behind f (f (marks ++ j ∷ l)) j l e h,
    )

ended_all : (f : SpansByKinds) (marks : List Kind) (j : Kind) (l : List Kind) (e : Memory) → AreMarks marks
    → MayStandBehindMarks j → event_step (at f (marks ++ j ∷ l) state.DocumentEnd top e)
    ≡ document_end_at j (record { span = f l; kind = j }) (at f l state.DocumentEnd top (closing e))
ended_all f [] j l e a h = document_end_emitted f j l e h
ended_all f (k ∷ ks) j l e a h = rw a.0 (ended_behind f ks j l e a.1 h)

-- with `...`
ends_openly : (f : SpansByKinds) (marks l : List Kind) (e : Memory) (ps : List Part) → AreMarks marks
    → EmitsParts f l state.ImplicitDocumentStart top (closing e) ps
    → EmitsParts f (marks ++ DocumentEnd ∷ l) state.DocumentEnd top e (CloseDocument ∷ ps)
ends_openly f marks l e ps a r = plainly e (at f (marks ++ DocumentEnd ∷ l) state.DocumentEnd top e)
    (at f l state.ImplicitDocumentStart top (closing e)) CloseDocument ps events.DocumentEnd (f l) (λ q. cc) refl
    (ended_all f marks DocumentEnd l e a tt) r

-- without
ends_silently : (f : SpansByKinds) (marks : List Kind) (j : Kind) (l : List Kind) (e : Memory) (ps : List Part)
    → AreMarks marks → MayStandBehindDocument j → EmitsParts f (j ∷ l) state.DocumentStart top (closing e) ps
    → EmitsParts f (marks ++ j ∷ l) state.DocumentEnd top e (CloseDocument ∷ ps)
ends_silently f marks StreamEnd l e ps a z r = plainly e (at f (marks ++ StreamEnd ∷ l) state.DocumentEnd top e)
    (at f (StreamEnd ∷ l) state.DocumentStart top (closing e)) CloseDocument ps events.DocumentEnd (f l) (λ q. cc) refl
    (ended_all f marks StreamEnd l e a tt) r
ends_silently f marks DocumentStart l e ps a z r = plainly e (at f (marks ++ DocumentStart ∷ l) state.DocumentEnd top e)
    (at f (DocumentStart ∷ l) state.DocumentStart top (closing e)) CloseDocument ps events.DocumentEnd (f l) (λ q. cc)
    refl (ended_all f marks DocumentStart l e a tt) r
ends_silently f marks _ l e ps a z r = elim z [ ]

-- ## Documents

-- what the machine tells of these documents, where the first may be bare and where it may not
abbrev DocumentsSay : Forest → Bool → List Kind → Type 0
DocumentsSay ds true t = (f : SpansByKinds) (front : List Kind) (e : Memory) → AreEndsAndMarks front
    → EmitsParts f (front ++ t) state.ImplicitDocumentStart top e (document_parts ds)
DocumentsSay ds false t = (f : SpansByKinds) (e : Memory) → EmitsParts f t state.DocumentStart top e (document_parts ds)

behind_says : (ds : Forest) (t : List Kind) → YieldsBehindDocument (YieldDocuments ds) t
    → ((free : Bool) (u : List Kind) → YieldDocuments ds free u → DocumentsSay ds free u)
    → (f : SpansByKinds) (e : Memory) → EmitsParts f t state.DocumentEnd top e (CloseDocument ∷ document_parts ds)
behind_says ds t h g f e = by h.4
  where
    by : ((h.1 ≡ []) × YieldDocuments ds false h.2)
        ⊎ ((more : List Kind) × AreEndsAndMarks more × (h.1 ≡ DocumentEnd ∷ more) × YieldDocuments ds true h.2)
        → EmitsParts f t state.DocumentEnd top e (CloseDocument ∷ document_parts ds)
    by (inl z) =
        let n : Next MayStandBehindDocument h.2 = next_start ds h.2 z.1 in
        let same : t ≡ h.0 ++ n.first ∷ n.others = cc in
        let emitted = g false h.2 z.1 f (closing e) in
        subst (λ (u : List Kind). EmitsParts f u state.DocumentEnd top e (CloseDocument ∷ document_parts ds)) (sym same)
        (ends_silently f h.0 n.first n.others e (document_parts ds) h.3 n.fits (rw n.is at emitted))
    by (inr z) =
        let same : t ≡ h.0 ++ DocumentEnd ∷ (z.0 ++ h.2) = h.5 ∙ ap (λ l. h.0 ++ (l ++ h.2)) z.2 in
        rw same (ends_openly f h.0 (z.0 ++ h.2) e (document_parts ds) h.3 (g true h.2 z.3 f z.0 (closing e) z.1))

-- a document is told, with the token after it: one that may be bare, and one that may not
abbrev FreeSays : Document → List Kind → Type 0
FreeSays d t = (f : SpansByKinds) (front : List Kind) (k : Kind) (ks : List Kind) (e : Memory) (ps : List Part)
    → AreEndsAndMarks front → EndsDocument k → ((c : Memory) → EmitsParts f (k ∷ ks) state.DocumentEnd top c ps)
    → EmitsParts f (front ++ (t ++ k ∷ ks)) state.ImplicitDocumentStart top e
    (OpenDocument d.explicit d.directives ∷ (node_parts d.node ++ ps))

abbrev NextSays : Document → List Kind → Type 0
NextSays d t = (f : SpansByKinds) (k : Kind) (ks : List Kind) (e : Memory) (ps : List Part) → EndsDocument k
    → ((c : Memory) → EmitsParts f (k ∷ ks) state.DocumentEnd top c ps)
    → EmitsParts f (t ++ k ∷ ks) state.DocumentStart top e
    (OpenDocument d.explicit d.directives ∷ (node_parts d.node ++ ps))

bare_document_says : (d : Document) (t : List Kind) → YieldsBareDocument d t → FreeSays d t
bare_document_says d t h f front k ks e ps a z l = rw (h.0, h.1) (bare_says d.node t h.2 f front k ks e ps a z (l _))

explicit_tokens : (ds : List Directive) (node t : List Kind) (k : Kind) (ks : List Kind)
    → t ≡ map directive_token ds ++ DocumentStart ∷ node
    → t ++ k ∷ ks ≡ map directive_token ds ++ DocumentStart ∷ (node ++ k ∷ ks)
explicit_tokens ds node t k ks e = cc (append_assoc (map directive_token ds) (DocumentStart ∷ node) (k ∷ ks))

explicit_document_says : (d : Document) (t : List Kind) → YieldsExplicitDocument d t → FreeSays d t
explicit_document_says d t h f front k ks e ps a z l =
    let rest : List Kind = map directive_token d.directives ++ DocumentStart ∷ (h.0 ++ k ∷ ks) in
    let emitted =
    explicit_says d.node d.directives h.0 h.2 h.3 f k ks (at f (front ++ rest) state.ImplicitDocumentStart top e)
    state.ImplicitDocumentStart e ps z (λ q. cc) (implicit_opens d.directives f front (h.0 ++ k ∷ ks) e a) (l _) in
    rw (h.1, explicit_tokens d.directives h.0 t k ks h.4) emitted

-- after another document without `...` between
next_document_says : (d : Document) (t : List Kind) → d.directives ≡ [] → YieldsExplicitDocument d t → NextSays d t
next_document_says d t none h f k ks e ps z l =
    let rest : List Kind = DocumentStart ∷ (h.0 ++ k ∷ ks) in
    let same : t ++ k ∷ ks ≡ rest = cc (explicit_tokens d.directives h.0 t k ks h.4) in
    let emitted : EmitsParts f rest state.DocumentStart top e (OpenDocument true [] ∷ (node_parts d.node ++ ps)) =
    explicit_says d.node [] h.0 tt h.3 f k ks (at f rest state.DocumentStart top e) state.DocumentStart e ps z
    (λ q. cc) (explicit_opens f (h.0 ++ k ∷ ks) e) (l _) in
    rw (h.1, none, same) emitted

free_document_says : (d : Document) (t : List Kind) → YieldsDocument d true t → FreeSays d t
free_document_says d t u0 = grind (arith, bare_document_says, explicit_document_says)

other_document_says : (d : Document) (t : List Kind) → YieldsDocument d false t → NextSays d t
other_document_says d t u0 = grind (arith, not_free, next_document_says)

-- from the token after a document on
rest_says : (ds : Forest) (t : List Kind) → YieldsBehindDocument (YieldDocuments ds) t
    → ((free : Bool) (u : List Kind) → YieldDocuments ds free u → DocumentsSay ds free u) → (n : Next EndsDocument t)
    → (f : SpansByKinds) (c : Memory)
    → EmitsParts f (n.first ∷ n.others) state.DocumentEnd top c (CloseDocument ∷ document_parts ds)
rest_says ds t h g n f c = rw n.is at (behind_says ds t h g f c)

documents_say : (ds : Forest) (free : Bool) (t : List Kind) → YieldDocuments ds free t → DocumentsSay ds free t
documents_say [] true t h = λ f front e a. rw h (stream_ends f front e a)
documents_say [] false t h = λ f e. rw h (stream_ends_at_once f e)
documents_say (d ∷ ds) true t h = λ f front e a.
    let n : Next EndsDocument h.1 = behind_head ds h.1 h.3 in
    let same : t ≡ h.0 ++ n.first ∷ n.others = h.4 ∙ ap (λ l. h.0 ++ l) n.is in
    rw same (free_document_says d h.0 h.2 f front n.first n.others e (CloseDocument ∷ document_parts ds) a n.fits
    (rest_says ds h.1 h.3 (λ b u g. documents_say ds b u g) n f))
documents_say (d ∷ ds) false t h = λ f e.
    let n : Next EndsDocument h.1 = behind_head ds h.1 h.3 in
    let same : t ≡ h.0 ++ n.first ∷ n.others = h.4 ∙ ap (λ l. h.0 ++ l) n.is in
    rw same (other_document_says d h.0 h.2 f n.first n.others e (CloseDocument ∷ document_parts ds) n.fits
    (rest_says ds h.1 h.3 (λ b u g. documents_say ds b u g) n f))

pub stream_says : (forest : Forest) (t : List Kind) → Yields forest t → (f : SpansByKinds) (e : Memory)
    → EmitsParts f t state.StreamStart top e (parts forest)
unfolding event_step stream_start
stream_says forest t h f e =
    let rest : List Kind = h.0 ++ h.1 in
    rw h.4 (plainly e (at f (StreamStart ∷ rest) state.StreamStart top e) (at f rest state.ImplicitDocumentStart top e)
    OpenStream (document_parts forest) events.StreamStart (f rest) (λ q. cc) refl refl
    (documents_say forest true h.1 h.3 f h.0 e h.2))
