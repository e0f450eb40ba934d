-- Documents and streams are told.
use Rattle.event_laws.proofs.Common.{◌≡◌, ◌≢◌, true, false, List, [], ◌∷◌, ◌++◌, map, Result, refl, ap, ◌∙◌, ◌⊎◌, inl, inr, arith, IsTrue, Refusal, Node, Directive, Version, TagPrefix, Reserved, Document, Forest, AreCompatible, Kind, VersionDirective, StreamEnd, DocumentStart, DocumentEnd, ByteOrderMark, directive_token, InBlock, YieldsOptional, YieldsNode, YieldsDocument, AreMarks, AreEndsAndMarks, YieldsBehindDocument, YieldDocuments, Piece, Block, State, Part, CloseStream, OpenDocument, node_parts, empty_scalar, ◌>>=◌, Machine, Emitted, emit, next_node}
use Rattle.saphyr_machine.specs.declared.state.State.TheVariants as state
use Rattle.saphyr_machine.specs.Events as events
use Rattle.saphyr_machine.specs.Steps.Documents.{is_end_or_mark, directives, none_declared, explicit_document_at, explicit_document, bare_document, implicit_start_at, implicit_start, explicit_start_at, explicit_start, document_content}
use Rattle.saphyr_machine.specs.Steps.Block.{block_node}
use Rattle.saphyr_machine.specs.Steps.Expected.{event_step}
use Rattle.event_laws.proofs.Emitted.Emitting.{SpansByKinds, Memory, top, expecting, at, ends}
use Rattle.event_laws.proofs.Remembering.{opening, after_node, SaysParts, EmitsParts, plainly}
use Rattle.event_laws.proofs.NodeStarts.{Starts, Head, Next, node_head, MayFollow, enters_or_skips}
use Rattle.event_laws.proofs.Emitted.Trees.{node_says}
use Rattle.event_laws.proofs.DirectivesPass.{passes, ends_pass, all_directives_pass}

-- ## The first token of a document, after what is passed

pub implicitly : (front : List Kind) (f : SpansByKinds) (k : Kind) (ks : List Kind) (e : Memory) → AreEndsAndMarks front
    → is_end_or_mark k ≡ false → event_step (at f (front ++ k ∷ ks) state.ImplicitDocumentStart top e)
    ≡ implicit_start_at k (record { span = f ks; kind = k }) (at f ks state.ImplicitDocumentStart top e)
unfolding event_step implicit_start
implicitly front f k ks e h n =
    cc (passes is_end_or_mark front f k ks state.ImplicitDocumentStart top e (ends_pass front h) n)

explicitly : (f : SpansByKinds) (k : Kind) (ks : List Kind) (e : Memory) → is_end_or_mark k ≡ false
    → event_step (at f (k ∷ ks) state.DocumentStart top e)
    ≡ explicit_start_at k (record { span = f ks; kind = k }) (at f ks state.DocumentStart top e)
unfolding event_step explicit_start
explicitly f k ks e n = cc (passes is_end_or_mark [] f k ks state.DocumentStart top e tt n)

-- ## The end of the stream

over : (f : SpansByKinds) (e : Memory) → EmitsParts f [] state.End top e []
over f e es q = grind (arith, ends)

pub stream_ends : (f : SpansByKinds) (front : List Kind) (e : Memory) → AreEndsAndMarks front
    → EmitsParts f (front ++ StreamEnd ∷ []) state.ImplicitDocumentStart top e (CloseStream ∷ [])
stream_ends f front e h =
    plainly e (at f (front ++ StreamEnd ∷ []) state.ImplicitDocumentStart top e) (at f [] state.End top e)
    CloseStream [] events.StreamEnd (f []) (λ q. cc) refl (implicitly front f StreamEnd [] e h refl) (over f e)

pub stream_ends_at_once : (f : SpansByKinds) (e : Memory)
    → EmitsParts f (StreamEnd ∷ []) state.DocumentStart top e (CloseStream ∷ [])
stream_ends_at_once f e =
    plainly e (at f (StreamEnd ∷ []) state.DocumentStart top e) (at f [] state.End top e) CloseStream []
    events.StreamEnd (f []) (λ q. cc) refl (explicitly f StreamEnd [] e refl) (over f e)

-- ## What comes after a document

abbrev pub EndsDocument : Kind → Type 0
EndsDocument StreamEnd = Unit {0}
EndsDocument DocumentStart = Unit {0}
EndsDocument DocumentEnd = Unit {0}
EndsDocument ByteOrderMark = Unit {0}
EndsDocument _ = ⊥

document_end_follows : (k : Kind) → EndsDocument k → MayFollow InBlock k
document_end_follows k h = grind arith

-- after a document without `...`
abbrev pub MayStandBehindDocument : Kind → Type 0
MayStandBehindDocument StreamEnd = Unit {0}
MayStandBehindDocument DocumentStart = Unit {0}
MayStandBehindDocument _ = ⊥

next_ends : (k : Kind) → MayStandBehindDocument k → EndsDocument k
next_ends k h = grind arith

pub not_free : IsTrue false → ⊥
not_free h = cc

next_document : (d : Document) (t rest : List Kind) → YieldsDocument d false t → Next MayStandBehindDocument (t ++ rest)
next_document d t rest k = grind arith

pub next_start : (ds : Forest) (t : List Kind) → YieldDocuments ds false t → Next MayStandBehindDocument t
next_start [] t h = record { first = StreamEnd; others = []; is = h; fits = tt }
next_start (d ∷ ds) t h = rw h.4 (next_document d h.0 h.1 h.2)

pub behind_head : (ds : Forest) (t : List Kind) → YieldsBehindDocument (YieldDocuments ds) t → Next EndsDocument t
behind_head ds t h = by h.0 h.3 h.4 h.5
  where
    by : (marks : List Kind) → AreMarks marks → ((h.1 ≡ []) × YieldDocuments ds false h.2)
        ⊎ ((more : List Kind) × AreEndsAndMarks more × (h.1 ≡ DocumentEnd ∷ more) × YieldDocuments ds true h.2)
        → t ≡ marks ++ (h.1 ++ h.2) → Next EndsDocument t
    by [] m (inl g) e = let n : Next MayStandBehindDocument h.2 = next_start ds h.2 g.1 in
        record { first = n.first; others = n.others; is = cc; fits = next_ends n.first n.fits }
    by [] m (inr g) e = record { first = DocumentEnd; others = g.0 ++ h.2; is = e ∙ ap (λ l. l ++ h.2) g.2; fits = tt }
    by (k ∷ ks) m g e = record {
      first = ByteOrderMark;
      others = ks ++ (h.1 ++ h.2);
      is = e ∙ ap (λ j. j ∷ (ks ++ (h.1 ++ h.2))) m.0;
      fits = tt;
    }

-- ## Bare documents

node_is_bare : (k : Kind) (t : Piece) (m : Machine) → Starts InBlock k → implicit_start_at k t m ≡ bare_document t m
node_is_bare k t m h = grind arith

node_stops : (k : Kind) → Starts InBlock k → is_end_or_mark k ≡ false
node_stops k h = grind arith

bare_opens : (f : SpansByKinds) (front : List Kind) (j : Kind) (l : List Kind) (e : Memory) (ps : List Part)
    → AreEndsAndMarks front → Starts InBlock j
    → EmitsParts f (j ∷ l) state.BlockNode (expecting state.DocumentEnd top) (opening [] e) ps
    → EmitsParts f (front ++ j ∷ l) state.ImplicitDocumentStart top e (OpenDocument false [] ∷ ps)
unfolding bare_document
bare_opens f front j l e ps h s r = plainly e (at f (front ++ j ∷ l) state.ImplicitDocumentStart top e)
    (at f (j ∷ l) state.BlockNode (expecting state.DocumentEnd top) (opening [] e)) (OpenDocument false []) ps
    (events.DocumentStart false) (f l) (λ q. cc) refl
    (implicitly front f j l e h (node_stops j s) ∙ node_is_bare j _ _ s) r

pub bare_says : (n : Node) (t : List Kind) → YieldsNode n InBlock t
    → (f : SpansByKinds) (front : List Kind) (k : Kind) (ks : List Kind) (e : Memory) (ps : List Part)
    → AreEndsAndMarks front
    → EndsDocument k → EmitsParts f (k ∷ ks) state.DocumentEnd top (after_node n (opening [] e)) ps
    → EmitsParts f (front ++ (t ++ k ∷ ks)) state.ImplicitDocumentStart top e
    (OpenDocument false [] ∷ (node_parts n ++ ps))
unfolding event_step block_node
bare_says n t h f front k ks e ps a z l =
    let e' : Memory = opening [] e in
    let m : Machine = at f (t ++ k ∷ ks) state.BlockNode (expecting state.DocumentEnd top) e' in
    let inside : SaysParts e' m (node_parts n ++ ps) = (node_says n InBlock t h).by f k ks m state.BlockNode
    state.DocumentEnd top e' ps (document_end_follows k z) (λ q. cc) refl l in
    let d : Head InBlock t = node_head n InBlock t h in
    let same : t ++ k ∷ ks ≡ d.first ∷ (d.others ++ k ∷ ks) = ap (λ u. u ++ k ∷ ks) d.is in
    rw same (bare_opens f front d.first (d.others ++ k ∷ ks) e (node_parts n ++ ps) a d.fits (rw same at inside))

-- ## Explicit documents

abbrev pub opened : Machine → Result Emitted Refusal
opened m = directives none_declared m >>= (λ u. explicit_document_at u.0.kind u.0 u.1)

pub implicit_opens : (ds : List Directive) (f : SpansByKinds) (front rest : List Kind) (e : Memory)
    → AreEndsAndMarks front
    → event_step (at f (front ++ (map directive_token ds ++ DocumentStart ∷ rest)) state.ImplicitDocumentStart top e)
    ≡ opened (at f (map directive_token ds ++ DocumentStart ∷ rest) state.ImplicitDocumentStart top e)
unfolding explicit_document
implicit_opens [] f front rest e h = implicitly front f DocumentStart rest e h refl
implicit_opens (Version major minor ∷ ds) f front rest e h =
    implicitly front f (VersionDirective major minor) _ e h refl
implicit_opens (TagPrefix handle prefix ∷ ds) f front rest e h =
    implicitly front f (directive_token (TagPrefix handle prefix)) _ e h refl
implicit_opens (Reserved name ∷ ds) f front rest e h = implicitly front f (directive_token (Reserved name)) _ e h refl

pub explicit_opens : (f : SpansByKinds) (rest : List Kind) (e : Memory)
    → event_step (at f (DocumentStart ∷ rest) state.DocumentStart top e)
    ≡ opened (at f (DocumentStart ∷ rest) state.DocumentStart top e)
unfolding explicit_document
explicit_opens f rest e = explicitly f DocumentStart rest e refl

content_begins : (f : SpansByKinds) (j : Kind) (l : List Kind) (e : Memory) → Starts InBlock j
    → event_step (at f (j ∷ l) state.DocumentContent (expecting state.DocumentEnd top) e)
    ≡ next_node Block (at f (j ∷ l) state.DocumentContent (expecting state.DocumentEnd top) e)
unfolding event_step document_content
content_begins f k l e h = grind arith

content_is_left_out : (f : SpansByKinds) (k : Kind) (ks : List Kind) (e : Memory) → EndsDocument k
    → event_step (at f (k ∷ ks) state.DocumentContent (expecting state.DocumentEnd top) e)
    ≡ emit empty_scalar (f ks) (at f (k ∷ ks) state.DocumentEnd top e)
unfolding event_step document_content
content_is_left_out f k ks e h = grind arith

-- from a machine that comes to the directives
pub explicit_says : (n : Node) (ds : List Directive) (t : List Kind) → AreCompatible ds
    → YieldsOptional n (YieldsNode n InBlock) t
    → (f : SpansByKinds) (k : Kind) (ks : List Kind) (m : Machine) (x : State) (e : Memory) (ps : List Part)
    → EndsDocument k → m.state ≢ state.End
    → event_step m ≡ opened (at f (map directive_token ds ++ DocumentStart ∷ (t ++ k ∷ ks)) x top e)
    → EmitsParts f (k ∷ ks) state.DocumentEnd top (after_node n (opening ds e)) ps
    → SaysParts e m (OpenDocument true ds ∷ (node_parts n ++ ps))
explicit_says n ds t c h f k ks m x e ps z more q l =
    let e' : Memory = opening ds e in
    let rest : List Kind = t ++ k ∷ ks in
    let inside = enters_or_skips n InBlock t h (λ g. node_says n InBlock t g) f k ks
    (λ l. at f l state.DocumentContent (expecting state.DocumentEnd top) e') state.DocumentContent state.DocumentEnd
    (λ l. top) e' ps (document_end_follows k z) (λ l q. cc) (f ks, content_is_left_out f k ks e' z)
    (λ j l s. content_begins f j l e' s) l in
    let goes : event_step m ≡ emit (events.DocumentStart true) (f rest)
    (at f rest state.DocumentContent (expecting state.DocumentEnd top) e') =
    cc (all_directives_pass ds f rest x top e c) in
    plainly e m (at f rest state.DocumentContent (expecting state.DocumentEnd top) e') (OpenDocument true ds)
    (node_parts n ++ ps) (events.DocumentStart true) (f rest) more refl goes inside
