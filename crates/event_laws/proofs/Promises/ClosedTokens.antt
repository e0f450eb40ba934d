-- Tokens up to a document marker's give the events up to and including its own, whatever follows.
use Rattle.event_laws.proofs.Common.{◌≡◌, ◌≢◌, Bool, List, [], ◌∷◌, ◌++◌, Option, None, ap, ◌∙◌, ◌⊎◌, inl, inr, arith, Span, Refusal, Piece, State, Happening, empty_scalar, DocumentMarker, Ends, events_behind_marker, GivesFirst, Machine, fresh_machine, Answer, remaining_answer, at_start, keeping_tags, to_come, GivesExactly, answer_of_tokens, marker_token, unroll, over, IsBetweenDocuments, Awaits}
use Rattle.std.proofs.lemmas.List.{append_assoc, append_cancel_right, append-nil, map-append}
use Rattle.saphyr_scanner.specs.Grammar.Tokens as tokens
use Rattle.saphyr_machine.specs.declared.state.State.TheVariants as state
use Rattle.saphyr_machine.specs.Events as events
use Rattle.saphyr_machine.specs.Steps.Documents.{unpassed_token, implicit_start, explicit_start, document_content, document_end, token_behind_document, without_prefixes}
use Rattle.saphyr_machine.specs.Steps.Expected.{event_step}
use Rattle.event_laws.proofs.Longer.{More, longer, IsLastOr, End}
use Rattle.event_laws.proofs.Promises.CommonBeginnings.{or_last, IsStopped, GoesOn, goes_on}
use Rattle.event_laws.proofs.Happenings.{happenings_of}

-- ## What follows the marker where the stream ends

-- only the end of the stream is left
abbrev alone : Span → Machine → Machine
alone s k = record k { tokens = record { pieces = record { span = s; kind = tokens.StreamEnd } ∷ []; refusal = None } }

pub not_over : (x : State) → IsBetweenDocuments x → x ≢ state.End
not_over k i = grind arith

start_is_emitted : (s : Span) (k : Machine) → IsBetweenDocuments k.state
    → remaining_answer (alone s k) ≡ record { events = (events.StreamEnd, s) ∷ []; fault = None }
unfolding event_step implicit_start explicit_start unpassed_token
start_is_emitted s k i = grind (arith, unroll, not_over, over)

abbrev in_document : List State → Machine → Machine
in_document ss k = record k { state = state.DocumentContent; states = state.DocumentEnd ∷ ss }

content_emitted : (s : Span) (ss : List State) (k : Machine) → remaining_answer (alone s (in_document ss k))
    ≡ record { events = (empty_scalar, s) ∷ (events.DocumentEnd, s) ∷ (events.StreamEnd, s) ∷ []; fault = None }
unfolding event_step document_content document_end token_behind_document
content_emitted s ss k =
    simp (
      unroll (alone s (in_document ss k)) (λ e. absurd (cc)),
      unroll (alone s (record k { state = state.DocumentEnd; states = ss })) (λ e. absurd (cc)),
      start_is_emitted s (without_prefixes (record k { state = state.DocumentStart; states = ss })) tt,
    )

-- ## The marker

abbrev pub ended_by : DocumentMarker → List Piece → Option Refusal → More
ended_by w us e = record { Early = ⊥; marker = w; pieces = us; refusal = e }

emitted_behind : (w : DocumentMarker) (s : Span) (k : Machine)
    → Awaits (marker_token w) k ⊎ ((w ≡ Ends) × IsBetweenDocuments k.state)
    → happenings_of (remaining_answer (alone s k)) ≡ events_behind_marker w
emitted_behind u0 s k u1 = grind (arith, start_is_emitted, content_emitted)

emitted_stopped : (w : DocumentMarker) (s : Span) (k : Machine)
    → IsStopped (ended_by w (record { span = s; kind = tokens.StreamEnd } ∷ []) None) k
    → happenings_of (remaining_answer (longer (ended_by w (record { span = s; kind = tokens.StreamEnd } ∷ []) None) k))
    ≡ events_behind_marker w
emitted_stopped w s k u0 = grind (arith, emitted_behind)

its_own : (w : DocumentMarker) (x : Piece) → x.kind ≡ marker_token w → IsLastOr w ⊥ [] x.kind
its_own u0 x e = grind arith

pub marker_ends : (w : DocumentMarker) (us : List Piece) (e : Option Refusal) (ts : List Piece) (x : Piece)
    → x.kind ≡ marker_token w → End (ended_by w us e) (ts ++ x ∷ [])
marker_ends w us e [] x is = its_own w x is
marker_ends w us e (t ∷ ts) x is = or_last w _ (ts ++ x ∷ []) t.kind (marker_ends w us e ts x is)

-- ## Whatever follows

-- what is told before the stream's end, where more tokens follow
first_emitted : (w : DocumentMarker) (s : Span) (first : List Happening) (m : Machine) (a b : Answer)
    → GoesOn (ended_by w (record { span = s; kind = tokens.StreamEnd } ∷ []) None) None m a b
    → happenings_of b ≡ first ++ events_behind_marker w → GivesFirst first a
first_emitted w s first m a b u0 t = grind (arith, map-append, emitted_stopped, append_cancel_right, append-nil)

also_first : (z : More) (r : Option Refusal) (first : List Happening) (m : Machine) (a b : Answer) → GoesOn z r m a b
    → GivesFirst first a → GivesFirst first b
also_first z r first m a b (inl e) f = (f.0, ap happenings_of e ∙ f.1)
also_first z r first m a b (inr g) f =
    let behind : Answer = remaining_answer (longer z g.1.0) in (
      f.0 ++ happenings_of behind,
      cc (
        map-append (λ (e : Happening × Span). e.0) a.events behind.events,
        append_assoc first f.0 (happenings_of behind),
      ),
    )

-- a machine at the start of tokens
abbrev pub start : Bool → List Piece → Option Refusal → Machine
start keep ts e = record (fresh_machine (record { pieces = ts; refusal = e })) { keep_tags = keep }

tokens_close : (keep : Bool) (w : DocumentMarker) (ts us : List Piece) (x : Piece) (s : Span) (e : Option Refusal)
    (first : List Happening) → x.kind ≡ marker_token w
    → happenings_of (remaining_answer (start keep ((ts ++ x ∷ []) ++ record { span = s; kind = tokens.StreamEnd } ∷ [])
    None)) ≡ first ++ events_behind_marker w → GivesFirst first (remaining_answer (start keep ((ts ++ x ∷ []) ++ us) e))
tokens_close keep w ts us x s e first is t =
    let m : Machine = start keep (ts ++ x ∷ []) None in
    let end : List Piece = record { span = s; kind = tokens.StreamEnd } ∷ [] in
    also_first (ended_by w us e) None first m _ _ (goes_on (ended_by w us e) m (inl (marker_ends w us e ts x is)))
    (first_emitted w s first m _ _ (goes_on (ended_by w end None) m (inl (marker_ends w end None ts x is))) t)

-- Tokens end with a marker's and the end of the stream, and give exactly these events. Where others follow the marker's
-- token, the events up to and including the marker's come first.
pub closed_tokens :
    (keep : Bool) (w : DocumentMarker) (ts us : List Piece) (x y : Piece) (e : Option Refusal) (first : List Happening)
    → x.kind ≡ marker_token w → y.kind ≡ tokens.StreamEnd
    → GivesExactly (first ++ events_behind_marker w) (answer_of_tokens keep (ts ++ x ∷ y ∷ []))
    → GivesFirst first (to_come (keeping_tags keep (at_start (record { pieces = ts ++ x ∷ us; refusal = e }))))
closed_tokens keep w ts us x y e first is ends g =
    let same : (vs : List Piece) → (ts ++ x ∷ []) ++ vs ≡ ts ++ x ∷ vs = λ vs. append_assoc ts (x ∷ []) vs in
    let the_end : y ≡ record { span = y.span; kind = tokens.StreamEnd } =
    ap (λ k. record { span = y.span; kind = k }) ends in
    rw (same us) at (tokens_close keep w ts us x y.span e first is (cc (same _)))
