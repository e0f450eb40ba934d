-- The steps at the beginnings and the ends of documents and of the stream (YAML 1.2.2, 6.8 and chapter 9).
use Rattle.std.specs.Prelude.{ℕ, Bool, true, false, if◌then◌else◌, List, [], ◌∷◌, Result, Ok, Err}
use Rattle.saphyr_scalar.specs.declared.scalar.position.Marker.{Marker}
use Rattle.saphyr_scalar.specs.declared.scalar.fault.Refusal.{Refusal}
use Rattle.saphyr_scalar.specs.declared.scalar.fault.FaultText.TheVariants as fault
use Rattle.saphyr_scanner.specs.Grammar.Tokens as tokens
use Rattle.saphyr_scanner.specs.Grammar.Tokens.{Kind}
use Rattle.saphyr_scanner.specs.Views.Tokens.{Piece}
use Rattle.saphyr_machine.specs.declared.context.NodeContext.TheVariants.{Block}
use Rattle.saphyr_machine.specs.declared.state.State.{State}
use Rattle.saphyr_machine.specs.declared.state.State.TheVariants as state
use Rattle.saphyr_machine.specs.Events as events
use Rattle.saphyr_machine.specs.Steps.Machine.{◌>>=◌, Machine, Emitted, emit, refusal_at, ending_refusal, taken_token, with_pieces, put_back, pop, with_state, push, without_ids, with_meaning, is_listed, with_name}
use Rattle.saphyr_machine.specs.Events.{empty_scalar}
use Rattle.saphyr_machine.specs.Steps.Nodes.{node}

-- ## Tokens that are passed

abbrev pub is_mark : Kind → Bool
is_mark tokens.ByteOrderMark = true
is_mark _ = false

abbrev pub is_end_or_mark : Kind → Bool
is_end_or_mark tokens.DocumentEnd = true
is_end_or_mark tokens.ByteOrderMark = true
is_end_or_mark _ = false

-- ends of documents are passed where this is true
abbrev pub is_passable : Bool → Kind → Bool
is_passable true = is_end_or_mark
is_passable false = is_mark

abbrev pub unpassed_token_from : (Kind → Bool) → List Piece → Machine → Result (Piece × Machine) Refusal
unpassed_token_from passed [] m = Err (ending_refusal m.tokens.refusal)
unpassed_token_from passed (t ∷ ts) m =
    if passed t.kind then unpassed_token_from passed ts (with_pieces ts m) else Ok (t, with_pieces ts m)

-- the first token that isn't passed
unfoldable pub unpassed_token : (Kind → Bool) → Machine → Result (Piece × Machine) Refusal
unpassed_token passed m = unpassed_token_from passed m.tokens.pieces m

-- ## Directives (6.8)

-- whether a version was declared, and the handles that were
pub record Declared : Type 0 where
  pub version : Bool
  pub handles : List (List ℕ)

abbrev pub none_declared : Declared
none_declared = record { version = false; handles = [] }

abbrev pub is_directive : Kind → Bool
is_directive (tokens.VersionDirective major minor) = true
is_directive (tokens.TagDirective handle prefix) = true
is_directive (tokens.ReservedDirective name) = true
is_directive _ = false

-- a version is declared at most once
abbrev pub with_version : Marker → Declared → Result Declared Refusal
with_version place d =
    if d.version then Err (record { text = fault.DuplicateVersionDirective; mark = place; may_change = false })
    else Ok (record { version = true; handles = d.handles })

abbrev pub version_declared : Marker → Declared → Machine → Result (Declared × Machine) Refusal
version_declared place d m = with_version place d >>= (λ e. Ok (e, m))

-- and so is each handle
abbrev pub with_handle : List ℕ → List ℕ → Marker → Declared → Machine → Result (Declared × Machine) Refusal
with_handle handle prefix place d m =
    if is_listed handle d.handles then Err (record { text = fault.DuplicateTagDirective; mark = place; may_change = false })
    else Ok (
      record { version = d.version; handles = with_name handle d.handles },
      record m
          { prefixes = with_meaning handle prefix m.prefixes },
    )

-- reserved directives are ignored
abbrev pub directive_at : Kind → Piece → Declared → Machine → Result (Declared × Machine) Refusal
directive_at (tokens.VersionDirective major minor) t d m = version_declared t.span.start d m
directive_at (tokens.TagDirective handle prefix) t d m = with_handle handle prefix t.span.start d m
directive_at _ t d m = Ok (d, m)

abbrev pub directives_from : List Piece → Declared → Machine → Result (Piece × Machine) Refusal
directives_from [] d m = Err (ending_refusal m.tokens.refusal)
directives_from (t ∷ ts) d m =
    if is_directive t.kind then directive_at t.kind t d (with_pieces ts m) >>= (λ s. directives_from ts s.0 s.1)
    else Ok (t, with_pieces ts m)

-- the first token after the directives
unfoldable pub directives : Declared → Machine → Result (Piece × Machine) Refusal
directives d m = directives_from m.tokens.pieces d m

-- ## The beginning of the stream and of documents

-- whether the stream is over, so that no token is read any more
abbrev pub is_over : State → Bool
is_over state.End = true
is_over _ = false

abbrev pub stream_start_at : Kind → Piece → Machine → Result Emitted Refusal
stream_start_at tokens.StreamStart t m = emit events.StreamStart t.span (with_state state.ImplicitDocumentStart m)
stream_start_at _ t m = refusal_at fault.DocumentStartExpected t

unfoldable pub stream_start : Machine → Result Emitted Refusal
stream_start m = do
  t ← taken_token m
  stream_start_at t.0.kind t.0 t.1

-- anchors hold for their document
abbrev pub without_anchors : Machine → Machine
without_anchors m = record m { anchors = without_ids m.anchors }

abbrev pub explicit_document_at : Kind → Piece → Machine → Result Emitted Refusal
explicit_document_at tokens.DocumentStart t m =
    emit (events.DocumentStart true) t.span (with_state state.DocumentContent
    (push state.DocumentEnd (without_anchors m)))
explicit_document_at tokens.ByteOrderMark t m = refusal_at fault.MisplacedByteOrderMark t
explicit_document_at _ t m = refusal_at fault.DocumentStartExpected t

-- directives and `---` come next
abbrev pub next_document : Machine → Result Emitted Refusal
next_document m = do
  u ← directives none_declared m
  explicit_document_at u.0.kind u.0 u.1

-- directives and `---` begin with the token
unfoldable pub explicit_document : Piece → Machine → Result Emitted Refusal
explicit_document t m = next_document (put_back t m)

-- a document without `---` begins with the token
unfoldable pub bare_document : Piece → Machine → Result Emitted Refusal
bare_document t m = emit (events.DocumentStart false) t.span
    (with_state state.BlockNode (push state.DocumentEnd (without_anchors (put_back t m))))

abbrev pub implicit_start_at : Kind → Piece → Machine → Result Emitted Refusal
implicit_start_at tokens.StreamEnd t m = emit events.StreamEnd t.span (with_state state.End m)
implicit_start_at (tokens.VersionDirective major minor) t m = explicit_document t m
implicit_start_at (tokens.TagDirective handle prefix) t m = explicit_document t m
implicit_start_at (tokens.ReservedDirective name) t m = explicit_document t m
implicit_start_at tokens.DocumentStart t m = explicit_document t m
implicit_start_at _ t m = bare_document t m

-- a document that may begin without `---`, or the end of the stream
unfoldable pub implicit_start : Machine → Result Emitted Refusal
implicit_start m = do
  t ← unpassed_token is_end_or_mark m
  implicit_start_at t.0.kind t.0 t.1

abbrev pub explicit_start_at : Kind → Piece → Machine → Result Emitted Refusal
explicit_start_at tokens.StreamEnd t m = emit events.StreamEnd t.span (with_state state.End m)
explicit_start_at _ t m = explicit_document t m

unfoldable pub explicit_start : Machine → Result Emitted Refusal
explicit_start m = do
  t ← unpassed_token is_end_or_mark m
  explicit_start_at t.0.kind t.0 t.1

-- ## The content and the end of documents

-- an empty document, before the token
abbrev pub no_content : Piece → Machine → Result Emitted Refusal
no_content t m = emit empty_scalar t.span (pop (put_back t m))

abbrev pub document_content_at : Kind → Piece → Machine → Result Emitted Refusal
document_content_at (tokens.VersionDirective major minor) t m = no_content t m
document_content_at (tokens.TagDirective handle prefix) t m = no_content t m
document_content_at (tokens.ReservedDirective name) t m = no_content t m
document_content_at tokens.DocumentStart t m = no_content t m
document_content_at tokens.DocumentEnd t m = no_content t m
document_content_at tokens.ByteOrderMark t m = no_content t m
document_content_at tokens.StreamEnd t m = no_content t m
document_content_at _ t m = node Block t m

unfoldable pub document_content : Machine → Result Emitted Refusal
document_content m = do
  t ← taken_token m
  document_content_at t.0.kind t.0 t.1

-- after the byte order marks at the end of a document, of which the first has this place
abbrev pub token_behind_marks_at : Kind → Marker → Piece → Machine → Result (Piece × Machine) Refusal
token_behind_marks_at tokens.DocumentStart place t m = Ok (t, m)
token_behind_marks_at tokens.DocumentEnd place t m = Ok (t, m)
token_behind_marks_at tokens.StreamEnd place t m = Ok (t, m)
token_behind_marks_at _ place t m = Err (record { text = fault.MisplacedByteOrderMark; mark = place; may_change = false })

unfoldable pub token_behind_marks : Marker → Machine → Result (Piece × Machine) Refusal
token_behind_marks place m = do
  t ← unpassed_token is_mark m
  token_behind_marks_at t.0.kind place t.0 t.1

abbrev pub token_behind_document_at : Kind → Piece → Machine → Result (Piece × Machine) Refusal
token_behind_document_at tokens.ByteOrderMark t m = token_behind_marks t.span.start m
token_behind_document_at _ t m = Ok (t, m)

-- the token that comes after a document and its byte order marks
unfoldable pub token_behind_document : Machine → Result (Piece × Machine) Refusal
token_behind_document m = do
  t ← taken_token m
  token_behind_document_at t.0.kind t.0 t.1

-- prefixes hold for their document, unless they are kept
abbrev pub without_prefixes : Machine → Machine
without_prefixes m = record m { prefixes = if m.keep_tags then m.prefixes else [] }

abbrev pub document_end_at : Kind → Piece → Machine → Result Emitted Refusal
document_end_at tokens.DocumentEnd t m = emit events.DocumentEnd t.span (with_state state.ImplicitDocumentStart m)
document_end_at (tokens.VersionDirective major minor) t m = refusal_at fault.DocumentEndExpected t
document_end_at (tokens.TagDirective handle prefix) t m = refusal_at fault.DocumentEndExpected t
document_end_at (tokens.ReservedDirective name) t m = refusal_at fault.DocumentEndExpected t
document_end_at _ t m = emit events.DocumentEnd t.span (with_state state.DocumentStart (put_back t m))

unfoldable pub document_end : Machine → Result Emitted Refusal
document_end m = do
  t ← token_behind_document m
  document_end_at t.0.kind t.0 (without_prefixes t.1)
