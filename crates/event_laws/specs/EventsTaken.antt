-- Which events are taken from a text (YAML 1.2.2, chapter 3): those of a forest, or a beginning of them and one fault,
-- where tokens that are taken from the text are those of the forest, or a beginning of them. Before a fault they are a
-- beginning of the events of each forest whose tokens begin with those.
use Rattle.std.specs.Prelude.{◌≡◌, ◌≢◌, ◌⊎◌, ◌<◌, ◌^◌, ℕ, Bool, true, List, [], ◌∷◌, ◌++◌, map, Option, Some, None}
use Rattle.saphyr_scalar.specs.declared.scalar.position.Span.{Span}
use Rattle.saphyr_scalar.specs.declared.scalar.fault.FaultText.{FaultText}
use Rattle.saphyr_scalar.specs.Texts.{fault_text}
use Rattle.saphyr_scalar.specs.declared.scalar.style.ScalarStyle.TheVariants.{Plain}
use Rattle.saphyr_scanner.specs.Grammar.Forest.{Forest}
use Rattle.saphyr_scanner.specs.Grammar.Tokens as tokens
use Rattle.saphyr_scanner.specs.Grammar.Tokens.{Kind}
use Rattle.saphyr_scanner.specs.Views.Tokens.{Piece, Remaining}
use Rattle.saphyr_scanner.specs.Grammar.TokenGrammar.{Yields}
use Rattle.saphyr_scanner.specs.TokensTaken.{IsPlaceOf, AreTakenFrom}
use Rattle.saphyr_machine.specs.Events.{Happening, DocumentStart, DocumentEnd, Alias, Scalar, SequenceStart, SequenceEnd, MappingStart, MappingEnd}
use Rattle.event_laws.specs.Anchors.{anchors}
use Rattle.event_laws.specs.Preorder.{parts}
use Rattle.event_laws.specs.ForestEvents.{events}
use Rattle.saphyr_machine.specs.Answer.{Ending, Refused, Answer}
use Rattle.event_laws.specs.Exactly.{kinds}

-- ## The spans of events

-- tokens that an event has for itself: nodes, properties, starts and ends of collections, and starts of documents
abbrev pub BelongsToNone : Kind → Type 0
BelongsToNone (tokens.Alias name) = ⊥
BelongsToNone (tokens.Anchor name) = ⊥
BelongsToNone (tokens.Tag handle suffix) = ⊥
BelongsToNone (tokens.Scalar style value) = ⊥
BelongsToNone tokens.DocumentStart = ⊥
BelongsToNone tokens.FlowSequenceStart = ⊥
BelongsToNone tokens.FlowMappingStart = ⊥
BelongsToNone tokens.BlockSequenceStart = ⊥
BelongsToNone tokens.BlockMappingStart = ⊥
BelongsToNone tokens.FlowSequenceEnd = ⊥
BelongsToNone tokens.FlowMappingEnd = ⊥
BelongsToNone tokens.BlockEnd = ⊥
BelongsToNone _ = Unit {0}

abbrev pub IsAnchorKind : Kind → Type 0
IsAnchorKind (tokens.Anchor name) = Unit {0}
IsAnchorKind _ = ⊥

abbrev pub IsTagKind : Kind → Type 0
IsTagKind (tokens.Tag handle suffix) = Unit {0}
IsTagKind _ = ⊥

-- an anchor, a tag, or both in either order
abbrev pub ArePropertyTokens : List Piece → Type 0
ArePropertyTokens [] = ⊥
ArePropertyTokens (p ∷ []) = IsAnchorKind p.kind ⊎ IsTagKind p.kind
ArePropertyTokens (p ∷ q ∷ []) = (IsAnchorKind p.kind × IsTagKind q.kind) ⊎ (IsTagKind p.kind × IsAnchorKind q.kind)
ArePropertyTokens _ = ⊥

-- from the start of the first token to the end of the last
abbrev pub Spans : Piece → List Piece → Span → Type 0
Spans first [] span = span ≡ record { start = first.span.start; end = first.span.end }
Spans first (p ∷ []) span = span ≡ record { start = first.span.start; end = p.span.end }
Spans first (p ∷ q ∷ []) span = span ≡ record { start = first.span.start; end = q.span.end }
Spans first _ span = ⊥

abbrev pub SpansAll : List Piece → Span → Type 0
SpansAll [] span = ⊥
SpansAll (p ∷ ps) span = Spans p ps span

-- content of its own token, after properties or none
abbrev pub AreContentTokens : Kind → List Piece → Type 0
AreContentTokens kind ts =
    (front : List Piece) × (own : Piece) × ((front ≡ []) ⊎ ArePropertyTokens front) × (own.kind ≡ kind)
    × (ts ≡ front ++ own ∷ [])

-- A block sequence at its mapping's column, which has no start of its own, after properties or none: the first `-`
-- comes next, and the span goes up to its end.
abbrev pub BeginsEntries : List Piece → Span → List Piece → Type 0
BeginsEntries ts span [] = ⊥
BeginsEntries ts span (entry ∷ others) =
    (entry.kind ≡ tokens.BlockEntry) × ((ts ≡ []) ⊎ ArePropertyTokens ts) × SpansAll (ts ++ entry ∷ []) span

-- a pair in brackets without a start of its own, which its `?` begins
abbrev pub ArePairTokens : List Piece → Type 0
ArePairTokens ts = (mark : Piece) × (mark.kind ≡ tokens.Key) × (ts ≡ mark ∷ [])

-- The token that ends a collection: this bracket, or the end of a block collection. A sequence that has no start of its
-- own ends without one, and so does a pair in brackets that its `?` begins.
abbrev pub AreEndTokens : Kind → List Piece → Type 0
AreEndTokens bracket ts =
    (ts ≡ []) ⊎ ((own : Piece) × ((own.kind ≡ bracket) ⊎ (own.kind ≡ tokens.BlockEnd)) × (ts ≡ own ∷ []))

-- what may come behind a document: no directive, before which it needs its `...` (9.2)
abbrev pub MayFollowDocument : Kind → Type 0
MayFollowDocument (tokens.VersionDirective major minor) = ⊥
MayFollowDocument (tokens.TagDirective handle prefix) = ⊥
MayFollowDocument (tokens.ReservedDirective name) = ⊥
MayFollowDocument _ = Unit {0}

-- a token is behind a document
abbrev pub IsDocumentFollowed : List Piece → Type 0
IsDocumentFollowed [] = ⊥
IsDocumentFollowed (next ∷ others) = MayFollowDocument next.kind

-- The tokens ts are the event's own, after which others come, and it has their span, unless it is an end's. An explicit
-- document's is its `---`. A document's end has none, but only another token tells that it is there. Nothing is asked
-- of the spans of ends, of nodes that are left out, of bare documents and of the stream.
abbrev pub IsOf : Happening → Span → List Piece → List Piece → Type 0
IsOf (DocumentStart true) span ts others =
    (own : Piece) × (own.kind ≡ tokens.DocumentStart) × (own.span ≡ span) × (ts ≡ own ∷ [])
IsOf (Alias id) span ts others =
    (own : Piece) × (name : List ℕ) × (own.kind ≡ tokens.Alias name) × (own.span ≡ span) × (ts ≡ own ∷ [])
IsOf (Scalar text style id tag) span ts others =
    (AreContentTokens (tokens.Scalar style text) ts × SpansAll ts span)
    ⊎ ((text ≡ []) × (style ≡ Plain) × ArePropertyTokens ts × SpansAll ts span)
    ⊎ ((text ≡ []) × (style ≡ Plain) × (id ≡ 0) × (tag ≡ None) × (ts ≡ []))
IsOf (SequenceStart id tag) span ts others =
    ((AreContentTokens tokens.FlowSequenceStart ts ⊎ AreContentTokens tokens.BlockSequenceStart ts) × SpansAll ts span)
    ⊎ BeginsEntries ts span others
IsOf (MappingStart id tag) span ts others =
    (AreContentTokens tokens.FlowMappingStart ts ⊎ (AreContentTokens tokens.BlockMappingStart ts ⊎ ArePairTokens ts))
    × SpansAll ts span
IsOf SequenceEnd span ts others = AreEndTokens tokens.FlowSequenceEnd ts
IsOf MappingEnd span ts others = AreEndTokens tokens.FlowMappingEnd ts
IsOf DocumentEnd span ts others = (ts ≡ []) × IsDocumentFollowed others
IsOf _ span ts others = ts ≡ []

-- The events have their tokens, in order, and no token of a node is passed over, nor one that ends a collection. After
-- them all are the tokens `unread`.
pub data HaveTokens (unread : List Piece) : List (Happening × Span) → List Piece → Type 0 where
  nothing : HaveTokens unread [] []
  passed : (es : List (Happening × Span)) (t : Piece) (ts : List Piece) → BelongsToNone t.kind → HaveTokens unread es ts
      → HaveTokens unread es (t ∷ ts)
  event : (what : Happening) (span : Span) (es : List (Happening × Span)) (own ts : List Piece)
      → IsOf what span own (ts ++ unread) → HaveTokens unread es ts → HaveTokens unread ((what, span) ∷ es) (own ++ ts)

-- ## A beginning of a forest's events

-- with no fault, all; with one, a beginning
abbrev pub IsAllUnless : {X : Type 0} → Option Ending → List X → Type 0
IsAllUnless None more = more ≡ []
IsAllUnless (Some fault) more = Unit {0}

-- with no fault, all; with one, not all: no fault comes after the end of the stream, the last event of a forest
abbrev pub IsCut : {X : Type 0} → Option Ending → List X → Type 0
IsCut None more = more ≡ []
IsCut (Some fault) more = more ≢ []

-- tokens and events whose places don't matter
abbrev pub no_span : Span
no_span = record { start = record { index = 0; line = 0; col = 0 }; end = record { index = 0; line = 0; col = 0 } }

abbrev pub unplaced_tokens : List Kind → List Piece
unplaced_tokens ks = map (λ k. record { span = no_span; kind = k }) ks

abbrev pub unplaced_events : List Happening → List (Happening × Span)
unplaced_events es = map (λ e. (e, no_span)) es

-- The answer's events are a beginning of the forest's: all of them where no fault ends them, and with a fault not all.
-- The tokens begin as the forest's do, and are all of them where there is no fault. Each event has its tokens, and
-- their span. The tokens of the forest that were not read are those of the events that are missing, ends of collections
-- included: no document has ended in which a collection's end was not read. But a token need not end its own
-- collection: in `a:` LF `- k: [b` the mapping of `k` may end by the end of the sequence around it.
pub record IsBeginningOf (forest : Forest) (keep : Bool) (pieces : List Piece) (a : Answer) : Type 0 where
  pub read : List Piece
  pub unread : List Piece
  pub are_read : pieces ≡ read ++ unread
  pub expected : List Kind
  pub yielded : Yields forest (kinds read ++ expected)
  pub missing : List Happening
  pub are_events : events forest keep ≡ Some (map (λ (e : Happening × Span). e.0) a.events ++ missing)
  pub places : HaveTokens unread a.events read
  pub have_expected : HaveTokens [] (unplaced_events missing) (unplaced_tokens expected)
  pub all_read : IsAllUnless a.fault unread
  pub all_expected : IsAllUnless a.fault expected
  pub all_given : IsCut a.fault missing

abbrev pub BeginsSomeForest : Bool → Remaining → Answer → Type 0
BeginsSomeForest keep tokens a = (forest : Forest) × IsBeginningOf forest keep tokens.pieces a

-- these events begin with the answer's
abbrev pub Continue : List Happening → Answer → Type 0
Continue es a = (others : List Happening) × (es ≡ map (λ (e : Happening × Span). e.0) a.events ++ others)

-- Nothing is made up before a fault: whatever tokens come after these, the events of each forest that all of them are
-- the tokens of begin with the answer's. Of tokens that begin no forest with events it says nothing.
abbrev pub BeginsEachForest : Bool → List Piece → Answer → Type 0
BeginsEachForest keep pieces a =
    (forest : Forest) (others : List Kind) (emitted : List Happening) → Yields forest (kinds pieces ++ others)
    → anchors (parts forest) < 2 ^ 64 → events forest keep ≡ Some emitted → Continue emitted a

-- ## The same of a text

-- the text of one of the faults that there are
abbrev pub IsFaultText : List ℕ → Type 0
IsFaultText info = (fault : FaultText) × (info ≡ fault_text fault)

-- Where the events end with a refusal, its place is one of the text, and it is one of those that there are. Want of
-- memory has no place.
abbrev pub HasPlaceIn : List ℕ → Option Ending → Type 0
HasPlaceIn text (Some (Refused place info)) = IsPlaceOf text place × IsFaultText info
HasPlaceIn text _ = Unit {0}

-- The answer is a beginning of the forest's events, by tokens that are taken from the text, and of the events of each
-- other forest whose tokens begin with these.
pub record IsTakenBy (forest : Forest) (keep : Bool) (text : List ℕ) (a : Answer) : Type 0 where
  pub tokens : Remaining
  pub taken : AreTakenFrom text tokens
  pub begins : IsBeginningOf forest keep tokens.pieces a
  pub begins_each : BeginsEachForest keep tokens.pieces a
  pub refused_at : HasPlaceIn text a.fault

-- Of every text: the events of some forest are taken from it, or their beginning. Before a fault nothing tells how many
-- they are, which fault it is, and which tokens it leaves over.
abbrev pub AreTaken : Bool → List ℕ → Answer → Type 0
AreTaken keep text a = (forest : Forest) × IsTakenBy forest keep text a
