-- The next document, and what a call answers.
use Rattle.std.proofs.Common.{◌≡◌, ◌<◌, List, [], ◌∷◌, ◌++◌, Option, Some, None, Bool, true, false, Result, Ok, Err, refl, sym, ap, ◌∙◌, append_assoc, length-append, inl, inr, arith}
use Rattle.std.specs.List.{flat_map}
use Rattle.saphyr_scalar.specs.declared.scalar.position.Span.{Span}
use Rattle.saphyr_parser.specs.Events.{Happening, StreamStart, StreamEnd, DocumentEnd}
use Rattle.saphyr_parser.specs.Answer.{Answer, Ending, OutOfMemory, fault_alone}
use Rattle.saphyr_parser.specs.Cursor.{EventCursor, Stays, count, to_come}
use Rattle.saphyr_parser.specs.Calls.{Looks}
use Rattle.saphyr_parser.specs.Nesting.{Nest, InStream, BehindStream, nest_before_stream, nest_behind_stream, nest_behind_all, happenings}
use Rattle.yaml_tree.specs.declared.fault.TreeFault.{TreeFault}
use Rattle.yaml_tree.specs.declared.fault.TreeFault.TheVariants as fault
use Rattle.yaml_tree.specs.declared.tally.Limits.{Limits}
use Rattle.yaml_tree.specs.declared.document.Document.{Document}
use Rattle.yaml_tree.specs.declared.loading.Loader.{Loader}
use Rattle.yaml_tree.specs.Unloading.{document_events, unload}
use Rattle.yaml_tree.specs.BuilderSeen.{nest_of}
use Rattle.yaml_tree.specs.LoaderSeen.{LoaderTakes, nest_behind_both}
use Rattle.yaml_tree.specs.Loading.{FailsToTake}
use Rattle.yaml_tree.specs.Tables.{Event}
use Rattle.yaml_tree.specs.DocumentLoading.{ComesBetweenDocuments, with_stream_start, NestOn, AtMost, PassesDocument, PassesNoDocument, LoadsDocument, LeavesLess, LeavesBehindLook, LeavesBehindDocument}
use Rattle.yaml_tree.specs.DocumentSeen.{GoesOnBehind, LeavesPart, nest_in_stream, HoldsLast}
use Rattle.yaml_tree.proofs.Nests.{leaves_stream}
use Rattle.yaml_tree.proofs.Loads.{behind_look, no_nest, some_fault, whole_is_complete}
use Rattle.yaml_tree.proofs.DocumentRead.{fails_lost, never_stops}
use Rattle.yaml_tree.proofs.Taking.{happenings-append}
use Rattle.yaml_tree.proofs.DocumentEnds.{ends, ends-append, ends_none, document_ends, no_document}

-- ## What was taken before

none_ends : (before : List Happening) → AtMost StreamStart before → ends before ≡ 0
none_ends before (inl e) = ap ends e
none_ends before (inr e) = ap ends e

-- the start that isn't before them comes among them
record Shared (before hs others : List Happening) : Type 0 where
  start : List Happening
  first : AtMost StreamStart start
  own : hs ≡ start ++ others

shares : (before hs others : List Happening) → AtMost StreamStart before → before ++ hs ≡ StreamStart ∷ others
    → Shared before hs others
shares before hs others (inl e) is = record {
  start = StreamStart ∷ [];
  first = inr refl;
  own = ap (λ (es : List Happening). es ++ hs) (sym e) ∙ is;
}
shares before hs others (inr e) is =
    let same : StreamStart ∷ hs ≡ StreamStart ∷ others = ap (λ (es : List Happening). es ++ hs) (sym e) ∙ is in
    record { start = []; first = inl refl; own = cc }

-- ## Counts and places

one_document : (ds : List Document) (d : Document) (hs : List Happening) → ends hs ≡ 1
    → hs ≡ (StreamStart ∷ flat_map document_events ds) ++ document_events d → hs ≡ StreamStart ∷ document_events d
one_document ds d hs one is =
    let all = ap ends is ∙ ends-append (StreamStart ∷ flat_map document_events ds) (document_events d) in
    let none = no_document ds (omega (arith, one, all, document_ends d)) in
    is ∙ ap (λ (es : List Document). (StreamStart ∷ flat_map document_events es) ++ document_events d) none

no_documents : (ds : List Document) (hs : List Happening) → ends hs ≡ 0 → hs ≡ unload ds
    → hs ≡ StreamStart ∷ StreamEnd ∷ []
no_documents ds hs none is =
    let all : ends hs ≡ ends (unload ds) = ap ends is in
    let split = ends-append (flat_map document_events ds) (StreamEnd ∷ []) in
    is ∙ ap unload (no_document ds (omega (arith, none, all, split)))

two_places : InStream ≡ BehindStream → ⊥
two_places e = absurd (cc)

pub two_nests : (n : Nest) → n ≡ nest_in_stream → n ≡ nest_behind_stream → ⊥
two_nests n e f = two_places (ap (λ (k : Nest). k.innermost) (sym e ∙ f))

module _ {K : Type 0} (HasKept : List Event → K → Type 0) (limits : Limits) (before : List Happening)
    (at : AtMost StreamStart before) (all left : Answer) (l : Loader K) where
  -- ## A document that ended

  abbrev Ended : Type 0
  Ended = LoaderTakes HasKept false limits before (Ok true) all left l

  abbrev Rested : Type 0
  Rested = LoaderTakes HasKept false limits before (Ok false) all left l

  ends_here : (t : Ended) → happenings t.1.taken ≡ happenings t.1.inner ++ DocumentEnd ∷ []
  ends_here t = ap happenings t.1.up_to ∙ happenings-append t.1.inner (t.1.last ∷ [])
      ∙ ap (λ (h : Happening). happenings t.1.inner ++ h ∷ []) t.1.ends

  ends_once : (t : Ended) → ends (before ++ happenings t.1.taken) ≡ 1
  ends_once t =
      let taken = ap ends (ends_here t) ∙ ends-append (happenings t.1.inner) (DocumentEnd ∷ []) in omega (
        arith,
        ends-append before (happenings t.1.taken),
        none_ends before at,
        ends_none (happenings t.1.inner) t.1.inside,
        taken,
      )

  finds : (d : Document) → Ended → HoldsLast (Ok (Some d)) l.builder → PassesDocument limits d all left
  finds d t (nest, ds, is) =
      let shared = shares before (happenings t.1.taken) (document_events d) at
      (one_document ds d (before ++ happenings t.1.taken) (ends_once t) (sym t.1.holds.written ∙ is)) in record {
        start = shared.start;
        passed = t.1.taken;
        first = shared.first;
        own = shared.own;
        split = t.1.split;
        fault = t.1.fault;
        within = t.1.holds.within;
      }

  -- after its end only the stream is open
  stands_in_stream : Ended → nest_of l.builder ≡ nest_in_stream
  stands_in_stream t =
      let split : before ++ happenings t.1.taken ≡ (before ++ happenings t.1.inner) ++ DocumentEnd ∷ [] =
      ap (λ (hs : List Happening). before ++ hs) (ends_here t)
      ∙ sym (append_assoc before (happenings t.1.inner) (DocumentEnd ∷ [])) in
      leaves_stream (before ++ happenings t.1.inner) nest_before_stream (nest_of l.builder) tt
      (ap (λ (hs : List Happening). nest_behind_all hs nest_before_stream) (sym split) ∙ t.1.holds.nested)

  finds_some : Ended → HoldsLast (Ok None) l.builder → ⊥
  finds_some t (inl (nest, is)) =
      let none = ap ends (sym t.1.holds.written ∙ is) in omega (arith, ends_once t, none)
  finds_some t (inr (nest, ds, is)) = two_nests (nest_of l.builder) (stands_in_stream t) nest

  -- ## The stream's end

  ends_never : Rested → ends (before ++ happenings all.events) ≡ 0
  ends_never t = omega (
    arith,
    ends-append before (happenings all.events),
    none_ends before at,
    ends_none (happenings all.events) t.holds.0,
  )

  finds_none : (d : Document) → Rested → HoldsLast (Ok (Some d)) l.builder → ⊥
  finds_none d t (nest, ds, is) =
      let all_ends = ap ends (sym t.holds.1.written ∙ is)
      ∙ ends-append (StreamStart ∷ flat_map document_events ds) (document_events d) in
      omega (arith, ends_never t, all_ends, document_ends d)

  passes_none : (end : List Happening) → Rested → AtMost StreamEnd end
      → before ++ happenings all.events ≡ StreamStart ∷ end → PassesNoDocument all left
  passes_none end t last is =
      let shared = shares before (happenings all.events) end at is in record {
        start = shared.start;
        end = end;
        first = shared.first;
        last = last;
        events = shared.own;
        fault = t.fault;
        nothing = t.nothing;
      }

  passes_stream : Rested → HoldsLast (Ok None) l.builder → PassesNoDocument all left
  passes_stream t (inl (nest, is)) = passes_none [] t (inl refl) (sym t.holds.1.written ∙ is)
  passes_stream t (inr (nest, ds, is)) =
      passes_none (StreamEnd ∷ []) t (inr refl)
      (no_documents ds (before ++ happenings all.events) (ends_never t) (sym t.holds.1.written ∙ is))

-- ## Events that don't nest

not_whole : (before hs : List Happening) (f : Option Ending) (n : Nest) → with_stream_start hs ≡ before ++ hs
    → f ≡ None → nest_behind_all (before ++ hs) nest_before_stream ≡ Some n → (n ≡ nest_in_stream → ⊥)
    → (n ≡ nest_behind_stream → ⊥) → NestOn hs f → ⊥
not_whole before [] f n is e nested not_in not_behind w =
    let found : Some nest_in_stream ≡ Some n =
    ap (λ (es : List Happening). nest_behind_all es nest_before_stream) is ∙ nested in
    not_in (cc)
not_whole before (h ∷ hs) f n is e nested not_in not_behind w = not_behind
    (whole_is_complete f _ n e (ap (λ (es : List Happening). nest_behind_all es nest_before_stream) is ∙ nested) w)

not_nested : (before hs : List Happening) (f : Option Ending) → with_stream_start hs ≡ before ++ hs
    → nest_behind_all (before ++ hs) nest_before_stream ≡ None → NestOn hs f → ⊥
not_nested before [] f is none w =
    let found : Some nest_in_stream ≡ None =
    ap (λ (es : List Happening). nest_behind_all es nest_before_stream) is ∙ none in
    absurd (cc)
not_nested before (h ∷ hs) f is none w =
    no_nest f _ (ap (λ (es : List Happening). nest_behind_all es nest_before_stream) is ∙ none) w

-- ## What a call answers

pub loads_last : {K : Type 0} (HasKept : List Event → K → Type 0) (limits : Limits) (before : List Happening)
    (b : Bool) (all left : Answer) (l : Loader K) (r : Result (Option Document) TreeFault)
    → AtMost StreamStart before → GoesOnBehind before all → LoaderTakes HasKept false limits before (Ok b) all left l
    → HoldsLast r l.builder → LoadsDocument limits r all left
loads_last HasKept limits before true all left l (Ok (Some d)) at on t h =
    finds HasKept limits before at all left l d t h
loads_last HasKept limits before true all left l (Ok None) at on t h =
    absurd (finds_some HasKept limits before at all left l t h)
loads_last HasKept limits before true all left l (Err fault.NotFresh) at on t h =
    absurd (h.0 (stands_in_stream HasKept limits before at all left l t))
loads_last HasKept limits before false all left l (Ok (Some d)) at on t h =
    absurd (finds_none HasKept limits before at all left l d t h)
loads_last HasKept limits before false all left l (Ok None) at on t h =
    passes_stream HasKept limits before at all left l t h
loads_last HasKept limits before false all left l (Err fault.NotFresh) at on t h =
    inr (on.0, not_whole before (happenings all.events) all.fault _ on.1 t.fault t.holds.1.nested h.0 h.1)
loads_last HasKept limits before b all left l (Err _) at on t h = absurd h

pub fails_in_document : (f : TreeFault) (limits : Limits) (before : List Happening) (all left : Answer)
    → GoesOnBehind before all → FailsToTake false (nest_behind_both before all.events ≡ None) limits f all left
    → LoadsDocument limits (Err f) all left
fails_in_document fault.NotFresh limits before all left on h =
    inr (on.0, not_nested before (happenings all.events) all.fault on.1 h)
fails_in_document (fault.Parse f) limits before all left on h = h
fails_in_document _ limits before all left on h = (on.0, h)

-- ## Lack of memory before the first event

pub no_events_of : (xs ys : List (Happening × Span)) (d : Document) (start : List Happening) → [] ≡ xs ++ ys
    → happenings xs ≡ start ++ document_events d → ⊥
no_events_of [] ys d [] e f = absurd (cc)
no_events_of [] ys d (h ∷ hs) e f = absurd (cc)
no_events_of (x ∷ xs) ys d start e f = absurd (cc)

loads_behind : (limits : Limits) (all mid left : Answer) (r : Result (Option Document) TreeFault)
    → Stays all mid → LoadsDocument limits r mid left → LoadsDocument limits r all left
loads_behind limits all mid left r stays = behind_look (λ a. LoadsDocument limits r a left) all mid stays (lost r)
  where
    lost : (s : Result (Option Document) TreeFault) → 0 < count all
        → LoadsDocument limits s (fault_alone OutOfMemory) left → LoadsDocument limits s all left
    lost (Ok (Some d)) some l = absurd (no_events_of l.passed left.events d l.start l.split l.own)
    lost (Ok None) some l = absurd (some_fault _ l.fault)
    lost (Err fault.NotFresh) some (inl late) = absurd (late.0 tt)
    lost (Err fault.NotFresh) some (inr ill) = absurd (ill.1 tt)
    lost (Err (fault.Parse f)) some l = fails_lost false f limits all left some l
    lost (Err f) some l = absurd (never_stops false f limits left l.1)

pub loads_found : (limits : Limits) (before : List Happening) (all mid left : Answer)
    (r : Result (Option Document) TreeFault) → Stays all mid × GoesOnBehind before mid
    → (GoesOnBehind before mid → LoadsDocument limits r mid left) → LoadsDocument limits r all left
loads_found limits before all mid left r (stays, on) loads = loads_behind limits all mid left r stays (loads on)

-- a document's events are not none
some_passed : (limits : Limits) (d : Document) (all left : Answer) (es : List (Happening × Span))
    (start : List Happening) → all.events ≡ es ++ left.events → happenings es ≡ start ++ document_events d
    → all.fault ≡ left.fault → count left < count all
some_passed limits d all left [] [] split own same = absurd (cc)
some_passed limits d all left [] (h ∷ hs) split own same = absurd (cc)
some_passed limits d all left (e ∷ es) start split own same =
    rw (split, same) (omega (arith, length-append es left.events))

pub leaves_less : (limits : Limits) (r : Result (Option Document) TreeFault) (all left : Answer)
    → LoadsDocument limits r all left → LeavesLess r all left
leaves_less limits (Ok (Some d)) all left l = some_passed limits d all left l.passed l.start l.split l.own l.fault
leaves_less limits (Ok None) all left l = tt
leaves_less limits (Err f) all left l = tt

-- ## The parser that is left

pub leaves_found : {X : Type 0} (before : List Happening) (old looked new : EventCursor)
    (r : Result (Option X) TreeFault) → Looks old looked
    → Stays (to_come old) (to_come looked) × GoesOnBehind before (to_come looked)
    → (GoesOnBehind before (to_come looked) → LeavesBehindLook r looked new) → LeavesBehindDocument r old new
leaves_found before old looked new r looks (stays, on) leaves =
    record { looked = looked; looks = looks; leaves = leaves on }

pub leaves_last : {K : Type 0} (HasKept : List Event → K → Type 0) (limits : Limits) (before : List Happening)
    (b : Bool) (old new : EventCursor) (l : Loader K) (r : Result (Option Document) TreeFault)
    → AtMost StreamStart before → GoesOnBehind before (to_come old)
    → LoaderTakes HasKept false limits before (Ok b) (to_come old) (to_come new) l → HoldsLast r l.builder
    → LeavesPart (Ok b) old new → LeavesBehindLook r old new
leaves_last HasKept limits before true old new l (Ok (Some d)) at on t h k = k
leaves_last HasKept limits before true old new l (Ok None) at on t h k =
    absurd (finds_some HasKept limits before at (to_come old) (to_come new) l t h)
leaves_last HasKept limits before true old new l (Err fault.NotFresh) at on t h k = inr (on.0, k)
leaves_last HasKept limits before false old new l (Ok (Some d)) at on t h k =
    absurd (finds_none HasKept limits before at (to_come old) (to_come new) l d t h)
leaves_last HasKept limits before false old new l (Ok None) at on t h k = k
leaves_last HasKept limits before false old new l (Err fault.NotFresh) at on t h k =
    inr (on.0, record { handed = (to_come old).events; over = k.0 })
leaves_last HasKept limits before b old new l (Err _) at on t h k = absurd h

pub leaves_failed : (X : Type 0) (f : TreeFault) (old new : EventCursor) → ComesBetweenDocuments (to_come old)
    → LeavesPart (Err f) old new → LeavesBehindLook {X = X} (Err f) old new
leaves_failed X fault.NotFresh old new between k = inr (between, k)
leaves_failed X _ old new between k = k
