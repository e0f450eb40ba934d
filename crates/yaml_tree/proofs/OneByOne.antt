-- Documents are loaded one after the other.
use Rattle.std.proofs.Common.{◌≡◌, Bool, List, [], ◌∷◌, ◌++◌, Option, Some, None, option_and_then, Ok, Err, refl, sym, ap, subst, ◌∙◌, append_assoc, append-nil, inl, inr}
use Rattle.std.specs.List.{flat_map}
use Rattle.std.proofs.lemmas.List.{map-append}
use Rattle.std.proofs.lemmas.Grind.{flat_map-append}
use Rattle.saphyr_scalar.specs.declared.scalar.position.Span.{Span}
use Rattle.saphyr_parser.specs.Events.{Happening, StreamStart, StreamEnd, DocumentStart, DocumentEnd, SequenceStart, MappingStart}
use Rattle.saphyr_parser.specs.Answer.{Answer, Ending}
use Rattle.saphyr_parser.specs.EventsTaken.{IsCut}
use Rattle.saphyr_parser.specs.Nesting.{Nest, nest_before_stream, nest_behind_stream, nest_behind_all, happenings, IsStreamStart, BeginsStream, IsAtStart, IsWhole, IsNested}
use Rattle.yaml_tree.specs.declared.fault.TreeFault.TheVariants as fault
use Rattle.yaml_tree.specs.declared.tally.Limits.{Limits}
use Rattle.yaml_tree.specs.declared.document.Document.{Document}
use Rattle.yaml_tree.specs.Unloading.{node_events, document_events, unload}
use Rattle.yaml_tree.specs.DocumentLoading.{GoOnBetween, NestOn, AtMost, PassesDocument, PassesNoDocument, LoadsDocument, LoadsEach}
use Rattle.yaml_tree.specs.DocumentSeen.{nest_in_stream}
use Rattle.yaml_tree.proofs.Nests.{nest_behind_all-append, leaves_stream, never_ends}
use Rattle.yaml_tree.proofs.DocumentFound.{two_nests}

-- ## After a document

-- from inside the stream these events lead to its end
abbrev pub AreComplete : List Happening → Type 0
AreComplete hs = nest_behind_all hs nest_in_stream ≡ Some nest_behind_stream

complete_behind : (d : Document) (o : Option Nest) (hs : List Happening)
    → nest_behind_all (document_events d) nest_in_stream ≡ o
    → option_and_then (nest_behind_all hs) o ≡ Some nest_behind_stream → AreComplete hs
complete_behind d None hs is w = absurd (cc)
complete_behind d (Some n) hs is w =
    subst (λ (m : Nest). nest_behind_all hs m ≡ Some nest_behind_stream)
    (leaves_stream (DocumentStart d.explicit ∷ node_events d.root) nest_in_stream n tt is) w

goes_on : (d : Document) (hs : List Happening) → AreComplete (document_events d ++ hs) → AreComplete hs
goes_on d hs w = complete_behind d (nest_behind_all (document_events d) nest_in_stream) hs refl
    (sym (nest_behind_all-append (document_events d) hs nest_in_stream) ∙ w)

-- no stream begins in a stream
no_start : (hs : List Happening) → AreComplete (StreamStart ∷ hs) → ⊥
no_start hs w = absurd (cc)

-- ## A call

-- These documents' events were passed, and the others are complete with those that a fault cuts off.
record Passed (missing : List Happening) (ds : List Document) (before : List Happening)
    (all left : Answer) : Type 0 where
  pub events : before ≡ flat_map document_events ds ++ happenings left.events
  pub fault : all.fault ≡ left.fault
  pub complete : AreComplete (happenings left.events ++ missing)

given : (limits : Limits) (d : Document) (all left : Answer) (p : PassesDocument limits d all left)
    → happenings all.events ≡ p.start ++ (document_events d ++ happenings left.events)
given limits d all left p = ap happenings p.split
    ∙ map-append (λ (e : Happening × Span). e.0) p.passed left.events
    ∙ ap (λ (hs : List Happening). hs ++ happenings left.events) p.own
    ∙ append_assoc p.start (document_events d) (happenings left.events)

-- the same where it is known which start was passed
given_behind : (limits : Limits) (d : Document) (all left : Answer) (p : PassesDocument limits d all left)
    (start : List Happening) → p.start ≡ start
    → happenings all.events ≡ start ++ (document_events d ++ happenings left.events)
given_behind limits d all left p start is = given limits d all left p
    ∙ ap (λ (hs : List Happening). hs ++ (document_events d ++ happenings left.events)) is

passed_one : (missing : List Happening) (d : Document) (all left : Answer) → all.fault ≡ left.fault
    → AreComplete ((document_events d ++ happenings left.events) ++ missing)
    → Passed missing (d ∷ []) (document_events d ++ happenings left.events) all left
passed_one missing d all left same w = record {
  events = ap (λ (es : List Happening). es ++ happenings left.events) (sym (append-nil (document_events d)));
  fault = same;
  complete = goes_on d (happenings left.events ++ missing)
      (subst AreComplete (append_assoc (document_events d) (happenings left.events) missing) w);
}

passes_later : (missing : List Happening) (limits : Limits) (d : Document) (all left : Answer)
    (p : PassesDocument limits d all left) → AtMost StreamStart p.start
    → AreComplete (happenings all.events ++ missing) → Passed missing (d ∷ []) (happenings all.events) all left
passes_later missing limits d all left p (inl none) w =
    let is = given_behind limits d all left p [] none in
    subst (λ (hs : List Happening). Passed missing (d ∷ []) hs all left) (sym is) (passed_one missing d all left p.fault
    (subst (λ (hs : List Happening). AreComplete (hs ++ missing)) is w))
passes_later missing limits d all left p (inr one) w =
    let is = given_behind limits d all left p (StreamStart ∷ []) one in
    absurd (no_start ((document_events d ++ happenings left.events) ++ missing)
    (subst (λ (hs : List Happening). AreComplete (hs ++ missing)) is w))

-- ## The first call

no_document_first : (es : List (Happening × Span)) (f : Option Ending) (explicit : Bool) (hs : List Happening)
    → BeginsStream es f → happenings es ≡ DocumentStart explicit ∷ hs → ⊥
no_document_first [] f explicit hs b is = absurd (cc)
no_document_first (e ∷ es) f explicit hs b is =
    let same : e.0 ≡ DocumentStart explicit = cc in subst IsStreamStart same b

-- the stream's start was passed too
record PassedFirst (missing : List Happening) (ds : List Document) (all left : Answer) : Type 0 where
  pub behind : List Happening
  pub start : happenings all.events ≡ StreamStart ∷ behind
  pub passed : Passed missing ds behind all left

passes_first : (missing : List Happening) (limits : Limits) (d : Document) (all left : Answer)
    (p : PassesDocument limits d all left) → AtMost StreamStart p.start → IsAtStart all
    → nest_behind_all (happenings all.events ++ missing) nest_before_stream ≡ Some nest_behind_stream
    → PassedFirst missing (d ∷ []) all left
passes_first missing limits d all left p (inl none) b w = absurd (no_document_first all.events all.fault d.explicit
    ((node_events d.root ++ DocumentEnd ∷ []) ++ happenings left.events) b (given_behind limits d all left p [] none))
passes_first missing limits d all left p (inr one) b w =
    let is = given_behind limits d all left p (StreamStart ∷ []) one in record {
      behind = document_events d ++ happenings left.events;
      start = is;
      passed = passed_one missing d all left p.fault (subst (λ (hs : List Happening).
          nest_behind_all (hs ++ missing) nest_before_stream ≡ Some nest_behind_stream) is w);
    }

-- ## Call after call

passed_both : (missing : List Happening) (ds fs : List Document) (hs : List Happening) (all mid left : Answer)
    → Passed missing ds hs all mid → Passed missing fs (happenings mid.events) mid left
    → Passed missing (ds ++ fs) hs all left
passed_both missing ds fs hs all mid left p q = record {
  events = p.events ∙ ap (λ (es : List Happening). flat_map document_events ds ++ es) q.events
      ∙ sym (append_assoc (flat_map document_events ds) (flat_map document_events fs) (happenings left.events))
      ∙ ap (λ (es : List Happening). es ++ happenings left.events) (sym (flat_map-append document_events ds fs));
  fault = p.fault ∙ q.fault;
  complete = q.complete;
}

passes_each : (missing : List Happening) (limits : Limits) (ds : List Document) (all left : Answer)
    → LoadsEach limits ds all left → AreComplete (happenings all.events ++ missing)
    → Passed missing ds (happenings all.events) all left
passes_each missing limits [] all left same w =
    subst (λ (a : Answer). Passed missing [] (happenings all.events) all a) (sym same)
    (record { events = refl; fault = refl; complete = w })
passes_each missing limits (d ∷ ds) all left (mid, one, others) w =
    let first = passes_later missing limits d all mid one one.first w in
    passed_both missing (d ∷ []) ds (happenings all.events) all mid left first
    (passes_each missing limits ds mid left others first.complete)

passes_all : (missing : List Happening) (limits : Limits) (d : Document) (ds : List Document) (all mid left : Answer)
    → PassedFirst missing (d ∷ []) all mid → LoadsEach limits ds mid left → PassedFirst missing (d ∷ ds) all left
passes_all missing limits d ds all mid left first others = record {
  behind = first.behind;
  start = first.start;
  passed = passed_both missing (d ∷ []) ds first.behind all mid left first.passed
      (passes_each missing limits ds mid left others first.passed.complete);
}

-- What is known of a new parser's events. With those that a fault cuts off they are complete, and so are those that
-- are left.
pub record Begun (all : Answer) : Type 0 where
  pub missing : List Happening
  pub cut : IsCut all.fault missing
  pub complete : nest_behind_all (happenings all.events ++ missing) nest_before_stream ≡ Some nest_behind_stream
  pub start : IsAtStart all
  pub nested : IsNested all
  pub whole : (f : Option Ending) (hs : List Happening) → IsCut f missing → AreComplete (hs ++ missing)
      → IsWhole f (nest_behind_all hs nest_in_stream)

-- ## All documents

none_cut : (f : Option Ending) (missing : List Happening) → f ≡ None → IsCut f missing → missing ≡ []
none_cut f missing e cut = subst (λ (x : Option Ending). IsCut x missing) e cut

last_of : (start end : List Happening) → AtMost StreamStart start → AtMost StreamEnd end → AreComplete (start ++ end)
    → start ++ end ≡ StreamEnd ∷ []
last_of start end (inr a) b w =
    absurd (no_start end (subst (λ (hs : List Happening). AreComplete (hs ++ end)) a w))
last_of start end (inl a) (inr b) w = ap (λ (hs : List Happening). hs ++ end) a ∙ b
last_of start end (inl a) (inl b) w =
    let none : AreComplete [] = subst AreComplete (ap (λ (hs : List Happening). hs ++ end) a ∙ b) w in
    let same : nest_in_stream ≡ nest_behind_stream = cc in
    absurd (two_nests nest_in_stream refl same)

unloads_all : (all left behind : Answer) (ds : List Document) (b : Begun all) → PassedFirst b.missing ds all left
    → PassesNoDocument left behind → (unload ds ≡ happenings all.events) × (all.fault ≡ None)
unloads_all all left behind ds b p n =
    let whole = p.passed.fault ∙ n.fault in
    let none = none_cut all.fault b.missing whole b.cut in
    let last : happenings left.events ++ b.missing ≡ n.start ++ n.end =
    ap (λ (hs : List Happening). happenings left.events ++ hs) none ∙ append-nil (happenings left.events) ∙ n.events in
    let end = last_of n.start n.end n.first n.last (subst AreComplete last p.passed.complete) in (
      sym (p.start ∙ ap (λ (hs : List Happening). StreamStart ∷ hs)
          (p.passed.events ∙ ap (λ (hs : List Happening). flat_map document_events ds ++ hs) (n.events ∙ end))),
      whole,
    )

no_event : (es : List (Happening × Span)) (f : Option Ending) → BeginsStream es f → f ≡ None → happenings es ≡ [] → ⊥
no_event [] f b e is = subst (BeginsStream []) e b
no_event (x ∷ es) f b e is = absurd (cc)

no_end_first : (es : List (Happening × Span)) (f : Option Ending) (hs : List Happening) → BeginsStream es f
    → happenings es ≡ StreamEnd ∷ hs → ⊥
no_end_first [] f hs b is = absurd (cc)
no_end_first (x ∷ es) f hs b is = let same : x.0 ≡ StreamEnd = cc in subst IsStreamStart same b

whole_stream : (f : Option Ending) (hs : List Happening) → f ≡ None → hs ≡ StreamStart ∷ []
    → IsWhole f (nest_behind_all hs nest_before_stream) → ⊥
whole_stream f hs e is w = two_nests nest_in_stream refl
    (subst (λ (x : Option Ending). IsWhole x (Some nest_in_stream)) e
    (subst (λ (es : List Happening). IsWhole f (nest_behind_all es nest_before_stream)) is w))

-- a stream without documents
stream_of_none : (all : Answer) (start end : List Happening) → AtMost StreamStart start → AtMost StreamEnd end
    → IsAtStart all → IsNested all → all.fault ≡ None → happenings all.events ≡ start ++ end
    → StreamStart ∷ StreamEnd ∷ [] ≡ happenings all.events
stream_of_none all start end (inl a) (inl b) at nested e is = absurd (no_event all.events all.fault at e
    (is ∙ ap (λ (hs : List Happening). hs ++ end) a ∙ b))
stream_of_none all start end (inl a) (inr b) at nested e is = absurd (no_end_first all.events all.fault [] at
    (is ∙ ap (λ (hs : List Happening). hs ++ end) a ∙ b))
stream_of_none all start end (inr a) (inl b) at nested e is = absurd (whole_stream all.fault (happenings all.events) e
    (is ∙ ap (λ (hs : List Happening). hs ++ end) a ∙ ap (λ (hs : List Happening). StreamStart ∷ hs) b) nested)
stream_of_none all start end (inr a) (inr b) at nested e is =
    sym (is ∙ ap (λ (hs : List Happening). hs ++ end) a ∙ ap (λ (hs : List Happening). StreamStart ∷ hs) b)

pub gives_all : (limits : Limits) (documents : List Document) (all left behind : Answer) → Begun all
    → LoadsEach limits documents all left → LoadsDocument limits (Ok None) left behind
    → (unload documents ≡ happenings all.events) × (all.fault ≡ None)
gives_all limits [] all left behind b same n =
    let m = subst (λ (a : Answer). PassesNoDocument a behind) same n in
    (stream_of_none all m.start m.end m.first m.last b.start b.nested m.fault m.events, m.fault)
gives_all limits (d ∷ ds) all left behind b (mid, one, others) n =
    unloads_all all left behind (d ∷ ds) b (passes_all b.missing limits d ds all mid left
    (passes_first b.missing limits d all mid one one.first b.start b.complete) others) n

-- ## Never inside a document

-- what comes next is between documents, and nests
record IsNext (es : List (Happening × Span)) (f : Option Ending) : Type 0 where
  pub between : GoOnBetween es
  pub nests : NestOn (happenings es) f

next_at_start : (es : List (Happening × Span)) (f : Option Ending) → BeginsStream es f
    → IsWhole f (nest_behind_all (happenings es) nest_before_stream) → IsNext es f
next_at_start [] f b w = record { between = tt; nests = tt }
next_at_start ((StreamStart, span) ∷ es) f b w = record { between = tt; nests = w }
next_at_start ((_, span) ∷ es) f b w = absurd b

next_in_stream : (es : List (Happening × Span)) (f : Option Ending) (missing : List Happening)
    → AreComplete (happenings es ++ missing) → IsWhole f (nest_behind_all (happenings es) nest_in_stream)
    → IsNext es f
next_in_stream [] f missing c w = record { between = tt; nests = tt }
next_in_stream ((StreamEnd, span) ∷ es) f missing c w = record { between = tt; nests = w }
next_in_stream ((DocumentStart explicit, span) ∷ es) f missing c w = record { between = tt; nests = w }
next_in_stream ((SequenceStart id tag, span) ∷ es) f missing c w =
    absurd (never_ends (happenings es ++ missing) _ (tt, refl) c)
next_in_stream ((MappingStart id tag, span) ∷ es) f missing c w =
    absurd (never_ends (happenings es ++ missing) _ (tt, refl) c)
next_in_stream ((_, span) ∷ es) f missing c w = absurd (cc)

never_inside : (limits : Limits) (left behind : Answer) → IsNext left.events left.fault
    → LoadsDocument limits (Err fault.NotFresh) left behind → ⊥
never_inside limits left behind n (inl late) = late.0 n.between
never_inside limits left behind n (inr ill) = ill.1 n.nests

next_behind : (all left : Answer) (ds : List Document) (b : Begun all) → PassedFirst b.missing ds all left
    → IsNext left.events left.fault
next_behind all left ds b p =
    let cut = subst (λ (f : Option Ending). IsCut f b.missing) p.passed.fault b.cut in
    next_in_stream left.events left.fault b.missing p.passed.complete
    (b.whole left.fault (happenings left.events) cut p.passed.complete)

pub goes_on_between : (limits : Limits) (documents : List Document) (all left behind : Answer) → Begun all
    → LoadsEach limits documents all left → LoadsDocument limits (Err fault.NotFresh) left behind → ⊥
goes_on_between limits [] all left behind b same l = never_inside limits all behind
    (next_at_start all.events all.fault b.start b.nested)
    (subst (λ (a : Answer). LoadsDocument limits (Err fault.NotFresh) a behind) same l)
goes_on_between limits (d ∷ ds) all left behind b (mid, one, others) l =
    never_inside limits left behind (next_behind all left (d ∷ ds) b (passes_all b.missing limits d ds all mid left
    (passes_first b.missing limits d all mid one one.first b.start b.complete) others)) l
