-- The events of parts as a machine tells them that remembers anchors and prefixes.
use Rattle.event_laws.proofs.Common.{◌≡◌, ◌≢◌, ℕ, List, [], ◌∷◌, Option, Some, None, option_map, encode_utf8_all, codes, sym, ap, ◌∙◌, arith, if◌then◌else◌, option_or, Span, handle_bytes, Tag, NonSpecific, Verbatim, Shorthand, Directive, Version, TagPrefix, Reserved, Node, Nodes, NoNode, MoreNodes, Pairs, NoPair, MorePairs, Kind, State, End, Part, OpenStream, CloseStream, OpenDocument, CloseDocument, Reference, Leaf, OpenSequence, CloseSequence, OpenMapping, CloseMapping, first_and_others, default_prefix, Names, meaning, with_meaning, without_ids, next_id, with_anchor, Machine, emit, event_step, remaining_answer, GivesExactly}
use Rattle.saphyr_scanner.specs.Grammar.Forest as forest
use Rattle.saphyr_machine.specs.Events.{Happening, ResolvedTag, StreamStart, StreamEnd, DocumentStart, DocumentEnd, Alias, Scalar, SequenceStart, SequenceEnd, MappingStart, MappingEnd}
use Rattle.event_laws.proofs.Emitted.Emitting.{SpansByKinds, Memory, Outer, at, emits}

-- ## What is remembered

abbrev pub noted : Option (List ℕ) → Memory → Memory
noted None e = e
noted (Some name) e = record {
  anchors = with_anchor (encode_utf8_all name) e.anchors;
  prefixes = e.prefixes;
  keep = e.keep;
}

-- the prefixes after directives
abbrev pub declaring : List Directive → Names (List ℕ) → Names (List ℕ)
declaring [] names = names
declaring (TagPrefix handle prefix ∷ others) names =
    declaring others (with_meaning (handle_bytes handle) (encode_utf8_all prefix) names)
declaring (Version _ _ ∷ others) names = declaring others names
declaring (Reserved _ ∷ others) names = declaring others names

abbrev pub opening : List Directive → Memory → Memory
opening directives e = record {
  anchors = without_ids e.anchors;
  prefixes = declaring directives e.prefixes;
  keep = e.keep;
}

abbrev pub closing : Memory → Memory
closing e = record { anchors = e.anchors; prefixes = if e.keep then e.prefixes else []; keep = e.keep }

abbrev pub after : Part → Memory → Memory
after (OpenDocument explicit directives) e = opening directives e
after CloseDocument e = closing e
after (Leaf p style value) e = noted p.anchor e
after (OpenSequence p) e = noted p.anchor e
after (OpenMapping p) e = noted p.anchor e
after _ e = e

-- the same after all parts of a node
abbrev mutual
  pub after_node : Node → Memory → Memory
  after_node (forest.Alias name) e = e
  after_node (forest.Scalar p style value) e = noted p.anchor e
  after_node (forest.Seq p nodes) e = after_nodes nodes (noted p.anchor e)
  after_node (forest.Map p pairs) e = after_pairs pairs (noted p.anchor e)

  pub after_nodes : Nodes → Memory → Memory
  after_nodes NoNode e = e
  after_nodes (MoreNodes node nodes) e = after_nodes nodes (after_node node e)

  pub after_pairs : Pairs → Memory → Memory
  after_pairs NoPair e = e
  after_pairs (MorePairs key value pairs) e = after_pairs pairs (after_node value (after_node key e))

-- ## The events

abbrev pub own_id_in : Memory → Option (List ℕ) → ℕ
own_id_in e None = 0
own_id_in e (Some _) = next_id e.anchors

abbrev pub resolve : Names (List ℕ) → Tag → Option ResolvedTag
resolve names NonSpecific = Some (record { handle = []; suffix = codes "!" })
resolve names (Verbatim uri) = Some (record { handle = []; suffix = encode_utf8_all uri })
resolve names (Shorthand handle suffix) =
    option_map (λ prefix. record { handle = prefix; suffix = encode_utf8_all suffix })
    (option_or (meaning (handle_bytes handle) names) (default_prefix handle))

abbrev pub resolve_any : Names (List ℕ) → Option Tag → Option (Option ResolvedTag)
resolve_any names None = Some None
resolve_any names (Some tag) = option_map Some (resolve names tag)

-- the event of a node with properties
abbrev pub with_properties : (ℕ → Option ResolvedTag → Happening) → Memory → forest.Properties → Option Happening
with_properties make e p = option_map (make (own_id_in e p.anchor)) (resolve_any e.prefixes p.tag)

abbrev pub event_in : Memory → Part → Option Happening
event_in e OpenStream = Some StreamStart
event_in e CloseStream = Some StreamEnd
event_in e (OpenDocument explicit directives) = Some (DocumentStart explicit)
event_in e CloseDocument = Some DocumentEnd
event_in e (Reference name) = option_map Alias (meaning (encode_utf8_all name) e.anchors.ids)
event_in e (Leaf p style value) = with_properties (Scalar (encode_utf8_all value) style) e p
event_in e (OpenSequence p) = with_properties SequenceStart e p
event_in e CloseSequence = Some SequenceEnd
event_in e (OpenMapping p) = with_properties MappingStart e p
event_in e CloseMapping = Some MappingEnd

abbrev pub events_in : Memory → List Part → Option (List Happening)
events_in e [] = Some []
events_in e (part ∷ others) = first_and_others (event_in e part) (events_in (after part e) others)

-- ## What a machine tells

-- the machine gives the events of these parts, if they have events
abbrev pub SaysParts : Memory → Machine → List Part → Type 0
SaysParts e m ps = (es : List Happening) → events_in e ps ≡ Some es → GivesExactly es (remaining_answer m)

-- the same of a machine that remembers just that
abbrev pub EmitsParts : SpansByKinds → List Kind → State → Outer → Memory → List Part → Type 0
EmitsParts f ks s ss e ps = SaysParts e (at f ks s ss e) ps

first_and_others_parts : (a : Option Happening) (b : Option (List Happening)) (es : List Happening)
    → first_and_others a b ≡ Some es
    → (w : Happening) × (ws : List Happening) × (a ≡ Some w) × (b ≡ Some ws) × (w ∷ ws ≡ es)
first_and_others_parts k b es h = grind arith

-- one step tells the first part
pub says : (e : Memory) (m n : Machine) (part : Part) (ps : List Part) → m.state ≢ End
    → ((w : Happening) → event_in e part ≡ Some w → (span : Span) × (event_step m ≡ emit w span n))
    → SaysParts (after part e) n ps → SaysParts e m (part ∷ ps)
says e m n part ps more go h es q =
    let r = first_and_others_parts (event_in e part) (events_in (after part e) ps) es q in
    let s : (span : Span) × (event_step m ≡ emit r.0 span n) = go r.0 r.2 in
    rw r.4 at (emits m (record { what = r.0; span = s.0; machine = n }) r.1 more s.1 (h r.1 r.3))

-- the same of a part that always has its event
pub plainly : (e : Memory) (m n : Machine) (part : Part) (ps : List Part) (w : Happening) (span : Span) → m.state ≢ End
    → event_in e part ≡ Some w → event_step m ≡ emit w span n → SaysParts (after part e) n ps
    → SaysParts e m (part ∷ ps)
plainly e m n part ps w span more a q h = says e m n part ps more (λ v b.
    (span, q ∙ ap (λ u. emit u span n) (let same : w ≡ v = (let c : Some w ≡ Some v = sym a ∙ b in cc) in same)))
    h
