-- Nodes, after their properties, are told.
use Rattle.event_laws.proofs.Common.{◌≡◌, ◌≢◌, ℕ, ◌<◌, List, [], ◌∷◌, ◌++◌, length, Option, Some, None, option_map, encode_utf8_all, codes, Result, Ok, refl, sym, ◌∙◌, inl, inr, arith, Marker, Span, Refusal, Handle, handle_bytes, Tag, NonSpecific, Verbatim, Shorthand, Kind, anchor_token, tag_token, AreBoth, YieldProperties, Piece, NodeContext, State, Part, Happening, ResolvedTag, ◌>>=◌, Names, meaning, next_id, Machine, Emitted, emit, next_node, event_step}
use lib.Utf8.{encode}
use Rattle.saphyr_scanner.specs.Grammar.Forest as forest
use Rattle.saphyr_scanner.specs.Grammar.Tokens as tokens
use Rattle.saphyr_machine.specs.declared.state.State.TheVariants as state
use Rattle.saphyr_machine.specs.Steps.Tags.{declared_prefix, resolved_tag_at, declared_prefix_or, undeclared_prefix}
use Rattle.saphyr_machine.specs.Steps.Nodes.{NodeProperties, no_node_properties, node_content_at, node_content, next_content, properties_behind_anchor_at, properties_behind_anchor, properties_behind_tag_at, properties_behind_tag, content_behind, node_at, node}
use Rattle.event_laws.proofs.Emitted.Emitting.{SpansByKinds, Memory, Outer, at}
use Rattle.event_laws.proofs.Remembering.{noted, after, own_id_in, resolve, resolve_any, with_properties, event_in, SaysParts, says}

-- ## Tags

pub handle_is_some : (handle : Handle) → 0 < length (handle_bytes handle)
unfolding encode
handle_is_some handle = grind arith

pub has_handle : (handle : List ℕ) (names : Names (List ℕ)) (place : Marker) → 0 < length handle
    → declared_prefix names handle place ≡ declared_prefix_or (meaning handle names) (undeclared_prefix handle place)
unfolding declared_prefix
has_handle handle names place l = grind arith

record TagToken (tag : Tag) : Type 0 where
  handle : List ℕ
  suffix : List ℕ
  token : tag_token tag ≡ tokens.Tag handle suffix
  stands : (names : Names (List ℕ)) (place : Marker) (r : ResolvedTag) → resolve names tag ≡ Some r
      → resolved_tag_at names handle suffix place ≡ Ok r

of_shorthand : (o : Option (List ℕ)) (r : Result (List ℕ) Refusal) (suffix : List ℕ) (tag : ResolvedTag)
    → ((prefix : List ℕ) → o ≡ Some prefix → r ≡ Ok prefix)
    → option_map (λ prefix. let t : ResolvedTag = record { handle = prefix; suffix = suffix } in t) o ≡ Some tag
    → (r >>= (λ prefix. let x : Result ResolvedTag Refusal = Ok (record { handle = prefix; suffix = suffix }) in x))
    ≡ Ok tag
of_shorthand o r suffix tag h q = grind arith

shorthand_stands : (handle : Handle) (suffix : List ℕ) (names : Names (List ℕ)) (place : Marker) (r : ResolvedTag)
    → resolve names (Shorthand handle suffix) ≡ Some r
    → resolved_tag_at names (handle_bytes handle) (encode_utf8_all suffix) place ≡ Ok r
unfolding resolved_tag_at encode
shorthand_stands handle suffix names place r h = grind (arith, has_handle, handle_is_some, of_shorthand)

some_inside : (a b : ResolvedTag) → (let o : Option ResolvedTag = Some a in o) ≡ Some b
    → (let r : Result ResolvedTag Refusal = Ok a in r) ≡ Ok b
some_inside a b h = cc

tag_is_token : (tag : Tag) → TagToken tag
unfolding resolved_tag_at declared_prefix
tag_is_token NonSpecific =
    record { handle = []; suffix = codes "!"; token = refl; stands = λ names place r h. some_inside _ r h }
tag_is_token (Verbatim uri) =
    record { handle = []; suffix = encode_utf8_all uri; token = refl; stands = λ names place r h. some_inside _ r h }
tag_is_token (Shorthand handle suffix) =
    record {
      handle = handle_bytes handle;
      suffix = encode_utf8_all suffix;
      token = refl;
      stands = shorthand_stands handle suffix;
    }

-- ## Properties

-- a token that is no alias and no property
abbrev pub IsContentKind : Kind → Type 0
IsContentKind (tokens.Alias _) = ⊥
IsContentKind (tokens.Anchor _) = ⊥
IsContentKind (tokens.Tag _ _) = ⊥
IsContentKind _ = Unit {0}

content_alone : (k : Kind) (d : NodeContext) (t : Piece) (m : Machine) → IsContentKind k
    → node_at k d t m ≡ node_content (no_node_properties t.span.start) d t m
content_alone k d t m h = grind arith

content_behind_anchor : (k : Kind) (id : ℕ) (s : Span) (d : NodeContext) (t : Piece) (m : Machine) → IsContentKind k
    → (properties_behind_anchor_at k id s t m >>= content_behind d)
    ≡ node_content (record { start = s.start; behind = s.end; anchor = id; tag = None }) d t m
unfolding next_content
content_behind_anchor (tokens.Tag handle suffix) id s d t m h = absurd h
content_behind_anchor _ id s d t m h = refl

content_behind_tag : (k : Kind) (tag : ResolvedTag) (s : Span) (d : NodeContext) (t : Piece) (m : Machine)
    → IsContentKind k → content_behind d (properties_behind_tag_at k tag s t m)
    ≡ node_content (record { start = s.start; behind = s.end; anchor = 0; tag = Some tag }) d t m
unfolding next_content
content_behind_tag (tokens.Anchor name) tag s d t m h = absurd h
content_behind_tag _ tag s d t m h = refl

-- the machine has read these properties
pub record Has (e : Memory) (anchor : Option (List ℕ)) (tag : Option Tag) (q : NodeProperties) : Type 0 where
  pub anchor_is : q.anchor ≡ own_id_in e anchor
  pub tag_is : resolve_any e.prefixes tag ≡ Some q.tag

tagged : (o : Option ResolvedTag) (found : Option ResolvedTag)
    → option_map (λ v. let o : Option ResolvedTag = Some v in o) o ≡ Some found → (v : ResolvedTag) × (o ≡ Some v)
tagged u0 found h = grind arith

made : (make : ℕ → Option ResolvedTag → Happening) (a b : ℕ) (t g : Option ResolvedTag) (w : Happening) → a ≡ b
    → (let o : Option (Option ResolvedTag) = Some t in o) ≡ Some g → make b g ≡ w → make a t ≡ w
made make a b t g w h k q = cc

-- a node comes to its content, which begins with the token k
pub record ComesToContent (f : SpansByKinds) (d : NodeContext) (x : State) (ss : Outer) (e : Memory)
    (anchor : Option (List ℕ))
    (tag : Option Tag) (k : Kind) (ks : List Kind) (r : Result Emitted Refusal) : Type 0 where
  pub properties : NodeProperties
  pub has : Has e anchor tag properties
  pub goes : r ≡ node_content_at k properties d (record { span = f ks; kind = k }) (at f ks x ss (noted anchor e))

-- By which properties the node has: none, one, or both in either order. The steps of each case compute up to the
-- content. What they need is that the tag resolves (`tag_is_token`), and that the token behind is neither a property
-- nor an alias.
node_comes : (f : SpansByKinds) (d : NodeContext) (x : State) (ss : Outer) (e : Memory) (anchor : Option (List ℕ))
    (tag : Option Tag) (front : List Kind) (k : Kind) (ks : List Kind) (found : Option ResolvedTag)
    → AreBoth (option_map anchor_token anchor) (option_map tag_token tag) front → IsContentKind k
    → resolve_any e.prefixes tag ≡ Some found
    → ComesToContent f d x ss e anchor tag k ks (next_node d (at f (front ++ k ∷ ks) x ss e))
unfolding node node_content next_content properties_behind_anchor properties_behind_tag
node_comes f d x ss e None None front k ks found h c r =
    record {
      properties = no_node_properties (f ks).start;
      has = record { anchor_is = refl; tag_is = refl };
      goes = cc (content_alone k d _ _ c);
    }
node_comes f d x ss e (Some name) None front k ks found h c r =
    record {
      properties = record {
        start = (f (k ∷ ks)).start;
        behind = (f (k ∷ ks)).end;
        anchor = next_id e.anchors;
        tag = None;
      };
      has = record { anchor_is = refl; tag_is = refl };
      goes = cc (content_behind_anchor k (next_id e.anchors) (f (k ∷ ks)) d _ _ c);
    }
node_comes f d x ss e None (Some tag) front k ks found h c r =
    let t : TagToken tag = tag_is_token tag in
    let g : (v : ResolvedTag) × (resolve e.prefixes tag ≡ Some v) = tagged (resolve e.prefixes tag) found r in
    let s : Span = f (k ∷ ks) in
    record {
      properties = record { start = s.start; behind = s.end; anchor = 0; tag = Some g.0 };
      has = record { anchor_is = refl; tag_is = cc };
      goes = cc (t.stands e.prefixes s.start g.0 g.1, content_behind_tag k g.0 s d _ _ c);
    }
node_comes f d x ss e (Some name) (Some tag) front k ks found (inl h) c r =
    let t : TagToken tag = tag_is_token tag in
    let g : (v : ResolvedTag) × (resolve e.prefixes tag ≡ Some v) = tagged (resolve e.prefixes tag) found r in
    let s : Span = f (tokens.Tag t.handle t.suffix ∷ k ∷ ks) in
    let end : Marker = (f (k ∷ ks)).end in
    record {
      properties = record { start = s.start; behind = end; anchor = next_id e.anchors; tag = Some g.0 };
      has = record { anchor_is = refl; tag_is = cc };
      goes = cc (t.stands e.prefixes s.start g.0 g.1);
    }
node_comes f d x ss e (Some name) (Some tag) front k ks found (inr h) c r =
    let t : TagToken tag = tag_is_token tag in
    let g : (v : ResolvedTag) × (resolve e.prefixes tag ≡ Some v) = tagged (resolve e.prefixes tag) found r in
    let s : Span = f (anchor_token name ∷ k ∷ ks) in
    let end : Marker = (f (k ∷ ks)).end in
    record {
      properties = record { start = s.start; behind = end; anchor = next_id e.anchors; tag = Some g.0 };
      has = record { anchor_is = refl; tag_is = cc };
      goes = cc (t.stands e.prefixes s.start g.0 g.1);
    }

-- ## The first token of a node

found_any : (make : ℕ → Option ResolvedTag → Happening) (id : ℕ) (o : Option (Option ResolvedTag)) (w : Happening)
    → option_map (make id) o ≡ Some w → (g : Option ResolvedTag) × (o ≡ Some g) × (make id g ≡ w)
found_any make id u0 w h = grind arith

emits_so : {a b c : Result Emitted Refusal} (u w : Happening) (span : Span) (n : Machine) → a ≡ b → b ≡ c
    → c ≡ emit u span n → u ≡ w → a ≡ emit w span n
emits_so u w span n p q r s = cc

-- A node with properties is told, where its content is told of what the machine has read.
pub node_opens : (f : SpansByKinds) (d : NodeContext) (x : State) (ss : Outer) (e : Memory) (m n : Machine)
    (p : forest.Properties) (front : List Kind) (k : Kind) (ks : List Kind) (part : Part) (ps : List Part)
    (make : ℕ → Option ResolvedTag → Happening) → YieldProperties p front × IsContentKind k
    → (m.state ≢ state.End) × (event_step m ≡ next_node d (at f (front ++ k ∷ ks) x ss e))
    → event_in e part ≡ with_properties make e p → ((q : NodeProperties) → Has e p.anchor p.tag q
    → (span : Span) × (node_content_at k q d (record { span = f ks; kind = k }) (at f ks x ss (noted p.anchor e))
    ≡ emit (make q.anchor q.tag) span n)) → SaysParts (after part e) n ps → SaysParts e m (part ∷ ps)
node_opens f d x ss e m n p front k ks part ps make (h, c) (more, q) v go l = says e m n part ps more (λ w z.
    let g = found_any make (own_id_in e p.anchor) (resolve_any e.prefixes p.tag) w (sym v ∙ z) in
    let r = node_comes f d x ss e p.anchor p.tag front k ks g.0 h c g.1 in
    let s : (span : Span) × (node_content_at k r.properties d (record { span = f ks; kind = k })
    (at f ks x ss (noted p.anchor e)) ≡ emit (make r.properties.anchor r.properties.tag) span n) =
    go r.properties r.has in
    let same : make r.properties.anchor r.properties.tag ≡ w = made make r.properties.anchor (own_id_in e p.anchor)
    r.properties.tag g.0 w r.has.anchor_is (sym r.has.tag_is ∙ g.1) g.2 in
    (s.0, emits_so (make r.properties.anchor r.properties.tag) w s.0 n q r.goes s.1 same)) l
