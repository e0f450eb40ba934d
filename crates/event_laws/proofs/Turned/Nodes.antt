-- A node is turned, with its properties.
use Rattle.event_laws.proofs.OwnTokens.{HasOwn, whole, StartsAt, content_spans, content_is, no_opening}
use Rattle.event_laws.proofs.Common.{◌≡◌, ℕ, List, [], ◌∷◌, ◌++◌, Option, Some, None, option_map, encode_utf8_all, Result, Ok, Err, refl, sym, ap, subst, ◌⊎◌, inl, inr, append_assoc, arith, Marker, Span, ScalarStyle, Refusal, Tag, Nodes, Kind, tag_token, Piece, InBlockMapping, YieldBlockEntries, HasNode, NodeContext, BlockMapping, State, Part, Reference, OpenSequence, CloseSequence, OpenMapping, CloseMapping, entry_parts, kinds, ◌>>=◌, Machine, Emitted, taken_token, meaning, next_id, if◌then◌else◌, resolved_tag_at, IsWellFormed, AreWellFormed}
use Rattle.saphyr_scanner.specs.Grammar.Forest as forest
use Rattle.saphyr_scanner.specs.Grammar.Tokens as tokens
use Rattle.saphyr_scanner.specs.Grammar.TokenGrammar as grammar
use Rattle.saphyr_machine.specs.declared.state.State.TheVariants as state
use Rattle.saphyr_machine.specs.Events.{ResolvedTag, Alias, SequenceStart, MappingStart}
use Rattle.saphyr_machine.specs.Steps.Contexts.{allows_block}
use Rattle.saphyr_machine.specs.Steps.Nodes.{NodeProperties, no_node_properties, node_content_at, node_content, next_content, alias_of, alias_node, properties_behind_anchor_at, properties_behind_anchor, properties_behind_tag_at, properties_behind_tag, content_behind, node_at, node}
use Rattle.event_laws.proofs.Emitted.Emitting.{Memory}
use Rattle.event_laws.proofs.Remembering.{noted, resolve}
use Rattle.event_laws.proofs.Turned.Following.{Claim, Then, Exactly, IsNodeOf, FirstEntries, FirstPairs, BlockEntries, BlockPairs, FollowsStates, IsAlive, BeginsWithEntry}
use Rattle.event_laws.proofs.Turned.Turning.{Aside, piece_of, machine, Goes, Turned, put}
use Rattle.event_laws.proofs.Turned.Tags.{ResolvesTo, stands}
use Rattle.event_laws.proofs.NodeStarts.{place_of}
use Rattle.event_laws.proofs.Turned.Content.{IsPairState, Suits, NodeThen, Fronted, with_emitted, leaf_goes, alone_turned, collection_goes, no_entry}

-- ## Sequences at the column of the mapping around them

has_node : (ns : Nodes) (t u ks : List Kind) → YieldBlockEntries ns t → ks ≡ t ++ u → (BeginsWithEntry u → ⊥)
    → BeginsWithEntry ks → HasNode ns
has_node ns t u ks h e n b = grind arith

indentless_makes : (p : forest.Properties) (front : List Kind) (s : State) (ss : List State) (ks : List Kind)
    (ps : List Part) → grammar.YieldProperties p front → IsPairState s
    → Then BlockEntries (Then (Exactly [] (CloseSequence ∷ [])) (FollowsStates s ss)) ks ps → BeginsWithEntry ks
    → Then (IsNodeOf InBlockMapping) (FollowsStates s ss) (front ++ ks) (OpenSequence p ∷ ps)
indentless_makes p front s ss ks ps h i g b =
    let g2 : Then (Exactly [] (CloseSequence ∷ [])) (FollowsStates s ss) g.back g.second = g.goes_on in
    let some : HasNode g.begins.0 = has_node g.begins.0 g.front g2.back ks g.begins.1
    (cc) (no_entry s ss g2.back g2.second i g2.goes_on) b in
    record {
      front = front ++ g.front;
      back = g2.back;
      first = OpenSequence p ∷ (entry_parts g.begins.0 ++ CloseSequence ∷ []);
      second = g2.second;
      begins = (forest.Seq p g.begins.0, (front, g.front, h, inr (inr (tt, some, g.begins.1)), refl), refl);
      goes_on = g2.goes_on;
      kinds_are = cc (append_assoc front g.front g2.back);
      parts_are = cc (append_assoc (entry_parts g.begins.0) (CloseSequence ∷ []) g2.second);
    }

indentless_goes : (t : Piece) (p : forest.Properties) (q : NodeProperties) (front : List Piece) (span : Span)
    (ts : List Piece) (r : Aside) (s : State) (ss : List State) (e : Memory) → t.kind ≡ tokens.BlockEntry
    → IsPairState s → Fronted e p q front → IsAlive s ss → HasOwn front (SequenceStart q.anchor q.tag) span (t ∷ ts)
    → Goes (Then (IsNodeOf InBlockMapping) (FollowsStates s ss)) e (front ++ t ∷ ts)
    (record {
      what = SequenceStart q.anchor q.tag;
      span = span;
      machine = machine (t ∷ ts) r state.IndentlessSequenceEntry (s ∷ ss) (noted p.anchor e);
    })
indentless_goes t p q front span ts r s ss e k i h a o = record {
  used = front;
  part = OpenSequence p;
  taken = refl;
  emits = with_emitted SequenceStart e p q h.has;
  remembers = refl;
  few = h.enough;
  places = o;
  alive = (tt, a);
  makes = λ ks ps f st. indentless_makes p (kinds front) s ss ks ps h.are i f (st (rw k tt));
}

-- a collection that block style alone allows
where_block : (c : NodeContext) (F : Claim) (e : Memory) (k : List Piece) (in_block in_flow : Result Emitted Refusal)
    → (grammar.AllowsBlock (place_of c) → Turned F e k in_block) → Turned F e k in_flow
    → Turned F e k (if allows_block c then in_block else in_flow)
where_block u0 u1 e k in_block in_flow y n = grind arith

-- ## Properties

anchor_front : (text : List ℕ) (t : Piece) (e : Memory) → t.kind ≡ tokens.Anchor (encode_utf8_all text)
    → Fronted e (record { anchor = Some text; tag = None })
    (record { start = t.span.start; behind = t.span.end; anchor = next_id e.anchors; tag = None }) (t ∷ [])
anchor_front text t e k = grind arith

tag_is : (e : Memory) (g : Tag) (v : ResolvedTag) (t : Piece) → t.kind ≡ tag_token g → resolve e.prefixes g ≡ Some v
    → Fronted e (record { anchor = None; tag = Some g })
    (record { start = t.span.start; behind = t.span.end; anchor = 0; tag = Some v }) (t ∷ [])
tag_is e g v t k h = grind arith

both_front : (text : List ℕ) (g : Tag) (v : ResolvedTag) (t u : Piece) (e : Memory)
    → ((t.kind ≡ tokens.Anchor (encode_utf8_all text)) × (u.kind ≡ tag_token g))
    ⊎ ((t.kind ≡ tag_token g) × (u.kind ≡ tokens.Anchor (encode_utf8_all text))) → resolve e.prefixes g ≡ Some v
    → Fronted e (record { anchor = Some text; tag = Some g })
    (record { start = t.span.start; behind = u.span.end; anchor = next_id e.anchors; tag = Some v }) (t ∷ u ∷ [])
both_front text g v t u e u0 h = grind arith

-- ## Nodes

module _ (c : NodeContext) (r : Aside) (x s : State) (ss : List State) (e : Memory) (z : Suits c s)
    (a : IsAlive s ss) where
  abbrev TurnedNode : List Piece → Result Emitted Refusal → Type 0
  TurnedNode = Turned (NodeThen c s ss) e

  -- with these tokens ahead
  abbrev before : List Piece → Memory → Machine
  before ts n = machine ts r x (s ∷ ss) n

  scalar_turned : (style : ScalarStyle) (text value : List ℕ) (sp : Span) (front : List Piece)
      (p : forest.Properties) (q : NodeProperties) (ts : List Piece) → text ≡ encode_utf8_all value
      → Fronted e p q front → StartsAt front sp.start q
      → TurnedNode (front ++ piece_of (tokens.Scalar style text) sp ∷ ts)
      (node_content_at (tokens.Scalar style text) q c (piece_of (tokens.Scalar style text) sp)
      (before ts (noted p.anchor e)))
  scalar_turned style text value sp front p q ts v h b =
      let t : Piece = piece_of (tokens.Scalar style (encode_utf8_all value)) sp in
      rw v
      (leaf_goes p q front r s ss e h a (t ∷ []) style value (record { start = q.start; end = sp.end }) (place_of c) ts
      (inl refl) (whole _ _ _ (inl (content_is t.kind front q t refl h.shape, content_spans front q t h.shape b))))

  -- By the token that begins the content. A scalar is a leaf. The four collections with a token of their own are
  -- `collection_goes`, the block ones where the context allows them. A `-` begins a sequence at its mapping's column,
  -- without being used. Behind any other token the node is its properties alone, or it is refused (`alone_turned`).
  content_turned : (k : Kind) (sp : Span) (front : List Piece) (p : forest.Properties) (q : NodeProperties)
      (ts : List Piece) → IsWellFormed k → Fronted e p q front → StartsAt front sp.start q
      → TurnedNode (front ++ piece_of k sp ∷ ts) (node_content_at k q c (piece_of k sp) (before ts (noted p.anchor e)))
  content_turned (tokens.Scalar style text) sp front p q ts w h b = scalar_turned style text w.0 sp front p q ts w.1 h b
  content_turned tokens.FlowSequenceStart sp front p q ts w h b =
      collection_goes p q front r s ss e h a FirstEntries tokens.FlowSequenceStart tokens.FlowSequenceEnd
      state.FlowSequenceFirstEntry (OpenSequence p) CloseSequence SequenceStart sp c ts refl refl refl tt
      (λ u n k l. inl (inl k, l)) (λ R ks ps f. f)
      (λ u f v g i. (
        forest.Seq p g.0,
        (f, tokens.FlowSequenceStart ∷ (u ++ tokens.FlowSequenceEnd ∷ []), i, inl (u, g.1, refl), refl),
        cc,
      )) b
  content_turned tokens.FlowMappingStart sp front p q ts w h b =
      collection_goes p q front r s ss e h a FirstPairs tokens.FlowMappingStart tokens.FlowMappingEnd
      state.FlowMappingFirstKey (OpenMapping p) CloseMapping MappingStart sp c ts refl refl refl tt
      (λ u n k l. (inl k, l)) (λ R ks ps f. f)
      (λ u f v g i. (
        forest.Map p g.0,
        (f, tokens.FlowMappingStart ∷ (u ++ tokens.FlowMappingEnd ∷ []), i, inl (u, g.1, refl), refl),
        cc,
      )) b
  content_turned tokens.BlockSequenceStart sp front p q ts w h b =
      where_block c (NodeThen c s ss) e _ _ _ (λ allowed. collection_goes p q front r s ss e h a BlockEntries
      tokens.BlockSequenceStart tokens.BlockEnd state.BlockSequenceEntry (OpenSequence p) CloseSequence SequenceStart
      sp c ts refl refl refl tt (λ u n k l. inl (inr k, l)) (λ R ks ps f. f)
      (λ u f v g i. (
        forest.Seq p g.0,
        (f, tokens.BlockSequenceStart ∷ (u ++ tokens.BlockEnd ∷ []), i, inr (inl (allowed, (u, g.1, refl))), refl),
        cc,
      )) b) (alone_turned p q front r s ss e h a _ c ts x)
  content_turned tokens.BlockMappingStart sp front p q ts w h b =
      where_block c (NodeThen c s ss) e _ _ _ (λ allowed. collection_goes p q front r s ss e h a BlockPairs
      tokens.BlockMappingStart tokens.BlockEnd state.BlockMappingKey (OpenMapping p) CloseMapping MappingStart
      sp c ts refl refl refl tt (λ u n k l. (inr (inl k), l)) (λ R ks ps f. f)
      (λ u f v g i. (
        forest.Map p g.0,
        (f, tokens.BlockMappingStart ∷ (u ++ tokens.BlockEnd ∷ []), i, inr (allowed, (u, g.1, refl)), refl),
        cc,
      )) b) (alone_turned p q front r s ss e h a _ c ts x)
  content_turned tokens.BlockEntry sp front p q ts w h b = by c z
    where
      by : (c : NodeContext) → Suits c s → Turned (NodeThen c s ss) e (front ++ piece_of tokens.BlockEntry sp ∷ ts)
          (node_content_at tokens.BlockEntry q c (piece_of tokens.BlockEntry sp) (before ts (noted p.anchor e)))
      by BlockMapping z = indentless_goes _ p q front _ ts r s ss e refl z h a
          (whole _ _ _ (inr (no_opening front q (piece_of tokens.BlockEntry sp) ts refl h.shape b)))
      by c z = alone_turned p q front r s ss e h a _ c ts x
  content_turned k sp front p q ts w h b = alone_turned p q front r s ss e h a (piece_of k sp) c ts x

  next_turned : (ts front : List Piece) (p : forest.Properties) (q : NodeProperties) → AreWellFormed ts
      → Fronted e p q front → ((m : Marker) → StartsAt front m q)
      → TurnedNode (front ++ ts) (next_content q c (before ts (noted p.anchor e)))
  unfolding next_content node_content
  next_turned [] front p q w h b = tt
  next_turned (t ∷ ts) front p q w h b = content_turned t.kind t.span front p q ts w.0 h (b t.span.start)

  alias_turned : (o : Option ℕ) (text : List ℕ) (t : Piece) (ts : List Piece)
      → t.kind ≡ tokens.Alias (encode_utf8_all text) → meaning (encode_utf8_all text) e.anchors.ids ≡ o
      → TurnedNode (t ∷ ts) (alias_of o t.span (before ts e))
  alias_turned None text t ts k m = tt
  alias_turned (Some id) text t ts k m = record {
    used = t ∷ [];
    part = Reference text;
    taken = refl;
    emits = ap (option_map Alias) m;
    remembers = refl;
    few = omega arith;
    places = whole (t ∷ []) (Alias id) t.span (t, encode_utf8_all text, k, refl, refl);
    alive = a;
    makes = λ ks ps f st. put (IsNodeOf (place_of c)) (FollowsStates s ss) (t.kind ∷ []) (Reference text ∷ []) ks ps
        (forest.Alias text, ap (λ (l : Kind). l ∷ []) k, refl) f;
  }

  -- ## After an anchor

  -- an anchor with this text, and a tag behind it
  abbrev behind_both : Piece → Span → List ℕ → List Piece → ResolvedTag → Result (NodeProperties × Machine) Refusal
  behind_both t sp text us tag =
      Ok (
        record { start = t.span.start; behind = sp.end; anchor = next_id e.anchors; tag = Some tag },
        before us (noted (Some text) e),
      )

  tag_behind : (rr : Result ResolvedTag Refusal) (text handle suffix : List ℕ) (t : Piece) (sp : Span)
      (us : List Piece) → t.kind ≡ tokens.Anchor (encode_utf8_all text)
      → resolved_tag_at e.prefixes handle suffix t.span.start ≡ rr
      → (tag : Tag) × (tokens.Tag handle suffix ≡ tag_token tag) → AreWellFormed us
      → TurnedNode (t ∷ piece_of (tokens.Tag handle suffix) sp ∷ us)
      ((rr >>= behind_both t sp text us) >>= content_behind c)
  tag_behind (Err f) text handle suffix t sp us k q g w = tt
  tag_behind (Ok v) text handle suffix t sp us k q g w =
      let found : ResolvesTo e.prefixes handle suffix v = stands e.prefixes handle suffix t.span.start v g q in
      let u : Piece = piece_of (tokens.Tag handle suffix) sp in
      next_turned us (t ∷ u ∷ []) (record { anchor = Some text; tag = Some found.tag }) _ w
      (both_front text found.tag v t u e (inl (k, found.token)) found.resolves) (λ m. tt)

  behind_anchor_turned : (k : Kind) (sp : Span) (text : List ℕ) (t : Piece) (us : List Piece)
      → t.kind ≡ tokens.Anchor (encode_utf8_all text) → IsWellFormed k → AreWellFormed us
      → TurnedNode (t ∷ piece_of k sp ∷ us)
      (properties_behind_anchor_at k (next_id e.anchors) t.span (piece_of k sp) (before us (noted (Some text) e))
      >>= content_behind c)
  unfolding next_content node_content
  behind_anchor_turned (tokens.Tag handle suffix) sp text t us h wk w =
      tag_behind (resolved_tag_at e.prefixes handle suffix t.span.start) text handle suffix t sp us h refl wk w
  behind_anchor_turned k sp text t us h wk w =
      content_turned k sp (t ∷ []) (record { anchor = Some text; tag = None }) _ us wk (anchor_front text t e h) tt

  anchored_turned : (ts : List Piece) (text : List ℕ) (t : Piece) → t.kind ≡ tokens.Anchor (encode_utf8_all text)
      → AreWellFormed ts
      → TurnedNode (t ∷ ts) (properties_behind_anchor (encode_utf8_all text) t.span (before ts e) >>= content_behind c)
  unfolding properties_behind_anchor
  anchored_turned [] text t h w = tt
  anchored_turned (u ∷ us) text t h w = behind_anchor_turned u.kind u.span text t us h w.0 w.2

  -- ## After a tag

  abbrev behind_tag : ResolvedTag → Span → Piece × Machine → Result (NodeProperties × Machine) Refusal
  behind_tag v sp u = Ok (properties_behind_tag_at u.0.kind v sp u.0 u.1)

  behind_tag_turned : (k : Kind) (sp : Span) (g : Tag) (v : ResolvedTag) (t : Piece) (us : List Piece)
      → t.kind ≡ tag_token g → resolve e.prefixes g ≡ Some v → IsWellFormed k → AreWellFormed us
      → TurnedNode (t ∷ piece_of k sp ∷ us)
      (content_behind c (properties_behind_tag_at k v t.span (piece_of k sp) (before us e)))
  unfolding next_content node_content
  behind_tag_turned (tokens.Anchor name) sp g v t us h found wk w =
      let u : Piece = piece_of (tokens.Anchor (encode_utf8_all wk.0)) sp in
      subst (λ (n : List ℕ). TurnedNode (t ∷ piece_of (tokens.Anchor n) sp ∷ us)
      (content_behind c (properties_behind_tag_at (tokens.Anchor n) v t.span (piece_of (tokens.Anchor n) sp)
      (before us e)))) (sym wk.1)
      (next_turned us (t ∷ u ∷ []) (record { anchor = Some wk.0; tag = Some g }) _ w
      (both_front wk.0 g v t u e (inr (h, refl)) found) (λ m. tt))
  behind_tag_turned k sp g v t us h found wk w =
      content_turned k sp (t ∷ []) (record { anchor = None; tag = Some g }) _ us wk (tag_is e g v t h found) tt

  tagged_from : (ts : List Piece) (g : Tag) (v : ResolvedTag) (t : Piece) → t.kind ≡ tag_token g
      → resolve e.prefixes g ≡ Some v → AreWellFormed ts → TurnedNode (t ∷ ts)
      ((taken_token (before ts e) >>= behind_tag v t.span) >>= content_behind c)
  tagged_from [] g v t h found w = tt
  tagged_from (u ∷ us) g v t h found w = behind_tag_turned u.kind u.span g v t us h found w.0 w.2

  tagged_turned : (rr : Result ResolvedTag Refusal) (handle suffix : List ℕ) (sp : Span) (ts : List Piece)
      → resolved_tag_at e.prefixes handle suffix sp.start ≡ rr
      → (tag : Tag) × (tokens.Tag handle suffix ≡ tag_token tag) → AreWellFormed ts
      → TurnedNode (piece_of (tokens.Tag handle suffix) sp ∷ ts)
      ((rr >>= (λ tag. taken_token (before ts e) >>= behind_tag tag sp)) >>= content_behind c)
  tagged_turned (Err f) handle suffix sp ts q g w = tt
  tagged_turned (Ok v) handle suffix sp ts q g w =
      let found : ResolvesTo e.prefixes handle suffix v = stands e.prefixes handle suffix sp.start v g q in
      tagged_from ts found.tag v (piece_of (tokens.Tag handle suffix) sp) found.token found.resolves w

  -- ## All nodes

  node_at_turned : (k : Kind) (sp : Span) (ts : List Piece) → IsWellFormed k → AreWellFormed ts
      → TurnedNode (piece_of k sp ∷ ts) (node_at k c (piece_of k sp) (before ts e))
  unfolding alias_node properties_behind_tag node_content
  node_at_turned (tokens.Alias name) sp ts wk w =
      subst (λ (n : List ℕ). TurnedNode (piece_of (tokens.Alias n) sp ∷ ts) (alias_node n sp (before ts e))) (sym wk.1)
      (alias_turned (meaning (encode_utf8_all wk.0) e.anchors.ids) wk.0
      (piece_of (tokens.Alias (encode_utf8_all wk.0)) sp) ts refl refl)
  node_at_turned (tokens.Anchor name) sp ts wk w =
      subst (λ (n : List ℕ). TurnedNode (piece_of (tokens.Anchor n) sp ∷ ts)
      (properties_behind_anchor n sp (before ts e) >>= content_behind c)) (sym wk.1)
      (anchored_turned ts wk.0 (piece_of (tokens.Anchor (encode_utf8_all wk.0)) sp) refl w)
  node_at_turned (tokens.Tag handle suffix) sp ts wk w =
      tagged_turned (resolved_tag_at e.prefixes handle suffix sp.start) handle suffix sp ts refl wk w
  node_at_turned k sp ts wk w = content_turned k sp [] forest.no_properties (no_node_properties sp.start) ts wk
      (record {
        are = refl;
        has = record { anchor_is = refl; tag_is = refl };
        enough = omega arith;
        shape = (refl, refl);
      }) refl

  pub node_turned : (t : Piece) (ts : List Piece) → AreWellFormed (t ∷ ts)
      → TurnedNode (t ∷ ts) (node c t (before ts e))
  unfolding node
  node_turned t ts w = node_at_turned t.kind t.span ts w.0 w.2
