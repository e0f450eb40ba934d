-- Two machines side by side give the same of nodes.
use Rattle.std.proofs.Common.{◌≡◌, ℕ, ◌≤◌, true, List, Option, Some, None, Result, Ok, Err, refl, arith, inl, inr}
use Rattle.saphyr_scalar.specs.declared.scalar.position.Marker.{Marker}
use Rattle.saphyr_scalar.specs.declared.scalar.position.Span.{Span}
use Rattle.saphyr_scalar.specs.declared.scalar.fault.Refusal.{Refusal}
use Rattle.saphyr_scanner.specs.Grammar.Tokens as tokens
use Rattle.saphyr_scanner.specs.Grammar.Tokens.{Kind}
use Rattle.saphyr_scanner.specs.Views.Tokens.{Piece}
use Rattle.saphyr_machine.specs.declared.context.NodeContext.{NodeContext}
use Rattle.saphyr_machine.specs.declared.context.NodeContext.TheVariants.{Flow, Block, BlockMapping}
use Rattle.saphyr_machine.specs.Events.{ResolvedTag}
use Rattle.saphyr_machine.specs.Steps.Machine.{◌>>=◌, Names, meaning, Machine, Emitted, put_back, taken_token, with_anchor, next_id}
use Rattle.saphyr_machine.specs.Steps.Tags.{declared_prefix, resolved_tag_at}
use Rattle.saphyr_machine.specs.Steps.Contexts.{allows_block, allows_indentless}
use Rattle.saphyr_machine.specs.Steps.Nodes.{NodeProperties, register, has_property, node_without_content, node_content_at, node_content, next_content, properties_behind_anchor_at, properties_behind_anchor, properties_behind_tag_at, properties_behind_tag, content_behind, alias_of, alias_node, node_at, node}
use Rattle.saphyr_machine.proofs.Properties.{bound}
use Rattle.saphyr_machine.proofs.Beside.Machines.{Beside, SpansAlike, Near, GivesAlike, Alike, EmitsAlike, Both, AtBoth, AtBothBehind, either, of_kind, less, taken_behind, refuses, registers, emits_end, enters_emitted}

-- ## Room

-- the room before the first token of a node
abbrev pub room : NodeContext → ℕ
room Flow = 4
room Block = 4
room BlockMapping = 11

least : (c : NodeContext) → 4 ≤ room c
least u0 = grind arith

most : (c : NodeContext) → room c ≤ 11
most u0 = grind arith

indented : (c : NodeContext) → allows_indentless c ≡ true → 11 ≤ room c
indented BlockMapping e = omega arith
indented _ e = absurd (cc)

abbrev properties : Marker → Marker → ℕ → Option ResolvedTag → NodeProperties
properties x y id tag = record { start = x; behind = y; anchor = id; tag = tag }

module _ (w : Beside) where
  -- ## Tags

  abbrev SameOf : {X : Type 0} → Result X Refusal → Result X Refusal → Type 0
  SameOf p q = GivesAlike w (λ x y. y ≡ x) p q

  prefixes_alike : (names : Names (List ℕ)) (handle : List ℕ) (x y : Marker) → w.Spans x x y y
      → SameOf (declared_prefix names handle x) (declared_prefix names handle y)
  unfolding declared_prefix
  prefixes_alike names handle x y e = grind arith

  -- the same tag, or both refuse
  resolves : {X : Type 0} (handle suffix : List ℕ) (s r : Span) (m n : Machine) (go ho : ResolvedTag → Result X Refusal)
      (k l : X → Result Emitted Refusal) → SpansAlike w s r → n.prefixes ≡ m.prefixes
      → ((tag : ResolvedTag) → EmitsAlike w (go tag >>= k) (ho tag >>= l))
      → EmitsAlike w ((resolved_tag_at m.prefixes handle suffix s.start >>= go) >>= k)
      ((resolved_tag_at n.prefixes handle suffix r.start >>= ho) >>= l)
  unfolding resolved_tag_at
  resolves handle suffix s r m n go ho k l e same h =
      rw same (by (declared_prefix m.prefixes handle s.start) (declared_prefix m.prefixes handle r.start)
      (prefixes_alike m.prefixes handle s.start r.start (w.first _ _ _ _ e)))
    where
      tag : List ℕ → ResolvedTag
      tag prefix = record { handle = prefix; suffix = suffix }

      by : (p q : Result (List ℕ) Refusal) → SameOf p q
          → EmitsAlike w (((p >>= (λ v. let z : Result ResolvedTag Refusal = Ok (tag v) in z)) >>= go) >>= k)
          (((q >>= (λ v. let z : Result ResolvedTag Refusal = Ok (tag v) in z)) >>= ho) >>= l)
      by (Ok v) (Ok u) i = rw i (h (tag v))
      by (Ok v) (Err f) i = absurd i
      by (Err f) (Ok u) (inr i) = absurd i
      by (Err f) (Err g) (inr i) = inr i
      by (Err f) q (inl i) = inl i

-- ## Content

-- after properties, if there are any
module _ (w : Beside) (d : ℕ) (a b x y : Marker) (id : ℕ) (tag : Option ResolvedTag) (c : NodeContext)
    (i : has_property (properties a b id tag) ≡ true → 10 ≤ d) (l : room c ≤ d) (s : w.Spans a b x y) where
  up : (t u : Piece) → w.Spans b t.span.start y u.span.start → SpansAlike w t.span u.span
      → w.Spans a t.span.end x u.span.end
  up t u g h = w.joined a b t.span.end x y u.span.end s
      (w.joined b t.span.start t.span.end y u.span.start u.span.end g h)

  enough : 4 ≤ d
  enough = let e = least c in omega (arith, e, l)

  none : AtBoth w d (Alike w) (λ k. node_without_content (properties a b id tag))
      (λ k. node_without_content (properties x y id tag))
  none k t u m n h = either w _ (has_property (properties a b id tag)) _ _ _ _
      (λ e. emits_end w _ _ _ (put_back t m) (put_back u n) s (let j = i e in omega (arith, j)) h.back tt)
      (refuses w _ t u h.span)

  content : AtBothBehind w b y d (Alike w) (λ k. node_content_at k (properties a b id tag) c)
      (λ k. node_content_at k (properties x y id tag) c)
  content (tokens.Scalar style text) t u m n g h =
      emits_end w _ _ _ m n (up t u g h.span) (omega arith) h.behind tt
  content tokens.FlowSequenceStart t u m n g h =
      enters_emitted w _ _ _ _ m n (up t u g h.span) (omega (arith, enough)) h.behind tt
  content tokens.FlowMappingStart t u m n g h =
      enters_emitted w _ _ _ _ m n (up t u g h.span) (omega (arith, enough)) h.behind tt
  content tokens.BlockSequenceStart t u m n g h = either w _ (allows_block c) _ _ _ _
      (λ e. enters_emitted w _ _ _ _ m n (up t u g h.span) (omega (arith, enough)) h.behind tt)
      (none _ t u m n h)
  content tokens.BlockMappingStart t u m n g h = either w _ (allows_block c) _ _ _ _
      (λ e. enters_emitted w _ _ _ _ m n (up t u g h.span) (omega (arith, enough)) h.behind tt)
      (none _ t u m n h)
  content tokens.BlockEntry t u m n g h = either w _ (allows_indentless c) _ _ _ _
      (λ e. enters_emitted w _ _ _ _ (put_back t m) (put_back u n) (up t u g h.span)
      (let j = indented c e in omega (arith, j, l)) h.back tt) (none _ t u m n h)
  content _ t u m n g h = none _ t u m n h

  content_of : AtBothBehind w b y d (Alike w) (λ k. node_content (properties a b id tag) c)
      (λ k. node_content (properties x y id tag) c)
  unfolding node_content
  content_of k t u m n g h = of_kind w (Alike w) (λ k. node_content_at k (properties a b id tag) c)
      (λ k. node_content_at k (properties x y id tag) c) k t u m n h (content k t u m n g h)

module _ (w : Beside) where
  next : (a b x y : Marker) (id : ℕ) (tag : Option ResolvedTag) (c : NodeContext) (m n : Machine) → w.Spans a b x y
      → Near w b y 11 m n
      → EmitsAlike w (next_content (properties a b id tag) c m) (next_content (properties x y id tag) c n)
  unfolding next_content node_content
  next a b x y id tag c m n s near = taken_behind w (Alike w) 11 (λ k. node_content_at k (properties a b id tag) c)
      (λ k. node_content_at k (properties x y id tag) c) b y m n near
      (content w 11 a b x y id tag c (λ e. omega arith) (most c) s)

  alias : (o p : Option ℕ) (s r : Span) → p ≡ o → SpansAlike w s r → Both w 10 (Alike w) (alias_of o s) (alias_of p r)
  alias o p s r same e a x m n near = rw same (by o)
    where
      by : (o : Option ℕ) → EmitsAlike w (alias_of o s m) (alias_of o r n)
      by None = inr (w.refused _ s.start r.start (w.first _ _ _ _ e))
      by (Some id) = emits_end w _ s r m n e (omega arith) near tt

  -- from a property up to the token after it
  longer : (s r : Span) (t u : Piece) → SpansAlike w s r → w.Spans s.end t.span.start r.end u.span.start
      → SpansAlike w t.span u.span → w.Spans s.start t.span.end r.start u.span.end
  longer s r t u e g h = w.joined _ _ _ _ _ _ e (w.joined _ _ _ _ _ _ g h)

  -- a token is taken, and then the rest
  taken_then : {X : Type 0} (go ho : Kind → Piece → Machine → Result X Refusal) (k l : X → Result Emitted Refusal)
      (a x : Marker) (m n : Machine) → Near w a x 11 m n
      → AtBothBehind w a x 11 (Alike w) (λ i t m. go i t m >>= k) (λ i t m. ho i t m >>= l)
      → EmitsAlike w ((taken_token m >>= (λ t. go t.0.kind t.0 t.1)) >>= k)
      ((taken_token n >>= (λ t. ho t.0.kind t.0 t.1)) >>= l)
  taken_then go ho k l a x m n near h =
      rw (bound (taken_token m) (λ t. go t.0.kind t.0 t.1) k, bound (taken_token n) (λ t. ho t.0.kind t.0 t.1) l)
      (taken_behind w (Alike w) 11 (λ i t m. go i t m >>= k) (λ i t m. ho i t m >>= l) a x m n near h)

  behind_anchor : (id : ℕ) (s r : Span) (c : NodeContext) → SpansAlike w s r
      → AtBothBehind w s.end r.end 11 (Alike w) (λ k t m. properties_behind_anchor_at k id s t m >>= content_behind c)
      (λ k t m. properties_behind_anchor_at k id r t m >>= content_behind c)
  unfolding next_content
  behind_anchor id s r c e (tokens.Tag handle suffix) t u m n g h =
      resolves w handle suffix s r m n _ _ (content_behind c) (content_behind c) e h.behind.prefixes
      (λ tag. next s.start t.span.end r.start u.span.end id (Some tag) c m n (longer s r t u e g h.span)
      (less w m n (omega arith) h.behind))
  behind_anchor id s r c e k t u m n g h =
      content_of w 11 s.start s.end r.start r.end id None c (λ i. omega arith) (most c) e k t u m n g h

  anchor : (name : List ℕ) (s r : Span) (c : NodeContext) (m n : Machine) → SpansAlike w s r
      → Near w s.end r.end 11 m n
      → EmitsAlike w (properties_behind_anchor name s m >>= content_behind c)
      (properties_behind_anchor name r n >>= content_behind c)
  unfolding properties_behind_anchor
  anchor name s r c m n e near =
      rw near.anchors (taken_then (λ k. properties_behind_anchor_at k (next_id m.anchors) s)
      (λ k. properties_behind_anchor_at k (next_id m.anchors) r) (content_behind c) (content_behind c) s.end r.end
      (register name m) (record n { anchors = with_anchor name m.anchors }) (registers w _ name m n near)
      (behind_anchor (next_id m.anchors) s r c e))

  -- after a tag
  abbrev behind : ResolvedTag → Span → Kind → Piece → Machine → Result (NodeProperties × Machine) Refusal
  behind tag s k t m = Ok (properties_behind_tag_at k tag s t m)

  behind_tag : (tag : ResolvedTag) (s r : Span) (c : NodeContext) → SpansAlike w s r
      → AtBothBehind w s.end r.end 11 (Alike w) (λ k t m. behind tag s k t m >>= content_behind c)
      (λ k t m. behind tag r k t m >>= content_behind c)
  unfolding next_content
  behind_tag tag s r c e (tokens.Anchor name) t u m n g h =
      rw h.behind.anchors (next s.start t.span.end r.start u.span.end (next_id m.anchors) (Some tag) c
      (register name m) (record n { anchors = with_anchor name m.anchors }) (longer s r t u e g h.span)
      (registers w _ name m n (less w m n (omega arith) h.behind)))
  behind_tag tag s r c e k t u m n g h =
      content_of w 11 s.start s.end r.start r.end 0 (Some tag) c (λ i. omega arith) (most c) e k t u m n g h

  -- ## Nodes

  node_at_beside : (d : ℕ) (c : NodeContext) → room c ≤ d → AtBoth w d (Alike w) (λ k. node_at k c) (λ k. node_at k c)
  unfolding alias_node properties_behind_tag
  node_at_beside d c l (tokens.Alias name) t u m n h =
      alias (meaning name m.anchors.ids) (meaning name n.anchors.ids) t.span u.span
      (let same = h.behind.anchors in cc) h.span t.span.end u.span.end m n (less w m n (omega arith) h.behind)
  node_at_beside d c l (tokens.Anchor name) t u m n h =
      anchor name t.span u.span c m n h.span
      (less w m n (let e = least c in omega (arith, e, l)) h.behind)
  node_at_beside d c l (tokens.Tag handle suffix) t u m n h =
      resolves w handle suffix t.span u.span m n _ _ (content_behind c) (content_behind c) h.span h.behind.prefixes
      (λ tag. taken_then (behind tag t.span) (behind tag u.span) (content_behind c) (content_behind c) t.span.end
      u.span.end m n (less w m n (let e = least c in omega (arith, e, l)) h.behind)
      (behind_tag tag t.span u.span c h.span))
  node_at_beside d c l k t u m n h =
      let s : w.Spans t.span.start t.span.start u.span.start u.span.start = w.first _ _ _ _ h.span in
      content_of w d t.span.start t.span.start u.span.start u.span.start 0 None c (λ e. absurd (cc)) l s k t u m n s h

  pub node_beside : (d : ℕ) (c : NodeContext) → room c ≤ d → AtBoth w d (Alike w) (λ k. node c) (λ k. node c)
  unfolding node
  node_beside d c l k t u m n h = of_kind w (Alike w) (λ k. node_at k c) (λ k. node_at k c) k t u m n h
      (node_at_beside d c l k t u m n h)
