-- Scalars are told.
use Rattle.event_laws.proofs.Common.{◌≡◌, ℕ, true, List, [], ◌∷◌, ◌++◌, Option, Some, option_map, encode_utf8_all, refl, ◌∙◌, arith, append_assoc, Span, Style, Tag, HasOne, HasProperty, Kind, scalar_token, YieldsNode, Piece, Reference, Leaf, Machine, emit, pop, put_back, meaning}
use Rattle.saphyr_scanner.specs.Grammar.Forest as forest
use Rattle.saphyr_scanner.specs.Grammar.TokenGrammar as grammar
use Rattle.saphyr_machine.specs.Events.{Happening, Alias, Scalar}
use Rattle.saphyr_machine.specs.Steps.Nodes.{NodeProperties, has_property, span_up_to, node_without_content, alias_of, alias_node, node}
use Rattle.event_laws.proofs.Emitted.Emitting.{Memory, expecting, at}
use Rattle.event_laws.proofs.Remembering.{noted, says}
use Rattle.event_laws.proofs.Emitted.Nodes.{Has, node_opens}
use Rattle.event_laws.proofs.NodeStarts.{context_of, follow_is_content, follow_ends, NodeSays}

-- ## A node that has properties

has_one : (e : Memory) (anchor : Option (List ℕ)) (tag : Option Tag) (q : NodeProperties) → HasOne anchor tag
    → Has e anchor tag q → has_property q ≡ true
has_one e anchor tag q h has = grind arith

empty_is_emitted : (q : NodeProperties) (t : Piece) (m : Machine) → has_property q ≡ true
    → node_without_content q t m ≡ emit (Scalar [] forest.Plain q.anchor q.tag) (span_up_to q q.behind)
    (pop (put_back t m))
empty_is_emitted q t m h = rw h refl

-- ## Scalars

with_token : (p : forest.Properties) (style : Style) (value : List ℕ) (c : grammar.Context)
    (front content t : List Kind) → grammar.YieldProperties p front → content ≡ scalar_token style value ∷ []
    → t ≡ front ++ content → NodeSays (forest.Scalar p style value) c t
with_token p style value c front content t h a b = record {
  by = λ f k ks m x s ss e ps z more q l.
      let same : t ++ k ∷ ks ≡ front ++ scalar_token style value ∷ k ∷ ks =
      rw (b, a) (append_assoc front (scalar_token style value ∷ []) (k ∷ ks)) in
      node_opens f (context_of c) x (expecting s ss) e m (at f (k ∷ ks) s ss (noted p.anchor e)) p front
      (scalar_token style value) (k ∷ ks) (Leaf p style value) ps (Scalar (encode_utf8_all value) style) (h, tt)
      (more, cc) refl (λ r has. (span_up_to r (f (k ∷ ks)).end, refl)) l;
}

-- properties alone
without_token : (p : forest.Properties) (c : grammar.Context) (front content t : List Kind)
    → grammar.YieldProperties p front → HasProperty p → content ≡ [] → t ≡ front ++ content
    → NodeSays (forest.Scalar p forest.Plain []) c t
without_token p c front content t h some a b = record {
  by = λ f k ks m x s ss e ps z more q l.
      let same : t ++ k ∷ ks ≡ front ++ k ∷ ks = rw (b, a) (append_assoc front [] (k ∷ ks)) in
      let n : Machine = at f (k ∷ ks) s ss (noted p.anchor e) in
      let piece : Piece = record { span = f ks; kind = k } in
      node_opens f (context_of c) x (expecting s ss) e m n p front k ks (Leaf p forest.Plain []) ps
      (Scalar [] forest.Plain) (h, follow_is_content c k z) (more, cc) refl (λ r has. (
        span_up_to r r.behind,
        follow_ends c k r piece (at f ks x (expecting s ss) (noted p.anchor e)) z
            ∙ empty_is_emitted r piece (at f ks x (expecting s ss) (noted p.anchor e))
            (has_one e p.anchor p.tag r some has),
      )) l;
}

pub scalar_says : (p : forest.Properties) (style : Style) (value : List ℕ) (c : grammar.Context) (t : List Kind)
    → YieldsNode (forest.Scalar p style value) c t → NodeSays (forest.Scalar p style value) c t
scalar_says p style value c t h = grind (arith, with_token, without_token)

-- ## Aliases

alias_is_emitted : (o : Option ℕ) (w : Happening) (s : Span) (m : Machine) → option_map Alias o ≡ Some w
    → alias_of o s m ≡ emit w s (pop m)
alias_is_emitted o w s m h = grind arith

pub alias_says : (name : List ℕ) (c : grammar.Context) (t : List Kind) → YieldsNode (forest.Alias name) c t
    → NodeSays (forest.Alias name) c t
unfolding node alias_node
alias_says name c t h = record {
  by = λ f k ks m x s ss e ps z more q l. says e m (at f (k ∷ ks) s ss e) (Reference name) ps more
      (λ w v. (
        f (k ∷ ks),
        cc (alias_is_emitted (meaning (encode_utf8_all name) e.anchors.ids) w (f (k ∷ ks))
            (at f (k ∷ ks) x (expecting s ss) e) v),
      ))
      l;
}
