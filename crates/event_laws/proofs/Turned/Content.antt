-- The content of a node is turned, after its properties.
use Rattle.event_laws.proofs.OwnTokens.{HasOwn, whole, Shape, StartsAt, content_spans, content_is, alone_is}
use Rattle.event_laws.proofs.Common.{AreContentTokens, SpansAll, IsOf, ◌≡◌, ◌≤◌, ℕ, Bool, true, false, List, [], ◌∷◌, ◌++◌, length, Option, Some, option_map, encode_utf8_all, Ok, Err, refl, sym, ◌∙◌, inr, append_assoc, arith, length-append, if◌then◌else◌, Span, ScalarStyle, Plain, Refusal, HasOne, Tag, Kind, Piece, YieldProperties, YieldsScalar, NodeContext, BlockMapping, State, one_more_anchor, anchors, Part, Leaf, Happening, ResolvedTag, Scalar, kinds, NodeProperties, span_up_to, has_property, node_without_content}
use Rattle.saphyr_scalar.specs.declared.scalar.fault.FaultText.TheVariants as fault
use Rattle.saphyr_scanner.specs.Grammar.Forest as forest
use Rattle.saphyr_scanner.specs.Grammar.TokenGrammar as grammar
use Rattle.saphyr_machine.specs.declared.state.State.TheVariants as state
use Rattle.event_laws.proofs.Emitted.Emitting.{Memory}
use Rattle.event_laws.proofs.Remembering.{after, event_in, noted, with_properties}
use Rattle.event_laws.proofs.Emitted.Nodes.{Has}
use Rattle.event_laws.proofs.NodeStarts.{place_of}
use Rattle.event_laws.proofs.Turned.Following.{Then, Exactly, Claim, IsNodeOf, InBlockPairs, AtBlockValue, Behind, FollowsStates, IsInsideDocument, IsAlive, BeginsWithEntry}
use Rattle.event_laws.proofs.Turned.Turning.{Aside, piece_of, machine, Goes, Turned, kinds_append, put, around}

-- ## Where a node is

abbrev pub IsPairState : State → Type 0
IsPairState state.BlockMappingKey = Unit {0}
IsPairState state.BlockMappingValue = Unit {0}
IsPairState _ = ⊥

-- the state after a key or a value of a block mapping
abbrev pub Suits : NodeContext → State → Type 0
Suits BlockMapping s = IsPairState s
Suits _ s = Unit {0}

abbrev pub NodeThen : NodeContext → State → List State → Claim
NodeThen c s ss = Then (IsNodeOf (place_of c)) (FollowsStates s ss)

-- ## Properties that were read

pub record Fronted (e : Memory) (p : forest.Properties) (q : NodeProperties) (front : List Piece) : Type 0 where
  pub are : YieldProperties p (kinds front)
  pub has : Has e p.anchor p.tag q
  pub enough : one_more_anchor (option_map encode_utf8_all p.anchor) 0 ≤ length front
  pub shape : Shape front q

pub with_emitted : (make : ℕ → Option ResolvedTag → Happening) (e : Memory) (p : forest.Properties) (q : NodeProperties)
    → Has e p.anchor p.tag q → with_properties make e p ≡ Some (make q.anchor q.tag)
with_emitted make e p q h = cc

pub enough_for : (p : forest.Properties) (front own : List Piece)
    → one_more_anchor (option_map encode_utf8_all p.anchor) 0 ≤ length front
    → one_more_anchor (option_map encode_utf8_all p.anchor) 0 ≤ length (front ++ own)
enough_for p front own l = let a = length-append front own in omega (arith, l, a)

-- ## What may be after properties

has_one : (anchor : Option (List ℕ)) (tag : Option Tag) (e : Memory) (q : NodeProperties) → Has e anchor tag q
    → has_property q ≡ true → HasOne anchor tag
has_one anchor tag e q h t = grind arith

pub split : (front : List Piece) (t : Piece) (u : List Kind) → kinds (front ++ t ∷ []) ++ u ≡ kinds front ++ t.kind ∷ u
split front t u = cc (kinds_append front (t ∷ []), append_assoc (kinds front) (t.kind ∷ []) u)

pub taken_one : (front : List Piece) (t : Piece) (ts : List Piece) → front ++ t ∷ ts ≡ (front ++ t ∷ []) ++ ts
taken_one front t ts = sym (append_assoc front (t ∷ []) ts)

module _ (p : forest.Properties) (q : NodeProperties) (front : List Piece) (r : Aside) (s : State)
    (ss : List State) (e : Memory) (h : Fronted e p q front) (a : IsAlive s ss) where
  pub leaf_goes : (own : List Piece) (style : ScalarStyle) (value : List ℕ) (span : Span) (c : grammar.Context)
      (ts : List Piece) → YieldsScalar p style value (kinds own)
      → HasOwn (front ++ own) (Scalar (encode_utf8_all value) style q.anchor q.tag) span ts
      → Goes (Then (IsNodeOf c) (FollowsStates s ss)) e (front ++ (own ++ ts))
      (record {
        what = Scalar (encode_utf8_all value) style q.anchor q.tag;
        span = span;
        machine = machine ts r s ss (noted p.anchor e);
      })
  leaf_goes own style value span c ts i o = record {
    used = front ++ own;
    part = Leaf p style value;
    taken = sym (append_assoc front own ts);
    emits = with_emitted (Scalar (encode_utf8_all value) style) e p q h.has;
    remembers = refl;
    few = enough_for p front own h.enough;
    places = o;
    alive = a;
    makes = λ ks ps f st. put (IsNodeOf c) (FollowsStates s ss) (kinds (front ++ own)) (Leaf p style value ∷ []) ks ps
        (forest.Scalar p style value, (kinds front, kinds own, h.are, i, kinds_append front own), refl) f;
  }

  -- nothing
  pub alone_turned : (t : Piece) (c : NodeContext) (ts : List Piece) (x : State)
      → Turned (NodeThen c s ss) e (front ++ t ∷ ts)
      (node_without_content q t (machine ts r x (s ∷ ss) (noted p.anchor e)))
  alone_turned t c ts x = by (has_property q) refl
    where
      by : (b : Bool) → has_property q ≡ b → Turned (NodeThen c s ss) e (front ++ t ∷ ts)
          (if b then Ok (record {
            what = Scalar [] Plain q.anchor q.tag;
            span = record { start = q.start; end = q.behind };
            machine = machine (t ∷ ts) r s ss (noted p.anchor e);
          }) else Err
          (record { text = fault.NodeContentExpected; mark = t.span.start; may_change = false }))
      by true y = leaf_goes [] Plain [] (record { start = q.start; end = q.behind }) (place_of c) (t ∷ ts)
          (inr (has_one p.anchor p.tag e q h.has y, refl, refl, refl))
          (whole (front ++ []) _ _ (alone_is front q h.shape))
      by false y = tt

  -- A collection begins with a token, and goes up to another, with the tokens of `A` between them. What is particular
  -- to its kind are premises. In what follows, the entries and the closing token become one node (`around`), and the
  -- properties that were read before its opening are put in front of that.
  pub collection_goes : (A : Claim) (opening closing : Kind) (o : State) (part last : Part)
      (make : ℕ → Option ResolvedTag → Happening) (sp : Span) (c : NodeContext) (ts : List Piece)
      → event_in e part ≡ with_properties make e p → noted p.anchor e ≡ after part e
      → anchors (part ∷ []) ≡ one_more_anchor (option_map encode_utf8_all p.anchor) 0 → IsInsideDocument o
      → ((used : List Piece) (span : Span) → AreContentTokens opening used → SpansAll used span
      → IsOf (make q.anchor q.tag) span used ts) → ((R : Claim) (ks : List Kind) (ps : List Part) → Behind o R ks ps
      → Then A (Then (Exactly (closing ∷ []) (last ∷ [])) R) ks ps)
      → ((u f : List Kind) (w : List Part) → A u w → YieldProperties p f
      → IsNodeOf (place_of c) (f ++ opening ∷ (u ++ closing ∷ [])) (part ∷ (w ++ last ∷ [])))
      → StartsAt front sp.start q → Goes (NodeThen c s ss) e (front ++ piece_of opening sp ∷ ts)
      (record {
        what = make q.anchor q.tag;
        span = span_up_to q sp.end;
        machine = machine ts r o (s ∷ ss) (noted p.anchor e);
      })
  collection_goes A opening closing o part last make sp c ts emits same count i own inside node b =
      let t : Piece = piece_of opening sp in record {
        used = front ++ t ∷ [];
        part = part;
        taken = taken_one front t ts;
        emits = emits ∙ with_emitted make e p q h.has;
        remembers = same;
        few = (let l = enough_for p front (t ∷ []) h.enough in omega (arith, l, count));
        places = whole _ _ _ (own (front ++ t ∷ []) (span_up_to q sp.end) (content_is opening front q t refl h.shape)
            (content_spans front q t h.shape b));
        alive = (i, a);
        makes = λ ks ps f st. around A (FollowsStates s ss) (IsNodeOf (place_of c)) (kinds (front ++ t ∷ []))
            (closing ∷ []) part last ks ps
            (λ u w g. rw (split front t (u ++ closing ∷ [])) (node u (kinds front) w g h.are))
            (inside (FollowsStates s ss) ks ps f);
      }

-- ## Sequences at the column of the mapping around them

in_pairs_begin : (R : Claim) (ks : List Kind) (ps : List Part) → InBlockPairs R ks ps → BeginsWithEntry ks → ⊥
in_pairs_begin u0 ks ps h = grind arith

at_value_begins : (R : Claim) (ks : List Kind) (ps : List Part) → AtBlockValue R ks ps → BeginsWithEntry ks → ⊥
at_value_begins R ks ps h = grind arith

pub no_entry : (s : State) (ss : List State) (ks : List Kind) (ps : List Part) → IsPairState s
    → FollowsStates s ss ks ps → BeginsWithEntry ks → ⊥
no_entry state.BlockMappingKey [] ks ps i h = absurd h
no_entry state.BlockMappingKey (o ∷ ss) ks ps i h = in_pairs_begin (FollowsStates o ss) ks ps h
no_entry state.BlockMappingValue [] ks ps i h = absurd h
no_entry state.BlockMappingValue (o ∷ ss) ks ps i h = at_value_begins (FollowsStates o ss) ks ps h
no_entry _ ss ks ps i h = elim i [ ]
