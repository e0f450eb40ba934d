-- A claim on tokens and the parts that they stand for: where it holds of the pieces of a forest, it holds of the whole.
use Rattle.event_laws.proofs.Common.{◌≡◌, ◌⊎◌, ℕ, Bool, true, false, List, [], ◌∷◌, ◌++◌, map, Option, Some, None, option_map, encode_utf8_all, refl, sym, ap, subst, inl, inr, append_assoc, append-nil, arith, Kind, alias_token, anchor_token, tag_token, directive_token, Context, InFlow, InBlock, InBlockMapping, AreBoth, YieldProperties, YieldsScalar, YieldsOptional, YieldsMarkedKey, YieldsMarkedValue, YieldsMarkedPair, YieldsSinglePair, YieldsFlowPair, YieldsBlockPair, IsListEnd, YieldsNode, YieldsPairEntry, YieldFlowEntries, YieldOtherFlowEntries, YieldFlowPairs, YieldOtherFlowPairs, YieldBlockEntries, YieldBlockPairs, YieldsDocument, AreMarks, AreEndsAndMarks, YieldsBehindDocument, YieldDocuments, Yields, anchor_of, Part, OpenStream, CloseStream, OpenDocument, CloseDocument, Reference, Leaf, OpenSequence, CloseSequence, OpenMapping, CloseMapping, node_parts, entry_parts, pair_parts, document_parts, parts}
use Rattle.saphyr_scanner.specs.Grammar.Forest.{Tag, Directive, Properties, no_properties, Style, Plain, Node, Alias, Scalar, Seq, Map, Nodes, NoNode, MoreNodes, Pairs, NoPair, MorePairs, left_out, Document, Forest}
use Rattle.saphyr_scanner.specs.Grammar.Tokens as tokens
use Rattle.saphyr_scanner.specs.Grammar.TokenGrammar as grammar

-- ## Parts alone

-- parts that a node may have
abbrev pub IsInNode : Part → Type 0
IsInNode OpenStream = ⊥
IsInNode CloseStream = ⊥
IsInNode (OpenDocument _ _) = ⊥
IsInNode CloseDocument = ⊥
IsInNode _ = Unit {0}

-- what holds of no part, of such parts alone, and of parts one after the other, holds of all parts of a node
module _ (P : List Part → Type 0) (nothing : P []) (both : (ps qs : List Part) → P ps → P qs → P (ps ++ qs))
    (alone : (p : Part) → IsInNode p → P (p ∷ [])) where
  mutual
    pub of_node : (n : Node) → P (node_parts n)
    of_node (Alias name) = alone (Reference name) tt
    of_node (Scalar p style value) = alone (Leaf p style value) tt
    of_node (Seq p ns) = both (OpenSequence p ∷ []) _ (alone (OpenSequence p) tt)
        (both (entry_parts ns) (CloseSequence ∷ []) (of_entries ns) (alone CloseSequence tt))
    of_node (Map p qs) = both (OpenMapping p ∷ []) _ (alone (OpenMapping p) tt)
        (both (pair_parts qs) (CloseMapping ∷ []) (of_pairs qs) (alone CloseMapping tt))

    of_entries : (ns : Nodes) → P (entry_parts ns)
    of_entries NoNode = nothing
    of_entries (MoreNodes n ns) = both (node_parts n) (entry_parts ns) (of_node n) (of_entries ns)

    of_pairs : (qs : Pairs) → P (pair_parts qs)
    of_pairs NoPair = nothing
    of_pairs (MorePairs key value qs) = both (node_parts key) (node_parts value ++ pair_parts qs) (of_node key)
        (both (node_parts value) (pair_parts qs) (of_node value) (of_pairs qs))

-- ## The pieces

-- the collections that have tokens of their own
pub data Collection : Type 0 where
  FlowSequence : Collection
  FlowMapping : Collection
  BlockSequence : Collection
  BlockMapping : Collection

abbrev pub opening : Collection → Kind
opening FlowSequence = tokens.FlowSequenceStart
opening FlowMapping = tokens.FlowMappingStart
opening BlockSequence = tokens.BlockSequenceStart
opening BlockMapping = tokens.BlockMappingStart

abbrev pub closing : Collection → Kind
closing FlowSequence = tokens.FlowSequenceEnd
closing FlowMapping = tokens.FlowMappingEnd
closing _ = tokens.BlockEnd

abbrev pub opening_part : Collection → Properties → Part
opening_part FlowSequence p = OpenSequence p
opening_part BlockSequence p = OpenSequence p
opening_part _ p = OpenMapping p

abbrev pub closing_part : Collection → Part
closing_part FlowSequence = CloseSequence
closing_part BlockSequence = CloseSequence
closing_part _ = CloseMapping

-- tokens that neither begin nor end a collection
abbrev pub IsSingle : Kind → Type 0
IsSingle tokens.FlowSequenceStart = ⊥
IsSingle tokens.FlowSequenceEnd = ⊥
IsSingle tokens.FlowMappingStart = ⊥
IsSingle tokens.FlowMappingEnd = ⊥
IsSingle tokens.BlockSequenceStart = ⊥
IsSingle tokens.BlockMappingStart = ⊥
IsSingle tokens.BlockEnd = ⊥
IsSingle _ = Unit {0}

-- the properties are those of the part
abbrev pub BelongTo : Part → Properties → Type 0
BelongTo part p = anchor_of part ≡ option_map encode_utf8_all p.anchor

pub record AddsUp (W : List Kind → List Part → Type 0) : Type 0 where
  pub nothing : W [] []
  pub both : (s t : List Kind) (ps qs : List Part) → W s ps → W t qs → W (s ++ t) (ps ++ qs)
  pub single : (k : Kind) → IsSingle k → W (k ∷ []) []
  -- a part with its properties, whose tokens have no part of their own
  pub part : (part : Part) (p : Properties) (t : List Kind) → BelongTo part p → YieldProperties p t → W t []
      → W t (part ∷ [])
  pub collection : (c : Collection) (p : Properties) (front inside : List Kind) (ps : List Part)
      → YieldProperties p front → W front [] → W inside ps
      → W (front ++ (opening c ∷ (inside ++ closing c ∷ []))) (opening_part c p ∷ (ps ++ closing_part c ∷ []))

module _ (W : List Kind → List Part → Type 0) (a : AddsUp W) where
  put : (t s : List Kind) (ps : List Part) → t ≡ s → W s ps → W t ps
  put t s ps e = subst (λ (l : List Kind). W l ps) (sym e)

  behind : (k : Kind) (s t : List Kind) (ps : List Part) → t ≡ k ∷ s → IsSingle k → W s ps → W t ps
  behind k s t ps e i x = put t (k ∷ s) ps e (a.both (k ∷ []) s [] ps (a.single k i) x)

  alone : (k : Kind) (t : List Kind) → t ≡ k ∷ [] → IsSingle k → W t []
  alone k t e i = put t (k ∷ []) [] e (a.single k i)

  none : (t : List Kind) → t ≡ [] → W t []
  none t e = put t [] [] e a.nothing

  one_part : (part : Part) → anchor_of part ≡ None → W [] (part ∷ [])
  one_part part e = a.part part no_properties [] e refl a.nothing

  -- parts without tokens in front, and at the end
  part_before : (part : Part) (t : List Kind) (ps : List Part) → anchor_of part ≡ None → W t ps → W t (part ∷ ps)
  part_before part t ps e x = a.both [] t (part ∷ []) ps (one_part part e) x

  parts_behind : (t : List Kind) (ps qs : List Part) → W t ps → W [] qs → W t (ps ++ qs)
  parts_behind t ps qs x y = put t (t ++ []) (ps ++ qs) (sym (append-nil t)) (a.both t [] ps qs x y)

  -- ## Properties and scalars

  tag_single : (tag : Tag) → IsSingle (tag_token tag)
  tag_single u0 = grind arith

  directive_single : (d : Directive) → IsSingle (directive_token d)
  directive_single u0 = grind arith

  properties : (anchor : Option (List ℕ)) (tag : Option Tag) (t : List Kind)
      → AreBoth (option_map anchor_token anchor) (option_map tag_token tag) t → W t []
  properties None None t h = none t h
  properties (Some name) None t h = alone (anchor_token name) t h tt
  properties None (Some tag) t h = alone (tag_token tag) t h (tag_single tag)
  properties (Some name) (Some tag) t (inl h) =
      behind (anchor_token name) _ t [] h tt (a.single (tag_token tag) (tag_single tag))
  properties (Some name) (Some tag) t (inr h) =
      behind (tag_token tag) _ t [] h (tag_single tag) (a.single (anchor_token name) tt)

  scalar : (p : Properties) (style : Style) (value : List ℕ) (t : List Kind) → YieldsScalar p style value t → W t []
  scalar p style value t u0 = grind arith

  -- ## Nodes that may be left out, and pairs

  abbrev Holds : (List Kind → Type 0) → List Part → Type 0
  Holds N ps = (u : List Kind) → N u → W u ps

  is_left_out : (n : Node) → n ≡ left_out → W [] (node_parts n)
  is_left_out n e = rw e (one_part (Leaf no_properties Plain []) refl)

  optional : (n : Node) (N : List Kind → Type 0) (t : List Kind) → Holds N (node_parts n) → YieldsOptional n N t
      → W t (node_parts n)
  optional n u0 t g u1 = grind (arith, put, is_left_out)

  key : (n : Node) (N : List Kind → Type 0) (t : List Kind) → Holds N (node_parts n) → YieldsMarkedKey n N t
      → W t (node_parts n)
  key n N t g h = behind tokens.Key h.0 t (node_parts n) h.2 tt (optional n N h.0 g h.1)

  value_of : (n : Node) (N : List Kind → Type 0) (t : List Kind) → Holds N (node_parts n) → YieldsMarkedValue n N t
      → W t (node_parts n)
  value_of n N t g h = behind tokens.Value h.0 t (node_parts n) h.2 tt (optional n N h.0 g h.1)

  module _ (m n : Node) (K V : List Kind → Type 0) (t : List Kind) (f : Holds K (node_parts m))
      (g : Holds V (node_parts n)) where
    key_alone : n ≡ left_out → W t (node_parts m) → W t (node_parts m ++ node_parts n)
    key_alone e x = parts_behind t (node_parts m) (node_parts n) x (is_left_out n e)

    value_alone : m ≡ left_out → W t (node_parts n) → W t (node_parts m ++ node_parts n)
    value_alone e x = a.both [] t (node_parts m) (node_parts n) (is_left_out m e) x

    marked : YieldsMarkedPair m n K V t → W t (node_parts m ++ node_parts n)
    marked h = put t (h.0 ++ h.1) (node_parts m ++ node_parts n) h.4
        (a.both h.0 h.1 (node_parts m) (node_parts n) (key m K h.0 f h.2) (value_of n V h.1 g h.3))

    single_pair : YieldsSinglePair m n K V t → W t (node_parts m ++ node_parts n)
    single_pair (inl h) = marked h
    single_pair (inr h) = key_alone h.0 (key m K t f h.1)

    flow_pair : YieldsFlowPair m n K V t → W t (node_parts m ++ node_parts n)
    flow_pair (inl h) = marked h
    flow_pair (inr (inl h)) = key_alone h.0 (key m K t f h.1)
    flow_pair (inr (inr (inl h))) = value_alone h.0 (value_of n V t g h.1)
    flow_pair (inr (inr (inr h))) = key_alone h.0 (f t h.1)

    block_pair : (others : List Kind) → YieldsBlockPair m n K V others t → W t (node_parts m ++ node_parts n)
    block_pair others (inl h) = marked h
    block_pair others (inr (inl h)) = key_alone h.0 (key m K t f h.2)
    block_pair others (inr (inr h)) = value_alone h.0 (value_of n V t g h.1)

  pair_and_others : (m n : Node) (qs : Pairs) (s u t : List Kind) → t ≡ s ++ u → W s (node_parts m ++ node_parts n)
      → W u (pair_parts qs) → W t (pair_parts (MorePairs m n qs))
  pair_and_others m n qs s u t e x y = grind (arith, put, append_assoc)

  list_end : (t : List Kind) → IsListEnd t → W t []
  list_end t u0 = grind arith

  -- an entry of brackets, and those after it
  entry : (n : Node) (ns : Nodes) (s u : List Kind) → Holds (YieldsNode n InFlow) (node_parts n)
      → Holds (YieldsPairEntry n) (node_parts n) → YieldsNode n InFlow s ⊎ YieldsPairEntry n s → W u (entry_parts ns)
      → W (s ++ u) (entry_parts (MoreNodes n ns))
  entry n ns s u f g u0 x = grind arith

  -- ## Collections

  -- one without tokens of its own
  inside_parts : (first last : Part) (p : Properties) (front t : List Kind) (ps : List Part) → BelongTo first p
      → anchor_of last ≡ None → YieldProperties p front → W t ps → W (front ++ t) (first ∷ (ps ++ last ∷ []))
  inside_parts first last p front t ps e f y x =
      a.both front t (first ∷ []) (ps ++ last ∷ []) (a.part first p front e y (properties p.anchor p.tag front y))
      (parts_behind t ps (last ∷ []) x (one_part last f))

  between : (c : Collection) (p : Properties) (N : List Kind → Type 0) (ps : List Part) (front t : List Kind)
      → YieldProperties p front → Holds N ps → grammar.IsBetween (opening c) (closing c) N t
      → W (front ++ t) (opening_part c p ∷ (ps ++ closing_part c ∷ []))
  between c p u0 ps front t y g h = grind (arith, put, properties)

  sequence : (p : Properties) (ns : Nodes) (c : Context) (F B : List Kind → Type 0) (front t : List Kind)
      → YieldProperties p front → Holds F (entry_parts ns) → Holds B (entry_parts ns)
      → grammar.YieldsSequence ns c F B t → W (front ++ t) (node_parts (Seq p ns))
  sequence p ns c F B front t y f g (inl h) = between FlowSequence p F (entry_parts ns) front t y f h
  sequence p ns c F B front t y f g (inr (inl h)) = between BlockSequence p B (entry_parts ns) front t y g h.1
  sequence p ns c F B front t y f g (inr (inr h)) =
      inside_parts (OpenSequence p) CloseSequence p front t (entry_parts ns) refl refl y (g t h.2)

  mapping : (p : Properties) (qs : Pairs) (c : Context) (F B : List Kind → Type 0) (front t : List Kind)
      → YieldProperties p front → Holds F (pair_parts qs) → Holds B (pair_parts qs) → grammar.YieldsMapping c F B t
      → W (front ++ t) (node_parts (Map p qs))
  mapping p qs c F B front t y f g (inl h) = between FlowMapping p F (pair_parts qs) front t y f h
  mapping p qs c F B front t y f g (inr h) = between BlockMapping p B (pair_parts qs) front t y g h.1

  -- ## The tree

  mutual
    node : (n : Node) (c : Context) (t : List Kind) → YieldsNode n c t → W t (node_parts n)
    node (Alias name) c t h =
        parts_behind t [] (Reference name ∷ []) (alone (alias_token name) t h tt) (one_part (Reference name) refl)
    node (Scalar p style value) c t h =
        put t (h.0 ++ h.1) (Leaf p style value ∷ []) h.4 (a.both h.0 h.1 (Leaf p style value ∷ []) []
        (a.part (Leaf p style value) p h.0 refl h.2 (properties p.anchor p.tag h.0 h.2)) (scalar p style value h.1 h.3))
    node (Seq p ns) c t h = put t (h.0 ++ h.1) (node_parts (Seq p ns)) h.4
        (sequence p ns c (YieldFlowEntries ns) (YieldBlockEntries ns) h.0 h.1 h.2 (λ u g. entries ns u g)
        (λ u g. block_entries ns u g) h.3)
    node (Map p qs) c t h = put t (h.0 ++ h.1) (node_parts (Map p qs)) h.4
        (mapping p qs c (YieldFlowPairs qs) (YieldBlockPairs qs) h.0 h.1 h.2 (λ u g. pairs qs u g)
        (λ u g. block_pairs qs u g) h.3)

    pair_entry : (n : Node) (t : List Kind) → YieldsPairEntry n t → W t (node_parts n)
    pair_entry (Map p (MorePairs m n NoPair)) t h =
        inside_parts (OpenMapping p) CloseMapping p [] t (pair_parts (MorePairs m n NoPair)) refl refl (rw h.0 refl)
        (pair_and_others m n NoPair t [] t (sym (append-nil t))
        (single_pair m n (YieldsNode m InFlow) (YieldsNode n InFlow) t (λ u g. node m InFlow u g)
        (λ u g. node n InFlow u g) h.1) a.nothing)
    pair_entry _ t h = elim h [ ]

    entries : (ns : Nodes) (t : List Kind) → YieldFlowEntries ns t → W t (entry_parts ns)
    entries NoNode t h = none t h
    entries (MoreNodes n ns) t h = put t (h.0 ++ h.1) (entry_parts (MoreNodes n ns)) h.4
        (entry n ns h.0 h.1 (λ u g. node n InFlow u g) (λ u g. pair_entry n u g) h.2 (other_entries ns h.1 h.3))

    other_entries : (ns : Nodes) (t : List Kind) → YieldOtherFlowEntries ns t → W t (entry_parts ns)
    other_entries NoNode t h = list_end t h
    other_entries (MoreNodes n ns) t h = behind tokens.FlowEntry (h.0 ++ h.1) t (entry_parts (MoreNodes n ns)) h.4 tt
        (entry n ns h.0 h.1 (λ u g. node n InFlow u g) (λ u g. pair_entry n u g) h.2 (other_entries ns h.1 h.3))

    pairs : (qs : Pairs) (t : List Kind) → YieldFlowPairs qs t → W t (pair_parts qs)
    pairs NoPair t h = none t h
    pairs (MorePairs m n qs) t h = pair_and_others m n qs h.0 h.1 t h.4
        (flow_pair m n (YieldsNode m InFlow) (YieldsNode n InFlow) h.0 (λ u g. node m InFlow u g)
        (λ u g. node n InFlow u g) h.2) (other_pairs qs h.1 h.3)

    other_pairs : (qs : Pairs) (t : List Kind) → YieldOtherFlowPairs qs t → W t (pair_parts qs)
    other_pairs NoPair t h = list_end t h
    other_pairs (MorePairs m n qs) t h = behind tokens.FlowEntry (h.0 ++ h.1) t (pair_parts (MorePairs m n qs)) h.4 tt
        (pair_and_others m n qs h.0 h.1 (h.0 ++ h.1) refl
        (flow_pair m n (YieldsNode m InFlow) (YieldsNode n InFlow) h.0 (λ u g. node m InFlow u g)
        (λ u g. node n InFlow u g) h.2) (other_pairs qs h.1 h.3))

    block_entries : (ns : Nodes) (t : List Kind) → YieldBlockEntries ns t → W t (entry_parts ns)
    block_entries NoNode t h = none t h
    block_entries (MoreNodes n ns) t h = behind tokens.BlockEntry (h.0 ++ h.1) t (entry_parts (MoreNodes n ns)) h.4 tt
        (a.both h.0 h.1 (node_parts n) (entry_parts ns)
        (optional n (YieldsNode n InBlock) h.0 (λ u g. node n InBlock u g) h.2) (block_entries ns h.1 h.3))

    block_pairs : (qs : Pairs) (t : List Kind) → YieldBlockPairs qs t → W t (pair_parts qs)
    block_pairs NoPair t h = none t h
    block_pairs (MorePairs m n qs) t h = pair_and_others m n qs h.0 h.1 t h.4
        (block_pair m n (YieldsNode m InBlockMapping) (YieldsNode n InBlockMapping) h.0
        (λ u g. node m InBlockMapping u g) (λ u g. node n InBlockMapping u g) h.1 h.2) (block_pairs qs h.1 h.3)

  -- ## Documents

  directives : (ds : List Directive) → W (map directive_token ds) []
  directives [] = a.nothing
  directives (d ∷ ds) = behind (directive_token d) _ _ [] refl (directive_single d) (directives ds)

  document : (d : Document) (free : Bool) (t : List Kind) → YieldsDocument d free t → W t (node_parts d.node)
  document d free t (inl h) = node d.node InBlock t h.1.2
  document d free t (inr h) =
      put t (map directive_token d.directives ++ tokens.DocumentStart ∷ h.1.0) (node_parts d.node) h.1.4
      (a.both (map directive_token d.directives) (tokens.DocumentStart ∷ h.1.0) [] (node_parts d.node)
      (directives d.directives) (behind tokens.DocumentStart h.1.0 _ (node_parts d.node) refl tt
      (optional d.node (YieldsNode d.node InBlock) h.1.0 (λ u g. node d.node InBlock u g) h.1.3)))

  marks : (t : List Kind) → AreMarks t → W t []
  marks [] h = a.nothing
  marks (k ∷ t) h = behind tokens.ByteOrderMark t (k ∷ t) [] (ap (λ x. x ∷ t) h.0) tt (marks t h.1)

  ends_and_marks : (t : List Kind) → AreEndsAndMarks t → W t []
  ends_and_marks [] h = a.nothing
  ends_and_marks (k ∷ t) (inl e, h) = behind tokens.DocumentEnd t (k ∷ t) [] (ap (λ x. x ∷ t) e) tt (ends_and_marks t h)
  ends_and_marks (k ∷ t) (inr e, h) =
      behind tokens.ByteOrderMark t (k ∷ t) [] (ap (λ x. x ∷ t) e) tt (ends_and_marks t h)

  behind_document : (Others : Bool → List Kind → Type 0) (ps : List Part) (t : List Kind)
      → ((free : Bool) → Holds (Others free) ps) → YieldsBehindDocument Others t → W t ps
  behind_document Others ps t g (front, end, others, are, either, is) =
      put t (front ++ (end ++ others)) ps is (a.both front (end ++ others) [] ps (marks front are) (by either))
    where
      by : ((end ≡ []) × Others false others)
          ⊎ ((more : List Kind) × AreEndsAndMarks more × (end ≡ tokens.DocumentEnd ∷ more) × Others true others)
          → W (end ++ others) ps
      by (inl z) = a.both end others [] ps (none end z.0) (g false others z.1)
      by (inr z) = a.both end others [] ps (behind tokens.DocumentEnd z.0 end [] z.2 tt (ends_and_marks z.0 z.1))
          (g true others z.3)

  documents : (ds : Forest) (free : Bool) (t : List Kind) → YieldDocuments ds free t → W t (document_parts ds)
  documents [] free t h =
      parts_behind t [] (CloseStream ∷ []) (alone tokens.StreamEnd t h tt) (one_part CloseStream refl)
  documents (d ∷ ds) free t h = put t (h.0 ++ h.1) (document_parts (d ∷ ds)) h.4
      (a.both h.0 h.1 (OpenDocument d.explicit d.directives ∷ node_parts d.node) (CloseDocument ∷ document_parts ds)
      (part_before (OpenDocument d.explicit d.directives) h.0 (node_parts d.node) refl (document d free h.0 h.2))
      (part_before CloseDocument h.1 (document_parts ds) refl
      (behind_document (YieldDocuments ds) (document_parts ds) h.1 (λ f u g. documents ds f u g) h.3)))

  pub of_forest : (f : Forest) (t : List Kind) → Yields f t → W t (parts f)
  of_forest f t h = part_before OpenStream t (document_parts f) refl
      (behind tokens.StreamStart (h.0 ++ h.1) t (document_parts f) h.4 tt
      (a.both h.0 h.1 [] (document_parts f) (ends_and_marks h.0 h.2) (documents f true h.1 h.3)))
