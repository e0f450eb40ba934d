-- Nodes and entries in block style, put together from their parts.
use Rattle.std.proofs.Common.{◌≡◌, ℕ, true, false, List, [], ◌∷◌, ◌++◌, refl, sym, ap, ◌∙◌, append_assoc, subst, inl, inr}
use Rattle.scalar_laws.specs.Spelling.Spaces.{IsEol}
use Rattle.saphyr_scanner.specs.Grammar.Forest.{Node, Alias, Scalar, Seq, Map, NoNode, MoreNodes, NoPair, MorePairs, left_out}
use Rattle.yaml_laws.specs.Grammar.FlowNodes.{IsFlowNode}
use Rattle.yaml_laws.specs.Grammar.BlockNodes.{Position, BehindDash, indent_at, is_start, IsEntryIndentation, IsFlowInBlock, IsGapAt}
use Rattle.yaml_standard.specs.BlockScalars.{IsSomeScalarInBlock}
use Rattle.yaml_standard.specs.declared.goal.Kind.{Kind}
use Rattle.yaml_standard.specs.declared.goal.Kind.TheVariants as kind
use Rattle.yaml_standard.specs.Goals.{AreBlockEntries, IsBlockEntry, IsBlockNodeAt, IsCollection, IsSomeCollection, IsSomeNode, least_at}
use Rattle.yaml_standard.specs.Leads.{IsFlowGap, IsSomeLead}
use Rattle.yaml_standard.specs.Leaves.{IsLeaf}
use Rattle.yaml_standard.specs.Takes.{TakesOff, TakesBefore}
use Rattle.yaml_standard.proofs.Collections.{flow}
use Rattle.yaml_standard.proofs.Pieces.{known_then, nothing_taken}

-- ## Pieces

-- two pieces are one
pub cut_twice : {a b : List ℕ} (p q c : List ℕ) → a ≡ p ++ b → b ≡ q ++ c → a ≡ (p ++ q) ++ c
cut_twice p q c e f = e ∙ ap (λ x. p ++ x) f ∙ sym (append_assoc p q c)

-- ## Nodes that are no block collections

pub node_left_out : (place : Position) (a b : List ℕ) → is_start place ≡ false → TakesBefore IsEol a b
    → TakesBefore (IsSomeNode place) a b
node_left_out place a b h t = record { piece = t.piece; is = (left_out, inl (refl, h, t.is)); cut = t.cut }

flow_in_block : (node : Node) (place : Position) (t behind : List ℕ) → IsFlowInBlock 255 node place t behind
    → IsBlockNodeAt node place t behind
flow_in_block (Alias name) place t behind h = h
flow_in_block (Scalar p style value) place t behind h = inr (inl h)
flow_in_block (Seq p nodes) place t behind h = inl h
flow_in_block (Map p pairs) place t behind h = inl h

flow_node : (place : Position) (node : Node) (a b c d gap text end : List ℕ) → IsFlowGap place a gap
    → IsFlowNode 255 node false (indent_at place) text → IsEol end d → a ≡ gap ++ b → b ≡ text ++ c → c ≡ end ++ d
    → TakesBefore (IsSomeNode place) a d
flow_node place node a b c d gap text end is_gap is_node is_end e f g =
    let whole = f ∙ ap (λ x. text ++ x) g in
    record {
      piece = gap ++ (text ++ end);
      is = (
        node,
        flow_in_block node place (gap ++ (text ++ end)) d
            (gap, text, end, is_gap.0, is_node, is_gap.1 text (end ++ d) (e ∙ ap (λ x. gap ++ x) whole), is_end, refl),
      );
      cut = cut_twice gap (text ++ end) d e (cut_twice text end d f g);
    }

pub flow_leaf : (place : Position) (indent : ℕ) (a b c d : List ℕ) → indent ≡ indent_at place
    → TakesOff (IsFlowGap place a) a b → TakesOff (IsLeaf false indent) b c → TakesBefore IsEol c d
    → TakesBefore (IsSomeNode place) a d
flow_leaf place indent a b c d e gap leaf end =
    flow_node place leaf.is.0 a b c d gap.piece leaf.piece end.piece gap.is
    (subst (λ (n : ℕ). IsFlowNode 255 leaf.is.0 false n leaf.piece) e (leaf.is.1 255)) end.is gap.cut leaf.cut end.cut

-- It matters only to a scalar whether a node is in flow.
outside_flow : (node : Node) (indent : ℕ) (t : List ℕ) → IsCollection node → IsFlowNode 255 node true indent t
    → IsFlowNode 255 node false indent t
outside_flow (Alias name) indent t is h = absurd is
outside_flow (Scalar p style value) indent t is h = absurd is
outside_flow (Seq p nodes) indent t is h = h
outside_flow (Map p pairs) indent t is h = h

pub flow_collection : (place : Position) (indent : ℕ) (a b c d : List ℕ) → indent ≡ indent_at place
    → TakesOff (IsFlowGap place a) a b → TakesOff (IsSomeCollection (flow 255 indent)) b c → TakesBefore IsEol c d
    → TakesBefore (IsSomeNode place) a d
flow_collection place indent a b c d e gap node end =
    flow_node place node.is.0 a b c d gap.piece node.piece end.piece gap.is
    (subst (λ (n : ℕ). IsFlowNode 255 node.is.0 false n node.piece) e
    (outside_flow node.is.0 indent node.piece node.is.1 node.is.2)) end.is gap.cut node.cut end.cut

pub block_scalar : (place : Position) (indent : ℕ) (a b c : List ℕ) → indent ≡ indent_at place
    → TakesOff (IsGapAt place) a b → TakesBefore (IsSomeScalarInBlock indent) b c → TakesBefore (IsSomeNode place) a c
block_scalar place indent a b c e gap scalar =
    let is = subst (λ (n : ℕ). IsSomeScalarInBlock n scalar.piece c) e scalar.is in
    record {
      piece = gap.piece ++ scalar.piece;
      is = (
        Scalar is.0 is.1 is.2,
        inr (inr (gap.piece, is.3, is.4, gap.is, is.5, is.6, ap (λ x. gap.piece ++ x) is.7)),
      );
      cut = cut_twice gap.piece scalar.piece c gap.cut scalar.cut;
    }

-- ## Collections

pub no_entries : (kind : Kind) (m : ℕ) (a : List ℕ) → TakesBefore (AreBlockEntries kind m) a a
no_entries kind.Sequence m a = nothing_taken _ a (NoNode, refl)
no_entries kind.Mapping m a = nothing_taken _ a (NoPair, refl)

collection_of : (kind : Kind) (place : Position) (m : ℕ) (p q r behind : List ℕ)
    → IsSomeLead place (least_at kind place) m p
    → IsBlockEntry kind m q (r ++ behind) → AreBlockEntries kind m r behind → IsSomeNode place (p ++ (q ++ r)) behind
collection_of kind.Sequence place m p q r behind (properties, lead) (text, (node, h), e) (nodes, k) = (
  Seq properties (MoreNodes node nodes),
  inr (m, p, q ++ r, lead, (text, r, h, k, ap (λ x. x ++ r) e), refl),
)
collection_of kind.Mapping place m p q r behind (properties, lead) (key, value, h) (pairs, k) =
    (Map properties (MorePairs key value pairs), inr (m, p, q ++ r, lead, (q, r, h, k, refl), refl))

others_of : (kind : Kind) (m : ℕ) (p q r behind : List ℕ) → IsEntryIndentation m p → IsBlockEntry kind m q (r ++ behind)
    → AreBlockEntries kind m r behind → AreBlockEntries kind m (p ++ (q ++ r)) behind
others_of kind.Sequence m p q r behind front (text, (node, h), e) (nodes, k) =
    (MoreNodes node nodes, (p, text, r, front, h, k, ap (λ x. p ++ (x ++ r)) e))
others_of kind.Mapping m p q r behind front (key, value, h) (pairs, k) =
    (MorePairs key value pairs, (p, q, r, front, h, k, refl))

pub block_collection : (kind : Kind) (place : Position) (least m : ℕ) (a b c d : List ℕ) → least ≡ least_at kind place
    → TakesOff (IsSomeLead place least m) a b → TakesBefore (IsBlockEntry kind m) b c
    → TakesBefore (AreBlockEntries kind m) c d → TakesBefore (IsSomeNode place) a d
block_collection kind place least m a b c d same lead entry others =
    record {
      piece = lead.piece ++ (entry.piece ++ others.piece);
      is = collection_of kind place m lead.piece entry.piece others.piece d
          (subst (λ (n : ℕ). IsSomeLead place n m lead.piece) same lead.is)
          (subst (λ (x : List ℕ). IsBlockEntry kind m entry.piece x) others.cut entry.is) others.is;
      cut = cut_twice lead.piece (entry.piece ++ others.piece) d lead.cut
          (cut_twice entry.piece others.piece d entry.cut others.cut);
    }

pub more_entries : (kind : Kind) (m : ℕ) (a b c d : List ℕ) → TakesOff (IsEntryIndentation m) a b
    → TakesBefore (IsBlockEntry kind m) b c → TakesBefore (AreBlockEntries kind m) c d
    → TakesBefore (AreBlockEntries kind m) a d
more_entries kind m a b c d front entry others =
    record {
      piece = front.piece ++ (entry.piece ++ others.piece);
      is = others_of kind m front.piece entry.piece others.piece d front.is
          (subst (λ (x : List ℕ). IsBlockEntry kind m entry.piece x) others.cut entry.is) others.is;
      cut = cut_twice front.piece (entry.piece ++ others.piece) d front.cut
          (cut_twice entry.piece others.piece d entry.cut others.cut);
    }

pub dash_and_node : (which : Kind) (m : ℕ) (a b c : List ℕ) → which ≡ kind.Sequence → a ≡ 45 ∷ b
    → TakesBefore (IsSomeNode (BehindDash m)) b c → TakesBefore (IsBlockEntry which m) a c
dash_and_node which m a b c is e t =
    subst (λ (k : Kind). TakesBefore (IsBlockEntry k m) a c) (sym is)
    (known_then {Q = λ x. IsSomeNode (BehindDash m) x c} (45 ∷ []) (λ q k. (q, k, refl)) e t)
