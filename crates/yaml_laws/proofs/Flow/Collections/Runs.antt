-- Collections in brackets and braces after their properties, and given how their entries are read.
use Rattle.yaml_laws.proofs.Common.{◌≡◌, ℕ, suc, ◌+◌, ◌≤◌, Bool, false, List, [], ◌∷◌, ◌++◌, length, refl, arith, append_assoc, IsTrue, list_all, is_blank, Marker, Context, Kind, is_block, Properties, Node, Seq, Map, Nodes, Pairs, most_open, allows_adjacent, IsOpening, IsFlowNode, AreItems, AreFlowPairs, level_of, clash}
use Rattle.saphyr_scanner.specs.Grammar.TokenGrammar as grammar
use Rattle.yaml_laws.proofs.InFlow.States.{Around, Calm, FlowMoment}
use Rattle.yaml_laws.proofs.Flow.States.{moved, ReaderPromises, Follows, follows_inside, follows_outside, follows_key, ReadsText}
use Rattle.yaml_laws.proofs.Flow.KeyPieces.{cut_back, fits_around}
use Rattle.yaml_laws.proofs.Flow.ContentStarts.{starts}
use Rattle.yaml_laws.proofs.Flow.Pieces.{behind_so}
use Rattle.yaml_laws.proofs.Flow.Collections.{EndsAt, Brackets, AreBrackets, square, curly, are_square, are_curly, bracket_text, RunsInside, brackets_pass, ends_inside, ends_key, ends_root, AreBracketed}
use Rattle.yaml_laws.proofs.Flow.Items.{ReadsEntries}
use Rattle.yaml_laws.proofs.Flow.Joins.{mapped}
use Rattle.yaml_laws.proofs.Flow.Fronts.{behind_front}
use Rattle.yaml_laws.proofs.Flow.Quotes.{ends_node_content}

-- ## The text of a collection

pub whole_text : (t opening front w inside : List ℕ) (c e : ℕ) → t ≡ opening ++ (inside ++ (e ∷ []))
    → opening ≡ front ++ (c ∷ w) → t ≡ front ++ ((c ∷ w) ++ (inside ++ (e ∷ [])))
whole_text t opening front w inside c e is open_is = cc (append_assoc front (c ∷ w) (inside ++ (e ∷ [])))

-- ## A collection, given how its entries are read

-- a collection in brackets, whose entries are texts of Text
abbrev pub IsBracketText : Brackets → (ℕ → List ℕ → Type 0) → Properties → ℕ → ℕ → List ℕ → Type 0
IsBracketText b Text p room indent t =
    (left : ℕ) × (opening inside : List ℕ) × (room ≡ suc left) × IsOpening p (b.opening ∷ []) indent opening
    × Text left inside × (t ≡ opening ++ (inside ++ (b.closing ∷ [])))

-- a node that is such a collection, where the tokens of its entries are those of Are
pub record ReadsCollection (around : Around) (node : Node) (p : Properties) (b : Brackets)
    (Text : ℕ → List ℕ → Type 0) (Are : List Kind → Type 0) : Type 0 where
  pub are : AreBrackets b
  pub entries : (left : ℕ) → ReadsEntries around b left (Text left) Are
  pub yields : (place : grammar.Context) (properties inside : List Kind) → grammar.YieldProperties p properties
      → Are inside → grammar.YieldsNode node place (properties ++ (b.opens ∷ (inside ++ b.closes ∷ [])))
  pub adjacent : (w : List ℕ) → IsTrue (allows_adjacent node w) → IsTrue (list_all is_blank w)
  pub is_node : (room : ℕ) (in_flow : Bool) (t : List ℕ) → IsBracketText b Text p room around.indent t
      → IsFlowNode room node in_flow around.indent t

pub reads_sequence : (around : Around) (p : Properties) (nodes : Nodes)
    → ((left : ℕ) → ReadsEntries around square left (AreItems left nodes around.indent) (grammar.YieldFlowEntries
    nodes))
    → ReadsCollection around (Seq p nodes) p square (λ left. AreItems left nodes around.indent)
    (grammar.YieldFlowEntries nodes)
reads_sequence around p nodes entries = grind (arith, are_square)

pub reads_mapping : (around : Around) (p : Properties) (pairs : Pairs)
    → ((left : ℕ) → ReadsEntries around curly left (AreFlowPairs left pairs around.indent) (grammar.YieldFlowPairs
    pairs))
    → ReadsCollection around (Map p pairs) p curly (λ left. AreFlowPairs left pairs around.indent)
    (grammar.YieldFlowPairs pairs)
reads_mapping around p pairs entries = grind (arith, are_curly)

pub calm_in_flow : (around : Around) (x : Context) → is_block x ≡ false → Calm around x
calm_in_flow around x e h = absurd (clash (is_block x) h e)

follows_bracket : {around : Around} {x : Context} {node : Node} {m : Marker} {o : List ℕ} → Follows around x node m o
    → (e : Marker) → around.indent ≤ e.col → EndsAt around.indent x e o
follows_bracket {around} {x} {node} {m} {o} (follows_inside flow behind) e right =
    ends_inside around.indent x e o flow (behind_so (λ w c cs k. (ends_node_content node w cs c k).0) behind) right
follows_bracket {around} {x} {node} {m} {o} (follows_outside is behind) e right =
    rw is (ends_root around e m o behind right)
follows_bracket {around} {x} {node} {m} {o} (follows_key k held block w r is are before white) e right =
    rw block (ends_key around.indent e o w r is are right)

-- Properties are passed first (`behind_front`), and then the brackets (`brackets_pass`), from whichever moment the
-- properties led to. That has the same context, levels and place of a colon, so what is known of them is carried over
-- by equations.
pub collection_passes : {around : Around} {node : Node} {p : Properties} {b : Brackets} {Text : ℕ → List ℕ → Type 0}
    {Are : List Kind → Type 0} → ReaderPromises → ReadsCollection around node p b Text Are → (room : ℕ) (m : Marker)
    (t o : List ℕ) (now : FlowMoment) → IsBracketText b Text p room around.indent t
    → room + length now.outer ≤ most_open → Calm around now.context → ReadsText around node m t o now
collection_passes {around} {node} {p} {b} {Are = Are} reads collection room m t o now
    (left, opening, inside, r, (front, w, before, parts, e), h, is) small calm fits follows low start ready =
    let text_is = whole_text t opening front w inside b.opening b.closing is e in
    let body = bracket_text b w inside in
    let entries = collection.entries left in
    let c = behind_front reads around p (AreBracketed b Are) (list_all is_blank) m front body o before
    (starts b.opening (w ++ (inside ++ (b.closing ∷ []))) body refl collection.are.start) now (rw text_is at fits) start
    (rw text_is at ready) (λ n place later next same_context same_outer same_adjacent fits_next from at.
    let here = moved n (b.opening ∷ w) in
    let next_calm : Calm around next.context = rw same_context calm in
    let next_small : room + length next.outer ≤ most_open = rw same_outer small in
    let run : RunsInside around Are b next.context next.outer here inside o =
    λ j start no_candidate fresh on right stands. entries.passes here inside o h
    (record start { outer = level_of next.context j ∷ next.outer }) no_candidate fresh (record {
      fits = fits_around here inside (b.closing ∷ []) o right
          (cut_back n (b.opening ∷ w) (inside ++ (b.closing ∷ [])) o right fits_next);
      enough = omega (arith, r, next_small);
      low = on;
      stands = stands;
    }) in
    brackets_pass around Are b collection.are n w inside o next fits_next (λ z. entries.content inside z h)
    parts (omega (arith, r, next_small)) next_calm (omega (arith, same_adjacent, later, low.0)) from at
    (λ right. rw same_context (follows_bracket follows (moved here inside) right)) run) in
    rw text_is (mapped (λ ts (properties, content, are, (entries, inner, k), is) place. rw (is, k)
    (collection.yields place properties entries are inner)) collection.adjacent c)
