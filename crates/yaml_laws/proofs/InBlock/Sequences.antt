-- The entries of a block sequence are read (YAML 1.2.2, 8.2.1).
use Rattle.yaml_laws.proofs.Common.{Bool, List, [], append-nil, append_assoc, arith, false, inl, inr, refl, subst, suc, true, ℕ, ◌++◌, ◌+◌, ◌∙◌, ◌∷◌, ◌≡◌, ◌≤◌, if◌then◌else◌, nat_le, hyphen, Marker, along, State, Kind, MoreNodes, NoNode, Node, Nodes, most_open, AreEntries, AreOtherEntries, BehindDash, IsBlockNode}
use Rattle.saphyr_scanner.specs.Grammar.Tokens as tokens
use Rattle.saphyr_scanner.specs.Grammar.TokenGrammar as grammar
use Rattle.yaml_laws.proofs.InBlock.Lines.{FitsOnLines, fits_back, fits_so}
use Rattle.yaml_laws.proofs.InBlock.States.{Frame, At, moved, FreeAt}
use Rattle.yaml_laws.proofs.InBlock.Entries.{frame_behind, dash_kinds, reads_dash}
use Rattle.yaml_laws.proofs.InBlock.Statements.{EndsNodeAt, EndsWithLine, as_optional, NodeRead, ReadsAt, ReadsLeaves}
use Rattle.yaml_laws.proofs.InBlock.Texts.{node_ends}
use Rattle.yaml_laws.proofs.InBlock.BehindIndicators.{node_behind}
use Rattle.yaml_laws.proofs.InBlock.Parts.{frame_indent, suc_is, IsPart, PartRead, ReadsOtherParts, parts_so, no_other_parts, AreParts, more_parts, PartsRead, mapped_parts, reads_parts}
use Rattle.yaml_laws.proofs.Flow.ContentStarts.{dash_content}

-- ## An entry

-- from its `-` on, which may begin the sequence
reads_entry : {limit : ℕ} → ReadsLeaves limit → (node : Node) → ReadsAt limit node (IsBlockNode most_open node)
    → (f : Frame) (n : Marker) (further : Bool) → nat_le f.indent n.col ≡ further → f.indent ≤ n.col + 1
    → (entry z : List ℕ) → IsBlockNode most_open node (BehindDash n.col) entry z
    → FitsOnLines limit n (hyphen ∷ entry) z → EndsNodeAt (suc n.col) (moved (along n 1) entry) z
    → (start : State) (ts : List Kind) (v : At limit start f n (hyphen ∷ (entry ++ z)) ts) → v.allowed ≡ true
    → NodeRead limit start node (BehindDash n.col) (frame_behind further n.col f) (moved (along n 1) entry) z
    (ts ++ dash_kinds further)
reads_entry {limit} leaves node reads f n further e far entry z is fits behind start ts v allowed =
    let g = frame_behind further n.col f in
    let same = frame_indent further f n.col e far in
    let ahead = node_behind leaves node (BehindDash n.col) entry z refl is behind.clean in
    let before = reads_dash f n (entry ++ z) further e far ahead fits.below v allowed in
    reads (BehindDash n.col) g (same ∙ suc_is n.col) (along n 1) entry z is (fits_back n (45 ∷ []) entry z fits)
    (rw (same ∙ suc_is n.col) behind) start _ before

-- the start of a sequence, where one begins
abbrev pub sequence_start : Bool → List Kind
sequence_start further = if further then tokens.BlockSequenceStart ∷ [] else []

kinds_of_entry : (further : Bool) (ts entry : List Kind)
    → (ts ++ dash_kinds further) ++ entry ≡ (ts ++ sequence_start further) ++ (tokens.BlockEntry ∷ entry)
kinds_of_entry true ts entry = simp append_assoc
kinds_of_entry false ts entry = simp (append_assoc, append-nil)

-- the text of an entry and its tokens
abbrev IsEntry : Node → ℕ → List ℕ → List ℕ → Type 0
IsEntry node column t z =
    (entry : List ℕ) × IsBlockNode most_open node (BehindDash column) entry z × (t ≡ hyphen ∷ entry)

abbrev YieldsEntry : Node → List Kind → List Kind → Type 0
YieldsEntry node others ts =
    (entry : List Kind) × grammar.YieldsOptional node (grammar.YieldsNode node grammar.InBlock) entry
    × (ts ≡ tokens.BlockEntry ∷ entry)

is_entry : {limit : ℕ} → ReadsLeaves limit → (node : Node) → ReadsAt limit node (IsBlockNode most_open node)
    → IsPart limit (YieldsEntry node) sequence_start (IsEntry node)
is_entry {limit} leaves node reads = record {
  content = λ column t z (entry, h, e). record { first = 45; others = entry; is = e; content = dash_content };
  ends = λ column t z (entry, h, e). rw e (behind_dash entry z (node_ends leaves node (BehindDash column) entry z h));
  reads = λ f n further e far t z (entry, h, is) fits behind start ts v.
      one f n further e far t z entry h is fits behind start ts v.at v.allowed;
  none = refl;
}
  where
    behind_dash : (entry z : List ℕ) → EndsWithLine entry z → EndsWithLine (hyphen ∷ entry) z
    behind_dash entry z (inl h) = inl (λ m. h (along m 1))
    behind_dash entry z (inr h) = inr h

    one : (f : Frame) (n : Marker) (further : Bool) → nat_le f.indent n.col ≡ further → f.indent ≤ n.col + 1
        → (t z entry : List ℕ) → IsBlockNode most_open node (BehindDash n.col) entry z → t ≡ hyphen ∷ entry
        → FitsOnLines limit n t z → EndsNodeAt (suc n.col) (moved n t) z
        → (start : State) (ts : List Kind) (v : At limit start f n (t ++ z) ts) → v.allowed ≡ true
        → PartRead limit start (YieldsEntry node) (frame_behind further n.col f) n t z (ts ++ sequence_start further)
    one f n further e far t z entry h is fits behind start ts v allowed =
        let p = subst (λ (x : List ℕ). (w : At limit start f n (x ++ z) ts) × (w.allowed ≡ true)) is (v, allowed) in
        let r = reads_entry leaves node reads f n further e far entry z h (fits_so n t (45 ∷ entry) z is fits)
        (rw is at behind) start ts p.0 p.1 in
        record {
          tokens = tokens.BlockEntry ∷ r.tokens;
          are = λ others ahead. (r.tokens, as_optional node (BehindDash n.col) r.tokens r.are, refl);
          begins = λ others no. absurd no;
          arrived = simp is (rw (kinds_of_entry further ts r.tokens) at r.arrived);
        }

-- ## Entries

-- what is shown of the entries after the first
abbrev pub ReadsOtherEntries : ℕ → Nodes → Type 0
ReadsOtherEntries limit nodes =
    ReadsOtherParts limit (AreOtherEntries most_open nodes) (grammar.YieldBlockEntries nodes)

pub no_entries : {limit : ℕ} → ReadsOtherEntries limit NoNode
no_entries = parts_so (λ column t o h. h) (λ ts h. h) no_other_parts

entries_are : (node : Node) (nodes : Nodes) (ts : List Kind)
    → AreParts (YieldsEntry node) (grammar.YieldBlockEntries nodes) ts
    → grammar.YieldBlockEntries (MoreNodes node nodes) ts
entries_are node nodes ts (part, others, (entry, optional, is), are, all) = grind arith

pub more_entries : {limit : ℕ} → ReadsLeaves limit → (node : Node) (nodes : Nodes)
    → ReadsAt limit node (IsBlockNode most_open node) → ReadsOtherEntries limit nodes
    → ReadsOtherEntries limit (MoreNodes node nodes)
more_entries leaves node nodes reads more = parts_so (λ column t o (front, entry, others, front_is, h, k, e).
    (front, 45 ∷ entry, others, front_is, (entry, h, refl), k, e)) (entries_are node nodes)
    (more_parts (is_entry leaves node reads) more)

-- from the first entry on
pub reads_entries : {limit : ℕ} → ReadsLeaves limit → (node : Node) (nodes : Nodes)
    → ReadsAt limit node (IsBlockNode most_open node) → ReadsOtherEntries limit nodes
    → (f : Frame) (n : Marker) (further : Bool) → nat_le f.indent n.col ≡ further
    → f.indent ≤ n.col + 1 → (t o : List ℕ) → AreEntries most_open (MoreNodes node nodes) n.col t o
    → FitsOnLines limit n t o → EndsNodeAt (suc n.col) (moved n t) o
    → (start : State) (ts : List Kind) → FreeAt limit start f n (t ++ o) ts
    → PartsRead limit start (grammar.YieldBlockEntries (MoreNodes node nodes)) n.col (frame_behind further n.col f) n t
    o (ts ++ sequence_start further)
reads_entries leaves node nodes reads more f n further e far t o (entry, others, h, k, is) fits behind start ts v =
    mapped_parts (entries_are node nodes)
    (reads_parts (is_entry leaves node reads) more f n further e far t o (45 ∷ entry, others, (entry, h, refl), k, is)
    fits behind start ts v)
