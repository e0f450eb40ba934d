-- A document and what parts it from the next are read (YAML 1.2.2, chapter 9).
pub mod Comes
pub mod DirectiveLines
pub mod Ends
pub mod Nodes
use Rattle.yaml_laws.proofs.Common.{Bool, IsTrue, List, [], ap, append-nil, append_assoc, arith, false, inl, inr, refl, subst, sym, true, ℕ, ◌++◌, ◌∙◌, ◌∷◌, ◌≡◌, ◌⊎◌, map, ◌||◌, hyphen, back_in, State, Kind, directive_token, Alias, AreCompatible, Document, Map, Node, Scalar, Seq, most_open, AtStart, BehindMarker, IsBlockNode, AreDirectives, has_marker}
use Rattle.saphyr_scanner.specs.Grammar.Tokens as tokens
use Rattle.saphyr_scanner.specs.Grammar.TokenGrammar as grammar
use Rattle.yaml_laws.specs.Grammar.Yaml as yaml
use Rattle.yaml_laws.proofs.Flow.ContentStarts.{StartsContent}
use Rattle.yaml_laws.proofs.Documents.Markers.{reads_start}
use Rattle.yaml_laws.proofs.Documents.Directives.{reads_directives}
use Rattle.yaml_laws.proofs.Documents.Stands.{StandsLined, lined_so, AtLine, Lined, BehindStart, StandsInStream, passes_over}
use Rattle.yaml_laws.proofs.InBlock.States.{crosses, ReaderPromises}
use Rattle.yaml_laws.proofs.InBlock.Statements.{AreRead, as_optional, ReadsLeaves}
use Rattle.yaml_laws.proofs.InBlock.Texts.{node_ends}
use Rattle.yaml_laws.proofs.InBlock.BehindIndicators.{entries_content, pairs_content}
use Rattle.yaml_laws.proofs.InBlock.Documents.Ends.{HasNoReturn, FollowsDocument, no_directives, explicit_first}
use Rattle.yaml_laws.proofs.InBlock.Documents.Nodes.{none_here, bare_clear, explicit_clear, NodeStands, reads_root}

-- ## A document

-- The scanner has read a document, and comes after it.
pub record DocumentStands (limit : ℕ) (start : State) (d : Document) (free : Bool) (others : List ℕ) (ts : List Kind) :
    Type 0 where
  pub tokens : List Kind
  pub are : grammar.YieldsDocument d free tokens
  pub stands : StandsLined limit start false false others (ts ++ tokens)

none_inside : (a b c : List ℕ) → StartsContent b → a ++ (b ++ c) ≡ [] → ⊥
none_inside [] b c k e =
    absurd (let f : k.first ∷ (k.others ++ c) ≡ [] = ap (λ (x : List ℕ). x ++ c) (sym k.is) ∙ e in cc)
none_inside (x ∷ a) b c k e = absurd (cc)

-- the node of a bare document is not empty
node_some : {limit : ℕ} → ReadsLeaves limit → (node : Node) (t o : List ℕ) → IsBlockNode most_open node AtStart t o
    → t ≡ [] → ⊥
node_some leaves (Alias name) t o (gap, text, end, gap_is, is, apart, end_is, e) none =
    none_inside gap text end (leaves.flow_content (Alias name) most_open 0 false text is) (sym e ∙ none)
node_some leaves (Scalar p style value) t o (inl h) none = absurd (let k : true ≡ false = h.1 in cc)
node_some leaves (Scalar p style value) t o (inr (inl (gap, text, end, gap_is, is, apart, end_is, e))) none =
    none_inside gap text end (leaves.flow_content (Scalar p style value) most_open 0 false text is) (sym e ∙ none)
node_some leaves (Scalar p style value) t o (inr (inr (gap, front, scalar, gap_is, front_is, h, e))) none =
    none_inside gap (front ++ scalar) [] (leaves.block_content p style value 0 front scalar o front_is h)
    (cc (append-nil (front ++ scalar)))
node_some leaves (Seq p nodes) t o (inl (gap, text, end, gap_is, is, apart, end_is, e)) none =
    none_inside gap text end (leaves.flow_content (Seq p nodes) most_open 0 false text is) (sym e ∙ none)
node_some leaves (Seq p nodes) t o (inr (m, lead, entries, lead_is, h, e)) none =
    none_inside lead entries [] (entries_content nodes m entries o h) (cc (append-nil entries))
node_some leaves (Map p pairs) t o (inl (gap, text, end, gap_is, is, apart, end_is, e)) none =
    none_inside gap text end (leaves.flow_content (Map p pairs) most_open 0 false text is) (sym e ∙ none)
node_some leaves (Map p pairs) t o (inr (m, lead, entries, lead_is, h, e)) none =
    none_inside lead entries [] (pairs_content leaves pairs m entries o h) (cc (append-nil entries))

bare_node : {limit : ℕ} {start : State} → ReadsLeaves limit → (node : Node) (t others : List ℕ) (ts : List Kind)
    → has_marker true t ≡ false → IsBlockNode most_open node AtStart t others
    → FollowsDocument others → HasNoReturn t
    → (v : StandsLined limit start true true (t ++ others) ts) → NodeStands limit start node AtStart others ts
bare_node {limit} {start} leaves node t others ts unmarked h follows clean v =
    let some : (t ++ others ≡ []) → ⊥ = λ e. node_some leaves node t others h (none_here t others e) in
    let clear = bare_clear v.mark t others v.line.0 clean unmarked (node_ends leaves node AtStart t others h) in
    reads_root leaves AtStart refl node t others ts h follows v
    (record { clear = clear; below = v.count; lined = v.lined }) (col some v.line.0) (λ _. opened some (v.line.1 refl))
  where
    col : ((t ++ others ≡ []) → ⊥) → AtLine (t ++ others) v.mark → v.mark.col ≡ 0
    col some (inl e) = e
    col some (inr e) = absurd (some e)

    opened : ((t ++ others ≡ []) → ⊥) → ((crosses v.there.rest || v.allowed) ≡ true) ⊎ (t ++ others ≡ [])
        → (crosses v.there.rest || v.allowed) ≡ true
    opened some (inl e) = e
    opened some (inr e) = absurd (some e)

explicit_node : {limit : ℕ} {start : State} → ReadsLeaves limit → (node : Node) (t others : List ℕ) (ts : List Kind)
    → has_marker false t ≡ false → IsBlockNode most_open node BehindMarker t others
    → FollowsDocument others → HasNoReturn t
    → (v : StandsInStream limit start true (BehindStart (t ++ others)) (t ++ others) ts)
    → NodeStands limit start node BehindMarker others ts
explicit_node {limit} {start} leaves node t others ts unmarked h follows clean v =
    let clear = explicit_clear v.mark t others v.line.0 clean unmarked
    (node_ends leaves node BehindMarker t others h) in
    reads_root leaves BehindMarker refl node t others ts h follows v
    (record { clear = clear; below = v.count; lined = v.lined }) tt (λ e. v.line.1 ∙ e)

token_list : (ts directives node : List Kind) (k : Kind)
    → ((ts ++ directives) ++ k ∷ []) ++ node ≡ ts ++ (directives ++ k ∷ node)
token_list ts directives node k = simp append_assoc

-- from a `---` on, after the document's directives
reads_explicit : {limit : ℕ} {start : State} {now opened : Bool} → ReadsLeaves limit
    → (d : Document) (free : Bool) (t others : List ℕ) (ts : List Kind) → IsTrue free ⊎ (d.directives ≡ [])
    → d.explicit ≡ true → AreCompatible d.directives
    → has_marker false t ≡ false → IsBlockNode most_open d.node BehindMarker t others
    → FollowsDocument others → HasNoReturn t
    → StandsLined limit start now opened (hyphen ∷ hyphen ∷ hyphen ∷ (t ++ others))
    (ts ++ map directive_token d.directives) → DocumentStands limit start d free others ts
reads_explicit {limit = limit} {start = start} leaves d free t others ts may explicit compatible unmarked is follows
    clean v =
    let n = explicit_node leaves d.node t others ((ts ++ map directive_token d.directives) ++ tokens.DocumentStart ∷ [])
    unmarked is follows clean (reads_start (t ++ others) v (explicit_first leaves d.node t others is follows)) in
    record {
      tokens = map directive_token d.directives ++ tokens.DocumentStart ∷ n.tokens;
      are = inr (may, (n.tokens, explicit, compatible, as_optional d.node BehindMarker n.tokens n.are, refl));
      stands = rw (token_list ts (map directive_token d.directives) n.tokens tokens.DocumentStart) at n.stands;
    }

pub text_of_document : (directives node others : List ℕ) → (directives ++ (hyphen ∷ hyphen ∷ hyphen ∷ node)) ++ others
    ≡ directives ++ (hyphen ∷ hyphen ∷ hyphen ∷ (node ++ others))
text_of_document directives node others = simp append_assoc

-- where directives may be, no key is asked for
unopened : {limit : ℕ} {start : State} {free opened : Bool} {o : List ℕ} {ts : List Kind}
    → StandsLined limit start free opened o ts → StandsLined limit start free false o ts
unopened {o = o} v = passes_over v (Lined false o) v.mark o refl v.count (v.line.0, λ e. absurd (cc)) v.lined

-- The scanner has read a document's directives, and comes before its `---`.
pub record MarkerStands (limit : ℕ) (start : State) (d : Document) (y : List ℕ) (ts : List Kind) : Type 0 where
  pub free : Bool
  pub opened : Bool
  pub stands : StandsLined limit start free opened (hyphen ∷ hyphen ∷ hyphen ∷ y)
      (ts ++ map directive_token d.directives)

pub reads_front : {limit : ℕ} {start : State} → ReaderPromises
    → (d : Document) (free : Bool) (directives y : List ℕ) (ts : List Kind) → IsTrue free ⊎ (d.directives ≡ [])
    → AreDirectives d.directives directives
    → StandsLined limit start free free (directives ++ (hyphen ∷ hyphen ∷ hyphen ∷ y))
    ts → MarkerStands limit start d y ts
reads_front {limit = limit} {start = start} readers d free directives y ts (inl is_free) are v =
    let t = directives ++ (45 ∷ 45 ∷ 45 ∷ y) in
    record {
      free = true;
      opened = false;
      stands = reads_directives readers d.directives directives (45 ∷ 45 ∷ 45 ∷ y) ts are (unopened (rw is_free at v));
    }
reads_front {limit = limit} {start = start} readers d free directives y ts (inr none) are v =
    let empty = no_directives d directives none are in
    let first = subst (λ (x : List ℕ). StandsLined limit start free free (x ++ (45 ∷ 45 ∷ 45 ∷ y)) ts) empty v in
    record { free = free; opened = free; stands = rw (none, append-nil ts) first }

-- a bare node is not left out
some_node : (node : Node) (ts : List Kind) → AreRead node AtStart ts → grammar.YieldsNode node grammar.InBlock ts
some_node node ts (inr h) = h
some_node node ts (inl h) = absurd (let k : true ≡ false = h.0 in cc)

pub reads_document : {limit : ℕ} {start : State} → ReaderPromises → ReadsLeaves limit
    → (d : Document) (free : Bool) (t others : List ℕ) (ts : List Kind)
    → yaml.IsDocument (IsBlockNode most_open) d free t others
    → FollowsDocument others → HasNoReturn t
    → StandsLined limit start free free (t ++ others) ts → DocumentStands limit start d free others ts
reads_document {limit = limit} {start = start} readers leaves d free t others ts (inl (is_free, (same, unmarked, is)))
    follows clean v =
    let n = bare_node leaves d.node t others ts unmarked is follows clean (rw is_free at v) in
    record {
      tokens = n.tokens;
      are =
          inl (
            is_free,
            grind (arith, some_node),
          );
      stands = n.stands;
    }
reads_document {limit = limit} {start = start} readers leaves d free t others ts
    (inr (may, (directives, node, explicit, compatible, are, unmarked, is, e))) follows clean v =
    let text = ap (λ (x : List ℕ). x ++ others) e ∙ text_of_document directives node others in
    let f = reads_front readers d free directives (node ++ others) ts may are (lined_so text v) in
    reads_explicit leaves d free node others ts may explicit compatible unmarked is follows
    (back_in _ (45 ∷ 45 ∷ 45 ∷ []) node (back_in _ directives (45 ∷ 45 ∷ 45 ∷ node) (rw e at clean))) f.stands
