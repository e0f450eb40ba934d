-- The node of a document is read (YAML 1.2.2, chapter 9).
use Rattle.yaml_laws.proofs.Common.{Bool, List, [], ap, arith, false, inl, inr, refl, subst, sym, true, ℕ, ◌++◌, ◌∙◌, ◌∷◌, ◌≡◌, None, Option, nat_le, ◌&&◌, ◌||◌, line_feed, Marker, ◌>>=◌, is_too_far, Candidate, Place, State, Kind, Node, most_open, has_marker, cursor_at, eq-eqb}
use Rattle.saphyr_scanner.specs.Steps.Fetch.{fetch, fetch_here}
use Rattle.saphyr_scanner.specs.Steps.Unrolling.{unroll}
use Rattle.yaml_laws.specs.Grammar.BlockNodes.{Position as Position, indent_at, IsBlockNode}
use Rattle.yaml_laws.proofs.Flow.Places.{behind_character, moved_count}
use Rattle.yaml_laws.proofs.Flow.GapSteps.{past_again}
use Rattle.yaml_laws.proofs.InBlock.LineStarts.{fed_marks, last_marks}
use Rattle.yaml_laws.proofs.Documents.Stands.{StandsLined, AtLine, OffLine, StandsInStream}
use Rattle.yaml_laws.proofs.InBlock.States.{Moment, root, moment_at, state_of, tabbed, crosses, IsStop, is_compact, IsPlaced, Before, IsClear, EndsDocument, marks_line, moved, past}
use Rattle.yaml_laws.proofs.InBlock.Gaps.{past_stops}
use Rattle.yaml_laws.proofs.InBlock.Untabbed.{settles}
use Rattle.yaml_laws.proofs.InBlock.Follows.{goes_alike, left_key, left_again, lands as land, arrives_at, stays_open, left_none}
use Rattle.yaml_laws.proofs.InBlock.Closing.{ended_alike, stream_ends, with_text}
use Rattle.yaml_laws.proofs.InBlock.Lines.{FitsOnLines, moved_lined}
use Rattle.yaml_laws.proofs.InBlock.Statements.{EndsNodeAt, EndsWithLine, AreRead, ReadsLeaves}
use Rattle.yaml_laws.proofs.InBlock.Texts.{node_ends}
use Rattle.yaml_laws.proofs.InBlock.Parts.{starts_behind}
use Rattle.yaml_laws.proofs.InBlock.Nodes.{reads_node}
use Rattle.yaml_laws.proofs.InBlock.Documents.Ends.{HasNoReturn, FollowsDocument}

-- ## The text of a node is clear

-- a text after which a line starts ends with a break
feed_last : (m : Marker) (c : ℕ) (cs : List ℕ) → (moved m (c ∷ cs)).col ≡ 0
    → (front : List ℕ) × (c ∷ cs ≡ front ++ (line_feed ∷ []))
feed_last m c [] e = grind arith
feed_last m c (d ∷ ds) e = let r = feed_last (behind_character m c) d ds e in (c ∷ r.0, ap (λ (x : List ℕ). c ∷ x) r.1)

pub node_marks : (at_start : Bool) (t o : List ℕ) → EndsWithLine t o → marks_line at_start t o ≡ has_marker at_start t
node_marks at_start t o (inr e) = rw e (last_marks at_start t)
node_marks at_start [] o (inl h) = refl
node_marks at_start (c ∷ cs) o (inl h) =
    let f = feed_last (record { index = 0; line = 1; col = 0 }) c cs (h (record { index = 0; line = 1; col = 0 })) in
    subst (λ (t : List ℕ). marks_line at_start t o ≡ has_marker at_start t) (sym f.1) (fed_marks at_start f.0 o)

pub none_here : (t others : List ℕ) → t ++ others ≡ [] → t ≡ []
none_here [] others e = refl
none_here (c ∷ cs) others e = absurd (cc)

-- a bare document's text
pub bare_clear : (m : Marker) (t others : List ℕ) → AtLine (t ++ others) m → HasNoReturn t → has_marker true t ≡ false
    → EndsWithLine t others → IsClear m t others
bare_clear m t others h k e g = grind (arith, eq-eqb, node_marks, none_here)

-- the text after a `---`
pub explicit_clear : (m : Marker) (t others : List ℕ) → OffLine m → HasNoReturn t → has_marker false t ≡ false
    → EndsWithLine t others → IsClear m t others
explicit_clear m t others e clean h ends = record { no_return = clean; no_marker = cc (node_marks false t others ends) }

-- ## The node of a document

-- The scanner has read a document's node, and comes after it.
pub record NodeStands (limit : ℕ) (start : State) (node : Node) (place : Position) (others : List ℕ) (ts : List Kind) :
    Type 0 where
  pub tokens : List Kind
  pub are : AreRead node place tokens
  pub stands : StandsLined limit start false false others (ts ++ tokens)

-- at the end of a document it doesn't matter where content would have to be
flat_here : (n : Moment) (ps : List Place) → n.required ≡ false → EndsDocument n.cursor.mark n.cursor.rest
    → fetch_here (state_of root n ps) ≡ fetch_here (state_of root (record n { deeper = false }) ps)
unfolding unroll
flat_here n ps free (inl e) =
    subst (λ (z : List ℕ). fetch_here (state_of root (with_text n z) ps)
    ≡ fetch_here (state_of root (record (with_text n z) { deeper = false }) ps)) (sym e)
    (stream_ends root n ps free ∙ sym (stream_ends root (record n { deeper = false }) ps free))
flat_here n ps free (inr h) = ended_alike root root n false ps ps h.0 h.1 refl

flat : (m : Marker) (y : List ℕ) (blank : Bool) (key : Option Candidate) (a : Bool) (ad : ℕ) (deeper : Bool)
    (ps : List Place) → IsStop y → is_too_far key m ≡ false → EndsDocument m y
    → fetch (state_of root (moment_at m y blank key a ad deeper) ps)
    ≡ fetch (state_of root (moment_at m y blank key a ad false) ps)
unfolding fetch
flat m y blank key a ad deeper ps stop near ends =
    let arrived = λ (d : Bool). ap (λ r. r >>= fetch_here) (arrives_at root m y blank key a ad d ps stop near)
    ∙ ap fetch_here (stays_open root false m y blank key a ad d ps (omega arith)) in
    arrived deeper ∙ flat_here (moment_at m y blank key a ad (deeper && nat_le 0 m.col)) ps refl ends
    ∙ sym (arrived false)

-- at the root no tab is left of what is enclosed
untabbed : (m : Marker) (blank : Bool) (t : List ℕ) → tabbed 0 m blank false t ≡ false
untabbed m blank t = (settles 0 m t (past_stops m t)).1 0 (omega arith) blank

-- A document's node is read where no collection is open. What the stream's statements say of a moment before the node
-- and after it is put into the words of nodes: before it the next token is reached, and after it the document ends,
-- where it doesn't matter how far right content would have to be (`flat`).
pub reads_root : {limit : ℕ} {start : State} {P : Marker → Bool → Type 0} → ReadsLeaves limit → (place : Position)
    → indent_at place ≡ 0 → (node : Node) (t others : List ℕ) (ts : List Kind)
    → IsBlockNode most_open node place t others → FollowsDocument others
    → (v : StandsInStream limit start true P (t ++ others) ts)
    → FitsOnLines limit v.mark t others → IsPlaced place v.mark
    → ((is_compact place || crosses (t ++ others)) ≡ true → (crosses v.there.rest || v.allowed) ≡ true)
    → NodeStands limit start node place others ts
reads_root {limit} {start} leaves place flat_place node t others ts h follows v fits placed opens =
    let q = past 0 v.mark (t ++ others) in
    let n : Moment = record {
      cursor = v.there;
      key = v.key;
      allowed = v.allowed;
      adjacent = v.adjacent;
      deeper = false;
      required = false;
      comment = v.comment;
    } in
    let l = land root n v.places q.0 q.1 refl v.fits (untabbed v.there.mark v.there.blank_so_far v.there.rest)
    (inl (v.quiet refl)) in
    let before : Before limit start place root v.mark (t ++ others) ts = record {
      at = record {
        blank = l.0;
        key = left_key v.key q.0;
        allowed = crosses v.there.rest || v.allowed;
        adjacent = v.adjacent;
        deeper = false;
        places = v.places;
        follows = goes_alike v.follows l.1 refl;
        stop = past_stops v.mark (t ++ others);
        near = left_again v.key q.0;
        are = v.are;
        low = v.low;
      };
      none = left_none v.key (v.none refl) q.0;
      allows = opens;
      placed = placed;
    } in
    let ends = node_ends leaves node place t others h in
    let m = moved v.mark t in
    let line = starts_behind v.mark t others ends in
    let behind : EndsNodeAt 0 m others = record { left = inl (follows.lands m line); clean = follows.clean } in
    let r = reads_node leaves node place root (sym flat_place) v.mark t others h fits behind start ts before in
    let u = r.arrived.at in
    let p = past 0 m others in
    record {
      tokens = r.tokens;
      are = r.are;
      stands = record {
        there = cursor_at p.1 p.0 u.blank;
        key = u.key;
        allowed = u.allowed;
        adjacent = u.adjacent;
        comment = None;
        places = u.places;
        mark = m;
        none = λ e. absurd (unopened e);
        follows = goes_alike u.follows
            (flat p.0 p.1 u.blank u.key u.allowed u.adjacent u.deeper u.places u.stop u.near (follows.lands m line))
            refl;
        fits = past_again 0 m others;
        line = (line, λ e. absurd (unopened e));
        count =
            (omega (arith, (moved_count v.mark t others), v.count));
        are = u.are;
        quiet = λ _. refl;
        low = u.low;
        lined = moved_lined v.mark t v.lined;
      };
    }
  where
    unopened : false ≡ true → ⊥
    unopened e = cc
