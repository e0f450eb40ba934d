-- The productions of nodes and collections in flow style, from their parts.
use Rattle.std.proofs.Common.{◌≡◌, ℕ, suc, ◌-◌, ◌≤◌, arith, Bool, true, false, List, [], ◌∷◌, ◌++◌, refl, sym, ap, ◌∙◌, append_assoc, subst, inl, inr}
use Rattle.std.specs.Prelude.{◌⊎◌}
use Rattle.std.proofs.lemmas.List.{append-nil}
use Rattle.saphyr_input.specs.Classes.{is_blank}
use Rattle.saphyr_scalar.specs.Reading.BlockLines.{spaces}
use Rattle.saphyr_scalar.specs.Spelling.Tag.{AreIn}
use Rattle.scalar_laws.specs.Spelling.Spaces.{IsCommentBehind, IsSeparation, IsSeparationLine, AreEach, joined_pieces}
use Rattle.saphyr_scanner.specs.Grammar.Forest.{Node, Seq, Map, NoNode, MoreNodes, NoPair, MorePairs, no_properties}
use Rattle.yaml_laws.specs.Grammar.FlowNodes.{IsBeforeSeparation, IsLoneMark, IsPair, IsPairItem}
use Rattle.yaml_standard.specs.declared.goal.Flow.{Flow}
use Rattle.yaml_standard.specs.declared.goal.Goal.TheVariants as goal
use Rattle.yaml_standard.specs.declared.goal.Kind.{Kind}
use Rattle.yaml_standard.specs.declared.goal.Kind.TheVariants as kind
use Rattle.yaml_standard.specs.Goals.{Closes, Derives, EndsEntry, IsNodeIn, IsPairIn, IsRest, IsSomeCollection, AreFlowEntries, AreOthers, last_bracket, first_bracket}
use Rattle.yaml_standard.specs.Leaves.{IsLeaf, IsSomeFront}
use Rattle.yaml_standard.specs.Takes.{TakesOff}
use Rattle.yaml_standard.proofs.Pieces.{joined, known_then, taken_so, then_known}

-- ## Nodes

pub leaf_node : (at : Flow) (a b : List ℕ) → TakesOff (IsLeaf true at.indent) a b → Closes (goal.Node at) a b
leaf_node at a b s = taken_so {P = IsLeaf true at.indent} (λ p h. (h.0, h.1 at.room)) s

pub collection_node : (at : Flow) (a b : List ℕ) → TakesOff (IsSomeCollection at) a b → Closes (goal.Node at) a b
collection_node at a b s = taken_so {P = IsSomeCollection at} (λ p h. (h.0, h.2)) s

abbrev pub flow : ℕ → ℕ → Flow
flow room indent = record { room = room; indent = indent }

pub one_less : (room left : ℕ) → 1 ≤ room → left ≡ room - 1 → room ≡ suc left
one_less room left some is = omega (arith, some, is)

-- a bracket, and the rest of a collection
abbrev IsInside : Kind → Flow → List ℕ → Type 0
IsInside kind at t =
    (rest : List ℕ) × IsRest (AreFlowEntries kind at) at.indent (last_bracket kind) rest
    × (t ≡ first_bracket kind ∷ rest)

cut_at_bracket : (bracket close : ℕ) (p q s e rest : List ℕ) → q ≡ bracket ∷ rest → rest ≡ s ++ (e ++ close ∷ [])
    → p ++ q ≡ (p ++ (bracket ∷ s)) ++ (e ++ close ∷ [])
cut_at_bracket bracket close p q s e rest f g =
    ap (λ x. p ++ x) (f ∙ ap (λ x. bracket ∷ x) g) ∙ sym (append_assoc p (bracket ∷ s) (e ++ close ∷ []))

collection_of : (kind : Kind) (at : Flow) (left : ℕ) (p q : List ℕ) → at.room ≡ suc left → IsSomeFront at.indent p
    → IsInside kind (flow left at.indent) q → IsSomeCollection at (p ++ q)
collection_of kind.Sequence at left p q room (properties, before) (rest, (s, e, is, (nodes, are), g), f) = (
  Seq properties nodes,
  tt,
  (left, p ++ (91 ∷ s), e, room, (p, s, before, is, refl), are, cut_at_bracket 91 93 p q s e rest f g),
)
collection_of kind.Mapping at left p q room (properties, before) (rest, (s, e, is, (pairs, are), g), f) = (
  Map properties pairs,
  tt,
  (left, p ++ (123 ∷ s), e, room, (p, s, before, is, refl), are, cut_at_bracket 123 125 p q s e rest f g),
)

pub collection_opened : (kind : Kind) (at : Flow) (left : ℕ) (a b c d : List ℕ) → at.room ≡ suc left
    → TakesOff (IsSomeFront at.indent) a b → b ≡ first_bracket kind ∷ c
    → Closes (goal.Entries (flow left at.indent) kind) c d
    → TakesOff (IsSomeCollection at) a d
collection_opened kind at left a b c d room front bracket rest =
    joined front
    (known_then {Q = IsRest (AreFlowEntries kind (flow left at.indent)) at.indent (last_bracket kind)}
    {R = IsInside kind (flow left at.indent)} (first_bracket kind ∷ []) (λ q k. (q, k, refl)) bracket rest)
    (λ p q h k. collection_of kind at left p q room h k)

-- a bracket that is known comes first
pub bracket_first : (x y : ℕ) (a b : List ℕ) → x ≡ y → a ≡ x ∷ b → a ≡ y ∷ b
bracket_first x y a b e f = f ∙ ap (λ z. z ∷ b) e

-- ## Entries

no_entries : (kind : Kind) (at : Flow) → AreFlowEntries kind at []
no_entries kind.Sequence at = (NoNode, refl)
no_entries kind.Mapping at = (NoPair, refl)

no_others : (kind : Kind) (at : Flow) → AreOthers kind at []
no_others kind.Sequence at = (NoNode, inl refl)
no_others kind.Mapping at = (NoPair, inl refl)

pub entries_end : (kind : Kind) (at : Flow) (a b c : List ℕ) → TakesOff (IsSeparation at.indent) a b
    → b ≡ last_bracket kind ∷ c → Closes (goal.Entries at kind) a c
entries_end kind at a b c s e =
    then_known {P = IsSeparation at.indent} (last_bracket kind ∷ []) (λ p k. (p, [], k, no_entries kind at, refl)) s e

pub others_end : (kind : Kind) (at : Flow) (a b c : List ℕ) → TakesOff (IsSeparation at.indent) a b
    → b ≡ last_bracket kind ∷ c → Closes (goal.AfterEntry at kind) a c
others_end kind at a b c s e =
    then_known {P = IsSeparation at.indent} (last_bracket kind ∷ []) (λ p k. (p, [], k, no_others kind at, refl)) s e

-- entries behind a comma
behind_comma : (kind : Kind) (at : Flow) (s e : List ℕ) → IsSeparation at.indent s → AreFlowEntries kind at e
    → AreOthers kind at (44 ∷ (s ++ e))
behind_comma kind.Sequence at s e is (NoNode, none) =
    (NoNode, inr (s, is, ap (λ x. 44 ∷ x) (ap (λ x. s ++ x) none ∙ append-nil s)))
behind_comma kind.Sequence at s e is (MoreNodes node nodes, (item, others, h, k, cut)) =
    (MoreNodes node nodes, (44 ∷ s, item, others, (s, is, refl), h, k, ap (λ x. 44 ∷ (s ++ x)) cut))
behind_comma kind.Mapping at s e is (NoPair, none) =
    (NoPair, inr (s, is, ap (λ x. 44 ∷ x) (ap (λ x. s ++ x) none ∙ append-nil s)))
behind_comma kind.Mapping at s e is (MorePairs key value pairs, (pair, others, h, k, cut)) =
    (MorePairs key value pairs, (44 ∷ s, pair, others, (s, is, refl), h, k, ap (λ x. 44 ∷ (s ++ x)) cut))

abbrev IsBehindComma : Kind → Flow → List ℕ → Type 0
IsBehindComma kind at t = (e : List ℕ) × AreOthers kind at e × (t ≡ e ++ last_bracket kind ∷ [])

comma_and : (kind : Kind) (at : Flow) (q : List ℕ) → IsRest (AreFlowEntries kind at) at.indent (last_bracket kind) q
    → IsBehindComma kind at (44 ∷ q)
comma_and kind at q (s, e, is, are, cut) = (
  44 ∷ (s ++ e),
  behind_comma kind at s e is are,
  ap (λ x. 44 ∷ x) (cut ∙ sym (append_assoc s e (last_bracket kind ∷ []))),
)

pub others_more : (kind : Kind) (at : Flow) (a b c d : List ℕ) → TakesOff (IsSeparation at.indent) a b → b ≡ 44 ∷ c
    → Closes (goal.Entries at kind) c d → Closes (goal.AfterEntry at kind) a d
others_more kind at a b c d s e t =
    joined s
    (known_then {Q = IsRest (AreFlowEntries kind at) at.indent (last_bracket kind)}
    {R = IsBehindComma kind at} (44 ∷ [])
    (λ q k. comma_and kind at q k) e t)
    (λ p q h k. (p, k.0, h, k.1, ap (λ x. p ++ x) k.2))

-- an entry, with the separation after it
abbrev pub IsEntry : Kind → Flow → List ℕ → Type 0
IsEntry kind.Sequence at t =
    (node : Node) × (IsBeforeSeparation (IsNodeIn at node) at.indent t ⊎ IsPairItem at.room node at.indent t)
IsEntry kind.Mapping at t = (key value : Node) × IsPair key value (IsNodeIn at key) (IsNodeIn at value) at.indent t

-- with any separation that begins what is left
abbrev pub IsEntryBefore : Kind → Flow → List ℕ → List ℕ → Type 0
IsEntryBefore kind at left t =
    (s x : List ℕ) → IsSeparation at.indent s → left ≡ s ++ x → IsEntry kind at (t ++ s)

entry_and : (kind : Kind) (at : Flow) (p o : List ℕ) → IsEntry kind at p → AreOthers kind at o
    → AreFlowEntries kind at (p ++ o)
entry_and kind.Sequence at p o (node, h) (nodes, k) = (MoreNodes node nodes, (p, o, h, k, refl))
entry_and kind.Mapping at p o (key, value, h) (pairs, k) = (MorePairs key value pairs, (p, o, h, k, refl))

abbrev AreFromEntry : Kind → Flow → List ℕ → Type 0
AreFromEntry kind at t = (e : List ℕ) × AreFlowEntries kind at e × (t ≡ e ++ last_bracket kind ∷ [])

from_entry : (kind : Kind) (at : Flow) (b c d : List ℕ) → TakesOff (IsEntryBefore kind at c) b c
    → Closes (goal.AfterEntry at kind) c d → TakesOff (AreFromEntry kind at) b d
from_entry kind at b c d entry rest =
    let p = entry.piece in
    let k = rest.is in
    let end = k.1 ++ last_bracket kind ∷ [] in
    let is_entry = entry.is k.0 (end ++ d) k.2 (rest.cut ∙ ap (λ x. x ++ d) k.4 ∙ append_assoc k.0 end d) in
    record {
      piece = p ++ rest.piece;
      is = (
        (p ++ k.0) ++ k.1,
        entry_and kind at (p ++ k.0) k.1 is_entry k.3,
        ap (λ x. p ++ x) k.4 ∙ sym (append_assoc p k.0 end)
            ∙ sym (append_assoc (p ++ k.0) k.1 (last_bracket kind ∷ [])),
      );
      cut = entry.cut ∙ ap (λ x. p ++ x) rest.cut ∙ sym (append_assoc p rest.piece d);
    }

pub entry_first : (known kind : Kind) (at : Flow) (a b c d : List ℕ) → kind ≡ known
    → TakesOff (IsSeparation at.indent) a b
    → TakesOff (IsEntryBefore known at c) b c → Closes (goal.AfterEntry at known) c d
    → Closes (goal.Entries at kind) a d
entry_first known kind at a b c d is s entry rest =
    subst (λ (k : Kind). Closes (goal.Entries at k) a d) (sym is)
    (joined s (from_entry known at b c d entry rest) (λ p q h k. (p, k.0, h, k.1, ap (λ x. p ++ x) k.2)))

pub node_entry : (at : Flow) (a b : List ℕ) → Closes (goal.Node at) a b
    → TakesOff (IsEntryBefore kind.Sequence at b) a b
node_entry at a b t =
    taken_so {P = λ x. Derives (goal.Node at) x b} (λ p h s x is e. (h.0, inl (p, s, h.1, is, refl))) t

-- ## Pairs that are entries

blank_first : (c : ℕ) (cs blanks : List ℕ) → c ∷ cs ≡ blanks → AreIn is_blank blanks → is_blank c ≡ true
blank_first c cs [] e h = absurd (cc)
blank_first c cs (b ∷ bs) e h = let same : c ≡ b = cc in subst (λ (x : ℕ). is_blank x ≡ true) (sym same) h.0

line_first : (c : ℕ) (cs blanks comment rest : List ℕ) → c ∷ cs ≡ blanks ++ (comment ++ (10 ∷ rest))
    → AreIn is_blank blanks → IsCommentBehind blanks comment → (is_blank c ≡ true) ⊎ (c ≡ 10)
line_first c cs [] comment rest e h (inl none) =
    let same : c ∷ cs ≡ 10 ∷ rest = e ∙ ap (λ x. x ++ (10 ∷ rest)) none in inr (cc)
line_first c cs [] comment rest e h (inr (some, is)) = absurd (some refl)
line_first c cs (b ∷ bs) comment rest e h k =
    let same : c ≡ b = cc in inl (subst (λ (x : ℕ). is_blank x ≡ true) (sym same) h.0)

separation_first : (indent c : ℕ) (cs : List ℕ) → IsSeparation indent (c ∷ cs) → (is_blank c ≡ true) ⊎ (c ≡ 10)
separation_first indent c cs (lines, blanks, (pieces, each, lines_are), are, e) = by_pieces pieces each lines_are
  where
    by_pieces : (pieces : List (List ℕ)) → AreEach (IsSeparationLine indent) pieces → lines ≡ joined_pieces pieces
        → (is_blank c ≡ true) ⊎ (c ≡ 10)
    by_pieces [] each none = inl (blank_first c cs blanks (e ∙ ap (λ x. x ++ blanks) none) are)
    by_pieces (p ∷ ps) ((first, comment, filler, first_are, k, filler_is, line_is), others) is =
        let rest = filler ++ spaces indent in
        let whole : c ∷ cs ≡ first ++ (comment ++ (10 ∷ (rest ++ (joined_pieces ps ++ blanks)))) =
        e ∙ ap (λ (t : List ℕ). t ++ blanks) is ∙ ap (λ (t : List ℕ). (t ++ joined_pieces ps) ++ blanks) line_is
        ∙ simp append_assoc in
        line_first c cs first comment (rest ++ (joined_pieces ps ++ blanks)) whole first_are k

no_separation : (indent : ℕ) (s x left : List ℕ) → IsSeparation indent s → left ≡ s ++ x → EndsEntry left → s ≡ []
no_separation indent [] x left is e ends = refl
no_separation indent (y ∷ ys) x left is e (c, others, no_blank, no_feed, f) =
    let same : c ∷ others ≡ y ∷ (ys ++ x) = sym f ∙ e in
    let first : y ≡ c = cc in
    absurd (neither (separation_first indent y ys is) first)
  where
    neither : ((is_blank y ≡ true) ⊎ (y ≡ 10)) → y ≡ c → ⊥
    neither (inl blank) first = absurd (cc)
    neither (inr feed) first = no_feed (sym first ∙ feed)

pair_of : (in_brackets : Bool) (at : Flow) (key value : Node) (p s x left : List ℕ)
    → IsPairIn in_brackets at key value p ⊎ (IsLoneMark key value at.indent p × EndsEntry left)
    → IsSeparation at.indent s → left ≡ s ++ x
    → IsLoneMark key value at.indent (p ++ s)
    ⊎ IsBeforeSeparation (IsPairIn in_brackets at key value) at.indent (p ++ s)
pair_of in_brackets at key value p s x left (inl h) is e = inr (p, s, h, is, refl)
pair_of in_brackets at key value p s x left (inr (lone, ends)) is e =
    let none = no_separation at.indent s x left is e ends in
    inl (subst (λ (y : List ℕ). IsLoneMark key value at.indent y) (sym (ap (λ y. p ++ y) none ∙ append-nil p)) lone)

pub pair_in_braces : (at : Flow) (a b : List ℕ) → Closes (goal.Pair at false) a b
    → TakesOff (IsEntryBefore kind.Mapping at b) a b
pair_in_braces at a b t =
    taken_so {P = λ p. Derives (goal.Pair at false) p b}
    (λ p h s x is e. (h.0, h.1, pair_of false at h.0 h.1 p s x b h.2 is e)) t

pub pair_in_brackets : (at : Flow) (a b : List ℕ) → Closes (goal.Pair at true) a b
    → TakesOff (IsEntryBefore kind.Sequence at b) a b
pair_in_brackets at a b t =
    taken_so {P = λ p. Derives (goal.Pair at true) p b}
    (λ p h s x is e. (
      Map no_properties (MorePairs h.0 h.1 NoPair),
      inr (refl, pair_of true at h.0 h.1 p s x b h.2 is e),
    ))
    t
