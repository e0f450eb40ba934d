-- The entries of braces and of brackets inside flow.
use Rattle.yaml_laws.proofs.Common.{◌≡◌, ℕ, Bool, true, false, List, [], ◌∷◌, ◌++◌, refl, sym, ap, ◌∙◌, subst, append_assoc, append-nil, ◌⊎◌, inl, inr, arith, None, Marker, IsSeparation, Context, Kind, Place, Level, State, no_properties, Node, Map, NoPair, MorePairs, IsBeforeSeparation, IsPairText, IsPair, IsSinglePairText, IsSinglePair, IsFlowNode}
use Rattle.saphyr_scanner.specs.declared.engine.level.Context.TheVariants as context
use Rattle.saphyr_scanner.specs.Grammar.Tokens as tokens
use Rattle.saphyr_scanner.specs.Grammar.TokenGrammar as grammar
use Rattle.yaml_laws.proofs.InFlow.States.{Around, state_at, FlowMoment, moment_in}
use Rattle.yaml_laws.proofs.Flow.States.{moved, past, PassesPiece, ended, IsNext, next_in, PassesNode}
use Rattle.yaml_laws.proofs.Flow.Places.{moved_append, moved_along}
use Rattle.yaml_laws.proofs.Flow.Fillers.{separation_past}
use Rattle.yaml_laws.proofs.Flow.Separates.{blanks_moved}
use Rattle.yaml_laws.proofs.Flow.Joins.{separation_joins, knowing}
use Rattle.yaml_laws.proofs.Flow.Pieces.{EndsEntry, fits_front, fits_so, IsBehindEntry, entry_behind, wider_entry}
use Rattle.yaml_laws.proofs.Flow.Pairs.{PieceTokens, mapped_so, key_passes, alone_passes}
use Rattle.yaml_laws.proofs.Flow.Collections.{InsidePasses}
use Rattle.yaml_laws.proofs.Flow.MarkedPairs.{MarkedTokens, IsMarked, explicit_passes, lone_passes}

-- ## A piece before the end of an entry

-- A text of Text before what ends an entry, where a key may begin, is passed in brackets of the context inner.
abbrev pub PassesText : Around → Context → ℕ → (List ℕ → Type 0) → (List Kind → Type 0) → Type 0
PassesText around inner room Text Is =
    (m : Marker) (t o : List ℕ) → IsBehindEntry around.indent o → Text t → (now : FlowMoment) → now.key ≡ None
    → now.allowed ≡ true → IsNext around room now m t o
    → InsidePasses around (state_at around (moment_in inner now)) inner Is now.outer now.places (moved m t) o

-- the same of an entry, with the separation after it
abbrev pub PassesEntry : Around → Context → ℕ → (List ℕ → Type 0) → (List Kind → Type 0) → Type 0
PassesEntry around inner room Text Is =
    (m : Marker) (t : List ℕ) (c : ℕ) (cs : List ℕ) → EndsEntry c → Text t → (now : FlowMoment) → now.key ≡ None
    → now.allowed ≡ true → IsNext around room now m t (c ∷ cs)
    → InsidePasses around (state_at around (moment_in inner now)) inner Is now.outer now.places (moved m t) (c ∷ cs)

ended_behind : {around : Around} {start : Bool → State} {x : Context} {ls : List Level} {ps : List Place}
    {ts : List Kind} (m : Marker) (w o : List ℕ) → IsSeparation around.indent w
    → PassesPiece around start (ended around.indent m (w ++ o)) x ls ps m (w ++ o) ts
    → PassesPiece around start (ended around.indent (moved m w) o) x ls ps (moved m w) o ts
ended_behind {around = around} m w o parts p = grind (arith, separation_joins, separation_past)

before_separation : {around : Around} {inner : Context} (room : ℕ) {Text : List ℕ → Type 0} {Is : List Kind → Type 0}
    → PassesText around inner room Text Is → PassesEntry around inner room (IsBeforeSeparation Text around.indent) Is
before_separation {around} {inner} room {Is = Is} passes m t c cs ends (piece, w, h, parts, e) now no_candidate fresh
    next =
    let texts = ap (λ (x : List ℕ). x ++ (c ∷ cs)) e ∙ append_assoc piece w (c ∷ cs) in
    let p = passes m piece (w ++ (c ∷ cs)) (wider_entry around.indent w cs c parts ends) h now no_candidate fresh
    (record {
      fits = fits_front m piece w (c ∷ cs) (fits_so m t (piece ++ w) (c ∷ cs) e next.fits);
      enough = next.enough;
      low = next.low;
      stands = next.stands ∙ ap (past around.indent m) texts;
    }) in
    let start = state_at around (moment_in inner now) in
    subst (λ (k : Marker). InsidePasses around start inner Is now.outer now.places k (c ∷ cs))
    (cc (moved_append m piece w)) (record {
      inside = p.inside;
      flows = p.flows;
      back = p.back;
      tokens = p.tokens;
      are = p.are;
      passes = ended_behind (moved m piece) w (c ∷ cs) parts p.passes;
    })

-- what is told of a piece in braces
in_mapping : {around : Around} {start : Bool → State} {Is : List Kind → Type 0} {ls : List Level} {ps : List Place}
    {m : Marker} {o : List ℕ} → PieceTokens around start Is context.FlowMapping ls ps m o
    → InsidePasses around start context.FlowMapping Is ls ps m o
in_mapping {Is = Is} p = record {
  inside = context.FlowMapping;
  flows = refl;
  back = refl;
  tokens = p.tokens;
  are = rw (append-nil p.tokens) p.are;
  passes = p.passes;
}

-- ## In braces

in_braces : IsMarked context.FlowMapping context.FlowMapping
in_braces = record { flows = refl; question = refl; inside = refl; no_pair = refl; colon = refl }

in_brackets : IsMarked context.FlowSequence context.ExplicitFlowPair
in_brackets = record { flows = refl; question = refl; inside = refl; no_pair = refl; colon = refl }

abbrev pub PairInBraces : Node → Node → List Kind → Type 0
PairInBraces key value t =
    grammar.YieldsFlowPair key value (grammar.YieldsNode key grammar.InFlow) (grammar.YieldsNode value grammar.InFlow) t

marked_in_braces : (key value : Node) (t : List Kind) → MarkedTokens key value t → PairInBraces key value t
marked_in_braces key value t (inl h) = inl h
marked_in_braces key value t (inr h) = inr (inl h)

-- By the form of the pair: a key alone, which is a node, a key and a value, a value alone, or a pair with a `?`. The
-- tokens are those of a pair in each of the grammar's four ways.
pair_text_passes : {around : Around} (room : ℕ) (key value : Node) → PassesNode around room key
    → PassesNode around room value → PassesText around context.FlowMapping room
    (IsPairText key value (IsFlowNode room key true around.indent) (IsFlowNode room value true around.indent)
    around.indent) (PairInBraces key value)
pair_text_passes {around} room key value K V m t o ends (inl (none, h)) now no_candidate fresh next =
    let n = K m t o (inl h) (entry_behind around.indent key o ends) (moment_in context.FlowMapping now) refl
    (next_in context.FlowMapping next) in
    in_mapping (record {
      tokens = n.tokens;
      are = inr (inr (inr (none, n.are)));
      passes = knowing n.passes (ended around.indent (moved m t) o) n.passes.knows.low;
    })
pair_text_passes room key value K V m t o ends (inr (inl h)) now no_candidate fresh next =
    in_mapping (mapped_so (λ ts (ks, vs, are, others, is).
    inl (tokens.Key ∷ ks, tokens.Value ∷ vs, (ks, inr are, refl), (vs, others, refl), is))
    (key_passes room key value K V context.FlowMapping refl m t o ends h (λ e. absurd (none e)) now fresh next))
  where
    none : false ≡ true → ⊥
    none e = cc
pair_text_passes room key value K V m t o ends (inr (inr (inl h))) now no_candidate fresh next =
    in_mapping (mapped_so (λ ts v. inr (inr (inl (h.0, v))))
    (alone_passes room key value V context.FlowMapping refl m t o ends h now no_candidate next))
pair_text_passes room key value K V m t o ends (inr (inr (inr h))) now no_candidate fresh next =
    in_mapping (mapped_so (marked_in_braces key value)
    (explicit_passes room key value K V context.FlowMapping context.FlowMapping in_braces m t o ends h now next))

-- a pair in braces, with the separation after it
pub pair_passes : {around : Around} (room : ℕ) (key value : Node) → PassesNode around room key
    → PassesNode around room value → PassesEntry around context.FlowMapping room
    (IsPair key value (IsFlowNode room key true around.indent) (IsFlowNode room value true around.indent) around.indent)
    (PairInBraces key value)
pair_passes room key value K V m t c cs ends (inl h) now no_candidate fresh next =
    in_mapping (mapped_so (marked_in_braces key value)
    (lone_passes room key value context.FlowMapping context.FlowMapping in_braces m t c cs ends h now next))
pair_passes room key value K V m t c cs ends (inr h) now no_candidate fresh next =
    search (before_separation, pair_text_passes)

-- ## In brackets

-- the tokens of an entry: those of a node, or of a mapping of one pair
abbrev pub IsEntry : Node → List Kind → Type 0
IsEntry node t = grammar.YieldsNode node grammar.InFlow t ⊎ grammar.YieldsPairEntry node t

-- a node, with the separation after it
pub node_item_passes : {around : Around} (room : ℕ) (node : Node) → PassesNode around room node
    → PassesEntry around context.FlowSequence room
    (IsBeforeSeparation (IsFlowNode room node true around.indent) around.indent) (IsEntry node)
node_item_passes {around} room node N =
    before_separation room (λ m t o ends h now no_candidate fresh next.
    let n = N m t o (inl h) (entry_behind around.indent node o ends) (moment_in context.FlowSequence now) refl
    (next_in context.FlowSequence next) in
    record {
      inside = context.FlowSequence;
      flows = refl;
      back = refl;
      tokens = n.tokens;
      are = inl (rw (append-nil n.tokens) n.are);
      passes = knowing n.passes (ended around.indent (moved m t) o) n.passes.knows.low;
    })

-- the mapping of one pair
abbrev pub single : Node → Node → Node
single key value = Map no_properties (MorePairs key value NoPair)

between : (key value : Node) (t : List Kind) → PairInBraces key value t
    → IsEntry (single key value) (tokens.FlowMappingStart ∷ (t ++ tokens.FlowMappingEnd ∷ []))
between key value t h = inl (
  [],
  tokens.FlowMappingStart
      ∷ (t ++ tokens.FlowMappingEnd ∷ []),
  refl,
  inl (t, (t, [], h, inl refl, sym (append-nil t)), refl),
  refl,
)

-- By the form of the pair, as in braces. Without a `?` the colon begins a mapping of one pair, whose end is still to
-- come (`context.FlowPair`). With it the mapping has no tokens of its own (`context.ExplicitFlowPair`).
single_text_passes : {around : Around} (room : ℕ) (key value : Node) → PassesNode around room key
    → PassesNode around room value → PassesText around context.FlowSequence room
    (IsSinglePairText key value (IsFlowNode room key true around.indent) (IsFlowNode room value true around.indent)
    around.indent) (IsEntry (single key value))
single_text_passes room key value K V m t o ends (inl (node, blanks, colon, h, line, are, apart, c, e)) now
    no_candidate fresh next =
    let p = key_passes room key value K V context.FlowSequence refl m t o ends
    ((node, blanks, colon, h, ([], blanks, ([], tt, refl), are, refl), apart, c, e))
    (λ _. (cc (blanks_moved (moved m node) blanks are, moved_along m node line))) now fresh next in
    let ks = p.are.0 in
    let vs = p.are.1 in
    let known = inl (tokens.Key ∷ ks, tokens.Value ∷ vs, (ks, inr p.are.2, refl), (vs, p.are.3, refl), refl) in
    let all = subst (λ (x : List Kind). IsEntry (single key value) (x ++ tokens.FlowMappingEnd ∷ [])) (sym p.are.4)
    (between key value (tokens.Key ∷ (ks ++ tokens.Value ∷ vs)) known) in
    record { inside = context.FlowPair; flows = refl; back = refl; tokens = p.tokens; are = all; passes = p.passes }
single_text_passes room key value K V m t o ends (inr (inl h)) now no_candidate fresh next =
    let p = alone_passes room key value V context.FlowSequence refl m t o ends h now no_candidate next in
    let vs = p.are.0 in
    let all = subst (λ (x : List Kind). IsEntry (single key value) (x ++ tokens.FlowMappingEnd ∷ [])) (sym p.are.2)
    (between key value (tokens.Value ∷ vs) (inr (inr (inl (h.0, (vs, p.are.1, refl)))))) in
    record { inside = context.FlowPair; flows = refl; back = refl; tokens = p.tokens; are = all; passes = p.passes }
single_text_passes room key value K V m t o ends (inr (inr h)) now no_candidate fresh next =
    let p = explicit_passes room key value K V context.FlowSequence context.ExplicitFlowPair in_brackets m t o ends h
    now next in
    record {
      inside = context.ExplicitFlowPair;
      flows = refl;
      back = refl;
      tokens = p.tokens;
      are = inr (refl, rw (append-nil p.tokens) p.are);
      passes = p.passes;
    }

-- a pair in brackets, with the separation after it
pub single_passes : {around : Around} (room : ℕ) (key value : Node) → PassesNode around room key
    → PassesNode around room value → PassesEntry around context.FlowSequence room
    (IsSinglePair key value (IsFlowNode room key true around.indent) (IsFlowNode room value true around.indent)
    around.indent) (IsEntry (single key value))
single_passes room key value K V m t c cs ends (inl h) now no_candidate fresh next =
    let p = lone_passes room key value context.FlowSequence context.ExplicitFlowPair in_brackets m t c cs ends h now
    next in
    record {
      inside = context.ExplicitFlowPair;
      flows = refl;
      back = refl;
      tokens = p.tokens;
      are = inr (refl, rw (append-nil p.tokens) p.are);
      passes = p.passes;
    }
single_passes room key value K V m t c cs ends (inr h) now no_candidate fresh next =
    search (before_separation, single_text_passes)
