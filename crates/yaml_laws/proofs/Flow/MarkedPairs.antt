-- Pairs that a `?` begins, inside flow.
use Rattle.yaml_laws.proofs.Common.{◌≡◌, ℕ, ◌<◌, ◌≤◌, Bool, true, false, List, [], ◌∷◌, ◌++◌, refl, sym, ap, ◌∙◌, arith, append_assoc, ◌⊎◌, inl, inr, None, question_mark, Marker, Context, Kind, is_block, behind_question, begins_pair, behind_colon, Node, left_out, IsColonAndValue, IsKeyAndValue, IsValueAlone, IsBehindMark, IsExplicitPair, IsLoneMark, IsFlowNode}
use Rattle.saphyr_scanner.specs.Grammar.Tokens as tokens
use Rattle.saphyr_scanner.specs.Grammar.TokenGrammar as grammar
use Rattle.yaml_laws.proofs.InFlow.States.{Around, state_at, FlowMoment, moment_in}
use Rattle.yaml_laws.proofs.Flow.States.{FitsAround, moved, past, IsContentStart, PassesPiece, no_key, ended, IsNext, next_in, PassesNode, after, StandsBefore}
use Rattle.yaml_laws.proofs.Flow.Places.{moved_append}
use Rattle.yaml_laws.proofs.Flow.GapSteps.{past_low, less_on}
use Rattle.yaml_laws.proofs.Flow.Joins.{join, separation_joins, knowing}
use Rattle.yaml_laws.proofs.Flow.Questions.{mark_passes}
use Rattle.yaml_laws.proofs.Flow.ContentStarts.{Begins, starts, begins_front, node_begins, key_text_begins, begins_with}
use Rattle.yaml_laws.proofs.Flow.Pieces.{EndsEntry, fits_front, fits_back, fits_so, IsBehindEntry, end_is_content, entry_behind, parted_by}
use Rattle.yaml_laws.proofs.Flow.Pairs.{PieceTokens, mapped_at, mapped_so, alone_passes, marked_key_passes}

-- the tokens of such a pair
abbrev pub MarkedTokens : Node → Node → List Kind → Type 0
MarkedTokens key value t =
    grammar.YieldsSinglePair key value (grammar.YieldsNode key grammar.InFlow) (grammar.YieldsNode value grammar.InFlow)
    t

-- what a `?` begins, in a context y, where what comes after it is in the context z
pub record IsMarked (y z : Context) : Type 0 where
  pub flows : is_block y ≡ false
  pub question : behind_question y ≡ z
  pub inside : is_block z ≡ false
  pub no_pair : begins_pair z ≡ false
  pub colon : behind_colon z ≡ z

-- the `?` and the separation after it
mark_behind : (around : Around) (y z : Context) → IsMarked y z → (m : Marker) (separation o : List ℕ)
    → FitsAround around m (question_mark ∷ separation) o → IsBehindMark around.indent separation
    → (first : ℕ) (others : List ℕ) → o ≡ first ∷ others → IsContentStart first → (now : FlowMoment)
    → now.adjacent ≤ m.index → StandsBefore around now m (question_mark ∷ (separation ++ o))
    → PassesPiece around (state_at around (moment_in y now)) (no_key (moved m (question_mark ∷ separation))) z now.outer
    now.places
    (moved m (question_mark ∷ separation)) o (tokens.Key ∷ [])
mark_behind around y z c m separation o fits (some, parts, tabs) first others is content now before text =
    let parted = parted_by around.indent separation o parts (begins_with first others o is content) in
    let f = fits_front m (63 ∷ []) separation o fits in
    let p = mark_passes around y c.flows m (separation ++ o) f parted some tabs now before text in
    let start = state_at around (moment_in y now) in
    let q = separation_joins (moved m (63 ∷ [])) separation o parts p in
    rw c.question at (knowing q (no_key (moved m (63 ∷ separation)))
    (q.knows.0, q.knows.1, less_on q.adjacent (moved m (63 ∷ [])) separation q.knows.2))

-- ## A key, a value or both after the mark

colon_begins : (indent : ℕ) (adjacent : Bool) (value : Node) (V : List ℕ → Type 0) (t : List ℕ)
    → IsColonAndValue adjacent value V indent t → Begins t
colon_begins indent adjacent value V t h = grind (arith, starts)

pub alone_begins : (indent : ℕ) (key value : Node) (V : List ℕ → Type 0) (t : List ℕ)
    → IsValueAlone key value V indent t → Begins t
alone_begins indent key value V t h = colon_begins indent false value V t h.1

pub key_begins : (indent room : ℕ) (key value : Node) (V : List ℕ → Type 0) (t : List ℕ)
    → IsKeyAndValue key value (IsFlowNode room key true indent) V indent t → Begins t
key_begins indent room key value V t (node, separation, colon, h, parts, apart, c, e) =
    search (begins_front, key_text_begins)

-- what comes after the separation of a mark
abbrev Inside : ℕ → ℕ → Node → Node → List ℕ → Type 0
Inside indent room key value t = ((value ≡ left_out) × IsFlowNode room key true indent t)
    ⊎ (IsValueAlone key value (IsFlowNode room value true indent) indent t
    ⊎ IsKeyAndValue key value (IsFlowNode room key true indent) (IsFlowNode room value true indent) indent t)

inside_begins : (indent room : ℕ) (key value : Node) (t : List ℕ) → Inside indent room key value t → Begins t
inside_begins indent room key value t (inl h) = node_begins indent room key true t h.1
inside_begins indent room key value t (inr (inl h)) =
    alone_begins indent key value (IsFlowNode room value true indent) t h
inside_begins indent room key value t (inr (inr h)) =
    key_begins indent room key value (IsFlowNode room value true indent) t h

-- the tokens after the mark's
abbrev InsideTokens : Node → Node → List Kind → Type 0
InsideTokens key value t = MarkedTokens key value (tokens.Key ∷ t)

-- By what comes after the mark: a key, a value or both. The mark's token is put in front of the tokens, where the
-- grammar has it.
inside_passes : {around : Around} (room : ℕ) (key value : Node) → PassesNode around room key
    → PassesNode around room value → (y z : Context) → IsMarked y z → (m : Marker) (t o : List ℕ)
    → IsBehindEntry around.indent o → Inside around.indent room key value t → (now : FlowMoment) → now.key ≡ None
    → now.allowed ≡ false → IsNext around room now m t o
    → PieceTokens around (state_at around (moment_in z now)) (InsideTokens key value) z now.outer now.places (moved m t)
    o
inside_passes {around} room key value K V y z c m t o ends (inl (none, h)) now no_candidate none_allowed next =
    let n = K m t o (inl h) (entry_behind around.indent key o ends) (moment_in z now) c.inside (next_in z next) in
    record {
      tokens = n.tokens;
      are = inr (none, (n.tokens, inr n.are, refl));
      passes = knowing n.passes (ended around.indent (moved m t) o) n.passes.knows.low;
    }
inside_passes room key value K V y z c m t o ends (inr (inl h)) now no_candidate none_allowed next =
    let v = alone_passes room key value V z c.inside m t o ends h now no_candidate next in
    mapped_so (λ ts (vs, are, is). inl (
      tokens.Key ∷ [],
      tokens.Value ∷ vs,
      ([], inl (h.0, refl), refl),
      (vs, are, refl),
      cc,
    )) (rw c.colon at v)
inside_passes room key value K V y z c m t o ends (inr (inr h)) now no_candidate none_allowed next =
    let v = marked_key_passes room key value K V z c.inside c.no_pair m t o ends h now no_candidate none_allowed next in
    mapped_so (λ ts (ks, vs, are, others, is).
    inl (
      tokens.Key ∷ ks,
      tokens.Value
          ∷ vs,
      (ks, inr are, refl),
      (vs, others, refl),
      ap (λ (x : List Kind). tokens.Key ∷ x) is,
    )) (rw c.colon at v)

-- a `?` with a key, a value or both
pub explicit_passes : {around : Around} (room : ℕ) (key value : Node) → PassesNode around room key
    → PassesNode around room value → (y z : Context) → IsMarked y z → (m : Marker) (t o : List ℕ)
    → IsBehindEntry around.indent o
    → IsExplicitPair key value (IsFlowNode room key true around.indent) (IsFlowNode room value true around.indent)
    around.indent t → (now : FlowMoment) → IsNext around room now m t o
    → PieceTokens around (state_at around (moment_in y now)) (MarkedTokens key value) z now.outer now.places (moved m t)
    o
explicit_passes {around} room key value K V y z c m t o ends (separation, pair, mark, h, e) now next =
    let b = inside_begins around.indent room key value pair h in
    let whole = fits_so m t ((63 ∷ separation) ++ pair) o e next.fits in
    let before = next.low in
    let texts : t ++ o ≡ 63 ∷ (separation ++ (pair ++ o)) = cc (append_assoc (63 ∷ separation) pair o) in
    let p = mark_behind around y z c m separation (pair ++ o) (fits_front m (63 ∷ separation) pair o whole) mark b.first
    (b.others ++ o) (ap (λ (x : List ℕ). x ++ o) b.is) b.content now
    (omega (arith, before)) (next.stands ∙ ap (past around.indent m) texts) in
    let q = inside_passes room key value K V y z c (moved m (63 ∷ separation)) pair o ends h (after p) p.knows.0
    p.knows.1 (record {
      fits = fits_back m (63 ∷ separation) pair o p.right whole;
      enough = next.enough;
      low = p.knows.2;
      stands = p.fits;
    }) in
    mapped_at (moved (moved m (63 ∷ separation)) pair) (moved m t)
    (cc (moved_append m (63 ∷ separation) pair)) (record {
      tokens = tokens.Key ∷ q.tokens;
      are = q.are;
      passes = join p q.passes (ended around.indent (moved (moved m (63 ∷ separation)) pair) o) q.passes.knows;
    })

upto : (a b c : ℕ) → a < b → b ≤ c → a ≤ c
upto a b c h k = omega (arith, h, k)

-- a `?` alone
pub lone_passes : {around : Around} (room : ℕ) (key value : Node) (y z : Context) → IsMarked y z
    → (m : Marker) (t : List ℕ) (c : ℕ) (cs : List ℕ) → EndsEntry c → IsLoneMark key value around.indent t
    → (now : FlowMoment) → IsNext around room now m t (c ∷ cs)
    → PieceTokens around (state_at around (moment_in y now)) (MarkedTokens key value) z now.outer now.places (moved m t)
    (c ∷ cs)
lone_passes {around} room key value y z q m t c cs ends (separation, no_key_there, none, mark, e) now next =
    let before = next.low in
    let p = mark_behind around y z q m separation (c ∷ cs) (fits_so m t (63 ∷ separation) (c ∷ cs) e next.fits) mark c
    cs refl (end_is_content c ends) now (omega (arith, before)) (cc) in
    mapped_at (moved m (63 ∷ separation)) (moved m t) (ap (moved m) (sym e))
    (record {
      tokens = tokens.Key ∷ [];
      are = inr (none, ([], inl (no_key_there, refl), refl));
      passes = grind (arith, knowing, ended, moved, upto, past, past_low);
    })
