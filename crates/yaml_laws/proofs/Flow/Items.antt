-- The entries of brackets and of braces inside flow, one after the other.
use Rattle.yaml_laws.proofs.Common.{◌≡◌, ℕ, ◌+◌, ◌≤◌, Bool, true, false, List, [], ◌∷◌, ◌++◌, length, refl, sym, ap, ◌∙◌, subst, append_assoc, append-nil, ◌⊎◌, inl, inr, arith, None, Marker, Context, Kind, Place, Level, is_block, behind_entry, ends_pair, State, Properties, Node, Alias, Scalar, Seq, Map, NoPair, MorePairs, most_open, IsBeforeSeparation, IsPairText, IsPair, IsSinglePairText, IsSinglePair, IsComma, IsLastComma, IsFlowNode, IsPairItem}
use Rattle.saphyr_scanner.specs.declared.engine.level.Context.TheVariants as context
use Rattle.saphyr_scanner.specs.Grammar.Tokens as tokens
use Rattle.saphyr_scanner.specs.Grammar.TokenGrammar as grammar
use Rattle.yaml_laws.proofs.InFlow.States.{Around, state_at, FlowMoment, moment_in}
use Rattle.yaml_laws.proofs.Flow.States.{FitsAround, moved, past, PassesPiece, ended, IsNext, PassesNode, after, StandsBefore}
use Rattle.yaml_laws.proofs.Flow.Places.{moved_append}
use Rattle.yaml_laws.proofs.Flow.GapSteps.{less_behind}
use Rattle.yaml_laws.proofs.InBlock.Crossings.{fresh_in_flow, holds_in_flow}
use Rattle.yaml_laws.proofs.Flow.Joins.{join, knowing, passes_nothing}
use Rattle.yaml_laws.proofs.Flow.Brackets.{pending, comma_behind}
use Rattle.yaml_laws.proofs.Flow.ContentStarts.{StartsContent, begins_with, content_front, Begins, starts, begins_front, begins_content, node_begins, key_text_begins}
use Rattle.yaml_laws.proofs.Flow.Pieces.{EndsEntry, fits_front, fits_back, fits_so, fits_before, end_is_content}
use Rattle.yaml_laws.proofs.Flow.MarkedPairs.{alone_begins, key_begins}
use Rattle.yaml_laws.proofs.Flow.Collections.{InsidePasses, Brackets, AreBrackets, square, curly}
use Rattle.yaml_laws.proofs.Flow.Entries.{PassesEntry, PairInBraces, pair_passes, IsEntry, node_item_passes, single_passes}

-- ## What comes first

record BeginsEnd (t : List ℕ) : Type 0 where
  first : ℕ
  others : List ℕ
  is : t ≡ first ∷ others
  ends : EndsEntry first

comma_first : (indent : ℕ) (comma t o : List ℕ) → IsComma indent comma → BeginsEnd ((comma ++ t) ++ o)
comma_first indent comma t o (separation, parts, e) = grind arith

last_first : (indent : ℕ) (p : List ℕ) (ch : ℕ) (o : List ℕ) → EndsEntry ch → IsLastComma indent p
    → BeginsEnd (p ++ (ch ∷ o))
last_first indent p ch o ends (inl e) =
    record { first = ch; others = o; is = ap (λ (x : List ℕ). x ++ (ch ∷ o)) e; ends = ends }
last_first indent p ch o ends (inr (separation, parts, e)) =
    record { first = 44; others = separation ++ (ch ∷ o); is = ap (λ (x : List ℕ). x ++ (ch ∷ o)) e; ends = inl refl }

single_text_begins : (indent room : ℕ) (key value : Node) (t : List ℕ)
    → IsSinglePairText key value (IsFlowNode room key true indent) (IsFlowNode room value true indent) indent t
    → Begins t
single_text_begins indent room key value t (inl (node, blanks, colon, h, line, are, apart, c, e)) =
    begins_front node t (blanks ++ colon) e (key_text_begins true indent room key node blanks h)
single_text_begins indent room key value t (inr (inl h)) =
    alone_begins indent key value (IsFlowNode room value true indent) t h
single_text_begins indent room key value t (inr (inr (separation, pair, mark, h, e))) =
    starts 63 (separation ++ pair) t e refl

single_begins : (indent room : ℕ) (key value : Node) (t : List ℕ)
    → IsSinglePair key value (IsFlowNode room key true indent) (IsFlowNode room value true indent) indent t → Begins t
single_begins indent room key value t (inl (separation, none, other, mark, e)) = starts 63 separation t e refl
single_begins indent room key value t (inr (piece, separation, h, parts, e)) =
    begins_front piece t separation e (single_text_begins indent room key value piece h)

pair_item_begins : (indent room : ℕ) (node : Node) (t : List ℕ) → IsPairItem room node indent t → Begins t
pair_item_begins indent room (Map p (MorePairs key value NoPair)) t h = single_begins indent room key value t h.1
pair_item_begins indent room (Map p (MorePairs key value (MorePairs other another pairs))) t h = absurd h
pair_item_begins indent room (Map p NoPair) t h = absurd h
pair_item_begins indent room (Alias name) t h = absurd h
pair_item_begins indent room (Scalar p style value) t h = absurd h
pair_item_begins indent room (Seq p nodes) t h = absurd h

-- a node, or a pair that has no bracket of its own
abbrev pub IsItem : ℕ → ℕ → Node → List ℕ → Type 0
IsItem indent room node t =
    IsBeforeSeparation (IsFlowNode room node true indent) indent t ⊎ IsPairItem room node indent t

pub item_begins : (indent room : ℕ) (node : Node) (t : List ℕ) → IsItem indent room node t → Begins t
item_begins indent room node t (inl (piece, separation, h, parts, e)) =
    begins_front piece t separation e (node_begins indent room node true piece h)
item_begins indent room node t (inr h) = pair_item_begins indent room node t h

pair_text_begins : (indent room : ℕ) (key value : Node) (t : List ℕ)
    → IsPairText key value (IsFlowNode room key true indent) (IsFlowNode room value true indent) indent t → Begins t
pair_text_begins indent room key value t (inl h) = node_begins indent room key true t h.1
pair_text_begins indent room key value t (inr (inl h)) = key_begins indent room key value (IsFlowNode room value true
    indent) t h
pair_text_begins indent room key value t (inr (inr (inl h))) =
    alone_begins indent key value (IsFlowNode room value true indent) t h
pair_text_begins indent room key value t (inr (inr (inr (separation, pair, mark, h, e)))) =
    starts 63 (separation ++ pair) t e refl

-- a pair in braces
abbrev IsPairIn : ℕ → ℕ → Node → Node → List ℕ → Type 0
IsPairIn indent room key value t =
    IsPair key value (IsFlowNode room key true indent) (IsFlowNode room value true indent) indent t

pair_begins : (indent room : ℕ) (key value : Node) (t : List ℕ) → IsPairIn indent room key value t → Begins t
pair_begins indent room key value t (inl (separation, none, other, mark, e)) = starts 63 separation t e refl
pair_begins indent room key value t (inr (piece, separation, h, parts, e)) =
    begins_front piece t separation e (pair_text_begins indent room key value piece h)

-- ## One entry

-- an entry of a text of Text, whose tokens are those of Is
pub record ReadsEntry (around : Around) (b : Brackets) (room : ℕ) (Text : List ℕ → Type 0) (Is : List Kind → Type 0)
    : Type 0 where
  content : (t : List ℕ) → Text t → StartsContent t
  passes : PassesEntry around b.context room Text Is

-- a pair that has no bracket of its own is passed
abbrev pub PassesPairItem : Around → ℕ → Node → Type 0
PassesPairItem around room node =
    PassesEntry around context.FlowSequence room (IsPairItem room node around.indent) (IsEntry node)

pub pair_item_passes : {around : Around} (room : ℕ) (p : Properties) (key value : Node) → PassesNode around room key
    → PassesNode around room value → PassesPairItem around room (Map p (MorePairs key value NoPair))
pair_item_passes {around} room p key value K V m t c cs ends h now no_candidate fresh next =
    subst (λ (q : Properties). InsidePasses around (state_at around (moment_in context.FlowSequence now))
    context.FlowSequence (IsEntry (Map q (MorePairs key value NoPair))) now.outer now.places (moved m t) (c ∷ cs))
    (sym h.0) (single_passes room key value K V m t c cs ends h.1 now no_candidate fresh next)

item_passes : {around : Around} (room : ℕ) (node : Node) → PassesNode around room node → PassesPairItem around room node
    → PassesEntry around context.FlowSequence room (IsItem around.indent room node) (IsEntry node)
item_passes room node N P m t c cs ends (inl h) now no_candidate fresh next =
    node_item_passes room node N m t c cs ends h now no_candidate fresh next
item_passes room node N P m t c cs ends (inr h) now no_candidate fresh next =
    P m t c cs ends h now no_candidate fresh next

pub reads_item : {around : Around} (room : ℕ) (node : Node) → PassesNode around room node
    → PassesPairItem around room node → ReadsEntry around square room (IsItem around.indent room node) (IsEntry node)
reads_item {around} room node N P = search (begins_content, item_begins, item_passes)

pub reads_pair : {around : Around} (room : ℕ) (key value : Node) → PassesNode around room key
    → PassesNode around room value
    → ReadsEntry around curly room (IsPairIn around.indent room key value) (PairInBraces key value)
reads_pair {around} room key value K V = search (begins_content, pair_begins, pair_passes)

entry_passes : {around : Around} {b : Brackets} {room : ℕ} {Text : List ℕ → Type 0} {Is : List Kind → Type 0}
    → ReadsEntry around b room Text Is → (m : Marker) (t o : List ℕ) → BeginsEnd o → Text t → (now : FlowMoment)
    → now.key ≡ None → now.allowed ≡ true → IsNext around room now m t o
    → InsidePasses around (state_at around (moment_in b.context now)) b.context Is now.outer now.places (moved m t) o
entry_passes {around} {b} {Is = Is} entry m t o end h now no_candidate fresh next = grind arith

-- ## The others

-- The run over the entries after one in the context x, whose pair ends first.
record OthersPass (around : Around) (start : Bool → State) (inner x : Context) (Are : List Kind → Type 0)
    (ls : List Level) (ps : List Place) (m : Marker) (o : List ℕ) : Type 0 where
  inside : Context
  flows : is_block inside ≡ false
  back : behind_entry inside ≡ inner
  tokens : List Kind
  others : List Kind
  is : tokens ++ pending (ends_pair inside) ≡ pending (ends_pair x) ++ others
  are : Are others
  passes : PassesPiece around start (ended around.indent m o) inside ls ps m o tokens

abbrev PassesOthers : Around → Brackets → ℕ → (List ℕ → Type 0) → (List Kind → Type 0) → Type 0
PassesOthers around b room Text Are =
    (m : Marker) (p o : List ℕ) → Text p → FitsAround around m p (b.closing ∷ o) → (x : Context)
    → is_block x ≡ false → behind_entry x ≡ b.context → (now : FlowMoment) → room + length now.outer ≤ most_open
    → now.adjacent ≤ (past around.indent m (p ++ (b.closing ∷ o))).0.index
    → StandsBefore around now m (p ++ (b.closing ∷ o))
    → OthersPass around (state_at around (moment_in x now)) b.context x Are now.outer now.places (moved m p)
    (b.closing ∷ o)

-- further entries, of a text of Text, whose tokens are those of Are
pub record ReadsOthers (around : Around) (b : Brackets) (room : ℕ) (Text : List ℕ → Type 0) (Are : List Kind → Type 0)
    : Type 0 where
  first : (p o : List ℕ) → Text p → BeginsEnd (p ++ (b.closing ∷ o))
  passes : PassesOthers around b room Text Are

-- No further entry comes, but perhaps a last comma. Without it nothing is read, and a pair that is open stays so, to be
-- ended by the bracket. With it the comma ends the pair.
pub no_others : {around : Around} {b : Brackets} {room : ℕ} → AreBrackets b
    → ReadsOthers around b room (IsLastComma around.indent) grammar.IsListEnd
no_others {around} {b} {room} are = record {
  first = λ p o h. last_first around.indent p b.closing o are.ends h;
  passes = pass;
}
  where
    pass : PassesOthers around b room (IsLastComma around.indent) grammar.IsListEnd
    pass m p o (inl e) fits x flows back now low before text =
        let behind = b.closing ∷ o in
        subst (λ (t : List ℕ). now.adjacent ≤ (past around.indent m (t ++ behind)).0.index
        → StandsBefore around now m (t ++ behind)
        → OthersPass around (state_at around (moment_in x now)) b.context x grammar.IsListEnd now.outer now.places
        (moved m t) behind) (sym e) (λ near there. record {
          inside = x;
          flows = flows;
          back = back;
          tokens = [];
          others = [];
          is = sym (append-nil (pending (ends_pair x)));
          are = inl refl;
          passes = passes_nothing around (moment_in x now) m behind (ended around.indent m behind) fits.right there
              (fresh_in_flow x behind now.allowed now.cursor flows) (holds_in_flow flows) near;
        }) before text
    pass m p o (inr comma) fits x flows back now low before text =
        let behind = b.closing ∷ o in
        let c = comma_behind around x b.context flows back m p behind comma fits
        (begins_with b.closing o behind refl (end_is_content b.closing are.ends)) now before text in
        let ts = pending (ends_pair x) ++ tokens.FlowEntry ∷ [] in
        record {
          inside = b.context;
          flows = are.flows;
          back = are.back;
          tokens = ts;
          others = tokens.FlowEntry ∷ [];
          is = ap (λ (z : Bool). ts ++ pending z) are.none ∙ append-nil ts;
          are = inr refl;
          passes = knowing c (ended around.indent (moved m p) behind)
              (less_behind around.indent c.adjacent (moved m p) [] behind c.knows.2);
        }

entries_regrouped : (p i q r j o : List Kind) (e : Kind) → q ++ r ≡ j ++ o
    → (((p ++ e ∷ []) ++ i) ++ q) ++ r ≡ p ++ (e ∷ ((i ++ j) ++ o))
entries_regrouped p i q r j o e is = grind (arith, append_assoc)

-- a comma, an entry and further entries
abbrev FurtherText : ℕ → (List ℕ → Type 0) → (List ℕ → Type 0) → List ℕ → Type 0
FurtherText indent One Rest t =
    (comma item others : List ℕ) × IsComma indent comma × One item × Rest others × (t ≡ comma ++ (item ++ others))

abbrev FurtherTokens : (List Kind → Type 0) → (List Kind → Type 0) → List Kind → Type 0
FurtherTokens Is Are t = (entry others : List Kind) × Is entry × Are others × (t ≡ tokens.FlowEntry ∷ (entry ++ others))

-- A comma, an entry and the others, whose runs are joined one behind the other. The end of a pair that has no bracket
-- of its own is put with what comes behind it. So each token list lacks an end that the next one begins with, and
-- `entries_regrouped` moves the ends to their entries.
pub more_others : {around : Around} {b : Brackets} {room : ℕ} {One Rest : List ℕ → Type 0} {Is Are : List Kind → Type 0}
    → ReadsEntry around b room One Is → ReadsOthers around b room Rest Are
    → ReadsOthers around b room (FurtherText around.indent One Rest) (FurtherTokens Is Are)
more_others {around} {b} {room} {One} {Rest} {Is} {Are} one rest =
    record {
      first = grind (arith, comma_first);
      passes = pass;
    }
  where
    pass : PassesOthers around b room (FurtherText around.indent One Rest) (FurtherTokens Is Are)
    pass m p o (comma, item, others, c, i, h, e) fits x flows back now low before text =
        let behind_all = b.closing ∷ o in
        let start = state_at around (moment_in x now) in
        let whole = fits_so m p (comma ++ (item ++ others)) behind_all e fits in
        let follow = append_assoc item others behind_all in
        let texts = ap (λ (t : List ℕ). t ++ behind_all) e ∙ append_assoc comma (item ++ others) behind_all ∙ ap
        (λ (t : List ℕ). comma ++ t) follow in
        let comma_fits = fits_before m comma ((item ++ others) ++ behind_all) (item ++ (others ++ behind_all)) follow
        (fits_front m comma (item ++ others) behind_all whole) in
        let content = content_front item (item ++ (others ++ behind_all)) (others ++ behind_all) refl
        (one.content item i) in
        let q = comma_behind around x b.context flows back m comma (item ++ (others ++ behind_all)) c comma_fits
        content now (subst (λ (t : List ℕ). now.adjacent ≤ (past around.indent m t).0.index) texts before)
        (text ∙ ap (past around.indent m) texts) in
        let here = moved m comma in
        let inner = fits_back m comma (item ++ others) behind_all q.right whole in
        let n = entry_passes one here item (others ++ behind_all) (rest.first others o h) i (after q) q.knows.0
        q.knows.1 (record {
          fits = fits_front here item others behind_all inner;
          enough = low;
          low = q.knows.2;
          stands = q.fits;
        }) in
        let there = moved here item in
        let both = join q n.passes (ended around.indent there (others ++ behind_all)) n.passes.knows in
        let r = rest.passes there others o h (fits_back here item others behind_all n.passes.right inner) n.inside
        n.flows n.back (after both) low both.knows both.fits in
        let end = moved there others in
        let place = sym (ap (moved m) e ∙ moved_append m comma (item ++ others) ∙ moved_append here item others) in
        subst (λ (z : Marker). OthersPass around start b.context x (FurtherTokens Is Are) now.outer now.places z
        behind_all) place
        (record {
          inside = r.inside;
          flows = r.flows;
          back = r.back;
          tokens = ((pending (ends_pair x) ++ tokens.FlowEntry ∷ []) ++ n.tokens) ++ r.tokens;
          others = tokens.FlowEntry ∷ ((n.tokens ++ pending (ends_pair n.inside)) ++ r.others);
          is = entries_regrouped (pending (ends_pair x)) n.tokens r.tokens (pending (ends_pair r.inside))
              (pending (ends_pair n.inside)) r.others tokens.FlowEntry r.is;
          are = (n.tokens ++ pending (ends_pair n.inside), r.others, n.are, r.are, refl);
          passes = join both r.passes (ended around.indent end behind_all) r.passes.knows;
        })

-- ## All entries

-- all that is inside brackets, of a text of Text, whose tokens are those of Are
pub record ReadsEntries (around : Around) (b : Brackets) (room : ℕ) (Text : List ℕ → Type 0) (Are : List Kind → Type 0)
    : Type 0 where
  pub content : (p o : List ℕ) → Text p → StartsContent (p ++ (b.closing ∷ o))
  pub passes : (m : Marker) (p o : List ℕ) → Text p → (now : FlowMoment) → now.key ≡ None → now.allowed ≡ true
      → IsNext around room now m p (b.closing ∷ o)
      → InsidePasses around (state_at around (moment_in b.context now)) b.context Are now.outer now.places (moved m p)
      (b.closing ∷ o)

pub no_entries : {around : Around} {b : Brackets} {room : ℕ} → AreBrackets b
    → ReadsEntries around b room (λ t. t ≡ []) (λ t. t ≡ [])
no_entries {around} {b} are =
    record {
      content = λ p o e. begins_with b.closing o (p ++ (b.closing ∷ o)) (ap (λ (t : List ℕ). t ++ (b.closing ∷ o)) e)
          (end_is_content b.closing are.ends);
      passes = λ m p o e now no_candidate fresh next. let behind = b.closing ∷ o in
          subst (λ (t : List ℕ). StandsBefore around now m (t ++ behind)
          → InsidePasses around (state_at around (moment_in b.context now)) b.context (λ t. t ≡ []) now.outer now.places
          (moved m t) behind) (sym e) (λ there. record {
            inside = b.context;
            flows = are.flows;
            back = are.back;
            tokens = [];
            are = ap pending are.none;
            passes = passes_nothing around (moment_in b.context now) m behind (ended around.indent m behind)
                next.fits.right there (fresh_in_flow b.context behind now.allowed now.cursor are.flows)
                (holds_in_flow are.flows) (less_behind around.indent now.adjacent m [] behind next.low);
          }) next.stands;
    }

first_regrouped : (i q r j o : List Kind) → q ++ r ≡ j ++ o → (i ++ q) ++ r ≡ (i ++ j) ++ o
first_regrouped i q r j o is = append_assoc i q r ∙ ap (λ (x : List Kind). i ++ x) is ∙ sym (append_assoc i j o)

abbrev AllText : (List ℕ → Type 0) → (List ℕ → Type 0) → List ℕ → Type 0
AllText One Rest t = (item others : List ℕ) × One item × Rest others × (t ≡ item ++ others)

abbrev AllTokens : (List Kind → Type 0) → (List Kind → Type 0) → List Kind → Type 0
AllTokens Is Are t = (entry others : List Kind) × Is entry × Are others × (t ≡ entry ++ others)

-- The first entry and the others, as in `more_others`, without a comma.
pub more_entries : {around : Around} {b : Brackets} {room : ℕ} {One Rest : List ℕ → Type 0}
    {Is Are : List Kind → Type 0} → ReadsEntry around b room One Is → ReadsOthers around b room Rest Are
    → ReadsEntries around b room (AllText One Rest) (AllTokens Is Are)
more_entries {around} {b} {room} {One} {Rest} {Is} {Are} one rest =
    record {
      content = grind (arith, content_front);
      passes = λ m p o (item, others, i, h, e) now no_candidate fresh next.
          let behind_all = b.closing ∷ o in
          let start = state_at around (moment_in b.context now) in
          let whole = fits_so m p (item ++ others) behind_all e next.fits in
          let texts = ap (λ (t : List ℕ). t ++ behind_all) e ∙ append_assoc item others behind_all in
          let n = entry_passes one m item (others ++ behind_all) (rest.first others o h) i now no_candidate fresh
          (record {
            fits = fits_front m item others behind_all whole;
            enough = next.enough;
            low = next.low;
            stands = next.stands ∙ ap (past around.indent m) texts;
          }) in
          let there = moved m item in
          let q = n.passes in
          let r = rest.passes there others o h (fits_back m item others behind_all n.passes.right whole) n.inside
          n.flows n.back (after q) next.enough q.knows q.fits in
          let end = moved there others in
          subst (λ (z : Marker). InsidePasses around start b.context (AllTokens Is Are) now.outer now.places z
          behind_all) (sym (ap (moved m) e ∙ moved_append m item others))
          (record {
            inside = r.inside;
            flows = r.flows;
            back = r.back;
            tokens = n.tokens ++ r.tokens;
            are = grind (arith, pending, first_regrouped);
            passes = join q r.passes (ended around.indent end behind_all) r.passes.knows;
          });
    }
