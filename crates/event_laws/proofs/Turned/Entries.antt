-- Entries of collections are turned: nodes, nodes that are left out, and the ends of collections.
use Rattle.event_laws.proofs.OwnTokens.{whole}
use Rattle.event_laws.proofs.Common.{BelongsToNone, IsOf, ◌≡◌, Bool, true, false, List, [], ◌∷◌, ◌++◌, Option, Result, refl, sym, inl, inr, arith, Span, Plain, Refusal, Kind, Value, Piece, NodeContext, State, anchors, Part, Leaf, node_parts, kinds, Happening, ◌>>=◌, Machine, Emitted, taken_token, emit, left_out_event, pop, AreWellFormed}
use Rattle.saphyr_scanner.specs.Grammar.Forest as forest
use Rattle.saphyr_scanner.specs.Grammar.TokenGrammar as grammar
use Rattle.saphyr_machine.specs.Steps.Nodes.{context_before, is_left_out, node_behind, node_here, node_inside, node_or_nothing_at}
use Rattle.event_laws.proofs.Emitted.Emitting.{Memory}
use Rattle.event_laws.proofs.Remembering.{after, event_in}
use Rattle.event_laws.proofs.Turned.Following.{Claim, Then, Exactly, IsNodeOf, IsOptionalOf, IsValueOf, IsAnyValueOf, Behind, FollowsStates, IsInsideDocument, IsAlive, Starts}
use Rattle.event_laws.proofs.Turned.Turning.{Aside, piece_of, machine, Turned, weaker, behind, replace, put}
use Rattle.event_laws.proofs.NodeStarts.{place_of}
use Rattle.event_laws.proofs.Turned.Content.{Suits}
use Rattle.event_laws.proofs.Turned.Nodes.{node_turned}
use Rattle.std.specs.Prelude.{Some}

-- what may follow in a state, before these tokens
abbrev pub Wanted : State → List State → List Kind → Claim
Wanted s st ahead ks ps = FollowsStates s st ks ps × Starts s ahead ks

-- a node is left out
pub skipped : (F : Claim) (t : Piece) (sp : Span) (ts : List Piece) (r : Aside)
    (x s : State) (st : List State) (e : Memory) → IsAlive s st
    → ((ks : List Kind) (ps : List Part) → FollowsStates s st ks ps → Starts s (kinds (t ∷ ts)) ks
    → F ks (Leaf forest.no_properties Plain [] ∷ ps)) → Turned F e (t ∷ ts) (left_out_event t s sp (machine ts r x st
    e))
skipped F t sp ts r x s st e a go =
    record {
      used = [];
      part = Leaf forest.no_properties Plain [];
      taken = refl;
      emits = refl;
      remembers = refl;
      few = omega arith;
      places = whole [] _ _ (inr (inr (refl, refl, refl, refl, refl)));
      alive = a;
      makes = go;
    }

pub skip_optional : (c : grammar.Context) (t : Piece) (sp : Span) (ts : List Piece) (r : Aside) (x s : State)
    (st : List State) (e : Memory) → IsAlive s st
    → Turned (Then (IsOptionalOf c) (FollowsStates s st)) e (t ∷ ts) (left_out_event t s sp (machine ts r x st e))
skip_optional c t sp ts r x s st e a = skipped (Then (IsOptionalOf c) (FollowsStates s st)) t sp ts r x s st e a
    (λ ks ps f b. put (IsOptionalOf c) (FollowsStates s st) [] (node_parts forest.left_out) ks ps
    (forest.left_out, inl (refl, refl), refl) f)

pub some_node : (c : grammar.Context) (B : Claim) (ks : List Kind) (ps : List Part) → Then (IsNodeOf c) B ks ps
    → Then (IsOptionalOf c) B ks ps
some_node c B ks ps h = replace (IsNodeOf c) B (IsOptionalOf c) [] [] ks ps (λ u q g. (g.0, inr g.1, g.2)) h

-- after the mark of a value
pub marked_value : (c : grammar.Context) (B : Claim) (ks : List Kind) (ps : List Part)
    → Then (IsOptionalOf c) B ks ps → Then (IsValueOf c) B (Value ∷ ks) ps
marked_value c B ks ps h =
    replace (IsOptionalOf c) B (IsValueOf c) (Value ∷ []) [] ks ps (λ u q g. (g.0, (u, g.1, refl), g.2)) h

pub any_value : (c : grammar.Context) (B : Claim) (ks : List Kind) (ps : List Part)
    → Then (IsValueOf c) B ks ps → Then (IsAnyValueOf c) B ks ps
any_value c B ks ps h = replace (IsValueOf c) B (IsAnyValueOf c) [] [] ks ps (λ u q g. inl g) h

-- the end of a collection, without more entries
pub collection_ends : (A R : Claim) (close : List Kind) (closing : Part) (ks : List Kind)
    (ps : List Part) → A [] [] → R ks ps → Then A (Then (Exactly close (closing ∷ [])) R) (close ++ ks) (closing ∷ ps)
collection_ends u0 u1 close closing ks ps a r = grind arith

-- ## Steps inside a document

-- what may follow in a state inside a document, before these tokens, if `R` says what may follow after
abbrev pub WantedIn : State → List Kind → Claim → Claim
WantedIn s ahead R ks ps = Behind s R ks ps × Starts s ahead ks

-- Inside a document a step turns its tokens: it makes what `F` says of these tokens and of what may follow after.
abbrev pub Turns : (List Kind → Claim → Claim) → (Machine → Result Emitted Refusal) → Type 0
Turns F step = (ts : List Piece) (r : Aside) (x s : State) (ss : List State) (e : Memory) → AreWellFormed ts
    → IsAlive s ss → Turned (F (kinds ts) (FollowsStates s ss)) e ts (step (machine ts r x (s ∷ ss) e))

-- so does a step that has taken a token of this kind
abbrev pub TurnsBehind : (List Kind → Claim → Claim) → Kind → (Piece → Machine → Result Emitted Refusal) → Type 0
TurnsBehind F k step = (sp : Span) (ts : List Piece) (r : Aside) (x s : State) (ss : List State) (e : Memory)
    → AreWellFormed (piece_of k sp ∷ ts) → IsAlive s ss
    → Turned (F (k ∷ kinds ts) (FollowsStates s ss)) e (piece_of k sp ∷ ts)
    (step (piece_of k sp) (machine ts r x (s ∷ ss) e))

-- ... of any kind
abbrev pub TurnsAt : (List Kind → Claim → Claim) → (Kind → Piece → Machine → Result Emitted Refusal) → Type 0
TurnsAt F step = (k : Kind) → TurnsBehind F k (step k)

pub by_token : (F : List Kind → Claim → Claim) (step : Kind → Piece → Machine → Result Emitted Refusal) → TurnsAt F step
    → Turns F (λ m. taken_token m >>= (λ t. step t.0.kind t.0 t.1))
by_token F step h [] r x s ss e w a = tt
by_token F step h (t ∷ ts) r x s ss e w a = h t.kind t.span ts r x s ss e w a

-- the token belongs to no event
pub passes : (F G : List Kind → Claim → Claim) (k : Kind) (step : Machine → Result Emitted Refusal) → BelongsToNone k
    → ((ahead : List Kind) (R : Claim) (ks : List Kind) (ps : List Part) → F ahead R ks ps
    → G (k ∷ ahead) R (k ∷ ks) ps) → Turns F step → TurnsBehind G k (λ t. step)
passes u0 u1 k step b i h sp ts r x s ss e w a = grind (arith, behind)

-- a node is left out before the token
pub leaves_out : (F : List Kind → Claim → Claim) (o : State) (k : Kind) → IsInsideDocument o
    → ((ahead : List Kind) (R : Claim) (ks : List Kind) (ps : List Part) → Behind o R ks ps → Starts o (k ∷ ahead) ks
    → F (k ∷ ahead) R ks (Leaf forest.no_properties Plain [] ∷ ps)) → (span : Span)
    → TurnsBehind F k (λ t. left_out_event t o span)
leaves_out u0 o k i go span sp ts r x s ss e w a = grind (arith, skipped)

pub skips : (c : grammar.Context) (o : State) (k : Kind) → IsInsideDocument o → (span : Span)
    → TurnsBehind (λ _ R. Then (IsOptionalOf c) (Behind o R)) k (λ t. left_out_event t o span)
skips c o k i span sp ts r x s ss e w a = skip_optional c (piece_of k sp) span ts r x o (s ∷ ss) e (i, a)

-- a node begins with the token
pub enters : (F : List Kind → Claim → Claim) (c : NodeContext) (o : State) (k : Kind) → Suits c o → IsInsideDocument o
    → ((ahead : List Kind) (R : Claim) (ks : List Kind) (ps : List Part)
    → Then (IsNodeOf (place_of c)) (Behind o R) ks ps → F (k ∷ ahead) R ks ps) → TurnsBehind F k (node_inside o c)
enters u0 c o k z i go sp ts r x s ss e w a = grind (arith, weaker, node_turned)

pub enters_optional : (c : NodeContext) (o : State) (k : Kind) → Suits c o → IsInsideDocument o
    → TurnsBehind (λ _ R. Then (IsOptionalOf (place_of c)) (Behind o R)) k (node_inside o c)
enters_optional c o k z i = enters (λ _ R. Then (IsOptionalOf (place_of c)) (Behind o R)) c o k z i
    (λ _ R. some_node (place_of c) (Behind o R))

-- a node that may be left out, behind which a state is expected
abbrev pub OptionalBefore : State → List Kind → Claim → Claim
OptionalBefore o ahead R = Then (IsOptionalOf (place_of (context_before o))) (Behind o R)

pub optional_turned : (b : Bool) (o : State) (k : Kind) → Suits (context_before o) o → IsInsideDocument o
    → (span : Span) → TurnsBehind (OptionalBefore o) k (node_or_nothing_at b o span)
optional_turned true o k z i span = skips (place_of (context_before o)) o k i span
optional_turned false o k z i span = enters_optional (context_before o) o k z i

pub behind_turned : (o : State) → Suits (context_before o) o → IsInsideDocument o → (span : Span)
    → Turns (OptionalBefore o) (node_behind o span)
unfolding node_behind
behind_turned o z i span = by_token (OptionalBefore o) (λ k. node_or_nothing_at (is_left_out o k) o span)
    (λ k. optional_turned (is_left_out o k) o k z i span)

pub here_turned : (o : State) → Suits (context_before o) o → IsInsideDocument o → Turns (OptionalBefore o) (node_here o)
unfolding node_here
here_turned o z i = by_token (OptionalBefore o) (λ k t. node_or_nothing_at (is_left_out o k) o t.span t)
    (λ k sp. optional_turned (is_left_out o k) o k z i sp sp)

-- a collection of no more entries ends with the token
pub closes : (F : List Kind → Claim → Claim) (A : Claim) (k : Kind) (what : Happening) (closing : Part)
    → ((e : Memory) → (event_in e closing ≡ Some what) × (after closing e ≡ e)) → anchors (closing ∷ []) ≡ 0
    → ((t : Piece) (span : Span) (ts : List Piece) → t.kind ≡ k → IsOf what span (t ∷ []) ts) → A [] []
    → ((ahead : List Kind) (R : Claim) (ks : List Kind) (ps : List Part)
    → Then A (Then (Exactly (k ∷ []) (closing ∷ [])) R) (k ∷ ks) ps → F (k ∷ ahead) R (k ∷ ks) ps) → (span : Span)
    → TurnsBehind F k (λ t m. emit what span (pop m))
closes F A k what closing emits none own no_more go span = λ sp ts r x s ss e w a.
    record {
      used = piece_of k sp ∷ [];
      part = closing;
      taken = refl;
      emits = (emits e).0;
      remembers = sym (emits e).1;
      few = omega (arith, none);
      places = whole (piece_of k sp ∷ []) what span (own (piece_of k sp) span ts refl);
      alive = a;
      makes = λ ks ps f c. go (kinds ts) (FollowsStates s ss) ks (closing ∷ ps)
          (collection_ends A (FollowsStates s ss) (k ∷ []) closing ks ps no_more f);
    }
