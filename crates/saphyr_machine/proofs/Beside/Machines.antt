-- Two machines side by side, and what is done to both.
use Rattle.std.proofs.Common.{◌≡◌, ℕ, ◌+◌, ◌≤◌, Bool, true, false, List, [], ◌∷◌, Option, Result, Ok, Err, refl, sym, subst, arith, ◌⊎◌, inl, inr}
use Rattle.std.specs.Prelude.{if◌then◌else◌}
use Rattle.std.specs.List.{AllZip}
use Rattle.saphyr_scalar.specs.declared.scalar.position.Marker.{Marker}
use Rattle.saphyr_scalar.specs.declared.scalar.position.Span.{Span}
use Rattle.saphyr_scalar.specs.declared.scalar.fault.Refusal.{Refusal}
use Rattle.saphyr_scalar.specs.declared.scalar.fault.FaultText.{FaultText}
use Rattle.saphyr_scanner.specs.Grammar.Tokens as tokens
use Rattle.saphyr_scanner.specs.Grammar.Tokens.{Kind}
use Rattle.saphyr_scanner.specs.Views.Tokens.{Piece, Remaining}
use Rattle.saphyr_machine.specs.declared.state.State.{State}
use Rattle.saphyr_machine.specs.declared.state.State.TheVariants as state
use Rattle.saphyr_machine.specs.Events as events
use Rattle.saphyr_machine.specs.Events.{Happening}
use Rattle.saphyr_machine.specs.Steps.Machine.{◌>>=◌, Machine, Emitted, emit, refusal_at, ending_refusal, with_pieces, taken_token, taken_token_from, put_back, pop, pop_from, with_state, push, with_pair_end, text_start, with_anchor}
use Rattle.saphyr_machine.specs.Steps.Nodes.{register}
use Rattle.saphyr_machine.specs.Answer.{weight, weight_before, begins_with_value, total_weight}
use Rattle.saphyr_machine.specs.Calls.{LeavesEnd}

-- ## What is alike

-- What is left after a token of the kind: tokens as before, or nothing after a marker that is the last. After the end
-- of the stream no token is read.
abbrev pub Behind : (Remaining → Remaining → Type 0) → (Kind → Remaining → Remaining → Type 0)
    → (Remaining → Remaining → Type 0) → Kind → Remaining → Remaining → Type 0
Behind Rest Over End tokens.DocumentStart = λ r q. Rest r q ⊎ Over tokens.DocumentStart r q
Behind Rest Over End tokens.DocumentEnd = λ r q. Rest r q ⊎ Over tokens.DocumentEnd r q
Behind Rest Over End tokens.StreamEnd = End
Behind Rest Over End _ = Rest

abbrev pub is_end : Kind → Bool
is_end tokens.StreamEnd = true
is_end _ = false

pub behind_by : (Rest : Remaining → Remaining → Type 0) (Over : Kind → Remaining → Remaining → Type 0)
    (End : Remaining → Remaining → Type 0) (k : Kind) (r q : Remaining) → (is_end k ≡ false → Rest r q)
    → (is_end k ≡ true → End r q) → Behind Rest Over End k r q
behind_by u0 u1 u2 u3 r q h e = grind arith

-- The second machine's next token, with the kind of the first one's. Both are behind the places a and x; F says what is
-- left from them on, and B what is left after them.
pub record Next (Spans : Marker → Marker → Marker → Marker → Type 0)
    (F B : Marker → Remaining → Remaining → Type 0) (a x : Marker) (t : Piece) (ts us : List Piece)
    (o e : Option Refusal) : Type 0 where
  pub span : Span
  pub tail : List Piece
  pub is : us ≡ record { span = span; kind = t.kind } ∷ tail
  pub gap : Spans a t.span.start x span.start
  pub own : Spans t.span.start t.span.end span.start span.end
  pub front : F span.start (record { pieces = t ∷ ts; refusal = o }) (record { pieces = us; refusal = e })
  pub behind : B span.end (record { pieces = ts; refusal = o }) (record { pieces = tail; refusal = e })

-- How places, tokens, settings and refusals of two machines go together. The room counts what may still be done, as
-- weights do: a token that is taken gives 10, what is expected after a node takes its weight, and a step ends where 10
-- are left.
pub record Beside : Type 1 where
  -- from one place up to another, in both machines
  pub Spans : Marker → Marker → Marker → Marker → Type 0
  -- tokens that are from a place on in both machines, with a room
  pub Ahead : Marker → Marker → ℕ → Remaining → Remaining → Type 0
  -- the same between two steps, where a state is expected
  pub Rests : State → ℕ → Remaining → Remaining → Type 0
  -- what is left after a marker that was the first machine's last token
  pub Over : Kind → Remaining → Remaining → Type 0
  pub Setting : Bool → Bool → Type 0
  -- the first machine's tokens ended too early
  pub Early : Refusal → Type 0
  pub Refused : Refusal → Refusal → Type 0
  pub joined : (a b c x y z : Marker) → Spans a b x y → Spans b c y z → Spans a c x z
  pub start : Spans text_start text_start text_start text_start
  pub first : (a b x y : Marker) → Spans a b x y → Spans a a x x
  pub last : (a b x y : Marker) → Spans a b x y → Spans b b y y
  pub refused : (text : FaultText) (a x : Marker) → Spans a a x x
      → Refused (record { text = text; mark = a; may_change = false }) (record { text = text; mark = x; may_change = false })
  pub none : (a x : Marker) (d : ℕ) (us : List Piece) (o e : Option Refusal)
      → Ahead a x d (record { pieces = []; refusal = o }) (record { pieces = us; refusal = e })
      → Early (ending_refusal o) ⊎ ((us ≡ []) × Refused (ending_refusal o) (ending_refusal e))
  pub next : (a x : Marker) (d : ℕ) (t : Piece) (ts us : List Piece) (o e : Option Refusal)
      → Ahead a x d (record { pieces = t ∷ ts; refusal = o }) (record { pieces = us; refusal = e })
      → Next Spans (λ y. Ahead t.span.start y d)
      (λ y. Behind (Ahead t.span.end y (10 + d)) Over (λ r q. (c : ℕ) → c ≤ 10 + d → Rests state.End c r q) t.kind)
      a x t ts us o e
  pub less : (a x : Marker) (c d : ℕ) (r q : Remaining) → c ≤ d → Ahead a x d r q → Ahead a x c r q
  pub rests : (a x : Marker) (s : State) (d : ℕ) (r q : Remaining) → Ahead a x d r q → Rests s d r q

abbrev pub SpansAlike : Beside → Span → Span → Type 0
SpansAlike w s r = w.Spans s.start s.end r.start r.end

abbrev pub EndsAlike : Beside → List Marker → List Marker → Type 0
EndsAlike w = AllZip (λ p q. w.Spans p p q q)

-- two machines, of whose tokens T holds, whatever is expected next
pub record With (w : Beside) (T : Remaining → Remaining → Type 0) (m n : Machine) : Type 0 where
  pub tokens : T m.tokens n.tokens
  pub states : n.states ≡ m.states
  pub pair_ends : EndsAlike w m.pair_ends n.pair_ends
  pub anchors : n.anchors ≡ m.anchors
  pub prefixes : n.prefixes ≡ m.prefixes
  pub setting : w.Setting m.keep_tags n.keep_tags

-- with this room beside what the open nodes take
abbrev pub Near : Beside → Marker → Marker → ℕ → Machine → Machine → Type 0
Near w a x d m n = With w (w.Ahead a x (d + total_weight m.states)) m n

-- other tokens, and something else is expected
pub changed : (w : Beside) (T U : Remaining → Remaining → Type 0) (m n : Machine) (r q : Remaining) (s x : State)
    (ss xs : List State) → U r q → xs ≡ ss → With w T m n
    → With w U (record m { tokens = r; state = s; states = ss }) (record n { tokens = q; state = x; states = xs })
changed w u0 u1 m n r q s x ss xs rest es near = grind arith

-- the pairs that are open end elsewhere
pub with_ends : (w : Beside) (T : Remaining → Remaining → Type 0) (m n : Machine) (ps qs : List Marker)
    → EndsAlike w ps qs → With w T m n → With w T (record m { pair_ends = ps }) (record n { pair_ends = qs })
with_ends w T m n ps qs e near = grind arith

-- with less room
pub less : (w : Beside) {a x : Marker} {c d : ℕ} (m n : Machine) → c ≤ d → With w (w.Ahead a x d) m n
    → With w (w.Ahead a x c) m n
less w {a} {x} {c} {d} m n l near = grind arith

-- what is left after a token of the kind, with this room before it
abbrev pub After : Beside → ℕ → Kind → Marker → Marker → Remaining → Remaining → Type 0
After w d k b y = Behind (w.Ahead b y (10 + d)) w.Over (λ r q. (c : ℕ) → c ≤ 10 + d → w.Rests state.End c r q) k

-- after a token of the kind k, which may be put back
pub record Held (w : Beside) (d : ℕ) (k : Kind) (t u : Piece) (m n : Machine) : Type 0 where
  pub kind : t.kind ≡ k
  pub same : u.kind ≡ k
  pub span : SpansAlike w t.span u.span
  pub back : Near w t.span.start u.span.start d (put_back t m) (put_back u n)
  pub behind : With w (After w (d + total_weight m.states) k t.span.end u.span.end) m n

-- ## What is given

abbrev pub RefusesAlike : {X : Type 0} → Beside → Refusal → Result X Refusal → Type 0
RefusesAlike w f (Ok y) = ⊥
RefusesAlike w f (Err g) = w.Refused f g

-- both give, and R holds of what they give; or both refuse, or the first's tokens ended too early
abbrev pub GivesAlike : {X Y : Type 0} → Beside → (X → Y → Type 0) → Result X Refusal → Result Y Refusal → Type 0
GivesAlike w R (Ok x) (Ok y) = R x y
GivesAlike w R (Ok x) (Err g) = ⊥
GivesAlike w R (Err f) q = w.Early f ⊎ RefusesAlike w f q

pub goes_on : {X Y V W : Type 0} (w : Beside) (R : X → Y → Type 0) (S : V → W → Type 0) (p : Result X Refusal)
    (q : Result Y Refusal) (go : X → Result V Refusal) (ho : Y → Result W Refusal) → GivesAlike w R p q
    → ((x : X) (y : Y) → R x y → GivesAlike w S (go x) (ho y)) → GivesAlike w S (p >>= go) (q >>= ho)
goes_on w u0 u1 u2 u3 go ho g h = grind arith

pub either :
    {X Y : Type 0} (w : Beside) (R : X → Y → Type 0) (b : Bool) (p r : Result X Refusal) (q s : Result Y Refusal)
    → (b ≡ true → GivesAlike w R p q) → GivesAlike w R r s
    → GivesAlike w R (if b then p else r) (if b then q else s)
either w R true p r q s g h = g refl
either w R false p r q s g h = h

-- between two steps
pub record Between (w : Beside) (m n : Machine) : Type 0 where
  pub state : n.state ≡ m.state
  pub rest :
      With w (w.Rests m.state (10 + weight_before m.state m.tokens.pieces + total_weight m.states)) m n

-- what is expected after a document's marker
abbrev pub Awaits : Kind → Machine → Type 0
Awaits tokens.DocumentStart m =
    (m.state ≡ state.DocumentContent) × ((ss : List State) × (m.states ≡ state.DocumentEnd ∷ ss))
Awaits tokens.DocumentEnd m = m.state ≡ state.ImplicitDocumentStart
Awaits _ m = ⊥

-- the marker's event
abbrev pub IsMarkers : Kind → Happening → Type 0
IsMarkers tokens.DocumentStart what = what ≡ events.DocumentStart true
IsMarkers tokens.DocumentEnd what = what ≡ events.DocumentEnd
IsMarkers _ what = ⊥

-- two machines after an event: tokens are left as before, or the event is that of a marker which was the last token
abbrev pub Left : Beside → Happening → Machine → Machine → Type 0
Left w what m n = Between w m n
    ⊎ ((k : Kind) × (n.state ≡ m.state) × With w (w.Over k) m n × Awaits k m × IsMarkers k what)

-- the same event, and machines side by side, which the end of the stream ends
pub record Alike (w : Beside) (x y : Emitted) : Type 0 where
  pub what : y.what ≡ x.what
  pub span : SpansAlike w x.span y.span
  pub machine : Left w x.what x.machine y.machine
  pub closes : LeavesEnd x.what x.machine.state

abbrev pub EmitsAlike : Beside → Result Emitted Refusal → Result Emitted Refusal → Type 0
EmitsAlike w p q = GivesAlike w (Alike w) p q

-- ## Tokens

abbrev pub Both : {X : Type 0} → (w : Beside) → ℕ → (X → X → Type 0) → (Machine → Result X Refusal)
    → (Machine → Result X Refusal) → Type 0
Both w d R go ho = (a x : Marker) (m n : Machine) → Near w a x d m n → GivesAlike w R (go m) (ho n)

-- after a token
abbrev pub AtBoth : {X : Type 0} → (w : Beside) → ℕ → (X → X → Type 0) → (Kind → Piece → Machine → Result X Refusal)
    → (Kind → Piece → Machine → Result X Refusal) → Type 0
AtBoth w d R go ho =
    (k : Kind) (t u : Piece) (m n : Machine) → Held w d k t u m n → GivesAlike w R (go k t m) (ho k u n)

-- after a token that comes behind these places
abbrev pub AtBothBehind : {X : Type 0} → (w : Beside) → Marker → Marker → ℕ → (X → X → Type 0)
    → (Kind → Piece → Machine → Result X Refusal) → (Kind → Piece → Machine → Result X Refusal) → Type 0
AtBothBehind w a x d R go ho =
    (k : Kind) (t u : Piece) (m n : Machine) → w.Spans a t.span.start x u.span.start → Held w d k t u m n
    → GivesAlike w R (go k t m) (ho k u n)

pub of_kind :
    {X : Type 0} (w : Beside) (R : X → X → Type 0) (go ho : Kind → Piece → Machine → Result X Refusal) {d : ℕ}
    (k : Kind) (t u : Piece) (m n : Machine) → Held w d k t u m n → GivesAlike w R (go k t m) (ho k u n)
    → GivesAlike w R (go t.kind t m) (ho u.kind u n)
of_kind w u0 go ho k t u m n h g = grind arith

-- with these tokens ahead
abbrev pub Facing : Beside → Marker → Marker → ℕ → List Piece → List Piece → Machine → Machine → Type 0
Facing w a x d ts us m n = With w
    (λ r q. w.Ahead a x (d + total_weight m.states) (record { pieces = ts; refusal = r.refusal })
    (record { pieces = us; refusal = q.refusal })) m n

pub facing : (w : Beside) (a x : Marker) (d : ℕ) (m n : Machine) → Near w a x d m n
    → Facing w a x d m.tokens.pieces n.tokens.pieces m n
facing w a x d m n near = grind arith

-- the tokens are over
pub over : {X : Type 0} (w : Beside) (R : X → X → Type 0) (a x : Marker) (d : ℕ) (us : List Piece) (m n : Machine)
    (go : List Piece → Result X Refusal) → Facing w a x d [] us m n → go [] ≡ Err (ending_refusal n.tokens.refusal)
    → GivesAlike w R (Err (ending_refusal m.tokens.refusal)) (go us)
over w u0 a x d us m n go near is = grind arith

abbrev pub Head : Beside → Marker → Marker → ℕ → Piece → List Piece → List Piece → Machine → Machine → Type 0
Head w a x d t ts us m n =
    Next w.Spans (λ y. w.Ahead t.span.start y (d + total_weight m.states))
    (λ y. After w (d + total_weight m.states) t.kind t.span.end y) a x t ts us m.tokens.refusal n.tokens.refusal

pub head : (w : Beside) (a x : Marker) (d : ℕ) (t : Piece) (ts us : List Piece) (m n : Machine)
    → Facing w a x d (t ∷ ts) us m n → Head w a x d t ts us m n
head w a x d t ts us m n near = w.next a x _ t ts us m.tokens.refusal n.tokens.refusal near.tokens

pub holds_head : (w : Beside) (a x : Marker) (d : ℕ) (t : Piece) (ts us : List Piece) (m n : Machine)
    → Facing w a x d (t ∷ ts) us m n → (h : Head w a x d t ts us m n)
    → Held w d t.kind t (record { span = h.span; kind = t.kind }) (with_pieces ts m) (with_pieces h.tail n)
holds_head w a x d t ts us m n near h = grind arith

-- a step that takes a token, where the room may be told by the tokens
pub taken_by :
    {X : Type 0} (w : Beside) (R : X → X → Type 0) (d : List Piece → ℕ)
    (go ho : Kind → Piece → Machine → Result X Refusal) (a x : Marker) (m n : Machine)
    → Near w a x (d m.tokens.pieces) m n
    → ((t u : Piece) (m n : Machine) → w.Spans a t.span.start x u.span.start
    → Held w (d (t ∷ m.tokens.pieces)) t.kind t u m n → GivesAlike w R (go t.kind t m) (ho t.kind u n))
    → GivesAlike w R (taken_token m >>= (λ t. go t.0.kind t.0 t.1)) (taken_token n >>= (λ t. ho t.0.kind t.0 t.1))
taken_by w R d go ho a x m n near h =
    by m.tokens.pieces n.tokens.pieces (facing w a x (d m.tokens.pieces) m n near)
  where
    by : (ts us : List Piece) → Facing w a x (d ts) ts us m n
        → GivesAlike w R (taken_token_from ts m >>= (λ t. go t.0.kind t.0 t.1))
        (taken_token_from us n >>= (λ t. ho t.0.kind t.0 t.1))
    by [] us f = over w R a x (d []) us m n (λ us. taken_token_from us n >>= (λ t. ho t.0.kind t.0 t.1)) f refl
    by (t ∷ ts) us f =
        let y = head w a x (d (t ∷ ts)) t ts us m n f in
        rw y.is (h t _ (with_pieces ts m) (with_pieces y.tail n) y.gap (holds_head w a x (d (t ∷ ts)) t ts us m n f y))

pub taken_behind : {X : Type 0} (w : Beside) (R : X → X → Type 0) (d : ℕ)
    (go ho : Kind → Piece → Machine → Result X Refusal) (a x : Marker) (m n : Machine) → Near w a x d m n
    → AtBothBehind w a x d R go ho
    → GivesAlike w R (taken_token m >>= (λ t. go t.0.kind t.0 t.1)) (taken_token n >>= (λ t. ho t.0.kind t.0 t.1))
taken_behind w R d go ho a x m n near h =
    taken_by w R (λ ts. d) go ho a x m n near (λ t u m n g i. h t.kind t u m n g i)

pub taken : {X : Type 0} (w : Beside) (R : X → X → Type 0) (d : ℕ) (go ho : Kind → Piece → Machine → Result X Refusal)
    → AtBoth w d R go ho
    → Both w d R (λ m. taken_token m >>= (λ t. go t.0.kind t.0 t.1)) (λ m. taken_token m >>= (λ t. ho t.0.kind t.0 t.1))
taken w R d go ho h a x m n near = taken_behind w R d go ho a x m n near (λ k t u m n g i. h k t u m n i)

-- ## What is done to both

pub refuses : (w : Beside) (text : FaultText) (t u : Piece) → SpansAlike w t.span u.span
    → EmitsAlike w (refusal_at text t) (refusal_at text u)
refuses w text t u s = inr (w.refused text t.span.start u.span.start (w.first _ _ _ _ s))

-- what is expected after a node that is opened takes some of the room
pushes : (w : Beside) (a x : Marker) (c d : ℕ) (s : State) (m n : Machine) → weight s + c ≤ d → Near w a x d m n
    → Near w a x c (push s m) (push s n)
pushes w a x c d s m n l near = grind arith

after_less : (w : Beside) (c d : ℕ) (k : Kind) (b y : Marker) (r q : Remaining) → c ≤ d → After w d k b y r q
    → After w c k b y r q
after_less w c d tokens.DocumentStart b y r q l (inl h) = inl (w.less b y _ _ r q (omega (arith, l)) h)
after_less w c d tokens.DocumentStart b y r q l (inr h) = inr h
after_less w c d tokens.DocumentEnd b y r q l (inl h) = inl (w.less b y _ _ r q (omega (arith, l)) h)
after_less w c d tokens.DocumentEnd b y r q l (inr h) = inr h
after_less w c d tokens.StreamEnd b y r q l h = λ e i. h e (omega (arith, l, i))
after_less w c d _ b y r q l h = w.less b y _ _ r q (omega (arith, l)) h

-- after a token, something is expected later
pub holds : (w : Beside) (c d : ℕ) (s : State) (k : Kind) (t u : Piece) (m n : Machine) → weight s + c ≤ d
    → Held w d k t u m n → Held w c k t u (push s m) (push s n)
holds w c d s k t u m n l h = grind (arith, pushes, changed, after_less)

pub holds_end : (w : Beside) (d : ℕ) (k : Kind) (t u : Piece) (m n : Machine) (p q : Marker) → w.Spans p p q q
    → Held w d k t u m n → Held w d k t u (with_pair_end p m) (with_pair_end q n)
holds_end w d k t u m n p q e h = grind (arith, with_ends)

-- one more anchor
pub registers : (w : Beside) (T : Remaining → Remaining → Type 0) (name : List ℕ) (m n : Machine) → With w T m n
    → With w T (register name m) (record n { anchors = with_anchor name m.anchors })
registers w u0 name m n near = grind arith

key_weight : (b : Bool) → (if b then 3 else 1) ≤ 3
key_weight true = omega arith
key_weight false = omega arith

weight_before_is_less : (s : State) (ts : List Piece) → weight_before s ts ≤ weight s
weight_before_is_less state.BlockMappingKey ts = key_weight (begins_with_value ts)
weight_before_is_less _ ts = omega arith

-- these states are expected
pub expects : (w : Beside) {a x : Marker} {d : ℕ} (s : State) (ss rs : List State) (m n : Machine) → rs ≡ ss
    → 10 + weight_before s m.tokens.pieces + total_weight ss ≤ d → With w (w.Ahead a x d) m n
    → Between w (record m { state = s; states = ss }) (record n { state = s; states = rs })
expects w {a} {x} {d} s ss rs m n es l near =
    record {
      state = refl;
      rest = changed w (w.Ahead a x d) _ m n m.tokens n.tokens s s ss rs
          (w.rests a x s _ m.tokens n.tokens (w.less a x _ d m.tokens n.tokens l near.tokens)) es near;
    }

pub enters : (w : Beside) {a x : Marker} {d : ℕ} (s : State) (m n : Machine)
    → 10 + weight s + total_weight m.states ≤ d → With w (w.Ahead a x d) m n
    → Between w (with_state s m) (with_state s n)
enters w s m n l near = expects w s m.states n.states m n near.states
    (let i = weight_before_is_less s m.tokens.pieces in omega (arith, i, l)) near

pub pops : (w : Beside) {a x : Marker} {d : ℕ} (m n : Machine) → 10 + total_weight m.states ≤ d
    → With w (w.Ahead a x d) m n → Between w (pop m) (pop n)
pops w {a} {x} {d} m n l near =
    subst (λ (rs : List State). Between w (pop m) (pop_from rs n)) (sym near.states) (by m.states l)
  where
    by : (ss : List State) → 10 + total_weight ss ≤ d → Between w (pop_from ss m) (pop_from ss n)
    by [] l = expects w state.End [] [] m n refl (omega (arith, l)) near
    by (s ∷ ss) l = expects w s ss ss m n refl
        (let i = weight_before_is_less s m.tokens.pieces in omega (arith, i, l)) near

pub emits : (w : Beside) (what : Happening) (s r : Span) (m n : Machine) → SpansAlike w s r → Between w m n
    → LeavesEnd what m.state → EmitsAlike w (emit what s m) (emit what r n)
emits w what s r m n e near c = record { what = refl; span = e; machine = inl near; closes = c }

-- an event that ends a node
pub emits_end : (w : Beside) {a x : Marker} {d : ℕ} (what : Happening) (s r : Span) (m n : Machine)
    → SpansAlike w s r → 10 + total_weight m.states ≤ d → With w (w.Ahead a x d) m n → LeavesEnd what (pop m).state
    → EmitsAlike w (emit what s (pop m)) (emit what r (pop n))
emits_end w what s r m n e l near c = emits w what s r _ _ e (pops w m n l near) c

pub enters_emitted : (w : Beside) {a x : Marker} {d : ℕ} (what : Happening) (y : State) (s r : Span) (m n : Machine)
    → SpansAlike w s r → 10 + weight y + total_weight m.states ≤ d → With w (w.Ahead a x d) m n
    → LeavesEnd what y → EmitsAlike w (emit what s (with_state y m)) (emit what r (with_state y n))
enters_emitted w what y s r m n e l near c = emits w what s r _ _ e (enters w y m n l near) c
