-- What a step of the machine makes of what may follow.
use Rattle.event_laws.proofs.OwnTokens.{HasOwn, behind_own}
use Rattle.event_laws.proofs.Common.{BelongsToNone, ◌≡◌, ◌≤◌, List, [], ◌∷◌, ◌++◌, length, Option, Some, Result, Ok, Err, refl, ap, append_assoc, arith, Marker, Span, Refusal, Kind, Piece, State, anchors, Part, kinds, Machine, Emitted}
use Rattle.event_laws.proofs.Emitted.Emitting.{Memory}
use Rattle.event_laws.proofs.Remembering.{after, event_in}
use Rattle.event_laws.proofs.Turned.Following.{Claim, Then, Exactly, FollowsStates, IsAlive, Starts}

abbrev pub piece_of : Kind → Span → Piece
piece_of k sp = record { span = sp; kind = k }

-- what ends the tokens, and where the pairs of brackets end that are open
pub record Aside : Type 0 where
  pub refusal : Option Refusal
  pub pair_ends : List Marker

abbrev pub machine : List Piece → Aside → State → List State → Memory → Machine
machine ts r s ss e = record {
  tokens = record { pieces = ts; refusal = r.refusal };
  state = s;
  states = ss;
  pair_ends = r.pair_ends;
  anchors = e.anchors;
  prefixes = e.prefixes;
  keep_tags = e.keep;
}

abbrev pub memory : Machine → Memory
memory m = record { anchors = m.anchors; prefixes = m.prefixes; keep = m.keep_tags }

-- A step that tells a part. What may follow it makes, after the tokens that it used, what might follow before.
pub record Goes (F : Claim) (e : Memory) (k : List Piece) (x : Emitted) : Type 0 where
  pub used : List Piece
  pub part : Part
  pub taken : k ≡ used ++ x.machine.tokens.pieces
  pub emits : event_in e part ≡ Some x.what
  pub remembers : memory x.machine ≡ after part e
  pub few : anchors (part ∷ []) ≤ length used
  pub places : HasOwn used x.what x.span x.machine.tokens.pieces
  pub alive : IsAlive x.machine.state x.machine.states
  pub makes : (ks : List Kind) (ps : List Part) → FollowsStates x.machine.state x.machine.states ks ps
      → Starts x.machine.state (kinds x.machine.tokens.pieces) ks → F (kinds used ++ ks) (part ∷ ps)

abbrev pub Turned : Claim → Memory → List Piece → Result Emitted Refusal → Type 0
Turned F e k (Ok x) = Goes F e k x
Turned F e k (Err f) = Unit {0}

-- for more lists
pub weaker : (F G : Claim) (e : Memory) (k : List Piece) (r : Result Emitted Refusal)
    → ((ks : List Kind) (ps : List Part) → F ks ps → G ks ps) → Turned F e k r → Turned G e k r
weaker u0 u1 e k u2 i h = grind arith

-- after a token that is used too
pub behind : (t : Piece) (F G : Claim) (e : Memory) (k : List Piece) (r : Result Emitted Refusal) → BelongsToNone t.kind
    → ((ks : List Kind) (ps : List Part) → F ks ps → G (t.kind ∷ ks) ps) → Turned F e k r → Turned G e (t ∷ k) r
behind t F G e k (Ok x) b i h =
    record {
      used = t ∷ h.used;
      part = h.part;
      taken = ap (λ (l : List Piece). t ∷ l) h.taken;
      emits = h.emits;
      remembers = h.remembers;
      few = (let l = h.few in omega (arith, l));
      places = behind_own t h.used x.what x.span b h.places;
      alive = h.alive;
      makes = λ ks ps f s. i _ _ (h.makes ks ps f s);
    }
behind t F G e k (Err f) b i h = tt

pub kinds_append : (a b : List Piece) → kinds (a ++ b) ≡ kinds a ++ kinds b
kinds_append [] b = refl
kinds_append (t ∷ a) b = cc (kinds_append a b)

-- ## Lists with their parts

-- the first two of three in one
pub regroup : (A B C D : Claim) (ks : List Kind) (ps : List Part)
    → ((a b : List Kind) (p q : List Part) → A a p → B b q → D (a ++ b) (p ++ q)) → Then A (Then B C) ks ps
    → Then D C ks ps
regroup A B C D ks ps join h =
    let g : Then B C h.back h.second = h.goes_on in
    record {
      front = h.front ++ g.front;
      back = g.back;
      first = h.first ++ g.first;
      second = g.second;
      begins = join h.front g.front h.first g.first h.begins g.begins;
      goes_on = g.goes_on;
      kinds_are = cc (append_assoc h.front g.front g.back);
      parts_are = cc (append_assoc h.first g.first g.second);
    }

-- other lists in front
pub replace : (A B D : Claim) (u : List Kind) (w : List Part) (ks : List Kind) (ps : List Part)
    → ((a : List Kind) (p : List Part) → A a p → D (u ++ a) (w ++ p)) → Then A B ks ps → Then D B (u ++ ks) (w ++ ps)
replace u0 u1 u2 u w ks ps join h = grind (arith, append_assoc)

-- these lists before all
pub put : (A R : Claim) (u : List Kind) (w : List Part) (ks : List Kind) (ps : List Part)
    → A u w → R ks ps → Then A R (u ++ ks) (w ++ ps)
put u0 u1 u w ks ps a r = grind arith

-- the first two of three in one, with these lists in front
pub join_behind : (A B C D : Claim) (u : List Kind) (w : List Part) (ks : List Kind) (ps : List Part)
    → ((a b : List Kind) (p q : List Part) → A a p → B b q → D (u ++ (a ++ b)) (w ++ (p ++ q)))
    → Then A (Then B C) ks ps → Then D C (u ++ ks) (w ++ ps)
join_behind A B C D u w ks ps join h = replace (λ a p. D (u ++ a) (w ++ p)) C D u w ks ps (λ a p x. x)
    (regroup A B C (λ a p. D (u ++ a) (w ++ p)) ks ps join h)

pub both_parts : {a b p q : List Part} → p ≡ a → q ≡ b → p ++ q ≡ a ++ b
both_parts {a = a} {q = q} e f = cc

-- between an opening and a closing
pub around : (A R D : Claim) (u close : List Kind) (opening closing : Part) (ks : List Kind)
    (ps : List Part) → ((a : List Kind) (p : List Part) → A a p → D (u ++ (a ++ close)) (opening ∷ (p ++ closing ∷ [])))
    → Then A (Then (Exactly close (closing ∷ [])) R) ks ps → Then D R (u ++ ks) (opening ∷ ps)
around A R D u close opening closing ks ps join h =
    join_behind A (Exactly close (closing ∷ [])) R D u (opening ∷ []) ks ps
    (λ a b p q x y. rw (y.0, y.1) (join a p x)) h
