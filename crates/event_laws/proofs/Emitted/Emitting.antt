-- Machines before tokens whose spans are told by the tokens after them, and the events that they give.
use Rattle.event_laws.proofs.Common.{◌≡◌, ◌≢◌, ℕ, ◌<◌, ◌≤◌, Bool, false, List, [], ◌∷◌, length, None, Ok, refl, sym, ap, ◌∙◌, arith, if◌then◌else◌, Marker, Span, Kind, Piece, State, End, Happening, Names, Anchors, Machine, Emitted, event_step, remaining_answer, GivesExactly, kinds, unroll, over}
use Rattle.std.proofs.Math.Dec.{eqb}
use Rattle.std.proofs.lemmas.Bool.{eq-eqb, ne_eqb}

-- ## Tokens by their kinds

-- the span of a token, told by the tokens after it
abbrev pub SpansByKinds : Type 0
SpansByKinds = List Kind → Span

abbrev pub dressed : SpansByKinds → List Kind → List Piece
dressed f [] = []
dressed f (k ∷ ks) = record { span = f ks; kind = k } ∷ dressed f ks

-- the span of the first of these tokens
unfoldable pub span_of_token : SpansByKinds → List Kind → Span
span_of_token f [] = f []
span_of_token f (k ∷ ks) = f ks

-- what a machine remembers of the tokens that it has read
pub record Memory : Type 0 where
  pub anchors : Anchors
  pub prefixes : Names (List ℕ)
  pub keep : Bool

-- what is expected after each node that is open, and where the pairs of brackets end that are open
pub record Outer : Type 0 where
  pub states : List State
  pub pair_ends : List Marker

abbrev pub top : Outer
top = record { states = []; pair_ends = [] }

abbrev pub expecting : State → Outer → Outer
expecting s ss = record ss { states = s ∷ ss.states }

abbrev pub ending : Marker → Outer → Outer
ending place ss = record ss { pair_ends = place ∷ ss.pair_ends }

abbrev pub at : SpansByKinds → List Kind → State → Outer → Memory → Machine
at f ks s ss e = record {
  tokens = record { pieces = dressed f ks; refusal = None };
  state = s;
  states = ss.states;
  pair_ends = ss.pair_ends;
  anchors = e.anchors;
  prefixes = e.prefixes;
  keep_tags = e.keep;
}

-- ## Any tokens are such

abbrev with_span : Span → ℕ → SpansByKinds → SpansByKinds
with_span s n f ks = if eqb (length ks) n then s else f ks

same_here : (a b : Span) (n : ℕ) → (if eqb n n then a else b) ≡ a
same_here a b n = rw (eq-eqb n n refl) refl

same_before : (a b : Span) (n k : ℕ) → k < n → (if eqb k n then a else b) ≡ b
same_before a b n k l = let no : eqb k n ≡ false = ne_eqb k n (λ e. omega (arith, l, e)) in rw no refl

same_dress : (s : Span) (n : ℕ) (f : SpansByKinds) (ks : List Kind) → length ks ≤ n
    → dressed (with_span s n f) ks ≡ dressed f ks
same_dress s n f [] l = refl
same_dress s n f (k ∷ ks) l =
    cc (same_before s (f ks) n (length ks) (omega (arith, l)), same_dress s n f ks (omega (arith, l)))

-- any span will do for the tokens that there are not
pub dress : (any : Span) (ts : List Piece) → (f : SpansByKinds) × (ts ≡ dressed f (kinds ts))
dress any [] = ((λ ks. any), refl)
dress any (t ∷ ts) =
    let others : (f : SpansByKinds) × (ts ≡ dressed f (kinds ts)) = dress any ts in
    let n : ℕ = length (kinds ts) in
    let f : SpansByKinds = with_span t.span n others.0 in (
      f,
      ap (λ (x : Span). record { span = x; kind = t.kind } ∷ ts) (sym (same_here t.span (others.0 (kinds ts)) n))
          ∙ ap (λ (us : List Piece). record { span = f (kinds ts); kind = t.kind } ∷ us)
          (others.1 ∙ sym (same_dress t.span n others.0 (kinds ts) (omega arith))),
    )

-- ## One step

pub emits : (m : Machine) (x : Emitted) (es : List Happening) → m.state ≢ End → event_step m ≡ Ok x
    → GivesExactly es (remaining_answer x.machine) → GivesExactly (x.what ∷ es) (remaining_answer m)
emits m x es more e h = grind (arith, unroll)

pub ends : (m : Machine) → m.state ≡ End → GivesExactly [] (remaining_answer m)
ends m e = rw (over m e) (refl, refl)
