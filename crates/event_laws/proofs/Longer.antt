-- More tokens after those of a machine change nothing of what a step gives.
use Rattle.event_laws.proofs.Common.{◌≡◌, ◌≢◌, ℕ, ◌+◌, ◌≤◌, List, [], ◌∷◌, ◌++◌, Option, Result, Ok, Err, refl, ap, ◌∙◌, ◌⊎◌, inl, inr, arith, Marker, Refusal, Kind, Piece, Remaining, State, Happening, DocumentMarker, Starts, Ends, marker_event, Machine, Emitted, ending_refusal, with_pieces, event_step_at, with_more, marker_token, Awaits, IsMarkers, Beside, Behind, Left, With, EmitsAlike, IsBetweenDocuments, PassedAll, steps_beside}
use Rattle.saphyr_scanner.specs.Grammar.Tokens as tokens
use Rattle.saphyr_machine.specs.declared.state.State.TheVariants as state
use Rattle.saphyr_machine.specs.Steps.Documents.{unpassed_token, implicit_start, explicit_start}
use Rattle.saphyr_machine.specs.Steps.Machine.{text_start}
use Rattle.event_laws.proofs.Maps.{becomes, emits_so, stay, leaves}

-- ## More tokens

-- Tokens that come after those of a machine, and what ends them. Those of the machine end with this marker's, or
-- `Early` holds: they may end too early.
pub record More : Type 1 where
  pub Early : Type 0
  pub marker : DocumentMarker
  pub pieces : List Piece
  pub refusal : Option Refusal

abbrev pub longer : More → Machine → Machine
longer z m = with_more z.pieces z.refusal m

-- A token of the kind is the marker's, and none of the tokens ts comes after it; or else B.
abbrev pub IsLastOr : DocumentMarker → Type 0 → List Piece → Kind → Type 0
IsLastOr w B ts tokens.DocumentStart = ((w ≡ Starts) × (ts ≡ [])) ⊎ B
IsLastOr w B ts tokens.DocumentEnd = ((w ≡ Ends) × (ts ≡ [])) ⊎ B
IsLastOr w B ts _ = B

-- tokens that end with the marker's, or may end too early
abbrev pub End : More → List Piece → Type 0
End z [] = z.Early
End z (t ∷ ts) = IsLastOr z.marker (End z ts) ts t.kind

-- the marker's token is still to be read, or it was the last that was read
abbrev pub IsLeft : More → Machine → Type 0
IsLeft z m = End z m.tokens.pieces ⊎ ((m.tokens.pieces ≡ []) × Awaits (marker_token z.marker) m)

-- After an event: the marker's token is still to be read, or the event is the marker's own.
abbrev pub IsLeftBehind : More → Happening → Machine → Type 0
IsLeftBehind z what m =
    End z m.tokens.pieces ⊎ ((m.tokens.pieces ≡ []) × Awaits (marker_token z.marker) m × (what ≡ marker_event z.marker))

pub left_behind : (z : More) (what : Happening) (m : Machine) → IsLeftBehind z what m → IsLeft z m
left_behind z what m u0 = grind arith

-- The second result, which is from more tokens, is the first with these tokens after; or the tokens, which r ends,
-- ended too early.
abbrev pub AgreesOrEndsEarly : More → Option Refusal → Result Emitted Refusal → Result Emitted Refusal → Type 0
AgreesOrEndsEarly z r (Ok x) q = IsLeftBehind z x.what x.machine × (x.machine.tokens.refusal ≡ r)
    × (q ≡ Ok (record x { machine = longer z x.machine }))
AgreesOrEndsEarly z r (Err f) q = (z.Early × (f ≡ ending_refusal r)) ⊎ (q ≡ Err f)

-- ## Both machines

abbrev more : More → Remaining → Remaining
more z r = record { pieces = r.pieces ++ z.pieces; refusal = z.refusal }

-- the tokens that are left, which o ends, and those with more after
abbrev Rest : More → Option Refusal → Remaining → Remaining → Type 0
Rest z o r q = End z r.pieces × (r.refusal ≡ o) × (q ≡ more z r)

abbrev Over : More → Option Refusal → Kind → Remaining → Remaining → Type 0
Over z o k r q = ((marker_token z.marker ≡ k) × (r.pieces ≡ [])) × (r.refusal ≡ o) × (q ≡ more z r)

longer_behind : (z : More) (o : Option Refusal) (x a : Marker) (d : ℕ) (k : Kind) (r q : Remaining)
    → IsLastOr z.marker (End z r.pieces) r.pieces k → r.refusal ≡ o → q ≡ more z r → x ≡ a
    → Behind (λ r q. (x ≡ a) × Rest z o r q) (Over z o) (λ r q. (c : ℕ) → c ≤ d → Rest z o r q) k r q
longer_behind z o x a d u0 r q u1 i y p = grind arith

-- What the walk of all steps (`steps_alike`) compares here: one machine, and one whose tokens go on behind a
-- document's end. Places and settings are the same, and the rest of the tokens is longer (`Rest`).
abbrev with_longer : More → Option Refusal → Beside
with_longer z o =
    record {
      Spans = λ a b x y. (x ≡ a) × (y ≡ b);
      Ahead = λ a x d r q. (x ≡ a) × Rest z o r q;
      Rests = λ s d r q. Rest z o r q;
      Over = Over z o;
      Setting = λ b c. c ≡ b;
      Early = λ f. z.Early × (f ≡ ending_refusal o);
      Refused = λ f g. g ≡ f;
      start = (refl, refl);
      joined = λ a b c x y z s t. (s.0, t.1);
      first = λ a b x y s. (s.0, s.0);
      last = λ a b x y s. (s.1, s.1);
      refused = λ text a x s. rw s.0 refl;
      none = λ a x d us v e i. inl (i.1.0, ap ending_refusal i.1.1);
      next = λ a x d t ts us v e i.
          record {
            span = t.span;
            tail = ts ++ z.pieces;
            is = ap (λ (r : Remaining). r.pieces) i.1.2;
            gap = (i.0, refl);
            own = (refl, refl);
            front = (refl, i.1);
            behind = longer_behind z o _ t.span.end (10 + d) t.kind _ _ i.1.0 i.1.1
                (ap (λ (r : Remaining). record { pieces = ts ++ z.pieces; refusal = r.refusal }) i.1.2) refl;
          };
      less = λ a x c d r q l i. i;
      rests = λ a x s d r q i. i.1;
    }

-- ## Each step

becomes_longer : (z : More) (o : Option Refusal) (T : Remaining → Remaining → Type 0) (m n : Machine)
    → n.state ≡ m.state → With (with_longer z o) T m n → n.tokens ≡ more z m.tokens
    → n ≡ longer z m
becomes_longer z o T m n e near is =
    becomes (with_longer z o) T (λ p. p) (more z m.tokens) m.keep_tags m n (λ p q i. i.0) e near is near.setting
    ∙ stay (more z m.tokens) m.keep_tags m

own_event : (d : DocumentMarker) (what : Happening) → IsMarkers (marker_token d) what → what ≡ marker_event d
own_event u0 what h = grind arith

longer_left : (z : More) (o : Option Refusal) (what : Happening) (m n : Machine) → Left (with_longer z o) what m n
    → IsLeftBehind z what m × (m.tokens.refusal ≡ o) × (n ≡ longer z m)
longer_left z o what m n (inl h) =
    (inl h.rest.tokens.0, h.rest.tokens.1, becomes_longer z o _ m n h.state h.rest h.rest.tokens.2)
longer_left z o what m n (inr (k, e, over, a, own)) = (
  inr (over.tokens.0.1, rw over.tokens.0.0 a, own_event z.marker what (rw over.tokens.0.0 own)),
  over.tokens.1,
  becomes_longer z o _ m n e over over.tokens.2,
)

agrees : (z : More) (o : Option Refusal) (p q : Result Emitted Refusal) → EmitsAlike (with_longer z o) p q
    → AgreesOrEndsEarly z o p q
agrees z o (Ok x) (Ok y) h =
    let l = longer_left z o x.what x.machine y.machine h.machine in
    (l.0, l.1, ap Ok (emits_so (with_longer z o) (λ p. p) x y _ (λ p q e. e.0) h l.2))
agrees z o (Ok x) (Err g) h = absurd h
agrees z o (Err f) q (inl e) = inl e
agrees z o (Err f) (Ok y) (inr e) = absurd e
agrees z o (Err f) (Err g) (inr e) = inr (simp e)

-- All tokens were passed, of which the last was `...`: the step is the one of the machine with the others alone.
abbrev pub PassesAll : More → Machine → (Machine → Result Emitted Refusal) → Type 0
PassesAll z m go = (z.marker ≡ Ends) × (go m ≡ Err (ending_refusal m.tokens.refusal))
    × (go (longer z m) ≡ go (longer z (with_pieces [] m)))

last_marker : (d : DocumentMarker) → marker_token d ≡ tokens.DocumentEnd → d ≡ Ends
last_marker u0 e = grind arith

all_passed : (z : More) (o : Option Refusal) (s : State) (m : Machine) → IsBetweenDocuments s
    → PassedAll (with_longer z o) m (longer z m) (event_step_at s) → PassesAll z m (event_step_at s)
unfolding implicit_start explicit_start unpassed_token
all_passed z o s m i u0 = grind (arith, last_marker)

pub steps_agree : (z : More) (s : State) (m : Machine) → s ≢ state.End → End z m.tokens.pieces
    → AgreesOrEndsEarly z m.tokens.refusal (event_step_at s m) (event_step_at s (longer z m))
    ⊎ (IsBetweenDocuments s × PassesAll z m (event_step_at s))
steps_agree z s m on e = by (steps_beside w s text_start text_start m (longer z m)
    on (λ i b c k. k)
    (leaves w _ (more z m.tokens) m.keep_tags m (λ p. (refl, refl)) (refl, (e, refl, refl)) refl))
  where
    w : Beside
    w = with_longer z m.tokens.refusal

    by : EmitsAlike w (event_step_at s m) (event_step_at s (longer z m))
        ⊎ (IsBetweenDocuments s × PassedAll w m (longer z m) (event_step_at s))
        → AgreesOrEndsEarly z m.tokens.refusal (event_step_at s m) (event_step_at s (longer z m))
        ⊎ (IsBetweenDocuments s × PassesAll z m (event_step_at s))
    by (inl h) = inl (agrees z m.tokens.refusal _ _ h)
    by (inr (i, p)) = inr (i, all_passed z m.tokens.refusal s m i p)
