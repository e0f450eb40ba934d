-- The events, but for their spans, are decided by the kinds of the tokens.
use Rattle.event_laws.proofs.Common.{is_some, ◌≡◌, ◌≢◌, ℕ, zero, suc, ◌<◌, Bool, false, List, [], ◌∷◌, ◌++◌, map, Option, None, Result, Ok, refl, sym, ap, ◌∙◌, arith, ◌⊎◌, inl, inr, map-append, Refusal, Kind, Piece, Remaining, State, Happening, DocumentMarker, GivesFirst, events_behind_marker, Machine, Emitted, Answer, answer_of_step, remaining_answer, machine_size, at_start, keeping_tags, to_come, GivesExactly, EmitTheSame, kinds, answer_of_tokens, marker_token, unroll, over, shrinks_at}
use Rattle.saphyr_scanner.specs.Grammar.Tokens as tokens
use Rattle.saphyr_machine.specs.declared.state.State.TheVariants as state
use Rattle.saphyr_machine.specs.Steps.Expected.{event_step, event_step_at}
use Rattle.event_laws.proofs.Placeless.{start_span, placeless_piece, placeless, Same, steps_same}
use Rattle.event_laws.proofs.Promises.CommonBeginnings.{ended}
use Rattle.event_laws.proofs.Promises.ClosedTokens.{closed_tokens}
use Rattle.event_laws.proofs.Happenings.{happenings_of}

-- ## All steps

-- the same events but for their spans, and a fault after both or none
record Alike (a b : Answer) : Type 0 where
  emitted : happenings_of b ≡ happenings_of a
  fault : is_some b.fault ≡ is_some a.fault

delivers_alike : (p q : Result Emitted Refusal) → Same p q
    → ((x : Emitted) → p ≡ Ok x → Alike (remaining_answer x.machine) (remaining_answer (placeless x.machine)))
    → Alike (answer_of_step p remaining_answer) (answer_of_step q remaining_answer)
delivers_alike u0 q e h = grind arith

as_before : (a c b d : Answer) → a ≡ c → b ≡ d → Alike c d → Alike a b
as_before a c b d e f h = record { emitted = ap happenings_of f ∙ h.emitted ∙ sym (ap happenings_of e); fault = cc }

first_step : (m : Machine)
    → ((x : Emitted) → event_step m ≡ Ok x
    → Alike (remaining_answer x.machine) (remaining_answer (placeless x.machine)))
    → Alike (remaining_answer m) (remaining_answer (placeless m))
unfolding event_step
first_step m next = by (ended m.state)
  where
    by : (m.state ≡ state.End) ⊎ (m.state ≢ state.End) → Alike (remaining_answer m) (remaining_answer (placeless m))
    by (inl e) = as_before _ _ _ _ (over m e) (over (placeless m) e)
        (record { emitted = refl; fault = refl })
    by (inr h) = as_before _ _ _ _ (unroll m h) (unroll (placeless m) h)
        (delivers_alike (event_step_at m.state m) (event_step_at m.state (placeless m))
        (steps_same m.state m) next)

runs : (n : ℕ) (m : Machine) → machine_size m < n → Alike (remaining_answer m) (remaining_answer (placeless m))
runs zero m l = absurd (omega (arith, l))
runs (suc n) m l = first_step m (λ x e. runs n x.machine (shrinks_at n m x (omega (arith, l)) e))

-- ## Tokens of the same kinds

same_pieces : (ts us : List Piece) → kinds ts ≡ kinds us → map placeless_piece ts ≡ map placeless_piece us
same_pieces [] [] e = refl
same_pieces [] (u ∷ us) e = absurd (cc)
same_pieces (t ∷ ts) [] e = absurd (cc)
same_pieces (t ∷ ts) (u ∷ us) e = cc (same_pieces ts us cc)

-- the machine of a parser at the start of tokens
abbrev start : Bool → Remaining → Machine
start keep tokens = (keeping_tags keep (at_start tokens)).machine

alike : (keep : Bool) (a b : Remaining) → kinds a.pieces ≡ kinds b.pieces
    → Alike (to_come (keeping_tags keep (at_start a))) (to_come (keeping_tags keep (at_start b)))
alike keep a b e =
    let x = runs (suc (machine_size (start keep a))) (start keep a) (omega arith) in
    let y = runs (suc (machine_size (start keep b))) (start keep b) (omega arith) in
    let same : placeless (start keep a) ≡ placeless (start keep b) = cc (same_pieces a.pieces b.pieces e) in
    record { emitted = cc; fault = cc }

pub emits_too : (keep : Bool) (a b : Remaining) → kinds a.pieces ≡ kinds b.pieces
    → EmitTheSame (to_come (keeping_tags keep (at_start a))) (to_come (keeping_tags keep (at_start b)))
emits_too keep a b e = let same = alike keep b a (sym e) in record { emitted = same.emitted; fault = same.fault }

none_if : {X : Type 0} (o : Option X) → is_some o ≡ false → o ≡ None
none_if o e = grind arith

pub exactly_too : (keep : Bool) (a b : Remaining) (es : List Happening) → kinds a.pieces ≡ kinds b.pieces
    → GivesExactly es (to_come (keeping_tags keep (at_start a)))
    → GivesExactly es (to_come (keeping_tags keep (at_start b)))
exactly_too keep a b es e g =
    let same = alike keep a b e in
    (none_if (to_come (keeping_tags keep (at_start b))).fault (same.fault ∙ ap is_some g.0), same.emitted ∙ g.1)

pub first_too : (keep : Bool) (a b : Remaining) (es : List Happening) → kinds a.pieces ≡ kinds b.pieces
    → GivesFirst es (to_come (keeping_tags keep (at_start a)))
    → GivesFirst es (to_come (keeping_tags keep (at_start b)))
first_too keep a b es e g = (g.0, (alike keep a b e).emitted ∙ g.1)

-- ## Closed beginnings

abbrev pub piece_of : Kind → Piece
piece_of k = record { span = start_span; kind = k }

pub kinds_of : (ks : List Kind) → kinds (map piece_of ks) ≡ ks
kinds_of [] = refl
kinds_of (k ∷ ks) = ap (λ vs. k ∷ vs) (kinds_of ks)

all_kinds : (ks ls : List Kind) → kinds (map piece_of ks ++ map piece_of ls) ≡ ks ++ ls
all_kinds ks ls = ap kinds (sym (map-append piece_of ks ls)) ∙ kinds_of (ks ++ ls)

-- Tokens end with a marker's and the end of the stream, and give exactly these events. Where others follow the marker's
-- token, the events up to and including the marker's come first.
pub closed_kinds : (keep : Bool) (w : DocumentMarker) (earlier more : List Kind) (alone : List Piece)
    (followed : Remaining) (first : List Happening) → kinds alone ≡ earlier ++ marker_token w ∷ tokens.StreamEnd ∷ []
    → kinds followed.pieces ≡ earlier ++ marker_token w ∷ more
    → GivesExactly (first ++ events_behind_marker w) (answer_of_tokens keep alone)
    → GivesFirst first (to_come (keeping_tags keep (at_start followed)))
closed_kinds keep w earlier more alone followed first a f g =
    let last : Piece = piece_of (marker_token w) in
    let end : Piece = piece_of tokens.StreamEnd in
    let ending : List Piece = map piece_of earlier ++ last ∷ end ∷ [] in
    let others : List Piece = map piece_of earlier ++ last ∷ map piece_of more in
    let given = exactly_too keep (record { pieces = alone; refusal = None })
    (record { pieces = ending; refusal = None }) (first ++ events_behind_marker w)
    (a ∙ sym (all_kinds earlier (marker_token w ∷ tokens.StreamEnd ∷ []))) g in
    first_too keep (record { pieces = others; refusal = None }) followed first
    (all_kinds earlier (marker_token w ∷ more) ∙ sym f)
    (closed_tokens keep w (map piece_of earlier) (map piece_of more) last end None first refl refl given)
