-- The promise on every text: the events of tokens that are taken from a text are taken from it.
use Rattle.event_laws.proofs.Common.{◌≡◌, ℕ, ◌+◌, ◌*◌, ◌<◌, ◌≤◌, ◌^◌, List, [], ◌∷◌, ◌++◌, length, Option, Some, refl, inl, inr, arith, Marker, Refusal, Kind, Piece, Remaining, scan, IsPlaceOf, AreTakenFrom, no_collections, AreAtPlaces, EventCursor, at_start, TakesEvents}
use Rattle.saphyr_scalar.specs.Views.Cursor as scalar
use Rattle.saphyr_scanner.specs.Grammar.Tokens as tokens
use Rattle.saphyr_scanner.specs.Ends.{HasNoEnd, EndsWithStream}
use Rattle.event_laws.proofs.Refusing.{IsRefusedAt, IsLastOr, AreEnded, refused_at}
use Rattle.event_laws.proofs.Promises.EachForest.{begins_each}
use Rattle.event_laws.proofs.Sound.{begins}
use Rattle.event_laws.proofs.TokensForm.{tokens_form}

-- ## How the tokens end

no_last : (A : Type 0) (k : Kind) (ts : List Piece) → ¬ (k ≡ tokens.StreamEnd) → A → IsLastOr A ts k
no_last A k ts h a = grind arith

ended_by_refusal : (P : Marker → Type 0) (r : Option Refusal) (ts : List Piece) → HasNoEnd ts → IsRefusedAt P r
    → AreEnded P r ts
ended_by_refusal P r [] h e = e
ended_by_refusal P r (t ∷ ts) h e = no_last (AreEnded P r ts) t.kind ts h.0 (ended_by_refusal P r ts h.1 e)

complete : (P : Marker → Type 0) (r : Option Refusal) (front : List Piece) (end : Piece) → HasNoEnd front
    → end.kind ≡ tokens.StreamEnd → AreEnded P r (front ++ end ∷ [])
complete P r [] end h e = rw e refl
complete P r (t ∷ front) end h e =
    no_last (AreEnded P r (front ++ end ∷ [])) t.kind (front ++ end ∷ []) h.0 (complete P r front end h.1 e)

-- where a refusal has such a place
pub ended : (P : Marker → Type 0) (r : Remaining) → EndsWithStream r → ((e : Refusal) → r.refusal ≡ Some e → P e.mark)
    → AreEnded P r.refusal r.pieces
ended P r (inl h) at = ended_by_refusal P r.refusal r.pieces h.2 (rw h.1 (at h.0 h.1))
ended P r (inr h) at = rw h.4 (complete P r.refusal h.0 h.1 h.2 h.3)

-- ## The events

pub takes : (text : List ℕ) (r : Remaining) → AreTakenFrom text r → AreAtPlaces text r.pieces → EndsWithStream r
    → length r.pieces < 2 ^ 64 → TakesEvents text (at_start r)
takes text r t a e l keep =
    let ends : AreEnded (IsPlaceOf text) r.refusal r.pieces = ended (IsPlaceOf text) r e (λ f is. rw is at t.5) in
    let formed = tokens_form (IsPlaceOf text) r.refusal no_collections r.pieces (scalar.start_cursor text) t.0 t.1
    (inr ends) in
    let begun = begins r keep formed l in (
      begun.0,
      record {
        tokens = r;
        taken = t;
        begins = begun.1;
        begins_each = begins_each r keep;
        refused_at = refused_at text r keep a ends;
      },
    )

-- ## Parsers

abbrev pub TakesAllEvents : Type 0
TakesAllEvents = (text : List ℕ) (tokens : Remaining) → AreTakenFrom text tokens → EndsWithStream tokens
    → length tokens.pieces < 2 ^ 64 → TakesEvents text (at_start tokens)

-- a parser that is at the start of a text's tokens
pub parser_takes : TakesAllEvents → (limit : ℕ) (text : List ℕ) (r : Remaining) (c : EventCursor) → c ≡ at_start r
    → r ≡ scan limit text → AreTakenFrom text r → EndsWithStream (scan limit text)
    → length (scan limit text).pieces ≤ 5 * limit + 10 → limit ≤ 4294967295 → TakesEvents text c
parser_takes all limit text r c is same t e b l =
    rw is (all text r t (rw same e) (few limit (length r.pieces) (rw same b) l))
  where
    few : (limit n : ℕ) → n ≤ 5 * limit + 10 → limit ≤ 4294967295 → n < 2 ^ 64
    few limit n b l = omega (arith, b, l)
