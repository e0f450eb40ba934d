-- The tokens of a text are in order, within the text and the limit.
use Rattle.std.proofs.Common.{◌≡◌, ℕ, zero, suc, ◌+◌, ◌≤◌, List, [], ◌∷◌, length, min, Result, Ok, Err, refl, arith}
use Rattle.std.specs.Prelude.{nat_le}
use Rattle.std.proofs.lemmas.Bool.Decides.{nat_tests}
use Rattle.saphyr_scalar.specs.declared.scalar.fault.Refusal.{Refusal}
use Rattle.saphyr_scalar.specs.Views.Cursor.{◌>>=◌}
use Rattle.saphyr_scanner.specs.declared.queue.Opening.{Opening}
use Rattle.saphyr_scanner.specs.Views.Tokens.{Piece, Remaining}
use Rattle.saphyr_scanner.specs.Steps.Queue.{Place}
use Rattle.saphyr_scanner.specs.Steps.Core.{Core, drop_far_key}
use Rattle.saphyr_scanner.specs.Steps.State.{State, start}
use Rattle.saphyr_scanner.specs.Steps.Fetch.{size, without_far_key, needs_token, fetch, check_limit, fetch_within}
use Rattle.saphyr_scanner.specs.Steps.Remaining.{before_place, hand_out, remaining_after, run, remaining, scan}
use Rattle.saphyr_scanner.specs.SpansInOrder.{AreInOrder}
use Rattle.saphyr_scanner.proofs.Ordered.Queue.{places_within, InOrder, GrowsInOrder}
use Rattle.saphyr_scanner.proofs.Effects.Readers.{ReaderEnds}
use Rattle.saphyr_scanner.proofs.Effects.States.{FetchesTokens}
use Rattle.saphyr_scanner.proofs.Effects.Fetch.{Fetched, read_fetched, settled_advances}
use Rattle.saphyr_input.proofs.Basics.Booleans.{by_test}
use Rattle.saphyr_scalar.proofs.Given.{Given, given_bind, given_of}
use Rattle.saphyr_scanner.proofs.Queues.{holding}

-- ## What is read stays within the text and the limit

abbrev pub IsWithinLimit : ℕ → State → Type 0
IsWithinLimit limit s = s.core.cursor.mark.index ≤ limit

drop_stays : (limit : ℕ) (s : State) → IsWithinLimit limit s → Given (IsWithinLimit limit) (without_far_key s)
unfolding drop_far_key
drop_stays limit s h = grind arith

within_stays : (limit : ℕ) (s : State) → Given (IsWithinLimit limit) (fetch_within limit s)
unfolding fetch_within
within_stays limit s = given_bind (IsWithinLimit limit) (fetch s) (check_limit limit) (λ t e.
    by_test (nat_le t.core.cursor.mark.index limit) _ _ (Given (IsWithinLimit limit))
    (λ i. let j : t.core.cursor.mark.index ≤ limit = grind (arith, nat_tests) in j) (λ _. tt))

pub read_stays : (limit : ℕ) (s : State) → Given (IsWithinLimit limit) (fetch_within limit s >>= without_far_key)
read_stays limit s = given_bind (IsWithinLimit limit) (fetch_within limit s) without_far_key
    (λ t e. drop_stays limit t (given_of (IsWithinLimit limit) (fetch_within limit s) t (within_stays limit s) e))

-- The index and what is left are n together, and the index is within the limit.
pub record CountsWithin (n limit : ℕ) (s : State) : Type 0 where
  pub counted : s.core.cursor.mark.index + length s.core.cursor.rest ≡ n
  pub limited : IsWithinLimit limit s

pub counts_on : (n limit : ℕ) (s t : State) → GrowsInOrder s t → IsWithinLimit limit t → CountsWithin n limit s
    → CountsWithin n limit t
counts_on n limit s t g w h =
    record { counted = let a = h.counted in let b = g.ahead.counted in omega (arith, a, b); limited = w }

-- ## What comes is in order, up to any bound of both

-- what comes is in order from `low` on, up to b
abbrev FollowsInOrder : ℕ → ℕ → Remaining → Type 0
FollowsInOrder b low r = AreInOrder b low r.pieces

-- what comes before a token, and the token
place_first : (b low : ℕ) (o : Opening) (t : Piece) (r : Remaining) → low ≤ t.span.start.index
    → t.span.start.index ≤ t.span.end.index → FollowsInOrder b t.span.end.index r
    → FollowsInOrder b low (before_place o t r)
place_first b low u0 t r begins ends h = grind arith

handed_in_order : (b : ℕ) (go : State → Remaining) (c : Core)
    → ((low k : ℕ) (ps : List Place) → InOrder low (holding c ps k) → FollowsInOrder b low (go (holding c ps k)))
    → (low k : ℕ) (ps : List Place) → InOrder low (holding c ps k)
    → FollowsInOrder b low (hand_out ps go (holding c ps k))
handed_in_order b go c others low k [] h = others low k [] h
handed_in_order b go c others low k (p ∷ ps) h =
    let next = handed_in_order b go c others p.piece.span.end.index (k + 1) ps h.2 in
    by_test (needs_token (holding c (p ∷ ps) k)) _ _ (FollowsInOrder b low) (λ _. others low k (p ∷ ps) h)
    (λ _. place_first b low p.opening p.piece _ h.0 h.1 next)

low_within : (n limit b low : ℕ) (s : State) → min n limit ≤ b → CountsWithin n limit s → InOrder low s → low ≤ b
low_within n limit b low s small w h =
    let counted = w.counted in let limited = w.limited in
    omega (arith, small, counted, limited, places_within s.core.cursor.mark.index low s.queue.places h)

delivers_in_order : (n limit b low : ℕ) (s : State) (r : Result State Refusal) (go : State → Remaining)
    → min n limit ≤ b → CountsWithin n limit s → InOrder low s
    → ((t : State) → r ≡ Ok t → GrowsInOrder s t × IsWithinLimit limit t)
    → ((t : State) → CountsWithin n limit t → InOrder low t → FollowsInOrder b low (go t))
    → FollowsInOrder b low (remaining_after r go)
delivers_in_order n limit b low s (Ok t) go small w h g others =
    let new = g t refl in others t (counts_on n limit s t new.0 new.1 w) (new.0.ordered low h)
delivers_in_order n limit b low s (Err e) go small w h g others = low_within n limit b low s small w h

run_in_order : ReaderEnds → (n limit b fuel low : ℕ) (s : State) → min n limit ≤ b → CountsWithin n limit s
    → InOrder low s → FollowsInOrder b low (run fuel limit s)
run_in_order laws n limit b zero low s small w h = low_within n limit b low s small w h
run_in_order laws n limit b (suc fuel) low s small w h =
    handed_in_order b _ s.core
    (λ l k ps i. let t : State = holding s.core ps k in
    let here : CountsWithin n limit t = record { counted = w.counted; limited = w.limited } in
    by_test t.core.ended _ _ (FollowsInOrder b l) (λ _. low_within n limit b l t small here i)
    (λ e. let r = fetch_within limit t >>= without_far_key in
    delivers_in_order n limit b l t r (run fuel limit) small here i
    (λ u q. (
      (given_of (Fetched t) r u (read_fetched limit t e) q).grows laws,
      given_of (IsWithinLimit limit) r u (read_stays limit t) q,
    ))
    (λ u. run_in_order laws n limit b fuel l u small)))
    low s.queue.handed s.queue.places h

pub scan_in_order : ReaderEnds → (b limit : ℕ) (text : List ℕ) → min (length text) limit ≤ b
    → AreInOrder b 0 (scan limit text).pieces
unfolding remaining
scan_in_order laws b limit text small =
    let s : State = start text in
    delivers_in_order (length text) limit b 0 s (without_far_key s) (λ t. run (suc (size t.core)) limit t) small
    (record { counted = omega arith; limited = omega arith }) (omega arith)
    (λ t e. (
      (given_of (FetchesTokens 0 s) (without_far_key s) t (settled_advances s) e).grows laws,
      given_of (IsWithinLimit limit) (without_far_key s) t (drop_stays limit s (omega arith)) e,
    ))
    (λ t. run_in_order laws (length text) limit b (suc (size t.core)) 0 t small)
