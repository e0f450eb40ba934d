-- There are few tokens: each that is fetched passes a character, and no more are passed than the limit allows.
use Rattle.std.proofs.Common.{◌≡◌, ℕ, zero, suc, ◌+◌, ◌*◌, ◌≤◌, ◌<◌, List, [], ◌∷◌, length, Result, Ok, arith}
use Rattle.saphyr_scalar.specs.declared.scalar.fault.Refusal.{Refusal}
use Rattle.saphyr_scalar.specs.Views.Cursor.{◌>>=◌}
use Rattle.saphyr_scanner.specs.declared.queue.Opening.{Opening}
use Rattle.saphyr_scanner.specs.Views.Tokens.{Piece, Remaining}
use Rattle.saphyr_scanner.specs.Steps.Queue.{Place}
use Rattle.saphyr_scanner.specs.Steps.Core.{Core, drop_far_key}
use Rattle.saphyr_scanner.specs.Steps.State.{State, start}
use Rattle.saphyr_scanner.specs.Steps.Fetch.{size, without_far_key, needs_token, fetch_within}
use Rattle.saphyr_scanner.specs.Steps.Remaining.{before_place, hand_out, remaining_after, run, remaining, scan}
use Rattle.saphyr_scanner.proofs.Effects.Readers.{Readers, ReaderEnds}
use Rattle.saphyr_scanner.proofs.Effects.Fetch.{Fetched, read_fetched}
use Rattle.saphyr_scanner.proofs.Handing.Unroll.{behind}
use Rattle.saphyr_scanner.proofs.Ordered.Run.{CountsWithin, IsWithinLimit, counts_on, read_stays}
use Rattle.saphyr_scanner.proofs.Added.Queue.{tokens_at, tokens_in, open_blocks, due}
use Rattle.saphyr_input.proofs.Basics.Booleans.{by_test}
use Rattle.saphyr_scalar.proofs.Given.{given_of}
use Rattle.saphyr_scanner.proofs.Queues.{holding}

-- ## What is handed out

place_counted : (o : Opening) (t : Piece) (r : Remaining)
    → length (before_place o t r).pieces ≡ tokens_at o + length r.pieces
place_counted o t r = grind arith

-- the tokens of the places, and those after them
handed_counted : (m n : ℕ) (go : State → Remaining) (c : Core)
    → ((k : ℕ) (ps : List Place) → length (go (holding c ps k)).pieces + m ≤ tokens_in ps + n)
    → (k : ℕ) (ps : List Place) → length (hand_out ps go (holding c ps k)).pieces + m ≤ tokens_in ps + n
handed_counted m n go c others k [] = others k []
handed_counted m n go c others k (p ∷ ps) =
    let next = handed_counted m n go c others (k + 1) ps in
    by_test (needs_token (holding c (p ∷ ps) k)) _ _ (λ (r : Remaining). length r.pieces + m ≤ tokens_in (p ∷ ps) + n)
    (λ _. others k (p ∷ ps))
    (λ _. let x = place_counted p.opening p.piece (hand_out ps go (holding c ps (k + 1))) in omega (arith, x, next))

-- ## What comes

-- what comes, where so much is due and so much is to be read
abbrev IsFew : ℕ → ℕ → State → Remaining → Type 0
IsFew n limit s r = length r.pieces + 5 * n ≤ due s + 5 * limit + 5 * size s.core

none_few : (n limit : ℕ) (s : State) → CountsWithin n limit s → 0 + 5 * n ≤ due s + 5 * limit + 5 * size s.core
none_few n limit s h = let a = h.counted in let b = h.limited in omega (arith, a, b)

-- of what is read
read_few : (n limit : ℕ) (s t : State) (r : Remaining) → due t ≤ due s + 5 → size t.core < size s.core
    → IsFew n limit t r → IsFew n limit s r
read_few n limit s t r a b h = omega (arith, a, b, h)

delivers_few : (n limit : ℕ) (s : State) (r : Result State Refusal) (go : State → Remaining) → CountsWithin n limit s
    → ((t : State) → r ≡ Ok t → IsFew n limit s (go t)) → IsFew n limit s (remaining_after r go)
delivers_few n limit s r go h others = grind arith

-- At most so many tokens are still to come: those in the queue, and some for what is open and for each character that
-- is left. By induction on the fuel. `handed` takes the queue's tokens off, one by one, and `here` is the step behind
-- them, whose tokens are paid for by what it reads (`read_few`).
run_few : Readers → ReaderEnds → (n limit fuel : ℕ) (s : State) → CountsWithin n limit s
    → IsFew n limit s (run fuel limit s)
run_few readers laws n limit zero s h = none_few n limit s h
run_few readers laws n limit (suc fuel) s h = handed (λ t. run_few readers laws n limit fuel t)
  where
    here : ((t : State) → CountsWithin n limit t → IsFew n limit t (run fuel limit t)) → (k : ℕ) (ps : List Place)
        → IsFew n limit (holding s.core ps k) (behind fuel limit (holding s.core ps k))
    here others k ps =
        let t : State = holding s.core ps k in
        let r = fetch_within limit t >>= without_far_key in
        let w : CountsWithin n limit t = record { counted = h.counted; limited = h.limited } in
        by_test t.core.ended _ _ (IsFew n limit t) (λ _. none_few n limit t w)
        (λ i. delivers_few n limit t r (run fuel limit) w (λ u q.
        let a = given_of (Fetched t) r u (read_fetched limit t i) q in
        read_few n limit t u (run fuel limit u) a.few (a.smaller readers)
        (others u (counts_on n limit t u (a.grows laws) (given_of (IsWithinLimit limit) r u (read_stays limit t) q)
        w))))

    part : (ps : List Place) (r : Remaining) (k : ℕ) → IsFew n limit (holding s.core ps k) r
        → length r.pieces + 5 * n ≤ tokens_in ps + (open_blocks s.core + 5 * limit + 5 * size s.core)
    part ps r k x = omega (arith, x)

    whole : (r : Remaining) → length r.pieces + 5 * n
        ≤ tokens_in s.queue.places + (open_blocks s.core + 5 * limit + 5 * size s.core) → IsFew n limit s r
    whole r x = omega (arith, x)

    handed : ((t : State) → CountsWithin n limit t → IsFew n limit t (run fuel limit t))
        → IsFew n limit s (run (suc fuel) limit s)
    handed others = whole (run (suc fuel) limit s)
        (handed_counted (5 * n) (open_blocks s.core + 5 * limit + 5 * size s.core) (behind fuel limit) s.core
        (λ k ps. part ps (behind fuel limit (holding s.core ps k)) k (here others k ps)) s.queue.handed s.queue.places)

pub scan_few : Readers → ReaderEnds → (limit : ℕ) (text : List ℕ) → length (scan limit text).pieces ≤ 5 * limit + 10
unfolding remaining drop_far_key
scan_few readers laws limit text =
    all (scan limit text) (run_few readers laws (length text) limit (suc (size (start text).core)) (start text)
    (record { counted = omega arith; limited = omega arith }))
  where
    all : (r : Remaining) → IsFew (length text) limit (start text) r → length r.pieces ≤ 5 * limit + 10
    all r h = omega (arith, h)
