-- The end of the stream is the last token of a text, unless a refusal ends the tokens before it.
use Rattle.std.proofs.Common.{◌≡◌, ℕ, zero, suc, ◌+◌, ◌<◌, Bool, true, false, List, [], ◌∷◌, ◌++◌, Result, Ok, Err, refl, sym, ap, arith, inl, inr, subst}
use Rattle.saphyr_scalar.specs.declared.scalar.fault.Refusal.{Refusal}
use Rattle.saphyr_scalar.specs.Views.Cursor.{◌>>=◌}
use Rattle.saphyr_scanner.specs.declared.queue.Opening.{Opening}
use Rattle.saphyr_scanner.specs.declared.queue.Opening.TheVariants as opening
use Rattle.saphyr_scanner.specs.Grammar.Tokens as tokens
use Rattle.saphyr_scanner.specs.Views.Tokens.{Piece, Remaining, none, before}
use Rattle.saphyr_scanner.specs.Steps.Queue.{Place, bare_place, empty_piece}
use Rattle.saphyr_scanner.specs.Steps.Core.{Core, drop_far_key}
use Rattle.saphyr_scanner.specs.Steps.State.{State, start}
use Rattle.saphyr_scanner.specs.Steps.Fetch.{size, without_far_key, needs_token, fetch_within}
use Rattle.saphyr_scanner.specs.Steps.Remaining.{before_place, hand_out, remaining_after, run, remaining, scan}
use Rattle.saphyr_scanner.specs.Ends.{EndsWithStream}
use Rattle.saphyr_scanner.proofs.Effects.Readers.{Readers}
use Rattle.saphyr_scanner.proofs.Effects.Fetch.{EndStands, Standing, Fetched, read_fetched}
use Rattle.saphyr_scanner.proofs.Handing.Filling.{going}
use Rattle.saphyr_scanner.proofs.Handing.Unroll.{behind}
use Rattle.saphyr_scanner.proofs.Added.Queue.{IsNoEnd, PlacesGoOn}
use Rattle.saphyr_input.proofs.Basics.Booleans.{by_test}
use Rattle.saphyr_scalar.proofs.Given.{given_of}
use Rattle.std.proofs.lemmas.Bool.{cond-true}
use Rattle.saphyr_scanner.proofs.Queues.{holding}

-- ## A place is handed out

one_before : (t : Piece) (r : Remaining) → IsNoEnd t.kind → EndsWithStream r → EndsWithStream (before t r)
one_before t r h (inl x) = inl (x.0, x.1, (h, x.2))
one_before t r h (inr x) = inr (t ∷ x.0, x.1, (h, x.2), x.3, ap (λ ts. t ∷ ts) x.4, x.5)

place_before : (o : Opening) (t : Piece) (r : Remaining) → IsNoEnd t.kind → EndsWithStream r
    → EndsWithStream (before_place o t r)
place_before o t r h x = by o (one_before t r h x)
  where
    key : EndsWithStream (before t r) → EndsWithStream (before (empty_piece t.span.start tokens.Key) (before t r))
    key y = one_before (empty_piece t.span.start tokens.Key) (before t r) (λ i. absurd (cc)) y

    by : (w : Opening) → EndsWithStream (before t r) → EndsWithStream (before_place w t r)
    by opening.Nothing y = y
    by opening.Key y = key y
    by opening.BlockMappingAndKey y =
        one_before (empty_piece t.span.start tokens.BlockMappingStart) _ (λ i. absurd (cc)) (key y)
    by opening.FlowMappingAndKey y =
        one_before (empty_piece t.span.start tokens.FlowMappingStart) _ (λ i. absurd (cc)) (key y)

-- ## What comes

-- while the stream goes on
going_on : (go : State → Remaining) (c : Core)
    → ((k : ℕ) (ps : List Place) → PlacesGoOn ps → EndsWithStream (go (holding c ps k)))
    → (k : ℕ) (ps : List Place) → PlacesGoOn ps → EndsWithStream (hand_out ps go (holding c ps k))
going_on go c others k [] h = others k [] h
going_on go c others k (p ∷ ps) h =
    by_test (needs_token (holding c (p ∷ ps) k)) _ _ EndsWithStream (λ _. others k (p ∷ ps) h)
    (λ _. place_before p.opening p.piece _ h.0 (going_on go c others (k + 1) ps h.1))

-- where the stream has ended all places are handed out
ended_hands_out : (go : State → Remaining) (c : Core) → c.ended ≡ true
    → ((k : ℕ) (ps : List Place) → go (holding c ps k) ≡ none)
    → (k : ℕ) (front : List Place) (end : Piece) → PlacesGoOn front → end.kind ≡ tokens.StreamEnd
    → EndsWithStream (hand_out (front ++ bare_place end ∷ []) go (holding c (front ++ bare_place end ∷ []) k))
ended_hands_out go c over others k [] end h e =
    by_test (needs_token (holding c (bare_place end ∷ []) k)) _ _ EndsWithStream
    (λ n. absurd (let g = going c.ended _ n in cc))
    (λ _. let r = others (k + 1) [] in
    inr ([], end, tt, e, ap (λ (x : Remaining). end ∷ x.pieces) r, ap (λ (x : Remaining). x.refusal) r))
ended_hands_out go c over others k (p ∷ front) end h e =
    let next = ended_hands_out go c over others (k + 1) front end h.1 e in
    by_test (needs_token (holding c (p ∷ (front ++ bare_place end ∷ [])) k)) _ _ EndsWithStream
    (λ n. absurd (let g = going c.ended _ n in cc)) (λ _. place_before p.opening p.piece _ h.0 next)

delivers_end : (r : Result State Refusal) (go : State → Remaining) → ((t : State) → r ≡ Ok t → EndsWithStream (go t))
    → EndsWithStream (remaining_after r go)
delivers_end (Ok t) go h = h t refl
delivers_end (Err e) go h = inl (e, refl, tt)

run_ends : Readers → (limit fuel : ℕ) (s : State) → size s.core < fuel → Standing s → EndsWithStream (run fuel limit s)
run_ends laws limit zero s f h = absurd (omega (arith, f))
run_ends laws limit (suc fuel) s f h = by s.core.ended refl (λ t. run_ends laws limit fuel t) h
  where
    go : State → Remaining
    go t = behind fuel limit t

    by : (b : Bool) → s.core.ended ≡ b
        → ((t : State) → size t.core < fuel → Standing t → EndsWithStream (run fuel limit t))
        → EndStands b s.queue.places → EndsWithStream (hand_out s.queue.places go s)
    by true e others w =
        let P : List Place → Type 0 = λ ps. EndsWithStream (hand_out ps go (holding s.core ps s.queue.handed)) in
        subst P (sym w.4) (ended_hands_out go s.core e (λ k ps. cond-true s.core.ended none _ e) s.queue.handed w.0 w.1
        w.2 w.3)
    by false e others w = going_on go s.core (λ k ps h.
        let t : State = holding s.core ps k in
        by_test t.core.ended _ _ EndsWithStream (λ i. absurd (cc))
        (λ i. delivers_end (fetch_within limit t >>= without_far_key) (run fuel limit) (λ u q.
        let a = given_of (Fetched t) (fetch_within limit t >>= without_far_key) u (read_fetched limit t i) q in
        let less = a.smaller laws in others u (omega (arith, less, f)) (a.stands h)))) s.queue.handed s.queue.places w

pub scan_ends : Readers → (limit : ℕ) (text : List ℕ) → EndsWithStream (scan limit text)
unfolding remaining drop_far_key
scan_ends laws limit text = run_ends laws limit (suc (size (start text).core)) (start text) (omega arith) tt
