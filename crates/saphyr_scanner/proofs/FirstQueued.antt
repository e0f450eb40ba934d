-- The first place of a queue: its token is looked at and taken, and what comes in front of a place is set.
use Rattle.std.proofs.Common.{◌≡◌, ◌+◌, ◌≤◌, ◌<◌, List, [], ◌∷◌, length, drop, refl, sym, ap, subst, arith, ◌∙◌, ℕ, zero, suc, true, false, nat_lt}
use Rattle.std.specs.Prelude.{Option, Some, None, unwrap_or, set, slice_index_or}
use Rattle.std.specs.Borrow.{Bor}
use Rattle.std.specs.List.{HoldsAt}
use Rattle.std.specs.Option.{MatchOption, option_copied}
use Rattle.std.proofs.Math.ListN.{drop_of_length-le}
use Rattle.std.proofs.lemmas.List.{drop-set-add, get_or-drop}
use Rattle.std.proofs.lemmas.Bool.Decides.{nat_tests}
use Rattle.saphyr_scanner.specs.declared.queue.place.Place.{Place}
use Rattle.saphyr_scanner.specs.declared.queue.Queue.{Queue}
use Rattle.saphyr_scanner.specs.declared.queue.Opening.{Opening}
use Rattle.saphyr_scanner.specs.declared.queue.Opening.TheVariants as opening
use Rattle.saphyr_scanner.specs.Steps.Queue as seen
use Rattle.saphyr_scanner.specs.Steps.Queue.{places_with_opening, take_of}
use Rattle.saphyr_scanner.specs.Views.Texts.{Texts}
use Rattle.saphyr_scanner.specs.Views.Places.{Fit, HasTextsOf, extent_of, opening_code, handle_length, is_apart, coded_opening, with_opening_of, near_span, place_at, places_at, texts_behind, texts_behind_of, token_with}
use Rattle.saphyr_scanner.specs.Views.Queue.{BeginsWithPlace, behind_first, first_number, first_of, queue, queue_places}
use Rattle.saphyr_scanner.specs.Views.Tokens.{Parts, Piece, kind_with, text_of, token_kind}
use Rattle.saphyr_scanner.proofs.Queues.{queue_at}
use Rattle.saphyr_scanner.proofs.QueuedPlaces.{kind_parts, queued_length, nothing_queued}

-- ## The first place

-- the first of those behind n others
first_behind : (n m : ℕ) (ps : List Place) (p : Place) → m ≡ suc n → n < length ps → p ≡ slice_index_or ps n p
    → drop n ps ≡ p ∷ drop m ps
first_behind n m [] p is lt e = absurd (omega (arith, lt))
first_behind zero m (q ∷ ps) p is lt e = rw is (ap (λ r. r ∷ ps) (sym e))
first_behind (suc n) m (q ∷ ps) p is lt e = rw is (first_behind n (suc n) ps p refl (omega (arith, lt)) e)

pub begins_at : (q : Queue) (p : Place) → q.spent < length q.places.items
    → p ≡ slice_index_or q.places.items q.spent p → BeginsWithPlace (Some p) q
begins_at q p lt e = first_behind q.spent (q.spent + 1) q.places.items p (omega arith) lt e

-- the first place, as it is found among the others
pub first_got : (q : Queue) (r : Option (Bor Place))
    → MatchOption r (length q.places.items ≤ q.spent)
    (λ x. (q.spent < length q.places.items) × HoldsAt (λ y. x.now ≡ y) q.places.items q.spent)
    → BeginsWithPlace (option_copied r) q
first_got q None h = drop_of_length-le q.places.items h
first_got q (Some x) h = begins_at q x.now h.0 (h.1 x.now)

-- ## The queue's first token

pub no_place : (q : Queue) → BeginsWithPlace None q → queue q ≡ queue_at [] (first_number q)
unfolding queue_places
no_place q h = ap (λ ps. queue_at (places_at ps q.texts) (first_number q)) h

-- the places behind the first, over the texts behind its own
abbrev pub places_behind : Place → Queue → List seen.Place
places_behind p q = places_at (drop (q.spent + 1) q.places.items) (texts_behind p q.texts)

pub first_queued : (q : Queue) (p : Place) → BeginsWithPlace (Some p) q
    → queue q ≡ queue_at (place_at p q.texts ∷ places_behind p q) (first_number q)
unfolding queue_places
first_queued q p h = ap (λ ps. queue_at (places_at ps q.texts) (first_number q)) h

-- With nothing in front, its token is handed out next.
pub first_taken : (q : Queue) (p : Place) → BeginsWithPlace (Some p) q → coded_opening p.front ≡ opening.Nothing
    → seen.take (queue q) ≡ (Some (place_at p q.texts).piece, queue_at (places_behind p q) (first_number q + 1))
first_taken q p h bare =
    let ps = places_behind p q in
    ap seen.take (first_queued q p h)
    ∙ ap (λ o. take_of o (place_at p q.texts) ps (queue_at (place_at p q.texts ∷ ps) (first_number q))) bare

-- That is the token which is looked at.
pub first_is : (q : Queue) (p : Place) (t : Piece) → BeginsWithPlace (Some p) q
    → coded_opening p.front ≡ opening.Nothing → first_of (queue q) ≡ Some t → (place_at p q.texts).piece ≡ t
first_is q p t h bare is = ap (λ r. unwrap_or r t) (sym (ap (λ x. x.0) (first_taken q p h bare)) ∙ is)

-- Then those behind it are left.
pub first_left : (q : Queue) (p : Place) (s : Texts) (new : seen.Queue) → BeginsWithPlace (Some p) q
    → coded_opening p.front ≡ opening.Nothing → s ≡ texts_behind p q.texts
    → new ≡ queue_at (places_at (drop (q.spent + 1) q.places.items) s) (q.base + (q.spent + 1))
    → new ≡ behind_first (queue q)
first_left q p s new h bare left is =
    is ∙ ap (λ r. queue_at (places_at (drop (q.spent + 1) q.places.items) r) (q.base + (q.spent + 1))) left
    ∙ ap (queue_at (places_behind p q)) (omega arith)
    ∙ sym (ap (λ x. x.1) (first_taken q p h bare))

-- What comes in front of a token has no parts.
abbrev pub IsFront : Piece → Type 0
IsFront t = (text_of t.kind ≡ None) × ((x : Parts) → t.kind ≡ kind_with (token_kind t.kind) x)

front_token : (o : Opening) (p : seen.Place) (ps : List seen.Place) (q : seen.Queue) (t : Piece)
    → (o ≡ opening.Nothing → ⊥) → (take_of o p ps q).0 ≡ Some t → IsFront t
front_token opening.Nothing p ps q t some is = absurd (some refl)
front_token opening.Key p ps q t some is = subst IsFront (ap (λ r. unwrap_or r t) is) (refl, λ x. refl)
front_token opening.BlockMappingAndKey p ps q t some is = subst IsFront (ap (λ r. unwrap_or r t) is) (refl, λ x. refl)
front_token opening.FlowMappingAndKey p ps q t some is = subst IsFront (ap (λ r. unwrap_or r t) is) (refl, λ x. refl)

pub front_taken : (q : Queue) (p : Place) (t : Piece) → BeginsWithPlace (Some p) q
    → (coded_opening p.front ≡ opening.Nothing → ⊥) → first_of (queue q) ≡ Some t → IsFront t
front_taken q p t h some is =
    let ps = places_behind p q in
    front_token (coded_opening p.front) (place_at p q.texts) ps
    (queue_at (place_at p q.texts ∷ ps) (first_number q)) t some
    (ap first_of (sym (first_queued q p h)) ∙ is)

-- Behind the start of a mapping comes its first key.
pub key_behind : (o : Opening) (p : seen.Place) (ps : List seen.Place) (q : seen.Queue)
    → (o ≡ opening.Nothing → ⊥) → (o ≡ opening.Key → ⊥)
    → (take_of o p ps q).1 ≡ record q { places = record { opening = opening.Key; piece = p.piece } ∷ ps }
key_behind opening.Nothing p ps q some more = absurd (some refl)
key_behind opening.Key p ps q some more = absurd (more refl)
key_behind opening.BlockMappingAndKey p ps q some more = refl
key_behind opening.FlowMappingAndKey p ps q some more = refl

-- what tells of the token that is handed out next
pub ruleset first_token =
    (begins_at, first_got, first_is, first_left, first_queued, front_taken, kind_parts, no_place, nothing_queued)

-- ## One is opened

front_opens : (o : Opening) (n : ℕ)
    → (coded_opening (opening_code o + handle_length n) ≡ o)
    × (handle_length (opening_code o + handle_length n) ≡ handle_length n)
front_opens o n = by_opening o (handle_length n) (omega arith)
  where
    by_opening : (o : Opening) (k : ℕ) → k < 64 → (coded_opening (opening_code o + k) ≡ o)
        × (handle_length (opening_code o + k) ≡ k)
    by_opening opening.Nothing k h =
        let is : nat_lt (0 + k) 64 ≡ true = grind (arith, nat_tests, h) in (rw is refl, omega (arith, h))
    by_opening opening.Key k h =
        let no : nat_lt (64 + k) 64 ≡ false = grind (arith, nat_tests, h) in
        let is : nat_lt (64 + k) 128 ≡ true = grind (arith, nat_tests, h) in (rw (no, is) refl, omega (arith, h))
    by_opening opening.BlockMappingAndKey k h =
        let no : nat_lt (128 + k) 64 ≡ false = grind (arith, nat_tests, h) in
        let none : nat_lt (128 + k) 128 ≡ false = grind (arith, nat_tests, h) in
        let is : nat_lt (128 + k) 192 ≡ true = grind (arith, nat_tests, h) in (rw (no, none, is) refl, omega (arith, h))
    by_opening opening.FlowMappingAndKey k h =
        let no : nat_lt (192 + k) 64 ≡ false = grind (arith, nat_tests, h) in
        let none : nat_lt (192 + k) 128 ≡ false = grind (arith, nat_tests, h) in
        let not_there : nat_lt (192 + k) 192 ≡ false = grind (arith, nat_tests, h) in
        (rw (no, none, not_there) refl, omega (arith, h))

first_opened : (o : Opening) (p : Place) (ps : List Place) (s : Texts)
    → (Fit (p ∷ ps) s → Fit (with_opening_of o p ∷ ps) s)
    × (places_at (with_opening_of o p ∷ ps) s ≡ places_with_opening zero o (places_at (p ∷ ps) s))
first_opened o p ps s =
    let opens = (front_opens o p.front).0 in
    let same = (front_opens o p.front).1 in (
      subst (λ n. HasTextsOf (is_apart p) n p.count s × Fit ps (texts_behind_of (is_apart p) p.count s)) (sym same),
      λ i. record {
        opening = opens i;
        piece = token_with (extent_of (is_apart p) (near_span p.start p.length) (same i) p.count s) p.kind s.bytes;
      } ∷ places_at ps (texts_behind p s),
    )

opened : (k : ℕ) (o : Opening) (ps : List Place) (q : Place) (s : Texts) → q ≡ slice_index_or ps k q
    → (Fit ps s → Fit (set ps k (with_opening_of o q)) s)
    × (places_at (set ps k (with_opening_of o q)) s ≡ places_with_opening k o (places_at ps s))
opened k o [] q s e = (λ h. h, refl)
opened zero o (p ∷ ps) q s e =
    subst (λ r. (Fit (p ∷ ps) s → Fit (with_opening_of o r ∷ ps) s)
    × (places_at (with_opening_of o r ∷ ps) s ≡ places_with_opening zero o (places_at (p ∷ ps) s)))
    (sym e) (first_opened o p ps s)
opened (suc k) o (p ∷ ps) q s e =
    let later = opened k o ps q (texts_behind p s) e in
    (λ h. (h.0, later.0 h.1), ap (λ rs. place_at p s ∷ rs) later.1)

-- the same behind those that were handed out
pub opened_behind : (q : Queue) (k : ℕ) (o : Opening) (p : Place)
    → p ≡ slice_index_or q.places.items (q.spent + k) p
    → Fit (drop q.spent (set q.places.items (q.spent + k) (with_opening_of o p))) q.texts
    × (places_at (drop q.spent (set q.places.items (q.spent + k) (with_opening_of o p))) q.texts
    ≡ places_with_opening k o (queue_places q))
unfolding queue_places
opened_behind q k o p e =
    let ps = drop q.spent q.places.items in
    let both = opened k o ps p q.texts (e ∙ sym (get_or-drop q.spent q.places.items k p)) in
    subst (λ rs. Fit rs q.texts × (places_at rs q.texts ≡ places_with_opening k o (places_at ps q.texts)))
    (sym (drop-set-add q.spent q.places.items k (with_opening_of o p))) (both.0 q.fit, both.1)

-- the first of them
pub opened_first : (q : Queue) (o : Opening) (p r : Place) → r ≡ with_opening_of o p
    → p ≡ slice_index_or q.places.items q.spent p
    → Fit (drop q.spent (set q.places.items q.spent r)) q.texts
    × (places_at (drop q.spent (set q.places.items q.spent r)) q.texts ≡ places_with_opening zero o (queue_places q))
opened_first q o p r is e =
    let there : q.spent + 0 ≡ q.spent = omega arith in
    subst (λ x. Fit (drop q.spent (set q.places.items q.spent x)) q.texts
    × (places_at (drop q.spent (set q.places.items q.spent x)) q.texts ≡ places_with_opening zero o (queue_places q)))
    (sym is)
    (subst (λ n. Fit (drop q.spent (set q.places.items n (with_opening_of o p))) q.texts
    × (places_at (drop q.spent (set q.places.items n (with_opening_of o p))) q.texts
    ≡ places_with_opening zero o (queue_places q))) there
    (opened_behind q 0 o p (subst (λ n. p ≡ slice_index_or q.places.items n p) (sym there) e)))

pub opened_outside : (n : ℕ) (o : Opening) (ps : List seen.Place) → length ps ≤ n → places_with_opening n o ps ≡ ps
opened_outside n o [] h = refl
opened_outside zero o (q ∷ qs) h = absurd (omega (arith, h))
opened_outside (suc n) o (q ∷ qs) h = ap (λ r. q ∷ r) (opened_outside n o qs (omega (arith, h)))

-- what tells of a place that is opened
pub ruleset opened_place = (opened_behind, opened_outside, queued_length)
