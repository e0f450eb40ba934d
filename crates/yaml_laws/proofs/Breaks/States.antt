-- Two scanners, of a text and of its normalized text, with tokens of the same kinds.
use Rattle.yaml_laws.proofs.Common.{Err, List, None, Ok, Option, Result, Some, [], ap, arith, length, refl, suc, zero, ℕ, ◌++◌, ◌∷◌, ◌≡◌, Marker, Refusal, Cursor, ◌>>=◌, Piece, Place, Queue, bare_place, next, places_with_opening, Action, Core, Open, Put, Step, act, in_block, perform, State, after_step, on_core, Both, both_of, gives, and_then, Opening}
use Rattle.saphyr_scanner.specs.Steps.Unrolling.{unroll, end_blocks, end_block, is_right_of, with_outer_indent, go_less_deep}
use Rattle.yaml_laws.proofs.Breaks.Cores.{Indexes, near_core, Cores, Anywhere, Twin, here}
use Rattle.yaml_laws.proofs.Breaks.Places.{choose_by}

-- ## Tokens

abbrev pub SamePlaces : List Place → List Place → Type 0
SamePlaces [] [] = Unit {0}
SamePlaces (p ∷ ps) (q ∷ qs) = (p.opening ≡ q.opening) × (p.piece.kind ≡ q.piece.kind) × SamePlaces ps qs
SamePlaces [] (q ∷ qs) = ⊥
SamePlaces (p ∷ ps) [] = ⊥

pub record SameQueues (q r : Queue) : Type 0 where
  pub places : SamePlaces q.places r.places
  pub handed : q.handed ≡ r.handed

abbrev pub SameAction : Action → Action → Type 0
SameAction (Put t) (Put u) = t.kind ≡ u.kind
SameAction (Open n o) (Open m p) = (n ≡ m) × (o ≡ p)
SameAction (Put t) (Open m p) = ⊥
SameAction (Open n o) (Put u) = ⊥

abbrev pub SameActions : List Action → List Action → Type 0
SameActions [] [] = Unit {0}
SameActions (a ∷ xs) (b ∷ ys) = SameAction a b × SameActions xs ys
SameActions [] (b ∷ ys) = ⊥
SameActions (a ∷ xs) [] = ⊥

same_put : (ps qs : List Place) (t u : Piece) → SamePlaces ps qs → t.kind ≡ u.kind
    → SamePlaces (ps ++ bare_place t ∷ []) (qs ++ bare_place u ∷ [])
same_put [] [] t u h e = (refl, e, tt)
same_put (p ∷ ps) (q ∷ qs) t u h e = (h.0, h.1, same_put ps qs t u h.2 e)
same_put [] (q ∷ qs) t u h e = absurd h
same_put (p ∷ ps) [] t u h e = absurd h

same_opened : (n : ℕ) (o : Opening) (ps qs : List Place) → SamePlaces ps qs
    → SamePlaces (places_with_opening n o ps) (places_with_opening n o qs)
same_opened n o [] [] h = tt
same_opened zero o (p ∷ ps) (q ∷ qs) h = (refl, h.1, h.2)
same_opened (suc n) o (p ∷ ps) (q ∷ qs) h = (h.0, h.1, same_opened n o ps qs h.2)
same_opened n o [] (q ∷ qs) h = absurd h
same_opened n o (p ∷ ps) [] h = absurd h

pub same_act : (a b : Action) (q r : Queue) → SameAction a b → SameQueues q r → SameQueues (act a q) (act b r)
same_act a b q r e h = grind (arith, same_put, same_opened)

pub same_perform : (xs ys : List Action) (q r : Queue) → SameActions xs ys → SameQueues q r
    → SameQueues (perform xs q) (perform ys r)
same_perform [] [] q r e h = h
same_perform (a ∷ xs) (b ∷ ys) q r e h = same_perform xs ys (act a q) (act b r) e.1 (same_act a b q r e.0 h)
same_perform [] (b ∷ ys) q r e h = absurd e
same_perform (a ∷ xs) [] q r e h = absurd e

places_length : (ps qs : List Place) → SamePlaces ps qs → length ps ≡ length qs
places_length [] [] h = refl
places_length (p ∷ ps) (q ∷ qs) h = ap suc (places_length ps qs h.2)
places_length [] (q ∷ qs) h = absurd h
places_length (p ∷ ps) [] h = absurd h

pub same_next : (q r : Queue) → SameQueues q r → next q ≡ next r
same_next q r h = cc (places_length q.places r.places h.places)

pub put_same : (t u : Piece) {q r : Queue} → t.kind ≡ u.kind → SameQueues q r
    → SameQueues (act (Put t) q) (act (Put u) r)
put_same t u {q} {r} e h = same_act (Put t) (Put u) q r e h

-- ## Steps and states

abbrev pub SameSteps : List ℕ → Step → Step → Type 0
SameSteps text a b = Cores text Anywhere a.core b.core × SameActions a.actions b.actions

abbrev pub States : List ℕ → (Cursor → Type 0) → State → State → Type 0
States text P s t = Cores text P s.core t.core × SameQueues s.queue t.queue

abbrev pub holding : Core → Queue → State
holding c q = record { core = c; queue = q }

-- the same of both states holds where P does
abbrev pub Holds : List ℕ → (Cursor → Type 0) → (State → State → Type 0) → Type 0
Holds text P R = (c : Core) (x : Indexes) (q r : Queue) → Twin text c x → SameQueues q r → P c.cursor
    → R (holding c q) (holding (near_core x c) r)

abbrev pub AlikeStates : List ℕ → (Cursor → Type 0) → (State → State → Type 0) → (State → Result State Refusal) → Type 0
AlikeStates text P R f = Holds text P (λ s t. Both R (f s) (f t))

module _ {text : List ℕ} {P : Cursor → Type 0} where
  pub of_states : (R : State → State → Type 0) {s t : State} → States text P s t → Holds text P R → R s t
  of_states R {s} {t} h go = rw h.0.is (go s.core h.0.at s.queue t.queue h.0.twin h.1 h.0.here)

  pub and_state : {R : State → State → Type 0} (f g : State → Result State Refusal) {r q : Result State Refusal}
      → Both (States text P) r q → Holds text P (λ s t. Both R (f s) (g t)) → Both R (r >>= f) (q >>= g)
  and_state {R} f g h go = and_then h (λ a b k. of_states (λ s t. Both R (f s) (g t)) k go)

  pub on_core_same : {r q : Result Core Refusal} {u v : Queue} → Both (Cores text P) r q → SameQueues u v
      → Both (States text P) (on_core r u) (on_core q v)
  on_core_same {r = Ok c} {q = Ok d} h e = gives (h.are, e)
  on_core_same {r = Ok c} {q = Err f} h e = absurd h.are
  on_core_same {r = Err d} {q = Ok b} h e = absurd h.are
  on_core_same {r = Err d} {q = Err f} h e = both_of h.are

pub after_step_same : {text : List ℕ} {r q : Result Step Refusal} {u v : Queue} → Both (SameSteps text) r q
    → SameQueues u v → Both (States text Anywhere) (after_step r u) (after_step q v)
after_step_same {r = Ok a} {q = Ok b} {u} {v} h e = gives (h.are.0, same_perform a.actions b.actions u v h.are.1 e)
after_step_same {r = Ok a} {q = Err f} h e = absurd h.are
after_step_same {r = Err d} {q = Ok b} h e = absurd h.are
after_step_same {r = Err d} {q = Err f} h e = both_of h.are

-- ## Block collections end

module _ {text : List ℕ} {P : Cursor → Type 0} where
  outer_same : (is : List ℕ) (c : Core) (x : Indexes) → Twin text c x → P c.cursor
      → Cores text P (with_outer_indent is c) (with_outer_indent is (near_core x c))
  outer_same [] c x t p = here (with_outer_indent [] c) x t p
  outer_same (i ∷ is) c x t p = here (with_outer_indent (i ∷ is) c) x t p

  ends_block : (m k : Marker) → Holds text P (λ s t. States text P (end_block m s) (end_block k t))
  ends_block m k c x q r t e p = (outer_same c.outer_indents c x t p, put_same _ _ refl e)

  ends_blocks : (column : Option ℕ) (m k : Marker) (is : List ℕ)
      → Holds text P (λ s t. States text P (end_blocks column m is s) (end_blocks column k is t))
  ends_blocks column m k [] c x q r t e p =
      choose_by (States text P) (is_right_of column c.indent) (is_right_of column c.indent) _ _ _ _ refl
      (λ _. ends_block m k c x q r t e p) (λ _. (here c x t p, e))
  ends_blocks column m k (i ∷ is) c x q r t e p =
      choose_by (States text P) (is_right_of column c.indent) (is_right_of column c.indent) _ _ _ _ refl
      (λ _. of_states (λ s t. States text P (end_blocks column m is s) (end_blocks column k is t))
      (ends_block m k c x q r t e p) (ends_blocks column m k is)) (λ _. (here c x t p, e))

  pub unroll_same : (column : Option ℕ) (m k : Marker)
      → Holds text P (λ s t. States text P (unroll column m s) (unroll column k t))
  unfolding unroll
  unroll_same None m k c x q r t e p = choose_by (States text P) (in_block c) (in_block c) _ _ _ _ refl
      (λ _. ends_blocks None m k c.outer_indents (go_less_deep None c) x q r t e p) (λ _. (here c x t p, e))
  unroll_same (Some column) m k c x q r t e p = choose_by (States text P) (in_block c) (in_block c) _ _ _ _ refl
      (λ _. ends_blocks (Some column) m k c.outer_indents (go_less_deep (Some column) c) x q r t e p)
      (λ _. (here c x t p, e))
