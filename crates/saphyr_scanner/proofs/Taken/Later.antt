-- What is reached moves the place on: its lines count up, and no more than its characters do.
use Rattle.saphyr_scanner.proofs.Common.{◌≡◌, ℕ, Bool, ◌+◌, ◌≤◌, ◌<◌, true, false, List, [], ◌∷◌, ◌++◌, length, drop, refl, arith, subst, IsTrue, slice_index, is_blank, is_break, is_z, Marker, Cursor, along, next_line, IsPassed, end_of_text, IsPlainReading, break_len, by_test}
pub use Rattle.saphyr_scalar.proofs.Block.PlacedHeaders.{top}
use Rattle.saphyr_scalar.specs.Steps.Plain.{ends_line}
use Rattle.saphyr_scanner.specs.TokensTaken as taken
use Rattle.saphyr_scanner.specs.TokensTaken.{IsReached, IsPassedOver, past_mark, begins_text}
use Rattle.saphyr_scanner.proofs.Reached.{apart_reached, passed_reached}

pub record Later (m : Marker) (t : List ℕ) (n : Marker) (u : List ℕ) : Type 0 where
  pub index : m.index ≤ n.index
  pub counted : n.index + length u ≡ m.index + length t
  pub lines : m.line ≤ top → (m.line ≤ n.line) × (n.line ≤ top)
  pub slow : n.line + m.index ≤ m.line + n.index
  pub kept : n.line < top → m.line ≤ n.line
  pub columns : m.line ≤ top → n.line < top → n.line ≤ m.line → m.col ≤ n.col

abbrev pub LaterThan : Cursor → Cursor → Type 0
LaterThan s t = Later s.mark s.rest t.mark t.rest

pub later_here : (m : Marker) (t : List ℕ) → Later m t m t
later_here m t = grind arith

pub later_later : (m : Marker) (t : List ℕ) (n : Marker) (u : List ℕ) (k : Marker) (v : List ℕ) → Later m t n u
    → Later n u k v → Later m t k v
later_later m t n u k v a b = grind arith

-- some characters of a line
line_goes_on : (m : Marker) (n col : ℕ) (t u : List ℕ) → m.col ≤ col → length t ≡ n + length u
    → Later m t (record { index = m.index + n; line = m.line; col = col }) u
line_goes_on m n col t u k l = grind arith

pub along_later : (m : Marker) (n : ℕ) (t u : List ℕ) → length t ≡ n + length u → Later m t (along m n) u
along_later m n t u l = line_goes_on m n (m.col + n) t u (omega arith) l

-- a break of n characters
line_later : (m : Marker) (n : ℕ) (t u : List ℕ) → 1 ≤ n → length t ≡ n + length u → Later m t (next_line m n) u
line_later m n t u k l = grind arith

pub break_later : (m : Marker) (t : List ℕ) → is_break (slice_index t 0) ≡ true
    → Later m t (next_line m (break_len t)) (drop (break_len t) t)
break_later m t e = grind arith

pub reached_later : (m : Marker) (t : List ℕ) (n : Marker) (u : List ℕ) → IsReached m t n u → Later m t n u
reached_later _ _ _ _ (taken.nothing m t) = later_here m t
reached_later _ _ _ _ (taken.character m c t n u e p) =
    later_later m (c ∷ t) (along m 1) t n u (along_later m 1 (c ∷ t) t (omega arith)) (reached_later (along m 1) t n u
    p)
reached_later _ _ _ _ (taken.mark m t n u e p) = later_later m (65279 ∷ t) (past_mark m) t n u
    (line_goes_on m 1 m.col (65279 ∷ t) t (omega arith) (omega arith)) (reached_later (past_mark m) t n u p)
reached_later _ _ _ _ (taken.line_break m t n u e p) =
    later_later m t (next_line m (break_len t)) (drop (break_len t) t) n u (break_later m t e)
    (reached_later (next_line m (break_len t)) (drop (break_len t) t) n u p)

pub apart_later : (m : Marker) (t : List ℕ) (n : Marker) (u : List ℕ) → IsPassedOver m t n u → Later m t n u
apart_later m t n u p = reached_later m t n u (apart_reached m t n u p)

pub passed_later : (m : Marker) (t : List ℕ) (n : Marker) (u : List ℕ) → IsPassed m t n u → Later m t n u
passed_later m t n u p = reached_later m t n u (passed_reached m t n u p)

pub break_begins_no_text : (c : ℕ) → is_break c ≡ true → begins_text c ≡ true → ⊥
break_begins_no_text c e b = grind arith

-- Where a text goes on nothing is passed.
pub text_stays : (m : Marker) (t : List ℕ) (n : Marker) (u : List ℕ) → IsPassedOver m t n u
    → IsTrue (begins_text (slice_index t 0)) → (n ≡ m) × (u ≡ t)
text_stays _ _ _ _ (taken.nothing m t) b = (refl, refl)
text_stays _ _ _ _ (taken.blank m c t n u e p) b = absurd (no c e b)
  where
    no : (c : ℕ) → is_blank c ≡ true → begins_text c ≡ true → ⊥
    no c e b = grind arith
text_stays _ _ _ _ (taken.line_break m t n u e p) b = absurd (break_begins_no_text (slice_index t 0) e b)
text_stays _ _ _ _ (taken.comment m words t n u a e p) b = absurd (let no : false ≡ true = b in cc)

-- Neither is at NUL and at the end.
pub end_stays : (s t : Cursor) → IsPassedOver s.mark s.rest t.mark t.rest → is_z (slice_index s.rest 0) ≡ true
    → is_z (slice_index t.rest 0) ≡ true
end_stays s t p z = grind arith

-- a piece of a plain scalar
pub piece_later : (m : Marker) (cs u : List ℕ) → Later m (cs ++ u) (end_of_text m cs) u
piece_later m [] u = later_here m u
piece_later m (c ∷ cs) u =
    by_test (ends_line c cs) (next_line m 1) (along m 1) (λ (k : Marker). Later m (c ∷ (cs ++ u)) (end_of_text k cs) u)
    (λ _. later_later m (c ∷ (cs ++ u)) (next_line m 1) (cs ++ u) (end_of_text (next_line m 1) cs) u
    (line_later m 1 (c ∷ (cs ++ u)) (cs ++ u) (omega arith) (omega arith)) (piece_later (next_line m 1) cs u))
    (λ _. later_later m (c ∷ (cs ++ u)) (along m 1) (cs ++ u) (end_of_text (along m 1) cs) u
    (along_later m 1 (c ∷ (cs ++ u)) (cs ++ u) (omega arith)) (piece_later (along m 1) cs u))

pub plain_later : (f : Bool) (s t : Cursor) (text : List ℕ) (end : Marker) → IsPlainReading f s text end t
    → LaterThan s t
plain_later f s t text end r =
    let b = piece_later end r.white t.rest in
    let P : Marker → Type 0 = λ k. Later s.mark (r.piece ++ (r.white ++ t.rest)) k (r.white ++ t.rest) in
    let Q : Marker → Type 0 = λ k. Later end (r.white ++ t.rest) k t.rest in
    let both = later_later s.mark (r.piece ++ (r.white ++ t.rest)) end (r.white ++ t.rest) t.mark t.rest
    (subst P r.ends (piece_later s.mark r.piece (r.white ++ t.rest))) (subst Q r.behind b) in
    rw r.is both
