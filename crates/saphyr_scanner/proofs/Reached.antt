-- What is passed leads from a place to a later one.
use Rattle.std.proofs.Common.{◌≡◌, ℕ, ◌+◌, ◌≤◌, ◌⊎◌, Bool, true, false, List, [], ◌∷◌, ◌++◌, length, drop, refl, sym, arith, subst, inl, inr}
use Rattle.std.specs.Prelude.{◌&&◌, ◌||◌, ◌==◌, not, slice_index}
use Rattle.saphyr_input.specs.Classes.{is_break, is_blank, is_yaml_non_break, carriage_return, line_feed}
use Rattle.saphyr_input.specs.Places.{next_2_are}
use Rattle.saphyr_scalar.specs.declared.scalar.position.Marker.{Marker}
use Rattle.saphyr_scalar.specs.Views.Cursor.{along, next_line}
use Rattle.saphyr_scalar.specs.Passing as passing
use Rattle.saphyr_scalar.specs.Passing.{IsPassed}
use Rattle.saphyr_scalar.specs.Steps.Plain.{ends_line}
use Rattle.saphyr_scalar.specs.Reading.Plain.{end_of_text}
use Rattle.saphyr_scalar.specs.Steps.Quoted.{break_len}
use Rattle.saphyr_scalar.proofs.NoBreaks.{NoBreaks, class_no_break, no_breaks_in}
use Rattle.saphyr_scalar.proofs.Lengths.{two_shown}
use Rattle.saphyr_scalar.proofs.Moving.{along_none, along_more}
use Rattle.saphyr_scanner.specs.TokensTaken as taken
use Rattle.saphyr_scanner.specs.TokensTaken.{IsReached, IsPassedOver, past_mark}
use Rattle.std.proofs.lemmas.Bool.{eqb-true, and_parts, not-true}
use Rattle.std.proofs.lemmas.List.{length-drop}
use Rattle.saphyr_input.proofs.Basics.Booleans.{by_test}
use Rattle.saphyr_input.proofs.Basics.Lists.{shows_character}

pub reached_reached : (m : Marker) (t : List ℕ) (n : Marker) (u : List ℕ) (k : Marker) (v : List ℕ) → IsReached m t n u
    → IsReached n u k v → IsReached m t k v
reached_reached _ _ _ _ k v (taken.nothing m t) q = q
reached_reached _ _ _ _ k v (taken.character m c t n u e p) q =
    taken.character m c t k v e (reached_reached (along m 1) t n u k v p q)
reached_reached _ _ _ _ k v (taken.mark m t n u e p) q =
    taken.mark m t k v e (reached_reached (past_mark m) t n u k v p q)
reached_reached _ _ _ _ k v (taken.line_break m t n u e p) q =
    taken.line_break m t k v e (reached_reached (next_line m (break_len t)) (drop (break_len t) t) n u k v p q)

pub break_len_within : (t : List ℕ) → is_break (slice_index t 0) ≡ true → (1 ≤ break_len t) × (break_len t ≤ length t)
break_len_within t e =
    by_test (next_2_are t 13 10) 2 1 (λ n. (1 ≤ n) × (n ≤ length t)) (λ k. (omega arith, two_shown t k))
    (λ _. (omega arith, shows_character t is_break true e (λ k. absurd (cc))))

-- a place has as many characters before it as were passed
pub reached_counted : (m : Marker) (t : List ℕ) (n : Marker) (u : List ℕ) → IsReached m t n u
    → n.index + length u ≡ m.index + length t
reached_counted _ _ _ _ (taken.nothing m t) = refl
reached_counted _ _ _ _ (taken.character m c t n u e p) =
    let h = reached_counted (along m 1) t n u p in omega (arith, h)
reached_counted _ _ _ _ (taken.mark m t n u e p) = let h = reached_counted (past_mark m) t n u p in omega (arith, h)
reached_counted _ _ _ _ (taken.line_break m t n u e p) =
    let h = reached_counted (next_line m (break_len t)) (drop (break_len t) t) n u p in
    omega (arith, h, length-drop (break_len t) t, (break_len_within t e).1)

-- characters of a line
pub words_reached : (m : Marker) (ws t : List ℕ) (n : Marker) (u : List ℕ) → NoBreaks ws
    → IsReached (along m (length ws)) t n u → IsReached m (ws ++ t) n u
words_reached m [] t n u e p = rw (along_none m) at p
words_reached m (c ∷ cs) t n u e p = taken.character m c (cs ++ t) n u e.0 (words_reached (along m 1) cs t n u e.1
    (rw (along_more m 1 (length cs) (length (c ∷ cs)) (omega arith)) p))

pub along_reached : (m : Marker) (ws t : List ℕ) → NoBreaks ws → IsReached m (ws ++ t) (along m (length ws)) t
along_reached m ws t e = words_reached m ws t (along m (length ws)) t e (taken.nothing (along m (length ws)) t)

pub apart_reached : (m : Marker) (t : List ℕ) (n : Marker) (u : List ℕ) → IsPassedOver m t n u → IsReached m t n u
apart_reached _ _ _ _ (taken.nothing m t) = taken.nothing m t
apart_reached _ _ _ _ (taken.blank m c t n u e p) =
    taken.character m c t n u (class_no_break is_blank refl refl c e) (apart_reached (along m 1) t n u p)
apart_reached _ _ _ _ (taken.line_break m t n u e p) =
    taken.line_break m t n u e (apart_reached (next_line m (break_len t)) (drop (break_len t) t) n u p)
apart_reached _ _ _ _ (taken.comment m words t n u a e p) =
    words_reached m (35 ∷ words) t n u (refl, no_breaks_in is_yaml_non_break refl refl words a)
    (subst (λ i. IsReached (along m i) t n u) (omega arith) (apart_reached (along m (1 + length words)) t n u p))

pub passed_reached : (m : Marker) (t : List ℕ) (n : Marker) (u : List ℕ) → IsPassed m t n u → IsReached m t n u
passed_reached _ _ _ _ (passing.nothing m t) = taken.nothing m t
passed_reached _ _ _ _ (passing.character m c t n u e p) =
    taken.character m c t n u e (passed_reached (along m 1) t n u p)
passed_reached _ _ _ _ (passing.line_break m t n u e p) =
    taken.line_break m t n u e (passed_reached (next_line m (break_len t)) (drop (break_len t) t) n u p)

-- ## Pieces of plain scalars

-- no break of two characters is cut between the piece and what comes after it
abbrev pub Uncut : List ℕ → List ℕ → Type 0
Uncut [] u = Unit {0}
Uncut (c ∷ []) u = (is_break c ≡ false) ⊎ (is_break (slice_index u 0) ≡ false)
Uncut (c ∷ d ∷ cs) u = Uncut (d ∷ cs) u

pub single : (m : Marker) (c : ℕ) (t : List ℕ) (n : Marker) (u : List ℕ) → is_break c ≡ true
    → ((c == carriage_return) && (slice_index t 0 == line_feed)) ≡ false → IsReached (next_line m 1) t n u
    → IsReached m (c ∷ t) n u
single m c t n u b e p =
    let one : break_len (c ∷ t) ≡ 1 = rw e refl in taken.line_break m (c ∷ t) n u b (rw one p)

pub double : (m : Marker) (t : List ℕ) (n : Marker) (u : List ℕ) → IsReached (next_line (along m 1) 1) t n u
    → IsReached m (carriage_return ∷ line_feed ∷ t) n u
double m t n u p =
    let i : m.index + 1 + 1 ≡ m.index + 2 = omega arith in
    let same : next_line (along m 1) 1 ≡ next_line m 2 = rw i refl in
    taken.line_break m (13 ∷ 10 ∷ t) n u refl (rw same at p)

no_end : (a b : Bool) → (a && not (b && false)) ≡ false → a ≡ false
no_end a b e = grind arith

not_both : (a b : Bool) → (a && not b) ≡ false → (a ≡ false) ⊎ (b ≡ true)
not_both false b e = inl refl
not_both true true e = inr refl
not_both true false e = absurd (cc)

never : (a b c : Bool) → (b || c) ≡ false → (a && b) ≡ false
never a b c e = grind arith

-- A piece of a text is passed to the place that its characters give, if it doesn't part a CR from its LF (`Uncut`). CR
-- and LF inside the piece are passed together, and each other character alone.
pub piece_reached : (m : Marker) (cs u : List ℕ) → Uncut cs u → IsReached m (cs ++ u) (end_of_text m cs) u
piece_reached m [] u h = taken.nothing m u
piece_reached m (c ∷ []) u h =
    by_test (ends_line c []) (next_line m 1) (along m 1) (λ (k : Marker). IsReached m (c ∷ u) k u) (λ e.
    let b : is_break c ≡ true = (and_parts (is_break c) _ e).0 in
    let whole : ((c == 13) && (slice_index u 0 == 10)) ≡ false =
    elim h [ inl f ↦ absurd (cc) | inr f ↦ never (c == 13) (slice_index u 0 == 10) (slice_index u 0 == 13) f ] in
    single m c u (next_line m 1) u b whole (taken.nothing (next_line m 1) u))
    (λ e. taken.character m c u (along m 1) u (no_end (is_break c) (c == 13) e) (taken.nothing (along m 1) u))
piece_reached m (c ∷ d ∷ cs) u h = by_test (ends_line c (d ∷ cs)) (next_line m 1) (along m 1)
    (λ (k : Marker). IsReached m (c ∷ d ∷ (cs ++ u)) (end_of_text k (d ∷ cs)) u) (λ e.
    let w = and_parts (is_break c) _ e in
    single m c (d ∷ (cs ++ u)) (end_of_text (next_line m 1) (d ∷ cs)) u w.0 (not-true ((c == 13) && (d == 10)) w.1)
    (piece_reached (next_line m 1) (d ∷ cs) u h))
    (λ e. elim (not_both (is_break c) ((c == 13) && (d == 10)) e) [
      | inl f ↦ taken.character m c (d ∷ (cs ++ u)) (end_of_text (along m 1) (d ∷ cs)) u f
          (piece_reached (along m 1) (d ∷ cs) u h)
      | inr f ↦ let w = and_parts (c == 13) (d == 10) f in
          two c d (eqb-true c 13 w.0) (eqb-true d 10 w.1) (piece_reached (next_line (along m 1) 1) cs u (less cs h))
    ])
  where
    less : (xs : List ℕ) → Uncut (d ∷ xs) u → Uncut xs u
    less [] k = tt
    less (x ∷ xs) k = k

    two : (x y : ℕ) → x ≡ carriage_return → y ≡ line_feed
        → IsReached (next_line (along m 1) 1) (cs ++ u) (end_of_text (next_line (along m 1) 1) cs) u
        → IsReached m (x ∷ y ∷ (cs ++ u)) (end_of_text (along m 1) (y ∷ cs)) u
    two x y e f p =
        let P : ℕ → Type 0 = λ z. IsReached m (z ∷ y ∷ (cs ++ u)) (end_of_text (along m 1) (y ∷ cs)) u in
        let Q : ℕ → Type 0 = λ z. IsReached m (13 ∷ z ∷ (cs ++ u)) (end_of_text (along m 1) (z ∷ cs)) u in
        subst P (sym e) (subst Q (sym f) (double m (cs ++ u) (end_of_text (next_line (along m 1) 1) cs) u p))

pub uncut_no_break : (front : List ℕ) (last : ℕ) (u : List ℕ) → is_break last ≡ false → Uncut (front ++ last ∷ []) u
uncut_no_break [] last u e = inl e
uncut_no_break (c ∷ []) last u e = inl e
uncut_no_break (c ∷ d ∷ cs) last u e = uncut_no_break (d ∷ cs) last u e

pub uncut_behind : (cs u : List ℕ) → is_break (slice_index u 0) ≡ false → Uncut cs u
uncut_behind [] u e = tt
uncut_behind (c ∷ []) u e = inr e
uncut_behind (c ∷ d ∷ cs) u e = uncut_behind (d ∷ cs) u e
