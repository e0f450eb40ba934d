-- A text and its normalized text, side by side: their characters, and the places where they are.
use Rattle.scalar_laws.proofs.Common.{◌≡◌, ℕ, ◌+◌, Bool, true, false, List, [], ◌∷◌, take, drop, slice_index, refl, sym, ap, ◌∙◌, arith, subst, ◌&&◌, ◌==◌, prefix_len, drop-drop, nat_tests, normalized, is_break, carriage_return, line_feed, Marker, Cursor, along, next_line, pass, pass_blanks, line_cursor, AreMarksAlike, AreAlike, second_is, no_return}
use Rattle.saphyr_scalar.proofs.NoBreaks.{class_no_break}

-- ## Characters

-- the second text is the first, normalized
pub data Normal : List ℕ → List ℕ → Type 0 where
  nothing : Normal [] []
  character : (c : ℕ) {r q : List ℕ} → is_break c ≡ false → Normal r q → Normal (c ∷ r) (c ∷ q)
  feed : {r q : List ℕ} → Normal r q → Normal (line_feed ∷ r) (line_feed ∷ q)
  return : {r q : List ℕ} → (slice_index r 0 == line_feed) ≡ false → Normal r q
      → Normal (carriage_return ∷ r) (line_feed ∷ q)
  pair : {r q : List ℕ} → Normal r q → Normal (carriage_return ∷ line_feed ∷ r) (line_feed ∷ q)

pub no_feed : (c : ℕ) → is_break c ≡ false → (c == line_feed) ≡ false
no_feed c h = grind (arith, nat_tests)

pub normalized_is : {r q : List ℕ} → Normal r q → normalized r ≡ q
normalized_is nothing = refl
normalized_is (character c h n) = rw (no_return c h, normalized_is n) refl
normalized_is (feed n) = rw (normalized_is n) refl
normalized_is (return h n) = rw (h, normalized_is n) refl
normalized_is (pair n) = rw (normalized_is n) refl

-- after a CR
at_return : (cs : List ℕ) → Normal cs (normalized cs) → Normal (drop 1 cs) (normalized (drop 1 cs))
    → Normal (carriage_return ∷ cs) (normalized (carriage_return ∷ cs))
at_return [] here behind = return refl here
at_return (d ∷ ds) here behind = by (d == 10) refl
  where
    by : (b : Bool) → (d == line_feed) ≡ b → Normal (carriage_return ∷ d ∷ ds) (normalized (carriage_return ∷ d ∷ ds))
    by true e =
        let ten : 10 ≡ d = grind (arith, nat_tests) in rw (← ten) (pair behind)
    by false e = rw e (return e here)

normal_behind_character : (c : ℕ) (cs : List ℕ) → Normal cs (normalized cs)
    → Normal (drop 1 cs) (normalized (drop 1 cs)) → Normal (c ∷ cs) (normalized (c ∷ cs))
normal_behind_character c cs here behind = by (c == 13) (c == 10) refl refl
  where
    by : (a b : Bool) → (c == carriage_return) ≡ a → (c == line_feed) ≡ b → Normal (c ∷ cs) (normalized (c ∷ cs))
    by true b e f =
        let is : 13 ≡ c = grind (arith, nat_tests) in
        subst (λ x. Normal (x ∷ cs) (normalized (x ∷ cs))) is (at_return cs here behind)
    by false true e f =
        let is : 10 ≡ c = grind (arith, nat_tests) in rw (← is) (feed here)
    by false false e f = let no : is_break c ≡ false = rw (e, f) refl in rw e (character c no here)

normal_by_two : (r : List ℕ) → Normal r (normalized r) × Normal (drop 1 r) (normalized (drop 1 r))
normal_by_two [] = (nothing, nothing)
normal_by_two (c ∷ cs) = (normal_behind_character c cs (normal_by_two cs).0 (normal_by_two cs).1, (normal_by_two cs).0)

pub normal : (r q : List ℕ) → normalized r ≡ q → Normal r q
normal r q e = subst (Normal r) e (normal_by_two r).0

-- ## What is next

-- a class that has both breaks or neither
pub first_in : (p : ℕ → Bool) → p 13 ≡ p 10 → {r q : List ℕ} → Normal r q → p (slice_index r 0) ≡ p (slice_index q 0)
first_in p h k = grind arith

pub first_same : {r q : List ℕ} → is_break (slice_index r 0) ≡ false → Normal r q → slice_index r 0 ≡ slice_index q 0
first_same h k = grind arith

pub past_first : {r q : List ℕ} → is_break (slice_index r 0) ≡ false → Normal r q → Normal (drop 1 r) (drop 1 q)
past_first h k = grind arith

pub second_in : (p : ℕ → Bool) → p 13 ≡ p 10 → {r q : List ℕ} → is_break (slice_index r 0) ≡ false → Normal r q
    → p (slice_index r 1) ≡ p (slice_index q 1)
second_in p e {r = r} {q = q} h n = ap p (sym (second_is r)) ∙ first_in p e (past_first h n) ∙ ap p (second_is q)

-- a character, and a test of what comes after it
pub behind_first : (p : ℕ → Bool) → p 13 ≡ false → p 10 ≡ false → (f : List ℕ → Bool)
    → ((r q : List ℕ) → Normal r q → f r ≡ f q)
    → {r q : List ℕ} → Normal r q → (p (slice_index r 0) && f (drop 1 r)) ≡ (p (slice_index q 0) && f (drop 1 q))
behind_first p a b f alike nothing = refl
behind_first p a b f alike (character c {r = r} {q = q} h n) = ap (λ x. p c && x) (alike r q n)
behind_first p a b f alike (feed {r = r} {q = q} n) = ap (λ x. p 10 && x) (alike r q n)
behind_first p a b f alike (return h n) = rw (a, b) refl
behind_first p a b f alike (pair n) = rw (a, b) refl

-- ## Runs

pub record Run (p : ℕ → Bool) (r q : List ℕ) : Type 0 where
  pub len : prefix_len p r ≡ prefix_len p q
  pub text : take (prefix_len p r) r ≡ take (prefix_len p q) q
  pub left : Normal (drop (prefix_len p r) r) (drop (prefix_len p q) q)

run_on : (p : ℕ → Bool) (c : ℕ) (r q : List ℕ) → Run p r q → p c ≡ true → Run p (c ∷ r) (c ∷ q)
run_on p c r q x h = grind arith

run_at : (p : ℕ → Bool) (c : ℕ) {r q : List ℕ} → is_break c ≡ false → Normal r q → Run p r q → (t : Bool) → p c ≡ t
    → Run p (c ∷ r) (c ∷ q)
run_at p c {r = r} {q = q} h n more true e = run_on p c r q more e
run_at p c h n more false e = record { len = rw e refl; text = rw e refl; left = rw e (character c h n) }

-- a class without breaks
pub run_same : (p : ℕ → Bool) → p 13 ≡ false → p 10 ≡ false → {r q : List ℕ} → Normal r q → Run p r q
run_same p a b nothing = record { len = refl; text = refl; left = nothing }
run_same p a b (character c h n) = run_at p c h n (run_same p a b n) (p c) refl
run_same p a b (feed n) = record { len = rw b refl; text = rw b refl; left = rw b (feed n) }
run_same p a b (return h n) = record { len = rw (a, b) refl; text = rw (a, b) refl; left = rw (a, b) (return h n) }
run_same p a b (pair n) = record { len = rw (a, b) refl; text = rw (a, b) refl; left = rw (a, b) (pair n) }

-- ## Places

-- where the texts r and q are, in a text and in its normalized text
pub record Places (text r q : List ℕ) (m n : Marker) : Type 0 where
  pub line : m.line ≡ n.line
  pub col : m.col ≡ n.col
  pub here : drop m.index text ≡ r
  pub there : drop n.index (normalized text) ≡ q

pub places_moved : {text r q : List ℕ} {m n : Marker} (a b : ℕ) (k l : Marker) → Places text r q m n
    → k.index ≡ m.index + a
    → l.index ≡ n.index + b → k.line ≡ l.line → k.col ≡ l.col → Places text (drop a r) (drop b q) k l
places_moved {text = text} {r = r} {q = q} {m = m} {n = n} a b k l p e f line col = grind (arith, drop-drop)

pub moved_along : {text r q : List ℕ} {m n : Marker} (a b : ℕ) → a ≡ b → Places text r q m n
    → Places text (drop a r) (drop b q) (along m a) (along n b)
moved_along {m = m} {n = n} a b e p = places_moved a b (along m a) (along n b) p refl refl p.line (rw (p.col, e) refl)

pub moved_down : {text r q : List ℕ} {m n : Marker} (a b : ℕ) → Places text r q m n
    → Places text (drop a r) (drop b q) (next_line m a) (next_line n b)
moved_down {m = m} {n = n} a b p = places_moved a b (next_line m a) (next_line n b) p refl refl (rw p.line refl) refl

-- over CR LF, by a place between the two
pub over_pair : {text r q : List ℕ} (m n k : Marker) → k.index ≡ m.index + 1 → k.line ≡ m.line
    → Places text (carriage_return ∷ line_feed ∷ r) (line_feed ∷ q) m n
    → Places text r q (next_line k 1) (next_line n 1)
over_pair m n k at_feed on_line p =
    let two : k.index + 1 ≡ m.index + 2 = omega arith in
    places_moved 2 1 (next_line k 1) (next_line n 1) p two refl (rw (on_line, p.line) refl) refl

pub marks_alike : {text : List ℕ} {s t : Cursor} → AreAlike text s t → AreMarksAlike text s.mark t.mark
marks_alike a = record { line = a.line; col = a.col; rest = rw (a.here, a.there) a.rest }

pub alike : {text r q : List ℕ} {m n : Marker} (a b : Bool) → a ≡ b → Normal r q → Places text r q m n
    → AreAlike text (line_cursor a m r) (line_cursor b n q)
alike a b e n p =
    record { line = p.line; col = p.col; rest = normalized_is n; blank = e; here = p.here; there = p.there }

pub normal_of : {text : List ℕ} {s t : Cursor} → AreAlike text s t → Normal s.rest t.rest
normal_of {s = s} {t = t} a = normal s.rest t.rest a.rest

pub places_of : {text : List ℕ} {s t : Cursor} → AreAlike text s t → Places text s.rest t.rest s.mark t.mark
places_of a = record { line = a.line; col = a.col; here = a.here; there = a.there }

-- ## So many characters, of which none is a break

-- the first character is no break
abbrev pub NoBreak : List ℕ → Type 0
NoBreak r = is_break (slice_index r 0) ≡ false

-- a class without breaks
pub no_break_in : (p : ℕ → Bool) → p 10 ≡ false → p 13 ≡ false → (r : List ℕ) → p (slice_index r 0) ≡ true → NoBreak r
no_break_in p a b r h = class_no_break p a b (slice_index r 0) h

pub record PartsAlike (a b : ℕ) (r q : List ℕ) : Type 0 where
  pub len : a ≡ b
  pub left : Normal (drop a r) (drop b q)

pub no_part : {r q : List ℕ} → Normal r q → PartsAlike 0 0 r q
no_part n = record { len = refl; left = n }

pub part_of : {p : ℕ → Bool} {r q : List ℕ} → Run p r q → PartsAlike (prefix_len p r) (prefix_len p q) r q
part_of x = record { len = x.len; left = x.left }

pub first_part : {r q : List ℕ} → NoBreak r → Normal r q → PartsAlike 1 1 r q
first_part h n = record { len = refl; left = past_first h n }

pub both_parts : (a b c d : ℕ) (r q : List ℕ) → PartsAlike a b r q → PartsAlike c d (drop a r) (drop b q)
    → PartsAlike (a + c) (b + d) r q
both_parts a b c d r q x y = record { len = omega arith; left = rw (← drop-drop c a r, ← drop-drop d b q) y.left }

module _ {text : List ℕ} {s t : Cursor} (a b : ℕ) where
  pub passed_blanks : PartsAlike a b s.rest t.rest → AreAlike text s t
      → AreAlike text (pass_blanks a s) (pass_blanks b t)
  passed_blanks p e = alike s.blank_so_far t.blank_so_far e.blank p.left (moved_along a b p.len (places_of e))

  pub passed_alike : PartsAlike a b s.rest t.rest → AreAlike text s t → AreAlike text (pass a s) (pass b t)
  passed_alike p e = alike false false refl p.left (moved_along a b p.len (places_of e))

pub one_passed : {text : List ℕ} {s t : Cursor} → NoBreak s.rest → AreAlike text s t
    → AreAlike text (pass 1 s) (pass 1 t)
one_passed h e = passed_alike 1 1 (first_part h (normal_of e)) e

pub two_passed : {text : List ℕ} {s t : Cursor} → NoBreak s.rest → NoBreak (drop 1 s.rest) → AreAlike text s t
    → AreAlike text (pass 2 s) (pass 2 t)
two_passed {s = s} {t = t} h k e = let n = normal_of e in
    passed_alike 2 2 (both_parts 1 1 1 1 s.rest t.rest (first_part h n) (first_part k (past_first h n))) e
