-- Places of a text and of its normalized text, and how both go on together.
use Rattle.yaml_laws.proofs.Common.{Bool, List, arith, cond, drop, false, length, refl, true, ℕ, ◌+◌, ◌^◌, ◌∷◌, ◌≡◌, ◌≤◌, min, ◌-◌, ◌==◌, normalized, Marker, Cursor, along, carriage_return, line_feed, cursor_at, drop_more, AreAlike}
use Rattle.saphyr_scalar.proofs.Choices.{both_by}

-- the same place with another index
abbrev pub reindexed : ℕ → Marker → Marker
reindexed i m = record { index = i; line = m.line; col = m.col }

-- the same place of the normalized text
abbrev pub near : ℕ → Cursor → Cursor
near i s = record { rest = normalized s.rest; mark = reindexed i s.mark; blank_so_far = s.blank_so_far }

-- ## Two places of both texts

-- From the line l, the indexes a and b, to the line k, the indexes c and d: on one line both indexes have grown alike.
pub record Even (l a b k c d : ℕ) : Type 0 where
  pub lines : l ≤ k
  pub slow : k + a ≤ l + c
  pub slow_too : k + b ≤ l + d
  pub even : k ≡ l → c + b ≡ d + a

pub even_here : (l a b : ℕ) → Even l a b l a b
even_here l a b = record { lines = omega arith; slow = omega arith; slow_too = omega arith; even = λ e. omega arith }

pub even_even : (l a b k c d h e f : ℕ) → Even l a b k c d → Even k c d h e f → Even l a b h e f
even_even l a b k c d h e f x y = grind arith

-- where an index is what it was
pub even_index : (l a b k c d : ℕ) → Even l a b k c d → (d == b) ≡ (c == a)
even_index l a b k c d x = grind arith

-- ## Where a text goes on

-- From s, and the index i in the normalized text, to t, and the index j there.
pub record Ahead (text : List ℕ) (s : Cursor) (i : ℕ) (t : Cursor) (j : ℕ) : Type 0 where
  pub even : Even s.mark.line s.mark.index i t.mark.line t.mark.index j
  pub counted : t.mark.index + length t.rest ≡ s.mark.index + length s.rest
  pub counted_too : j + length (normalized t.rest) ≡ i + length (normalized s.rest)
  pub here : drop t.mark.index text ≡ t.rest
  pub there : drop j (normalized text) ≡ normalized t.rest

pub ahead_ahead : (text : List ℕ) (s : Cursor) (i : ℕ) (t : Cursor) (j : ℕ) (u : Cursor) (k : ℕ) → Ahead text s i t j
    → Ahead text t j u k → Ahead text s i u k
ahead_ahead text s i t j u k x y = search (even_even)

-- a place of the text and the same of the normalized text
pub record Stand (text : List ℕ) (s : Cursor) (i : ℕ) : Type 0 where
  pub here : drop s.mark.index text ≡ s.rest
  pub there : drop i (normalized text) ≡ normalized s.rest

pub ahead_stands : (text : List ℕ) (s : Cursor) (i : ℕ) (t : Cursor) (j : ℕ) → Ahead text s i t j → Stand text t j
ahead_stands text s i t j x = record { here = x.here; there = x.there }

pub stand_here : (text : List ℕ) (s : Cursor) (i : ℕ) → Stand text s i → Ahead text s i s i
stand_here text s i x = search (even_here)

pub stand_alike : (text : List ℕ) (s : Cursor) (i : ℕ) → Stand text s i → AreAlike text s (near i s)
stand_alike text s i x = record { line = refl; col = refl; rest = refl; blank = refl; here = x.here; there = x.there }

pub alike_is : (text : List ℕ) (s t : Cursor) → AreAlike text s t → t ≡ near t.mark.index s
alike_is text s t x = grind arith

-- ## One character on

pub one_less : (i : ℕ) (c : ℕ) (text rest : List ℕ) → drop i text ≡ c ∷ rest → drop (i + 1) text ≡ rest
one_less i c text rest e = cc (drop_more 1 i (i + 1) text refl)

-- the lines of a text that is not too long can be counted
abbrev pub Low : Cursor → Type 0
Low s = s.mark.line + length s.rest ≤ 2 ^ 63

pub low_ahead : (text : List ℕ) (s : Cursor) (i : ℕ) (t : Cursor) (j : ℕ) → Ahead text s i t j → Low s → Low t
low_ahead text s i t j x l = omega (arith, x.even.slow, x.counted, l)

-- ## Choices

-- by tests that tell the same
pub choose_by : {X : Type 0} → (P : X → X → Type 0) (b d : Bool) (x y v w : X) → b ≡ d → (b ≡ true → P x v)
    → (b ≡ false → P y w) → P (cond b x y) (cond d v w)
choose_by P b d x y v w e h k = both_by b d x y v w P e (λ t _. h t) (λ t _. k t)

-- ## What is passed

-- at the start of the next line
abbrev pub line_from : Marker → ℕ → Marker
line_from m j = record { index = j; line = min (m.line + 1) (2 ^ 64 - 1); col = 0 }

-- a character that is no break, on its line
pub character_ahead : (text : List ℕ) (c : ℕ) (t : List ℕ) (m : Marker) (i : ℕ) (b d : Bool)
    → (c == carriage_return) ≡ false → Stand text (cursor_at (c ∷ t) m b) i
    → Ahead text (cursor_at (c ∷ t) m b) i (cursor_at t (along m 1) d) (i + 1)
character_ahead text c t m i b d e x = grind (arith, one_less)

-- a break: some characters of the text, and one of the normalized text
pub line_ahead : (text : List ℕ) (s t : List ℕ) (m : Marker) (i j k c : ℕ) (b d : Bool) → j ≡ m.index + k → 1 ≤ k
    → length s ≡ k + length t → normalized s ≡ c ∷ normalized t → drop j text ≡ t → m.line ≤ 2 ^ 63
    → Stand text (cursor_at s m b) i → Ahead text (cursor_at s m b) i (cursor_at t (line_from m j) d) (i + 1)
line_ahead text s t m i j k c b d e one l is h low x = grind (arith, one_less)

-- CR before LF
pub two_ahead : (text t : List ℕ) (m : Marker) (i : ℕ) (b d : Bool) → m.line ≤ 2 ^ 63
    → Stand text (cursor_at (carriage_return ∷ line_feed ∷ t) m b) i
    → Ahead text (cursor_at (carriage_return ∷ line_feed ∷ t) m b) i (cursor_at t (line_from m (m.index + 1 + 1)) d)
    (i + 1)
two_ahead text t m i b d low x = grind (arith, line_ahead, one_less)

-- any other break
pub single_ahead : (text : List ℕ) (c e : ℕ) (t : List ℕ) (m : Marker) (i : ℕ) (b d : Bool)
    → normalized (c ∷ t) ≡ e ∷ normalized t → m.line ≤ 2 ^ 63 → Stand text (cursor_at (c ∷ t) m b) i
    → Ahead text (cursor_at (c ∷ t) m b) i (cursor_at t (line_from m (m.index + 1)) d) (i + 1)
single_ahead text c e t m i b d is low x = grind (arith, line_ahead, one_less)
