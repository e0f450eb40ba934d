-- What a scanner knows of a text, and what another knows of its normalized text: the same, but for the indexes.
use Rattle.yaml_laws.proofs.Common.{Bool, List, None, Ok, Option, Result, Some, [], ap, arith, false, length, refl, suc, ℕ, ◌+◌, ◌<◌, ◌^◌, ◌∷◌, ◌≡◌, is_break, SkipTabs, Marker, Refusal, Cursor, pass, start_cursor, ◌>>=◌, Candidate, Level, pass_on, separate, with_cursor, no_return, cursor_at, AreAlike, ReadsAlike, Both, both_of, gives, refused, choose, choose_same, and_known, and_then}
use Rattle.saphyr_input.specs.declared.input.SkipTabs.TheVariants as tabs
use Rattle.saphyr_scanner.specs.Steps.Core.{Core, is_too_far, save_key, remove_key, drop_far_key, enter_block, roll, is_further}
use Rattle.yaml_laws.proofs.Breaks.Forward.{Forward, Forwards, both_ahead, separation_forward}
use Rattle.yaml_laws.proofs.Breaks.Places.{reindexed, near, Even, even_here, even_even, Ahead, Stand, stand_alike, alike_is, Low, choose_by, character_ahead}

-- ## The other scanner

-- The indexes that it has: of its cursor, of the candidates of its levels, of where a colon may come at once, and of
-- a comment.
pub record Indexes : Type 0 where
  pub at : ℕ
  pub key : ℕ
  pub outer : List ℕ
  pub adjacent : ℕ
  pub comment : ℕ

abbrev pub first : List ℕ → ℕ
first [] = 0
first (i ∷ is) = i

abbrev pub others : List ℕ → List ℕ
others [] = []
others (i ∷ is) = is

abbrev pub near_key : ℕ → Option Candidate → Option Candidate
near_key i None = None
near_key i (Some k) = Some (record { mark = reindexed i k.mark; place = k.place })

abbrev pub near_level : ℕ → Level → Level
near_level i l = record { context = l.context; key = near_key i l.key }

abbrev pub near_levels : List ℕ → List Level → List Level
near_levels is [] = []
near_levels is (l ∷ ls) = near_level (first is) l ∷ near_levels (others is) ls

abbrev pub near_comment : ℕ → Option Marker → Option Marker
near_comment i None = None
near_comment i (Some m) = Some (reindexed i m)

abbrev pub near_core : Indexes → Core → Core
near_core x c =
    record c {
      cursor = near x.at c.cursor;
      level = near_level x.key c.level;
      outer = near_levels x.outer c.outer;
      adjacent = x.adjacent;
      comment = near_comment x.comment c.comment;
    }

-- a candidate, its index in the other scanner, and the indexes of both cursors
abbrev pub KeyEven : Marker → ℕ → ℕ → Option Candidate → Type 0
KeyEven m j i None = Unit {0}
KeyEven m j i (Some k) = Even k.mark.line k.mark.index i m.line m.index j

abbrev pub LevelsEven : Marker → ℕ → List ℕ → List Level → Type 0
LevelsEven m j is [] = Unit {0}
LevelsEven m j is (l ∷ ls) = KeyEven m j (first is) l.key × LevelsEven m j (others is) ls

-- the same of what the levels are, and of where a colon may come at once
pub record TwinParts (text : List ℕ) (s : Cursor) (k : Option Candidate) (ls : List Level) (a : ℕ)
    (x : Indexes) : Type 0 where
  pub ahead : Ahead text (start_cursor text) 0 s x.at
  pub key : KeyEven s.mark x.at x.key k
  pub outer : LevelsEven s.mark x.at x.outer ls
  pub line : ℕ
  pub adjacent : Even line a x.adjacent s.mark.line s.mark.index x.at

abbrev pub Twin : List ℕ → Core → Indexes → Type 0
Twin text c x = TwinParts text c.cursor c.level.key c.outer c.adjacent x

-- the second is the first of the normalized text, and P holds where the first is
pub record Cores (text : List ℕ) (P : Cursor → Type 0) (c d : Core) : Type 0 where
  pub at : Indexes
  pub is : d ≡ near_core at c
  pub twin : Twin text c at
  pub here : P c.cursor

abbrev pub Anywhere : Cursor → Type 0
Anywhere s = Unit {0}

-- what is known of a text and of the readers
pub record Laws (text : List ℕ) : Type 0 where
  pub small : length text < 2 ^ 63
  pub alike : (s t : Cursor) → AreAlike text s t → ReadsAlike text s t
  pub forward : Forwards

-- ## What a step does with both

-- where P holds a step gives the same
abbrev pub Alike : {Y : Type 0} → List ℕ → (Cursor → Type 0) → (Y → Y → Type 0) → (Core → Result Y Refusal) → Type 0
Alike text P R f = (c : Core) (x : Indexes) → Twin text c x → P c.cursor → Both R (f c) (f (near_core x c))

module _ {text : List ℕ} {P : Cursor → Type 0} where
  pub here : (c : Core) (x : Indexes) → Twin text c x → P c.cursor → Cores text P c (near_core x c)
  here c x t p = record { at = x; is = refl; twin = t; here = p }

  pub of_cores : (R : Core → Core → Type 0) {c d : Core} → Cores text P c d
      → ((c : Core) (x : Indexes) → Twin text c x → P c.cursor → R c (near_core x c)) → R c d
  of_cores R {c} h go = rw h.is (go c h.at h.twin h.here)

  module _ {Y : Type 0} {R : Y → Y → Type 0} (f g : Core → Result Y Refusal) where
    pub with_core : {c d : Core} → Cores text P c d
        → ((c : Core) (x : Indexes) → Twin text c x → P c.cursor → Both R (f c) (g (near_core x c)))
        → Both R (f c) (g d)
    with_core h go = of_cores (λ c d. Both R (f c) (g d)) h go

    pub and_core : {r q : Result Core Refusal} → Both (Cores text P) r q
        → ((c : Core) (x : Indexes) → Twin text c x → P c.cursor → Both R (f c) (g (near_core x c)))
        → Both R (r >>= f) (q >>= g)
    and_core h go = and_then h (λ c d k. with_core k go)

module _ {text : List ℕ} (c : Core) (x : Indexes) where
  pub twin_low : Laws text → Twin text c x → Low c.cursor
  twin_low laws t = omega (arith, laws.small, t.ahead.even.slow, t.ahead.counted)

  pub twin_stands : Twin text c x → Stand text c.cursor x.at
  twin_stands t = record { here = t.ahead.here; there = t.ahead.there }

  pub twin_alike : Twin text c x → AreAlike text c.cursor (near x.at c.cursor)
  twin_alike t = stand_alike text c.cursor x.at (twin_stands t)

  pub twin_reads : Laws text → Twin text c x → ReadsAlike text c.cursor (near x.at c.cursor)
  twin_reads laws t = laws.alike c.cursor (near x.at c.cursor) (twin_alike t)

key_moves : (s u : Cursor) (i j k : ℕ) (key : Option Candidate)
    → Even s.mark.line s.mark.index i u.mark.line u.mark.index j → KeyEven s.mark i k key → KeyEven u.mark j k key
key_moves s u i j k None e h = tt
key_moves s u i j k (Some y) e h = even_even _ _ _ _ _ _ _ _ _ h e

levels_move : (s u : Cursor) (i j : ℕ) (ks : List ℕ) (ls : List Level)
    → Even s.mark.line s.mark.index i u.mark.line u.mark.index j → LevelsEven s.mark i ks ls → LevelsEven u.mark j ks ls
levels_move s u i j ks [] e h = tt
levels_move s u i j ks (l ∷ ls) e h =
    (key_moves s u i j (first ks) l.key e h.0, levels_move s u i j (others ks) ls e h.1)

abbrev pub going_to : ℕ → Indexes → Indexes
going_to j x = record x { at = j }

-- both cursors go on
pub twin_moves : {text : List ℕ} (c : Core) (x : Indexes) (s : Cursor) (j : ℕ) → Twin text c x
    → Ahead text c.cursor x.at s j → Twin text (with_cursor s c) (going_to j x)
twin_moves {text = text} c x s j t a = grind (arith, levels_move)

-- ## Candidates

pub same_length : (is : List ℕ) (ls : List Level) → length (near_levels is ls) ≡ length ls
same_length is [] = refl
same_length is (l ∷ ls) = ap suc (same_length (others is) ls)

far_same : (m : Marker) (j i : ℕ) (k : Option Candidate) → KeyEven m j i k
    → is_too_far (near_key i k) (reindexed j m) ≡ is_too_far k m
far_same m j i None e = refl
far_same m j i (Some k) e = grind arith

pub forgotten : {text : List ℕ} (c : Core) (x : Indexes) → Twin text c x
    → TwinParts text c.cursor None c.outer c.adjacent x
forgotten c x t = record { ahead = t.ahead; key = tt; outer = t.outer; line = t.line; adjacent = t.adjacent }

-- a colon may come at once where both are
pub here_adjacent : {text : List ℕ} (c : Core) (x : Indexes) → Twin text c x
    → TwinParts text c.cursor c.level.key c.outer c.cursor.mark.index (record x { adjacent = x.at })
here_adjacent c x t = grind arith

-- changes that leave the cursor
module _ {text : List ℕ} {P : Cursor → Type 0} where
  pub save_same : (n : ℕ) (c : Core) (x : Indexes) → Twin text c x → P c.cursor
      → Cores text P (save_key n c) (save_key n (near_core x c))
  save_same n c x t p = choose_by (Cores text P) c.key_allowed c.key_allowed _ _ _ _ refl (λ _. record {
    at = record x { key = x.at };
    is = refl;
    twin = grind (arith, even_here);
    here = p;
  }) (λ _. here c x t p)

  pub roll_same : (column : ℕ) (c : Core) (x : Indexes) → Twin text c x → P c.cursor
      → Cores text P (roll column c) (roll column (near_core x c))
  roll_same column c x t p = choose_by (Cores text P) (is_further column c) (is_further column c) _ _ _ _ refl
      (λ _. here (enter_block column c) x t p) (λ _. here c x t p)

  pub drop_same : Alike text P (Cores text P) drop_far_key
  unfolding drop_far_key
  drop_same c x t p = search (choose_same, reindexed, far_same, gives, here, choose, refused, forgotten)

  pub remove_same : Alike text P (Cores text P) remove_key
  unfolding remove_key
  remove_same c x t p = search (choose, refused, gives, here, forgotten)

-- ## A character

-- a text begins with a character that is no break
abbrev pub BeginsUnbroken : List ℕ → Type 0
BeginsUnbroken [] = ⊥
BeginsUnbroken (c ∷ cs) = is_break c ≡ false

abbrev pub Unbroken : Cursor → Type 0
Unbroken s = BeginsUnbroken s.rest

pub pass_near : (i : ℕ) (t : List ℕ) (m : Marker) (b : Bool) → BeginsUnbroken t
    → pass 1 (near i (cursor_at t m b)) ≡ near (i + 1) (pass 1 (cursor_at t m b))
pass_near i t m b k = grind arith

pub pass_ahead : (text : List ℕ) (i : ℕ) (t : List ℕ) (m : Marker) (b : Bool) → BeginsUnbroken t
    → Stand text (cursor_at t m b) i → Ahead text (cursor_at t m b) i (pass 1 (cursor_at t m b)) (i + 1)
pass_ahead text i [] m b k h = absurd k
pass_ahead text i (c ∷ cs) m b k h = character_ahead text c cs m i b false (no_return c k) h

module _ {text : List ℕ} (c : Core) (x : Indexes) where
  pub pass_same : Twin text c x → BeginsUnbroken c.cursor.rest
      → Cores text Anywhere (pass_on 1 c) (pass_on 1 (near_core x c))
  pass_same t unbroken = record {
    at = going_to (x.at + 1) x;
    is = cc (pass_near x.at c.cursor.rest c.cursor.mark c.cursor.blank_so_far unbroken);
    twin = twin_moves c x (pass 1 c.cursor) (x.at + 1) t
        (pass_ahead text x.at c.cursor.rest c.cursor.mark c.cursor.blank_so_far unbroken (twin_stands c x t));
    here = tt;
  }

-- after a reader both are where it ends
module _ {text : List ℕ} {X Y : Type 0} {R : X → X → Type 0} {Q : Y → Y → Type 0} (end : X → Cursor)
    (f g : X → Result Y Refusal) (laws : Laws text) (c : Core) (x : Indexes)
  where
    pub and_read : {r q : Result X Refusal} → Twin text c x → Both R r q
        → ((a : X) → r ≡ Ok a → Forward c.cursor (end a))
        → ((b : X) → q ≡ Ok b → Forward (near x.at c.cursor) (end b))
        → ((a b : X) → R a b → AreAlike text (end a) (end b))
        → ((a b : X) → R a b
        → Cores text Anywhere (with_cursor (end a) c) (with_cursor (end b) (near_core x c)) → Both Q (f a) (g b))
        → Both Q (r >>= f) (q >>= g)
    and_read t h first second alike next = and_known h (λ a b e k w.
        let s = end a in
        let u = end b in
        let moves = both_ahead text c.cursor x.at s u (twin_low c x laws t) (first a e) (second b k) (alike a b w) in
        next a b w (record {
          at = going_to u.mark.index x;
          is = ap (λ s. with_cursor s (near_core x c)) (alike_is text s u (alike a b w));
          twin = twin_moves c x s u.mark.index t moves;
          here = tt;
        }))

abbrev pub Separated : List ℕ → SkipTabs × Core → SkipTabs × Core → Type 0
Separated text a b = (a.0 ≡ b.0) × Cores text Anywhere a.1 b.1

pub separate_same : {text : List ℕ} → Laws text → Alike text Anywhere (Separated text) separate
separate_same laws c x t _ = and_read (λ a. a.1) _ _ laws c x t (both_of ((twin_reads c x laws t).separation tabs.Yes))
    (separation_forward c.cursor) (separation_forward (near x.at c.cursor)) (λ a b w. w.1) (λ a b w k. gives (w.0, k))

module _ {text : List ℕ} {Y : Type 0} {R : Y → Y → Type 0} (f g : SkipTabs × Core → Result Y Refusal)
    (laws : Laws text)
  where
    pub and_separate : (c : Core) (x : Indexes) → Twin text c x
        → ((k : SkipTabs) (d : Core) (y : Indexes) → Twin text d y → Both R (f (k, d)) (g (k, near_core y d)))
        → Both R (separate c >>= f) (separate (near_core x c) >>= g)
    and_separate c x t go = and_then (separate_same laws c x t tt) (λ a b w.
        with_core (λ d. f (a.0, d)) (λ d. g (b.0, d)) w.1 (λ d y u _. rw (← w.0) (go a.0 d y u)))

    -- after a character and a separation
    pub and_pass : (c : Core) (x : Indexes) → Twin text c x → BeginsUnbroken c.cursor.rest
        → ((k : SkipTabs) (d : Core) (y : Indexes) → Twin text d y → Both R (f (k, d)) (g (k, near_core y d)))
        → Both R (separate (pass_on 1 c) >>= f) (separate (pass_on 1 (near_core x c)) >>= g)
    and_pass c x t unbroken go = with_core (λ d. separate d >>= f) (λ d. separate d >>= g) (pass_same c x t unbroken)
        (λ d y u _. and_separate d y u go)
