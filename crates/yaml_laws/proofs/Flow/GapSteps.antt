-- What is passed between two tokens of a text in flow style, character by character.
use Rattle.yaml_laws.proofs.Common.{◌≡◌, ℕ, suc, ◌+◌, ◌<◌, ◌≤◌, false, List, ◌∷◌, length, refl, arith, nat_tests, is_blank, Marker, along, next_line, no_return}
use Rattle.yaml_laws.proofs.Flow.States.{moved, is_left_tab, past, past_comment, IsContentStart}
use Rattle.yaml_laws.proofs.Flow.Places.{moved_index}
use Rattle.yaml_laws.proofs.Flow.GapWalks.{OverGap, over_gap, over_comment}

-- ## By the characters that are passed

-- P holds of each place and what is after it, where it does where nothing is passed, and after each character.
pub record GapCases (column : ℕ) (P : Marker → List ℕ → Marker × List ℕ → Type 0) : Type 0 where
  pub stays : (m : Marker) (t : List ℕ) → past column m t ≡ (m, t) → P m t (m, t)
  pub onward : (m : Marker) (c : ℕ) (cs : List ℕ) (r : Marker × List ℕ) → P (along m 1) cs r → P m (c ∷ cs) r
  pub line : (m : Marker) (c : ℕ) (cs : List ℕ) (r : Marker × List ℕ) → P (next_line m 1) cs r → P m (c ∷ cs) r

pub no_left : (column : ℕ) (m : Marker) (c : ℕ) → is_blank c ≡ false → is_left_tab column m c ≡ false
no_left column m c h = grind arith

over_steps : (column : ℕ) (P : Marker → List ℕ → Marker × List ℕ → Type 0) → GapCases column P
    → OverGap column (λ m t. P m t (past column m t)) (λ m t. P m t (past_comment column m t))
over_steps column P steps = grind (arith, past, past_comment, nat_tests)

pub by_steps : (column : ℕ) (P : Marker → List ℕ → Marker × List ℕ → Type 0) → GapCases column P
    → (m : Marker) (t : List ℕ) → P m t (past column m t)
by_steps column P steps = over_gap (over_steps column P steps)

-- nothing more is passed after what is passed
pub past_again : (column : ℕ) (m : Marker) (t : List ℕ)
    → past column (past column m t).0 (past column m t).1 ≡ past column m t
past_again column m t = by_steps column (λ m t r. past column r.0 r.1 ≡ r)
    (record { stays = λ m t e. e; onward = λ m c cs r p. p; line = λ m c cs r p. p }) m t

pub past_count : (column : ℕ) (m : Marker) (t : List ℕ)
    → (past column m t).0.index + length (past column m t).1 ≡ m.index + length t
past_count column m t = by_steps column (λ m t r. r.0.index + length r.1 ≡ m.index + length t)
    (record {
      stays = λ m t e. refl;
      onward = λ m c cs r p. further (r.0.index + length r.1) m.index (length cs) p;
      line = λ m c cs r p. further (r.0.index + length r.1) m.index (length cs) p;
    }) m t
  where
    further : (n i l : ℕ) → n ≡ i + 1 + l → n ≡ i + suc l
    further n i l e = omega (arith, e)

-- what is left is no longer
no_longer : (column : ℕ) → GapCases column (λ m t r. length r.1 ≤ length t)
no_longer column = grind arith

pub past_shorter : (column : ℕ) (m : Marker) (t : List ℕ) → length (past column m t).1 ≤ length t
past_shorter column m t = by_steps column (λ m t r. length r.1 ≤ length t) (no_longer column) m t

pub past_low : (column : ℕ) (m : Marker) (t : List ℕ) → m.index ≤ (past column m t).0.index
past_low column m t = grind (arith, past_count, past_shorter)

-- what comes before a piece comes before what comes after it
pub less_on : (ad : ℕ) (m : Marker) (p : List ℕ) → ad < m.index → ad < (moved m p).index
less_on ad m p low = let i = moved_index m p in omega (arith, i, low)

pub less_behind : (column ad : ℕ) (m : Marker) (p o : List ℕ) → ad < m.index → ad ≤ (past column (moved m p) o).0.index
less_behind column ad m p o low = grind (arith, moved_index, past_low, moved)

pub comment_shorter : (column : ℕ) (m : Marker) (t : List ℕ) → length (past_comment column m t).1 ≤ length t
comment_shorter column = over_comment (over_steps column (λ m t r. length r.1 ≤ length t) (no_longer column))

-- a token stops it
pub past_content : (column : ℕ) (m : Marker) (c : ℕ) (cs : List ℕ) → IsContentStart c
    → past column m (c ∷ cs) ≡ (m, c ∷ cs)
past_content column m c cs h = rw (no_left column m c h.blank, h.blank, h.break, h.comment, no_return c h.break) refl
