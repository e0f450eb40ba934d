-- Line numbers grow from line to line, in texts that are not longer than they can tell.
use Rattle.yaml_laws.proofs.Common.{List, [], append_assoc, arith, length, min, suc, ℕ, ◌++◌, ◌+◌, ◌<◌, ◌^◌, ◌∷◌, ◌≡◌, ◌≤◌, ◌-◌, line_feed, Marker, length-append}
use Rattle.yaml_laws.proofs.Flow.States.{moved, past, IsClear}
use Rattle.yaml_laws.proofs.Flow.GapSteps.{by_steps}
use Rattle.yaml_laws.proofs.Flow.Places.{behind_character, moved_append, moved_index, moved_count, clear_front, clear_back}

-- A place has at most as many lines before it as characters.
abbrev pub IsLined : Marker → Type 0
IsLined m = m.line ≤ m.index + 1

pub one_lined : (m : Marker) (c : ℕ) → IsLined m → IsLined (behind_character m c)
one_lined m c h = grind (arith, min)

pub moved_lined : (m : Marker) (t : List ℕ) → IsLined m → IsLined (moved m t)
moved_lined m [] h = h
moved_lined m (c ∷ cs) h = moved_lined (behind_character m c) cs (one_lined m c h)

one_line : (m : Marker) (c : ℕ) → IsLined m → m.index < 2 ^ 63 → m.line ≤ (behind_character m c).line
one_line m c h low = grind arith

pub moved_line : (m : Marker) (t : List ℕ) → IsLined m → m.index + length t < 2 ^ 63 → m.line ≤ (moved m t).line
moved_line m [] h low = omega arith
moved_line m (c ∷ cs) h low =
    let more = moved_line (behind_character m c) cs (one_lined m c h)
    (omega (arith, (moved_index m (c ∷ [])), low)) in
    omega (arith, one_line m c h (front m.index (length cs) low), more)
  where
    front : (i l : ℕ) → i + suc l < 2 ^ 63 → i < 2 ^ 63
    front i l h = omega (arith, h)

-- what is passed leads to no earlier line
pub past_line : (m : Marker) (t : List ℕ) → IsLined m → m.index + length t < 2 ^ 63 → m.line ≤ (past 0 m t).0.line
past_line m t = by_steps 0 (λ m t r. IsLined m → m.index + length t < 2 ^ 63 → m.line ≤ r.0.line)
    (record {
      stays = λ m t e h low. omega arith;
      onward = λ m c cs r p h low. p (further m.line m.index h) (shorter m.index (length cs) low);
      line = grind (arith, next, broken, shorter);
    }) m t
  where
    further : (l i : ℕ) → l ≤ i + 1 → l ≤ i + 1 + 1
    further l i h = omega (arith, h)

    shorter : (i l : ℕ) → i + suc l < 2 ^ 63 → i + 1 + l < 2 ^ 63
    shorter i l h = omega (arith, h)

    broken : (l i : ℕ) → l ≤ i + 1 → min (l + 1) (2 ^ 64 - 1) ≤ i + 1 + 1
    broken l i h = omega (arith, h)

    next : (l i n r : ℕ) → l ≤ i + 1 → i + suc n < 2 ^ 63 → min (l + 1) (2 ^ 64 - 1) ≤ r → l ≤ r
    next l i n r h low k = omega (arith, h, low, k)

-- after a break is a later line
pub later_line : (m : Marker) (a b : List ℕ) → IsLined m → m.index + length (a ++ (line_feed ∷ b)) < 2 ^ 63
    → m.line < (moved m (a ++ (line_feed ∷ b))).line
later_line m a b h low =
    grind (arith, moved, moved_index, length-append, moved_lined, moved_line, one_lined, moved_append, min)

-- ## A piece that is clear and within the limit, where lines can be told

pub record FitsOnLines (limit : ℕ) (m : Marker) (p o : List ℕ) : Type 0 where
  pub clear : IsClear m p o
  pub below : m.index + length (p ++ o) ≤ limit
  pub lined : IsLined m

pub fits_front : {limit : ℕ} (m : Marker) (a b o : List ℕ) → FitsOnLines limit m (a ++ b) o
    → FitsOnLines limit m a (b ++ o)
fits_front {limit} m a b o h =
    record { clear = clear_front m a b o h.clear; below = rw (append_assoc a b o) at h.below; lined = h.lined }

pub fits_back : {limit : ℕ} (m : Marker) (a b o : List ℕ) → FitsOnLines limit m (a ++ b) o
    → FitsOnLines limit (moved m a) b o
fits_back {limit} m a b o h =
    let whole : m.index + length (a ++ (b ++ o)) ≤ limit = rw (append_assoc a b o) at h.below in
    let count = moved_count m a (b ++ o) in
    record { clear = clear_back m a b o h.clear; below = omega (arith, whole, count); lined = moved_lined m a h.lined }

pub fits_so : {limit : ℕ} (m : Marker) (p q o : List ℕ) → p ≡ q → FitsOnLines limit m p o → FitsOnLines limit m q o
fits_so {limit} m p q o e h = rw e at h
