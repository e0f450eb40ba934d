-- What is open is closed one goal after the other, and a step may put others in the place of a goal.
use Rattle.std.proofs.Common.{◌≡◌, ℕ, List, [], ◌∷◌, ◌++◌, refl, sym, subst}
use Rattle.yaml_standard.specs.declared.goal.Goal.{Goal}
use Rattle.yaml_standard.specs.declared.goal.Goals.{Goals}
use Rattle.yaml_standard.specs.declared.goal.Goals.TheVariants as goals
use Rattle.yaml_standard.specs.Goals.{Close, Closes, Replaces, stack}

-- the goals on top are closed first
pub closes_top : (gs hs : List Goal) (text end : List ℕ) → Close (gs ++ hs) text end
    → (x : List ℕ) × Close hs text x × Close gs x end
closes_top [] hs text end c = (end, c, refl)
closes_top (g ∷ gs) hs text end (x, c, d) = let (y, e, f) = closes_top gs hs text x c in (y, e, (x, f, d))

pub closes_both : (gs hs : List Goal) (text x end : List ℕ) → Close hs text x → Close gs x end
    → Close (gs ++ hs) text end
closes_both [] hs text x end c d = subst (λ e. Close hs text e) d c
closes_both (g ∷ gs) hs text x end c (y, d, e) = (y, closes_both gs hs text x y c d, e)

-- what replaces a goal closes it
closes_old : (old : Goal) (text rest end : List ℕ) (added : Goals) → Replaces old text rest added
    → Close (stack added) rest end → Closes old text end
closes_old old text rest end goals.None r c = subst (λ e. Closes old text e) c r
closes_old old text rest end (goals.One a) r (x, c, d) = r end (subst (λ e. Closes a e end) (sym c) d)
closes_old old text rest end (goals.Two a b) r (y, (x, c, d), e) =
    r y end (subst (λ z. Closes a z y) (sym c) d) e
closes_old old text rest end (goals.Three a b g) r (z, (y, (x, c, d), e), f) =
    r y z end (subst (λ v. Closes a v y) (sym c) d) e f

pub replaced : (gs : List Goal) (old : Goal) (text rest end : List ℕ) (added : Goals) → Replaces old text rest added
    → Close (gs ++ stack added) rest end → Close (gs ++ old ∷ []) text end
replaced gs old text rest end added r c =
    let (x, d, e) = closes_top gs (stack added) rest end c in
    closes_both gs (old ∷ []) text x end (text, refl, closes_old old text rest x added r d) e

-- one turn: the last goal is taken off, and what replaces it is put in its place
pub one_turn : (before left now : List Goal) (old : Goal) (text rest end : List ℕ) (added : Goals)
    → before ≡ left ++ old ∷ [] → now ≡ left ++ stack added → Replaces old text rest added → Close now rest end
    → Close before text end
one_turn before left now old text rest end added taken put r c =
    subst (λ gs. Close gs text end) (sym taken)
    (replaced left old text rest end added r (subst (λ gs. Close gs rest end) put c))
