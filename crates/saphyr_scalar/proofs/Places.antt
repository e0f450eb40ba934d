-- Several steps along a line.
use Rattle.saphyr_scalar.proofs.Common.{◌≡◌, ℕ, ◌+◌, refl, ap, ◌∙◌, Marker, along}
use Rattle.saphyr_scalar.proofs.Moving.{along_more}

pub along_three : (m : Marker) (a b c n : ℕ) → n ≡ a + b + c → along (along (along m a) b) c ≡ along m n
along_three m a b c n e = ap (λ j. along j c) (along_more m a b (a + b) refl) ∙ along_more m (a + b) c n e

pub along_four : (m : Marker) (a b c d n : ℕ) → n ≡ a + b + c + d → along (along (along (along m a) b) c) d ≡ along m n
along_four m a b c d n e = ap (λ j. along j d) (along_three m a b c (a + b + c) refl) ∙ along_more m (a + b + c) d n e
