-- A walk over what is between two tokens, character by character.
use Rattle.yaml_laws.proofs.Common.{◌≡◌, ℕ, Bool, true, false, List, [], ◌∷◌, refl, arith, ◌==◌, number_sign, is_break, is_yaml_non_break, Marker, along, next_line}
use Rattle.yaml_laws.proofs.Flow.Gaps.{stops_tab, is_return_at, is_white_at}
use Rattle.yaml_laws.proofs.Flow.States.{is_left_tab}

-- What holds of a text before a token, at a place (P), and of a text in a comment (Q), character by character. A tab
-- left of the column ends the walk where a token is on its line.
pub record OverGap (column : ℕ) (P Q : Marker → List ℕ → Type 0) : Type 0 where
  pub ends : (m : Marker) → P m []
  pub tab : (m : Marker) (c : ℕ) (cs : List ℕ) → stops_tab column m c cs ≡ true → P m (c ∷ cs)
  pub white : (m : Marker) (c : ℕ) (cs : List ℕ) → stops_tab column m c cs ≡ false → is_white_at c cs ≡ true
      → P (along m 1) cs → P m (c ∷ cs)
  pub break : (m : Marker) (c : ℕ) (cs : List ℕ) → stops_tab column m c cs ≡ false → is_white_at c cs ≡ false
      → is_break c ≡ true → P (next_line m 1) cs → P m (c ∷ cs)
  pub sign : (m : Marker) (c : ℕ) (cs : List ℕ) → stops_tab column m c cs ≡ false → is_white_at c cs ≡ false
      → is_break c ≡ false → (c == number_sign) ≡ true → Q (along m 1) cs → P m (c ∷ cs)
  pub token : (m : Marker) (c : ℕ) (cs : List ℕ) → stops_tab column m c cs ≡ false → is_white_at c cs ≡ false
      → is_break c ≡ false → (c == number_sign) ≡ false → P m (c ∷ cs)
  pub comment_ends : (m : Marker) → Q m []
  pub word : (m : Marker) (c : ℕ) (cs : List ℕ) → is_yaml_non_break c ≡ true → Q (along m 1) cs → Q m (c ∷ cs)
  pub return : (m : Marker) (c : ℕ) (cs : List ℕ) → is_yaml_non_break c ≡ false → is_return_at c cs ≡ true
      → P (along m 1) cs → Q m (c ∷ cs)
  pub line : (m : Marker) (c : ℕ) (cs : List ℕ) → is_yaml_non_break c ≡ false → is_return_at c cs ≡ false
      → is_break c ≡ true → P (next_line m 1) cs → Q m (c ∷ cs)
  pub other : (m : Marker) (c : ℕ) (cs : List ℕ) → is_yaml_non_break c ≡ false → is_return_at c cs ≡ false
      → is_break c ≡ false → Q m (c ∷ cs)

by_kind : {column : ℕ} {P Q : Marker → List ℕ → Type 0} → OverGap column P Q → (m : Marker) (c : ℕ) (cs : List ℕ)
    (is_tab is_white is_line is_sign : Bool) → stops_tab column m c cs ≡ is_tab → is_white_at c cs ≡ is_white
    → is_break c ≡ is_line → (c == number_sign) ≡ is_sign → P (along m 1) cs → P (next_line m 1) cs
    → Q (along m 1) cs → P m (c ∷ cs)
by_kind h m c cs is_tab is_white is_line is_sign k e g p q u v = grind (arith)

by_comment_kind : {column : ℕ} {P Q : Marker → List ℕ → Type 0} → OverGap column P Q → (m : Marker) (c : ℕ)
    (cs : List ℕ) (is_word is_return is_line : Bool) → is_yaml_non_break c ≡ is_word → is_return_at c cs ≡ is_return
    → is_break c ≡ is_line → Q (along m 1) cs → P (along m 1) cs → P (next_line m 1) cs → Q m (c ∷ cs)
by_comment_kind h m c cs is_word is_return is_line k e g p q u = grind (arith)

mutual
  pub over_gap : {column : ℕ} {P Q : Marker → List ℕ → Type 0} → OverGap column P Q → (m : Marker) (t : List ℕ) → P m t
  over_gap over m [] = over.ends m
  over_gap {column} over m (c ∷ cs) =
      by_kind over m c cs (stops_tab column m c cs) (is_white_at c cs) (is_break c) (c == 35) refl refl refl refl
      (over_gap over (along m 1) cs) (over_gap over (next_line m 1) cs) (over_comment over (along m 1) cs)

  pub over_comment : {column : ℕ} {P Q : Marker → List ℕ → Type 0} → OverGap column P Q → (m : Marker) (t : List ℕ)
      → Q m t
  over_comment over m [] = over.comment_ends m
  over_comment over m (c ∷ cs) =
      by_comment_kind over m c cs (is_yaml_non_break c) (is_return_at c cs) (is_break c) refl refl refl
      (over_comment over (along m 1) cs) (over_gap over (along m 1) cs) (over_gap over (next_line m 1) cs)

-- ## No column is left of the first

pub none_left : (m : Marker) (c : ℕ) → is_left_tab 0 m c ≡ false
none_left m c = grind arith

pub no_stop : (m : Marker) (c : ℕ) (cs : List ℕ) → stops_tab 0 m c cs ≡ true → ⊥
no_stop m c cs h = grind arith
