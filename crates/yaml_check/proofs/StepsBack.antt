-- One step back in the search for an open bracket.
use Rattle.std.proofs.Common.{◌≡◌, ◌∙◌, ℕ, zero, suc, ◌+◌, ◌-◌, ◌<◌, List, length, true, false, get_or, slice_index, sym, ap, refl, arith}
use Rattle.std.proofs.lemmas.Bool.{le-leb}
use Rattle.std.proofs.lemmas.List.{get_or_default}
use Rattle.yaml_check.specs.Opened.{is_right_bracket, is_left_bracket, unclosed, unclosed_step}

step_back : (text : List ℕ) (start at closed : ℕ) → start < at
    → unclosed text start at closed ≡ unclosed_step text (at - 1) closed (λ k. unclosed text start (at - 1) k)
step_back text start zero closed h = absurd (omega arith)
step_back text start (suc n) closed h =
    let same : suc n - 1 ≡ n = omega arith in rw (same, le-leb start n (omega arith)) refl

read_as : (text : List ℕ) (i x : ℕ) → i < length text → x ≡ get_or text i x → x ≡ slice_index text i
read_as text i x within is = is ∙ get_or_default text i x 0 within

pub back_over_closing : (text : List ℕ) (start at closed x : ℕ) → start < at → at - 1 < length text
    → x ≡ get_or text (at - 1) x → is_right_bracket x ≡ true
    → unclosed text start at closed ≡ unclosed text start (at - 1) (closed + 1)
back_over_closing text start at closed x behind within is closes =
    let here : is_right_bracket (slice_index text (at - 1)) ≡ true =
    ap is_right_bracket (sym (read_as text (at - 1) x within is)) ∙ closes in
    step_back text start at closed behind ∙ rw here refl

pub back_over_other : (text : List ℕ) (start at closed x : ℕ) → start < at → at - 1 < length text
    → x ≡ get_or text (at - 1) x → is_right_bracket x ≡ false → is_left_bracket x ≡ false
    → unclosed text start at closed ≡ unclosed text start (at - 1) closed
back_over_other text start at closed x behind within is closes opens =
    let same = read_as text (at - 1) x within is in
    let here : is_right_bracket (slice_index text (at - 1)) ≡ false = ap is_right_bracket (sym same) ∙ closes in
    let there : is_left_bracket (slice_index text (at - 1)) ≡ false = ap is_left_bracket (sym same) ∙ opens in
    step_back text start at closed behind ∙ rw (here, there) refl
