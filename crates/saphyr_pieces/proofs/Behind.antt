-- What is left of a text begins between two of its characters.
use Rattle.std.proofs.Common.{◌≡◌, ℕ, ◌-◌, ◌+◌, ◌≤◌, List, ◌++◌, length, drop, take, IsUtf8, sym, ap, subst, ◌∙◌, arith, encode_utf8_all, append_assoc, length-append}
use Rattle.std.specs.Str.{chars, IsCharBoundary}
use Rattle.std.proofs.lemmas.Str.{IsUtf8-drop, encodes-append, encodes-chars, IsCharBoundary-at_seam}
use Rattle.std.proofs.lemmas.List.{take-append-drop}
use Rattle.std.proofs.Math.Seq.{drop-append_seam}

-- what is left of the text bs is rs, behind these bytes
pub record Behind (bs rs : List ℕ) : Type 0 where
  pub front : List ℕ
  pub is : bs ≡ front ++ rs

-- where what is left of the text bs begins
pub record Left (bs rs : List ℕ) : Type 0 where
  pub fits : length rs ≤ length bs
  pub boundary : IsCharBoundary bs (length bs - length rs)
  pub left : drop (length bs - length rs) bs ≡ rs

later_is_behind : (bs rs : List ℕ) (n : ℕ) → IsUtf8 bs → IsUtf8 rs → chars rs ≡ drop n (chars bs) → Behind bs rs
later_is_behind bs rs n u v e = record {
  front = encode_utf8_all (take n (chars bs));
  is =
      sym (encodes-chars bs u) ∙ ap encode_utf8_all (sym (take-append-drop n (chars bs)))
      ∙ encodes-append (take n (chars bs)) (drop n (chars bs))
      ∙ ap (λ (ds : List ℕ). encode_utf8_all (take n (chars bs)) ++ encode_utf8_all ds) (sym e)
      ∙ ap (λ (ds : List ℕ). encode_utf8_all (take n (chars bs)) ++ ds) (encodes-chars rs v);
}

left_behind : (bs rs : List ℕ) → IsUtf8 rs → Behind bs rs → Left bs rs
left_behind bs rs v h =
    let len : length bs ≡ length h.front + length rs = ap length h.is ∙ length-append h.front rs in
    let m : length h.front ≡ length bs - length rs = omega (arith, len) in
    record {
      fits = omega (arith, len);
      boundary = subst (λ (k : ℕ). IsCharBoundary bs k) m (IsCharBoundary-at_seam bs h.front rs h.is v);
      left = subst (λ (k : ℕ). drop k bs ≡ rs) m (ap (drop (length h.front)) h.is ∙ drop-append_seam h.front rs);
    }

-- what is left of what follows a place of the text is left of the text
pub left_of_text : (bs rs : List ℕ) (start : ℕ) → IsUtf8 bs → IsUtf8 rs → IsCharBoundary bs start
    → (n : ℕ) × (chars rs ≡ drop n (chars (drop start bs))) → Left bs rs
left_of_text bs rs start u v b (n, e) =
    let h = later_is_behind (drop start bs) rs n (IsUtf8-drop bs start u b) v e in
    left_behind bs rs v (record {
      front = take start bs ++ h.front;
      is =
          sym (take-append-drop start bs) ∙ ap (λ (ds : List ℕ). take start bs ++ ds) h.is
          ∙ sym (append_assoc (take start bs) h.front rs);
    })
