-- The parts of what is shown of a line make it up.
use Rattle.std.proofs.Common.{◌≡◌, ◌∙◌, ℕ, zero, suc, ◌+◌, ◌-◌, ◌<◌, ◌≤◌, ◌⊎◌, inl, inr, min, Bool, true, false, nat_lt, List, [], ◌∷◌, ◌++◌, length, take, drop, slice_index, sym, ap, arith, lit≤}
use Rattle.std.specs.Prelude.{slice_range}
use Rattle.std.proofs.lemmas.Bool.{false≢true, ltb-true, not-true}
use Rattle.std.proofs.lemmas.List.{take-append-drop, length-take-le, length-drop, get_or-take, get_or-drop}
use Rattle.std.proofs.lemmas.Slice.{between_to_end}
use Rattle.yaml_check.specs.declared.view.View.{View}
use Rattle.yaml_check.specs.Shown.{columns_of, shown_columns, cut, is_end_of_line, line_goes_on, IsFull}
use Rattle.yaml_check.specs.Views.{CountFits, FrontFits, IsView}

cut_length : (is_cut : Bool) → length (cut is_cut) ≤ 3
cut_length true = lit≤ tt
cut_length false = lit≤ tt

-- No more fits in front of what is shown from `start` on, where one more would be too many or too wide.
pub full_front : (most left start c : ℕ) (cs : List ℕ) → left + shown_columns (drop start cs) ≡ most → start ≤ length cs
    → length cs ≤ 200 + start → (200 ≤ length cs - start) ⊎ (left < columns_of c) → IsFull most (drop start cs) c
full_front most left start c cs sum within few (inl many) =
    inl (length-drop start cs ∙ omega (arith, many, few, within))
full_front most left start c cs sum within few (inr wide) = inr (omega (arith, sum, wide))

-- the same behind the first `count` characters
pub full_back : (most left count c : ℕ) (cs : List ℕ) → left + shown_columns (take count cs) ≡ most → count < length cs
    → count ≤ 200 → (200 ≤ count) ⊎ (left < columns_of c) → IsFull most (take count cs) c
full_back most left count c cs sum within few (inl many) =
    inl (length-take-le count cs (omega (arith, within)) ∙ omega (arith, many, few))
full_back most left count c cs sum within few (inr wide) = inr (omega (arith, sum, wide))

-- a line that goes on has one more character
goes_on_at : (n : ℕ) (cs : List ℕ) → line_goes_on (drop n cs) ≡ true
    → (n < length cs) × (is_end_of_line (slice_index cs n) ≡ false)
goes_on_at zero [] goes = absurd (false≢true goes)
goes_on_at zero (c ∷ cs) goes = (omega arith, not-true _ goes)
goes_on_at (suc n) [] goes = absurd (false≢true goes)
goes_on_at (suc n) (c ∷ cs) goes = let h = goes_on_at n cs goes in (omega (arith, h.0), h.1)

first_behind : (n : ℕ) (cs : List ℕ) → slice_index (drop n cs) 0 ≡ slice_index cs n
first_behind n cs = get_or-drop n cs 0 0 ∙ ap (λ k. slice_index cs k) (omega arith)

-- A view has a line before a place from `start` on, and `count` characters of what comes after it.
pub record HasParts (line rest : List ℕ) (start count : ℕ) (v : View) : Type 0 where
  pub front : v.front.now ≡ slice_range line start (length line)
  pub back : v.back.now ≡ take count rest
  pub cut_before : v.cut_before ≡ nat_lt 0 start
  pub cut_behind : v.cut_behind ≡ line_goes_on (slice_range rest count (length rest))

pub is_view : {text line rest : List ℕ} {at a col m start count : ℕ} {v : View} → a ≡ at → m ≡ min col at
    → line ≡ slice_range text (a - m) a → rest ≡ slice_range text a (length text) → FrontFits line start v.caret
    → CountFits rest (197 - v.caret) count → HasParts line rest start count v → IsView text at col v
is_view {text} {line} {rest} {at} {a} {col} {m} {start} {count} {v} a_is m_is line_is rest_is before behind parts =
    let rest_drop : rest ≡ drop a text = rest_is ∙ between_to_end text a (length text) (omega arith) in
    let shown : v.front.now ≡ drop start line = parts.front ∙ between_to_end line start (length line) (omega arith) in
    let line_at : line ≡ slice_range text (at - min col at) at = cc in
    let left_out : length (take start line) ≡ start = length-take-le start line before.within in
    let narrow_cut = cut_length v.cut_behind in
    let cut_at : v.cut_before ≡ true → 0 < start = λ is_cut. ltb-true 0 start (sym parts.cut_before ∙ is_cut) in
    let on : v.cut_behind ≡ line_goes_on (drop count rest) =
    parts.cut_behind ∙ ap line_goes_on (between_to_end rest count (length rest) (omega arith)) in
    record {
      left = take start line;
      front = sym line_at ∙ sym (take-append-drop start line) ∙ ap (λ l. take start line ++ l) (sym shown);
      cut_before = parts.cut_before ∙ ap (λ n. nat_lt 0 n) (sym left_out);
      right = drop count rest;
      back = ap (λ n. drop n text) (sym a_is) ∙ sym rest_drop ∙ sym (take-append-drop count rest)
          ∙ ap (λ l. l ++ drop count rest) (sym parts.back);
      line = rw parts.back behind.line;
      cut_behind = on;
      caret = rw (parts.cut_before, shown) before.columns;
      before_fits = before.fits;
      fits = rw parts.back (omega arith);
      few = (
        rw shown (omega (arith, length-drop start line)),
        rw parts.back (omega (arith, length-take-le count rest behind.within)),
      );
      full_before = λ is_cut.
          rw (shown, left_out, get_or-take start line (start - 1) 0 (omega (arith, cut_at is_cut)))
          (before.full (cut_at is_cut));
      full_behind = λ is_cut.
          let more = goes_on_at count rest (sym on ∙ is_cut) in
          rw (parts.back, first_behind count rest) (behind.full more.0 more.1);
    }
