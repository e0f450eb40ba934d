-- Places that are reached one character after the other.
use Rattle.std.proofs.Common.{◌≡◌, ◌∙◌, ℕ, ◌+◌, ◌-◌, ◌≤◌, ◌<◌, ◌^◌, List, ◌∷◌, length, drop, refl, sym, ap, inl, arith}
use Rattle.std.specs.Prelude.{true, false, if◌then◌else◌, min, slice_index}
use Rattle.std.proofs.Math.Nat.{min-eq_left}
use Rattle.saphyr_input.specs.Classes.{byte_order_mark, carriage_return, is_break, line_feed}
use Rattle.saphyr_input.specs.Places.{next_2_are}
use Rattle.saphyr_scalar.specs.declared.scalar.position.Marker.{Marker}
use Rattle.saphyr_scalar.specs.Spelling.LineBreaks.{break_len}
use Rattle.saphyr_scalar.specs.Views.Cursor.{along, next_line, start_cursor}
use Rattle.saphyr_scanner.specs.TokensTaken.{IsPlaceOf, IsReached, character, line_break, mark, nothing, past_mark}
use Rattle.saphyr_scanner.proofs.Reached.{reached_counted, reached_reached}
use Rattle.yaml_standard.specs.Places.{IsHere}

marker_is : (n m : Marker) → n.index ≡ m.index → n.line ≡ m.line → n.col ≡ m.col → n ≡ m
marker_is n m i l c =
    let make : ℕ → ℕ → ℕ → Marker = λ index line col. record { index = index; line = line; col = col } in
    ap (λ x. make x n.line n.col) i ∙ (ap (λ x. make m.index x n.col) l ∙ ap (λ x. make m.index m.line x) c)

pub here_counted : (text t : List ℕ) (m : Marker) → IsHere text m t → m.index + length t ≡ length text
here_counted text t m h =
    let counted = reached_counted (start_cursor text).mark text m t h.reached in omega (arith, counted)

-- the numbers of a place can be raised
raised : (text t : List ℕ) (m : Marker) (n : ℕ) → IsHere text m t → n ≤ length t
    → min (m.index + n) (2 ^ 64 - 1) ≡ m.index + n
raised text t m n h few =
    let c = here_counted text t m h in let s = h.countable in min-eq_left (omega (arith, c, s, few))

onward : (text t u : List ℕ) (m n : Marker) → IsHere text m t → IsReached m t n u → n.col ≤ n.index → IsHere text n u
onward text t u m n h r c = record {
  reached = reached_reached (start_cursor text).mark text m t n u h.reached r;
  column = c;
  countable = h.countable;
}

pub starts_here : (text t : List ℕ) (m : Marker) → length text < 2 ^ 63 → t ≡ text → m.index ≡ 0 → m.line ≡ 1
    → m.col ≡ 0 → IsHere text m t
starts_here text t m small same i l c =
    let start : Marker = (start_cursor text).mark in
    let is : m ≡ start = marker_is m start i l c in
    rw (is, same) (record { reached = nothing start text; column = omega arith; countable = small })

pub place_here : (text t : List ℕ) (m : Marker) → IsHere text m t → IsPlaceOf text m
place_here text t m h = (
  record { rest = t; mark = m; blank_so_far = false },
  h.reached,
  inl refl,
  let c = here_counted text t m h in omega (arith, c),
)

-- ## Behind a character

-- behind a break, of so many characters
behind_break : (text t u : List ℕ) (m n : Marker) → is_break (slice_index t 0) ≡ true → n ≡ next_line m (break_len t)
    → u ≡ drop (break_len t) t → IsHere text m t → IsHere text n u
behind_break text t u m n b is cut h =
    let next = next_line m (break_len t) in
    let rest = drop (break_len t) t in
    rw (is, cut) (onward text t rest m next h (line_break m t next rest b (nothing next rest)) (omega arith))

pub behind_one : (text xs : List ℕ) (m n : Marker) (c index line : ℕ) → is_break c ≡ true
    → next_2_are (c ∷ xs) carriage_return line_feed ≡ false → index ≡ min (m.index + 1) (2 ^ 64 - 1)
    → line ≡ min (m.line + 1) (2 ^ 64 - 1) → n.index ≡ index → n.line ≡ line → n.col ≡ 0 → IsHere text m (c ∷ xs)
    → IsHere text n xs
behind_one text xs m n c index line b lone i l ni nl nc h =
    let t : List ℕ = c ∷ xs in
    let one : break_len t ≡ 1 = ap (λ x. if x then 2 else 1) lone in
    let next : n.index ≡ m.index + 1 = ni ∙ (i ∙ raised text t m 1 h (omega arith)) in
    let is : n ≡ next_line m 1 = marker_is n (next_line m 1) next (nl ∙ l) nc in
    behind_break text t xs m n b (is ∙ ap (next_line m) (sym one)) (ap (λ k. drop k t) (sym one)) h

pub behind_two : (text bs xs : List ℕ) (m n : Marker) (c index more line : ℕ) → c ≡ carriage_return
    → bs ≡ line_feed ∷ xs → index ≡ min (m.index + 1) (2 ^ 64 - 1) → more ≡ min (index + 1) (2 ^ 64 - 1)
    → line ≡ min (m.line + 1) (2 ^ 64 - 1) → n.index ≡ more → n.line ≡ line → n.col ≡ 0 → IsHere text m (c ∷ bs)
    → IsHere text n xs
behind_two text bs xs m n c index more line e f i j l ni nl nc before =
    let t : List ℕ = carriage_return ∷ (line_feed ∷ xs) in
    let h : IsHere text m t = rw (e, f) at before in
    let one : index ≡ m.index + 1 = i ∙ raised text t m 1 h (omega arith) in
    let k = here_counted text t m h in
    let s = h.countable in
    let two : more ≡ index + 1 = j ∙ min-eq_left (omega (arith, one, k, s)) in
    let next : n.index ≡ m.index + 2 = omega (arith, one, two, ni) in
    let is : n ≡ next_line m 2 = marker_is n (next_line m 2) next (nl ∙ l) nc in
    behind_break text t xs m n refl is refl h

pub behind_mark : (text xs : List ℕ) (m n : Marker) (c index : ℕ) → c ≡ byte_order_mark → m.col ≡ 0
    → index ≡ min (m.index + 1) (2 ^ 64 - 1) → n.index ≡ index → n.line ≡ m.line → n.col ≡ 0
    → IsHere text m (c ∷ xs) → IsHere text n xs
behind_mark text xs m n c index e col i ni nl nc before =
    let h : IsHere text m (byte_order_mark ∷ xs) = rw e at before in
    let next : n.index ≡ m.index + 1 = ni ∙ (i ∙ raised text (byte_order_mark ∷ xs) m 1 h (omega arith)) in
    let is : n ≡ past_mark m = marker_is n (past_mark m) next nl (nc ∙ sym col) in
    rw is (onward text (byte_order_mark ∷ xs) xs m (past_mark m) h
    (mark m xs (past_mark m) xs col (nothing (past_mark m) xs)) (omega (arith, col)))

pub behind_other : (text xs : List ℕ) (m n : Marker) (c index col : ℕ) → is_break c ≡ false
    → index ≡ min (m.index + 1) (2 ^ 64 - 1) → col ≡ min (m.col + 1) (2 ^ 64 - 1) → n.index ≡ index → n.line ≡ m.line
    → n.col ≡ col → IsHere text m (c ∷ xs) → IsHere text n xs
behind_other text xs m n c index col other i j ni nl nc h =
    let t : List ℕ = c ∷ xs in
    let next : n.index ≡ m.index + 1 = ni ∙ (i ∙ raised text t m 1 h (omega arith)) in
    let k = here_counted text t m h in
    let s = h.countable in
    let left = h.column in
    let right : n.col ≡ m.col + 1 = nc ∙ (j ∙ min-eq_left (omega (arith, k, s, left))) in
    let is : n ≡ along m 1 = marker_is n (along m 1) next nl right in
    rw is (onward text t xs m (along m 1) h (character m c xs (along m 1) xs other (nothing (along m 1) xs))
    (omega (arith, left)))
