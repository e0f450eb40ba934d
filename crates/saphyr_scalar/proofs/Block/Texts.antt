-- The text of a block scalar, told by its lines.
use Rattle.std.proofs.Common.{inl, inr, append_assoc, subst, ◌≡◌, ℕ, zero, suc, ◌+◌, ◌<◌, ◌≤◌, Bool, true, false, List, [], ◌∷◌, ◌++◌, length, length-append, drop, slice_index, refl, sym, ap, ◌∙◌, arith, add-one, nat_eq, nat_le, map}
use Rattle.saphyr_scalar.proofs.Common.{◌&&◌, ◌==◌, not, if◌then◌else◌, list_all, nat_tests, length-replicate, normalized, is_break, space, line_feed, BlockStyle, Chomping, Ending, or_false_left, or_false_right, and_parts}
use Rattle.saphyr_scalar.specs.Values.Block.{Line, Empty, Content, is_empty_line, line_of, contents_behind, empty_at_end, chomped, is_at_end, is_broken}
pub use Rattle.saphyr_scalar.specs.Reading.BlockLines.{spaces}
use Rattle.saphyr_scalar.specs.Reading.BlockLines.{HasLines}
use Rattle.saphyr_scalar.specs.Values.Lines.{ended_lines, last_line, has_break}
use Rattle.saphyr_scalar.specs.Steps.Block.{is_cr_lf}
use Rattle.saphyr_scalar.proofs.Quoted.Inside.{break_cases}

pub spaces_more : (n : ℕ) (xs : List ℕ) → spaces (n + 1) ++ xs ≡ spaces n ++ (space ∷ xs)
spaces_more zero xs = refl
spaces_more (suc n) xs = let e : suc n + 1 ≡ suc (n + 1) = omega arith in rw e (ap (λ ys. 32 ∷ ys) (spaces_more n xs))

-- a text without breaks
abbrev pub IsUnbroken : List ℕ → Type 0
IsUnbroken text = has_break text ≡ false

pub parts_plain : (c : ℕ) (cs : List ℕ) → IsUnbroken (c ∷ cs) → ((c == line_feed) ≡ false) × IsUnbroken cs
parts_plain c cs h = (or_false_left (nat_eq c 10) (has_break cs) h, or_false_right (nat_eq c 10) (has_break cs) h)

pub plain_first : (c : ℕ) (cs : List ℕ) → (c == line_feed) ≡ false → IsUnbroken cs → IsUnbroken (c ∷ cs)
plain_first c cs h k = rw (h, k) refl

pub plain_both : (xs ys : List ℕ) → IsUnbroken xs → IsUnbroken ys → IsUnbroken (xs ++ ys)
plain_both [] ys h k = k
plain_both (c ∷ cs) ys h k = let p = parts_plain c cs h in plain_first c (cs ++ ys) p.0 (plain_both cs ys p.1 k)

pub plain_spaces : (n : ℕ) → IsUnbroken (spaces n)
plain_spaces zero = refl
plain_spaces (suc n) = plain_spaces n

-- the first line of a text and the lines after its break
pub record FirstLine (line others : List ℕ) : Type 0 where
  pub ended : ended_lines (line ++ line_feed ∷ others) ≡ line ∷ ended_lines others
  pub last : last_line (line ++ line_feed ∷ others) ≡ last_line others
  pub more : has_break (line ++ line_feed ∷ others) ≡ true

pub first_line : (line others : List ℕ) → IsUnbroken line → FirstLine line others
first_line [] others h = record { ended = refl; last = refl; more = refl }
first_line (c ∷ cs) others h =
    let p = parts_plain c cs h in
    let r = first_line cs others p.1 in
    record { ended = rw (p.0, r.ended) refl; last = rw (p.0, r.more, r.last) refl; more = rw (p.0, r.more) refl }

-- the only line of a text without breaks
pub only_line : (text : List ℕ) → IsUnbroken text → (ended_lines text ≡ []) × (last_line text ≡ text)
only_line [] h = (refl, refl)
only_line (c ∷ cs) h =
    let p = parts_plain c cs h in
    let r = only_line cs p.1 in (rw (p.0, r.0) refl, rw (p.0, p.1, r.1) refl)

all_spaces : (n : ℕ) → list_all (λ c. c == space) (spaces n) ≡ true
all_spaces zero = refl
all_spaces (suc n) = all_spaces n

-- a line of spaces
pub empty_spaces : (i j : ℕ) → j ≤ i → is_empty_line i (spaces j) ≡ true
empty_spaces i j h = let le : nat_le j i ≡ true =
    grind (arith, nat_tests) in rw (length-replicate, le, all_spaces j) refl

pub line_spaces : (i j : ℕ) → j ≤ i → line_of i (spaces j) ≡ Empty
line_spaces i j h = rw (empty_spaces i j h) refl

-- a line of content
pub full_content : (i : ℕ) (text : List ℕ) → 0 < length text → is_empty_line i (spaces i ++ text) ≡ false
full_content i text h =
    let le : nat_le (i + length text) i ≡ false = grind (arith, nat_tests) in
    rw (length-append, length-replicate, le) refl

pub content_of : (i : ℕ) (text : List ℕ) → drop i (spaces i ++ text) ≡ text
content_of zero text = refl
content_of (suc i) text = content_of i text

pub line_content : (i : ℕ) (text : List ℕ) → 0 < length text → line_of i (spaces i ++ text) ≡ Content text
line_content i text h = rw (full_content i text h, content_of i text) refl

-- of two lists whose first characters are asked about, one goes on after what is taken off the other
pub normal_half : (c : ℕ) (cs taken rest : List ℕ) → is_cr_lf c cs ≡ true → cs ≡ taken ++ rest
    → is_break (slice_index rest 0) ≡ false → normalized (c ∷ taken) ≡ normalized taken
normal_half c cs [] rest h e clear = grind (arith, and_parts, nat_tests, slice_index)
normal_half c cs (t ∷ ts) rest h e clear = grind (arith, nat_tests, and_parts, slice_index)

not_feed : (cs taken rest : List ℕ) → (slice_index cs 0 == line_feed) ≡ false → cs ≡ taken ++ rest
    → (slice_index taken 0 == line_feed) ≡ false
not_feed cs [] rest h e = refl
not_feed cs (t ∷ ts) rest h e = ap (λ (x : List ℕ). slice_index x 0 == 10) (sym e) ∙ h

pub normalized_break : (c : ℕ) (cs taken rest : List ℕ) → is_cr_lf c cs ≡ false → is_break c ≡ true → cs ≡ taken ++ rest
    → normalized (c ∷ taken) ≡ line_feed ∷ normalized taken
normalized_break c cs taken rest half h e = grind (arith, break_cases, not_feed)

-- The last line, after content: spaces count where they reach the indentation.
abbrev pub is_counted_behind : ℕ → List ℕ → Ending → Bool
is_counted_behind i last ending =
    if is_empty_line i last then is_at_end ending && not (length last == 0) && (length last == i) else true

-- the lines of a text after content
abbrev pub lines_behind : ℕ → List (List ℕ) → List ℕ → Ending → List Line
lines_behind i lines last ending =
    map (line_of i) lines ++ (if is_counted_behind i last ending then line_of i last ∷ [] else [])

-- what a text reads as, after the content line `above` and k empty lines
abbrev pub value_of_lines : BlockStyle → Chomping → ℕ → List ℕ → ℕ → List (List ℕ) → List ℕ → Ending → List ℕ
value_of_lines st c i above k lines last ending = contents_behind st above k (lines_behind i lines last ending)
    ++ chomped c (is_broken i last ending) (empty_at_end k (lines_behind i lines last ending))

abbrev pub value_behind : BlockStyle → Chomping → ℕ → List ℕ → ℕ → List ℕ → Ending → List ℕ
value_behind st c i above k text ending = value_of_lines st c i above k (ended_lines text) (last_line text) ending

-- an empty line more
pub value_empty : (st : BlockStyle) (c : Chomping) (i : ℕ) (above : List ℕ) (k j : ℕ) (text : List ℕ) (ending : Ending)
    → j ≤ i
    → value_behind st c i above k (spaces j ++ line_feed ∷ text) ending ≡ value_behind st c i above (k + 1) text ending
value_empty st c i above k j text ending h = grind (arith, first_line, plain_spaces, line_spaces, add-one)

-- the lines of such texts
pub lines_break : (i j : ℕ) (text : List ℕ) → j ≤ i → HasLines i text → HasLines i (spaces j ++ line_feed ∷ text)
lines_break i j text within h =
    let f = first_line (spaces j) text (plain_spaces j) in
    record { ended = rw f.ended (inl (empty_spaces i j within), h.ended); last = rw f.last h.last }

pub lines_spaces : (i j : ℕ) → j ≤ i → HasLines i (spaces j)
lines_spaces i j within =
    let only = only_line (spaces j) (plain_spaces j) in
    record { ended = rw only.0 tt; last = rw only.1 (inl (empty_spaces i j within)) }

pub lines_cut : (i : ℕ) (content : List ℕ) → IsUnbroken content → HasLines i (spaces i ++ content)
lines_cut i content plain =
    let only = only_line (spaces i ++ content) (plain_both (spaces i) content (plain_spaces i) plain) in
    record { ended = rw only.0 tt; last = rw only.1 (inr (content, refl)) }

pub lines_broken : (i : ℕ) (content others : List ℕ) → IsUnbroken content → HasLines i others
    → HasLines i (spaces i ++ (content ++ line_feed ∷ others))
lines_broken i content others plain h =
    let f = first_line (spaces i ++ content) others (plain_both (spaces i) content (plain_spaces i) plain) in
    let whole = append_assoc (spaces i) content (10 ∷ others) in
    subst (HasLines i) whole (record { ended = rw f.ended (inr (content, refl), h.ended); last = rw f.last h.last })
