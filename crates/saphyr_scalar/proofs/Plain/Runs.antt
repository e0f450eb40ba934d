-- What is between the words of a plain scalar, and what it is read as.
use Rattle.saphyr_scalar.proofs.Common.{◌≡◌, ℕ, zero, suc, ◌+◌, Bool, true, false, List, [], ◌∷◌, ◌++◌, length, map, slice_index, refl, sym, ap, ◌∙◌, arith, IsTrue, append_assoc, cond, ◌||◌, ◌&&◌, ◌==◌, not, if◌then◌else◌, map-append, normalized, normal_break, is_blank, is_break, line_feed, is_blank_or_break, Item, Blank, Raw, Marker, along, next_line, blank_cases}
use Rattle.saphyr_scalar.specs.Spelling.Tag.{AreIn}
use Rattle.saphyr_scalar.specs.Values.Folding.{folded, is_before_break, raw_break}
use Rattle.saphyr_scalar.specs.Values.Flow.{raw_item}
use Rattle.saphyr_scalar.specs.Steps.Plain.{ends_line}
use Rattle.saphyr_scalar.specs.Reading.Plain.{end_of_text}
use Rattle.saphyr_scalar.proofs.Plain.Foldings.{AreBreaks, folds_breaks}
use Rattle.saphyr_scalar.proofs.Moving.{along_none, along_more}
use Rattle.saphyr_scalar.proofs.Quoted.Inside.{break_cases}

-- Characters of words, and the items of a text.

abbrev pub IsNonSpace : ℕ → Type 0
IsNonSpace c = is_blank_or_break c ≡ false

abbrev pub AreNonSpace : List ℕ → Type 0
AreNonSpace [] = Unit {0}
AreNonSpace (c ∷ cs) = IsNonSpace c × AreNonSpace cs

-- no LF comes first
abbrev pub NoFeed : List ℕ → Type 0
NoFeed xs = (slice_index xs 0 == 10) ≡ false

abbrev pub items_of : List ℕ → List Item
items_of text = map raw_item (normalized text)

three_false : (a b d : Bool) → (a || (b || d)) ≡ false → (a ≡ false) × (b ≡ false) × (d ≡ false)
three_false a b d h = grind arith

pub non_space_no_feed : (c : ℕ) → IsNonSpace c → (c == line_feed) ≡ false
non_space_no_feed c h = (three_false (is_blank c) (c == 10) (c == 13) h).1

items_non_space : (c : ℕ) (cs : List ℕ) → IsNonSpace c → items_of (c ∷ cs) ≡ Raw c ∷ items_of cs
items_non_space c cs h = grind arith

items_blank : (c : ℕ) (cs : List ℕ) → is_blank c ≡ true → items_of (c ∷ cs) ≡ Blank c ∷ items_of cs
items_blank c cs h = blank_cases c h (λ x. items_of (x ∷ cs) ≡ Blank x ∷ items_of cs) refl refl

-- a word is read as its characters
pub folded_word : (w y : List ℕ) → AreNonSpace w → folded (items_of (w ++ y)) ≡ w ++ folded (items_of y)
folded_word [] y h = refl
folded_word (c ∷ w) y h = ap folded (items_non_space c (w ++ y) h.0) ∙ ap (λ (l : List ℕ). c ∷ l) (folded_word w y h.1)

first_same : (v y : List ℕ) → NoFeed y → (slice_index (v ++ y) 0 == line_feed) ≡ (slice_index v 0 == line_feed)
first_same [] y h = h
first_same (c ∷ v) y h = refl

pub same_ends : (c : ℕ) (v y : List ℕ) → NoFeed y → ends_line c (v ++ y) ≡ ends_line c v
same_ends c v y h = ap (λ b. is_break c && not ((c == 13) && b)) (first_same v y h)

same_normal : (c : ℕ) (v y : List ℕ) → NoFeed y → normal_break c (v ++ y) ≡ normal_break c v
same_normal c v y h = ap (λ (b : Bool). if c == 13 then (if b then [] else 10 ∷ []) else c ∷ []) (first_same v y h)

normalized_append : (v y : List ℕ) → NoFeed y → normalized (v ++ y) ≡ normalized v ++ normalized y
normalized_append [] y h = refl
normalized_append (c ∷ v) y h = grind (arith, same_normal, append_assoc, normalized_append v y h)

items_append : (v y : List ℕ) → NoFeed y → items_of (v ++ y) ≡ items_of v ++ items_of y
items_append v y h = ap (map raw_item) (normalized_append v y h) ∙ map-append raw_item (normalized v) (normalized y)

-- Places.

pub passed_append : (m : Marker) (v y : List ℕ) → NoFeed y → end_of_text m (v ++ y) ≡ end_of_text (end_of_text m v) y
passed_append m [] y h = refl
passed_append m (c ∷ v) y h =
    cc (same_ends c v y h, passed_append (if ends_line c v then next_line m 1 else along m 1) v y h)

-- no line ends in a word
pub passed_word : (m : Marker) (w y : List ℕ) → AreNonSpace w
    → end_of_text m (w ++ y) ≡ end_of_text (along m (length w)) y
passed_word m [] y h = ap (λ x. end_of_text x y) (sym (along_none m))
passed_word m (c ∷ w) y h = grind (arith, three_false, along_more, length, passed_word (along m 1) w y h.1)

-- Runs of blanks and breaks.

-- how many lines end
abbrev pub line_count : List ℕ → ℕ
line_count [] = 0
line_count (c ∷ cs) = if ends_line c cs then suc (line_count cs) else line_count cs

are_breaks : (v : List ℕ) → AreIn is_blank_or_break v → AreBreaks (line_count v) (items_of v)
are_breaks [] h = tt
are_breaks (c ∷ v) h = by_white (is_blank c) refl (are_breaks v h.1)
  where
    Goal : ℕ → Type 0
    Goal x = AreBreaks (line_count (x ∷ v)) (items_of (x ∷ v))

    one_blank : (n : ℕ) (x : ℕ) (l : List Item) → AreBreaks n l → AreBreaks n (Blank x ∷ l)
    one_blank zero x l b = b
    one_blank (suc n) x l b = (Blank x ∷ b.0, b.1, b.2, b.3, ap (λ (l : List Item). Blank x ∷ l) b.4)

    at_return : (b : Bool) → (slice_index v 0 == line_feed) ≡ b → AreBreaks (line_count v) (items_of v) → Goal 13
    at_return true e rest = rw e rest
    at_return false e rest = rw e ([], items_of v, tt, rest, refl)

    or_break : (a b : Bool) → a ≡ false → IsTrue (a || b) → b ≡ true
    or_break false b e x = x
    or_break true b e x = absurd (cc)

    by_white : (b : Bool) → is_blank c ≡ b → AreBreaks (line_count v) (items_of v) → Goal c
    by_white true e rest = blank_cases c e Goal (one_blank (line_count v) 32 (items_of v) rest)
        (one_blank (line_count v) 9 (items_of v) rest)
    by_white false e rest = break_cases c (or_break (is_blank c) (is_break c) e h.0) Goal
        ([], items_of v, tt, rest, refl) (at_return (slice_index v 0 == 10) refl rest)

-- breaks before a word
pub folded_breaks : (k : ℕ) (v : List ℕ) (c : ℕ) (cs : List ℕ) → AreIn is_blank_or_break v → line_count v ≡ suc k
    → IsNonSpace c → folded (items_of (v ++ (c ∷ cs))) ≡ raw_break k ++ folded (items_of (c ∷ cs))
folded_breaks k v c cs h count non_space =
    grind (arith, items_non_space, are_breaks, items_append, non_space_no_feed, folds_breaks)

-- blanks before a word
abbrev pub AreBlank : List ℕ → Type 0
AreBlank [] = Unit {0}
AreBlank (c ∷ cs) = (is_blank c ≡ true) × AreBlank cs

no_break_next : (v : List ℕ) (c : ℕ) (cs : List ℕ) → AreBlank v → IsNonSpace c
    → is_before_break (items_of (v ++ (c ∷ cs))) ≡ false
no_break_next [] c cs h non_space = ap is_before_break (items_non_space c cs non_space)
no_break_next (b ∷ v) c cs h non_space = ap is_before_break (items_blank b (v ++ (c ∷ cs)) h.0)
    ∙ no_break_next v c cs h.1 non_space

pub folded_blanks : (v : List ℕ) (c : ℕ) (cs : List ℕ) → AreBlank v → IsNonSpace c
    → folded (items_of (v ++ (c ∷ cs))) ≡ v ++ folded (items_of (c ∷ cs))
folded_blanks [] c cs h non_space = refl
folded_blanks (b ∷ v) c cs h non_space = grind (arith, items_blank, no_break_next, folded_blanks v c cs h.1 non_space)

-- the index counts the characters
pub passed_index : (m : Marker) (xs : List ℕ) → (end_of_text m xs).index ≡ m.index + length xs
passed_index m [] = omega arith
passed_index m (c ∷ cs) =
    let more = passed_index (if ends_line c cs then next_line m 1 else along m 1) cs in
    omega (arith, more, one_further (ends_line c cs) m)
  where
    one_further : (e : Bool) (m : Marker) → (cond e (next_line m 1) (along m 1)).index ≡ m.index + 1
    one_further e m = grind arith
