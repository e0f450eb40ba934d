-- Lines that are put together in an array before they are written.
use Rattle.std.proofs.Common.{◌≡◌, ℕ, ◌+◌, ◌-◌, ◌<◌, ◌≤◌, List, [], ◌∷◌, ◌++◌, length, take, drop, set, refl, sym, ap, subst, ◌∙◌, append_assoc, arith}
use Rattle.std.proofs.Math.Seq.{take-append_seam}
use Rattle.std.proofs.lemmas.List.{append_cancel_left, length-append, length-drop, take-take, take_more_set}
use Rattle.std.proofs.lemmas.Slice.{take-put_mid}
use Rattle.saphyr_input.specs.Classes.{line_feed}
use Rattle.saphyr_parser.specs.Printed.{ArePlain, printed_bytes}
use Rattle.saphyr_parser.proofs.Printed.Blocks.{plain_up_to}
use Rattle.saphyr_parser.proofs.Printed.Escapes.{escaped-append}
use borrow.Rule.Slice.PartMut.{put_mid, post_of}

-- there is room for one more byte
room_behind : (front text rest : List ℕ) (k : ℕ) → k ≡ length text → length text < length rest
    → length front + length text < length (put_mid (length front) k (front ++ rest) text)
room_behind front text rest k e l =
    let whole = length-append front rest in
    let parts =
    length-append (take (length front) (front ++ rest)) (text ++ post_of (length front) k (front ++ rest)) in
    let first = ap (λ (xs : List ℕ). length xs) (take-append_seam front rest) in
    let others = length-append text (post_of (length front) k (front ++ rest)) in
    let behind = length-drop k (drop (length front) (front ++ rest)) in
    let second = length-drop (length front) (front ++ rest) in
    omega arith

line_of : (front text rest : List ℕ) (k : ℕ) → k ≡ length text → length text < length rest
    → take (length front + length text + 1)
    (set (put_mid (length front) k (front ++ rest) text) (length front + length text) 10)
    ≡ front ++ (text ++ (line_feed ∷ []))
line_of front text rest k e l =
    let within : length front ≤ length (front ++ rest) = (let whole = length-append front rest in omega arith) in
    take_more_set (put_mid (length front) k (front ++ rest) text) (length front + length text) 10
    (room_behind front text rest k e l)
    ∙ ap (λ xs. xs ++ (10 ∷ []))
    (take-put_mid (length front) k (front ++ rest) text (length front + length text) refl within
    ∙ ap (λ xs. xs ++ text) (take-append_seam front rest))
    ∙ append_assoc front text (10 ∷ [])

-- the front and the text were copied into the array
text_filled : (front text one two spaces : List ℕ) → one ≡ front → two ≡ text
    → length front + length text < length spaces
    → take (length front + length text)
    (put_mid (length front) (length front + length text - length front) (one ++ drop (length front) spaces) two)
    ≡ front ++ text
text_filled front text one two spaces e h l =
    let rest = drop (length front) spaces in
    let within : length front ≤ length (front ++ rest) = (let whole = length-append front rest in omega arith) in
    rw e (rw h (take-put_mid (length front) (length front + length text - length front) (front ++ rest) text
    (length front + length text) refl within
    ∙ ap (λ xs. xs ++ text) (take-append_seam front rest)))

-- If the bytes of a line up to the end of a text are as they are, so are those of the text.
plain_line : (front text line : List ℕ) → take (length front + length text) line ≡ front ++ text
    → length front + length text ≤ length line → ArePlain line 0 (length front + length text)
    → printed_bytes text ≡ text
plain_line front text line e l p =
    let whole : printed_bytes (front ++ text) ≡ front ++ text =
    subst (λ xs. printed_bytes xs ≡ xs) e (plain_up_to line (length front + length text) l p) in
    let begins : take (length front) line ≡ front =
    sym (take-take (length front) (length front + length text) line (omega arith))
    ∙ ap (take (length front)) e ∙ take-append_seam front text in
    let first : printed_bytes front ≡ front = subst (λ xs. printed_bytes xs ≡ xs) begins
    (plain_up_to line (length front) (omega arith) (λ i a b. p i a (omega arith))) in
    append_cancel_left front (printed_bytes text) text
    (ap (λ xs. xs ++ printed_bytes text) (sym first) ∙ sym (escaped-append front text) ∙ whole)

-- the same where both were copied into the line
pub plain_filled : (front text one two spaces : List ℕ) → one ≡ front → two ≡ text
    → length front + length text < length spaces
    → ArePlain (put_mid (length front) (length front + length text - length front)
    (one ++ drop (length front) spaces) two) 0 (length front + length text)
    → printed_bytes text ≡ text
plain_filled front text one two spaces e h l p =
    let rest = drop (length front) spaces in
    let left : length text < length rest = (let d = length-drop (length front) spaces in omega arith) in
    let line = put_mid (length front) (length front + length text - length front) (one ++ rest) two in
    let bound : length front + length text < length line =
    rw e (rw h (room_behind front text rest (length front + length text - length front) (omega arith) left)) in
    plain_line front text line (text_filled front text one two spaces e h l) (omega (arith, bound)) p

-- the front and the text were copied into the array, and the line's end comes after them
pub line_filled : (front text one two zeros : List ℕ) → one ≡ front → two ≡ text
    → length front + length text < length zeros
    → take (length front + length text + 1)
    (set (put_mid (length front) (length front + length text - length front) (one ++ drop (length front) zeros) two)
    (length front + length text) 10)
    ≡ front ++ (text ++ (line_feed ∷ []))
line_filled front text one two zeros e h l =
    let others = drop (length front) zeros in
    let left : length text < length (drop (length front) zeros) =
    (let d = length-drop (length front) zeros in omega arith) in
    rw e (rw h (line_of front text others (length front + length text - length front) (omega arith) left))
