-- The bytes of a gap in a quoted scalar, and of the items after it.
use Rattle.saphyr_scalar.proofs.Common.{◌≡◌, ℕ, ◌+◌, Bool, true, false, List, [], ◌∷◌, ◌++◌, sym, ap, arith, encode_utf8_all, cond, append_assoc, zero-add, add-zero, encode_utf8, encodes-append, Item, Blank, Raw, Escaped, Break, EscapedBreak}
use Rattle.saphyr_scalar.specs.Values.Folding.{is_before_break, empty_lines, line_feeds, folded_from}
use Rattle.saphyr_scalar.specs.Steps.Quoted.{QuotedGap, on_line, over_lines, no_gap, break_in, folded_break}

-- the bytes of items after a gap
abbrev pub gap_bytes : QuotedGap → List Item → List ℕ
gap_bytes (on_line bytes) items = cond (is_before_break items) [] bytes ++ encode_utf8_all (folded_from false items)
gap_bytes (over_lines escaped n) items =
    encode_utf8_all (folded_break escaped (n + empty_lines items)) ++ encode_utf8_all (folded_from true items)

-- the bytes of a gap before a word
abbrev pub gap_front : QuotedGap → List ℕ
gap_front (on_line bytes) = bytes
gap_front (over_lines escaped n) = encode_utf8_all (folded_break escaped n)

pub blank_bytes : (bytes : List ℕ) (c : ℕ) (items : List Item)
    → gap_bytes (on_line (bytes ++ encode_utf8 c)) items ≡ gap_bytes (on_line bytes) (Blank c ∷ items)
blank_bytes bytes c items = grind (arith, cond, encode_utf8_all, append_assoc)

pub break_bytes : (gap : QuotedGap) (items : List Item) → gap_bytes (break_in gap) items ≡ gap_bytes gap (Break ∷ items)
break_bytes u0 items = grind (arith, zero-add, encodes-append, encode_utf8_all)

pub no_gap_bytes : (items : List Item) → gap_bytes no_gap items ≡ encode_utf8_all (folded_from false items)
no_gap_bytes items = grind arith

-- no empty line is left
no_line_more : (escaped : Bool) (n : ℕ) (b : List ℕ)
    → encode_utf8_all (folded_break escaped n) ++ b ≡ encode_utf8_all (folded_break escaped (n + 0)) ++ b
no_line_more escaped n b = ap (λ k. encode_utf8_all (folded_break escaped k) ++ b) (sym (add-zero n))

pub closed_bytes : (gap : QuotedGap) → gap_front gap ++ [] ≡ gap_bytes gap []
closed_bytes gap = grind arith

pub raw_bytes : (gap : QuotedGap) (c : ℕ) (items : List Item)
    → gap_front gap ++ (encode_utf8 c ++ gap_bytes no_gap items) ≡ gap_bytes gap (Raw c ∷ items)
raw_bytes gap c items = grind arith

pub escaped_bytes : (gap : QuotedGap) (c : ℕ) (items : List Item)
    → gap_front gap ++ (encode_utf8 c ++ gap_bytes no_gap items) ≡ gap_bytes gap (Escaped c ∷ items)
escaped_bytes gap c items = grind arith

-- the bytes after an escaped break
escaped_break_line : (items : List Item)
    → gap_bytes (over_lines true 0) items ≡ encode_utf8_all (line_feeds (empty_lines items) ++ folded_from true items)
escaped_break_line items =
    cc (zero-add (empty_lines items), encodes-append (line_feeds (empty_lines items)) (folded_from true items))

pub escaped_break_bytes : (gap : QuotedGap) (items : List Item)
    → gap_front gap ++ gap_bytes (over_lines true 0) items ≡ gap_bytes gap (EscapedBreak ∷ items)
escaped_break_bytes (on_line bytes) items = ap (λ b. bytes ++ b) (escaped_break_line items)
escaped_break_bytes (over_lines escaped n) items = cc (escaped_break_line items, no_line_more escaped n _)
