-- Words between quotes, and single spaces between them, taken off in one piece.
use Rattle.saphyr_scalar.proofs.Common.{◌≡◌, ℕ, Bool, true, false, List, [], ◌∷◌, length-drop, slice_index, refl, ◌∙◌, arith, ◌&&◌, ◌==◌, encode_utf8, nat_tests, not-true, is_blank_or_breakz, goes_on, words_stop, either, or_false_left, Marker, Quote, Cursor, along}
use Rattle.saphyr_scalar.specs.Steps.Quoted.{is_literal, with_front, no_gap, inner_text, WordsMoved, QuotedWordsMoved}
use Rattle.saphyr_scalar.specs.Steps.Sets.{is_content, joins_quoted}
use Rattle.saphyr_scalar.proofs.Quoted.Inside.{front_twice, no_front, content_of, stands, one_blank, flushed}
use Rattle.saphyr_scalar.proofs.TakenWords.{words_behind}

pub both_true : (a b : Bool) → (a && b) ≡ true → (a ≡ true) × (b ≡ true)
both_true a b h = grind arith

-- a character is passed
abbrev pub PassesQuotedCharacter : Quote → ℕ → Marker → Marker → ℕ → List ℕ → Type 0
PassesQuotedCharacter q indent start m c cs = inner_text q indent start no_gap 0 m (c ∷ cs)
    ≡ with_front (encode_utf8 c) (inner_text q indent start no_gap 0 (along m 1) cs)

space_passed : (q : Quote) (indent : ℕ) (start m : Marker) (cs : List ℕ) → is_content (slice_index cs 0) ≡ true
    → PassesQuotedCharacter q indent start m 32 cs
space_passed q indent start m [] h = absurd (cc)
space_passed q indent start m (d ∷ ds) h = one_blank q indent start [] m 32 (d ∷ ds) refl
    ∙ flushed q indent start (encode_utf8 32) (along m 1) d ds (content_of d (not-true (is_blank_or_breakz d) h))

word_passed : (q : Quote) (indent : ℕ) (start m : Marker) (c : ℕ) (cs : List ℕ)
    → goes_on (is_literal q) joins_quoted (c ∷ cs) ≡ true → PassesQuotedCharacter q indent start m c cs
word_passed q indent start m c cs h =
    either (is_literal q c) (joins_quoted c (slice_index cs 0)) (PassesQuotedCharacter q indent start m c cs) h
    (λ is. stands q indent start m c cs is) (λ is.
    let space : c ≡ 32 = grind (arith, nat_tests) in
    rw space (space_passed q indent start m cs (both_true (is_content (slice_index cs 0)) (c == 32) is).0))

none_at_end : (q : Quote) → goes_on (is_literal q) joins_quoted [] ≡ false
unfolding is_literal
none_at_end q = refl

pub words_moved : (q : Quote) (text grown : List ℕ) (s t : Cursor)
    → WordsMoved (is_literal q) joins_quoted text grown s t → QuotedWordsMoved q text grown s t
words_moved q text grown s t w =
    let p = is_literal q in
    let left = t.rest in
    record {
      same = λ indent start. rw w.place
          (words_behind p joins_quoted with_front (inner_text q indent start no_gap 0)
          (record { none = no_front; twice = front_twice; passes = word_passed q indent start }) w.count s.mark s.rest
          left
          text grown w.words);
      stops = or_false_left (p (slice_index left 0)) (joins_quoted (slice_index left 0) (slice_index left 1))
          (rw (w.words.transfers.taken, w.words.count) (words_stop p joins_quoted s.rest (none_at_end q)));
      shorter = rw (w.words.transfers.taken, length-drop) (omega arith);
    }
