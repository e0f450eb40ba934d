-- The handle of a tag directive, read behind its `!`.
use Rattle.saphyr_scalar.proofs.Common.{◌≡◌, ℕ, ◌<◌, ◌≤◌, true, false, List, [], ◌++◌, length, slice_index, Ok, sym, ap, ◌∙◌, arith, ◌==◌, codes, encode_utf8, nat_tests, nil_from_length, exclamation_mark, is_z, Marker, Cursor, pass, refuse_open}
use Rattle.saphyr_scalar.specs.declared.scalar.fault.FaultText.TheVariants as fault
use Rattle.saphyr_scalar.specs.Steps.Directive.{handle, handle_behind_word}
use Rattle.saphyr_scalar.proofs.Given.{text_given}
use Rattle.saphyr_scalar.proofs.Properties.TagSteps.{BehindWord, handle_text}

-- what comes behind the word
behind_mark : (start : Marker) (s look : Cursor) (grown : List ℕ) (c : ℕ) (b : BehindWord s look [] grown c)
    → slice_index s.rest 0 ≡ exclamation_mark → handle start s ≡ handle_behind_word start (b.word, look)
unfolding handle
behind_mark start s look grown c b first =
    let test : (slice_index s.rest 0 == exclamation_mark) ≡ true = grind (arith, nat_tests, first) in
    rw test (ap (handle_behind_word start) b.is)

pub named_handle : (start : Marker) (s look there : Cursor) (grown marked : List ℕ) (c : ℕ)
    → BehindWord s look [] grown c → slice_index s.rest 0 ≡ exclamation_mark → c ≡ exclamation_mark
    → marked ≡ grown ++ encode_utf8 exclamation_mark → there ≡ pass 1 look → handle start s ≡ Ok (marked, there)
unfolding handle_behind_word
named_handle start s look there grown marked c b first on more past =
    let read = b.read in
    let test : (slice_index look.rest 0 == exclamation_mark) ≡ true = grind (arith, nat_tests, read, on) in
    behind_mark start s look grown c b first
    ∙ rw test (λ i. text_given (sym (handle_text s look [] grown marked c b more) i) (sym past i))

pub primary_handle : (start : Marker) (s look : Cursor) (grown : List ℕ) (c : ℕ) → BehindWord s look [] grown c
    → slice_index s.rest 0 ≡ exclamation_mark → (c ≡ exclamation_mark → ⊥) → length grown ≤ 1
    → handle start s ≡ Ok (grown, look)
unfolding handle_behind_word
primary_handle start s look grown c b first other short =
    let read = b.read in
    let long = ap length b.text in
    let none : b.word ≡ [] = nil_from_length b.word (omega (arith, long, short)) in
    let test : (slice_index look.rest 0 == exclamation_mark) ≡ false = grind (arith, nat_tests, read, other) in
    behind_mark start s look grown c b first
    ∙ ap (λ w. handle_behind_word start (w, look)) none
    ∙ rw test (ap (λ t. text_given t look) (sym (b.text ∙ ap (λ w. codes "!" ++ w) none)))

pub handle_open : (start : Marker) (s look : Cursor) (grown : List ℕ) (c : ℕ) → BehindWord s look [] grown c
    → slice_index s.rest 0 ≡ exclamation_mark → (c ≡ exclamation_mark → ⊥) → 1 < length grown
    → handle start s ≡ refuse_open (is_z c) fault.TagDirectiveHandleEndExpected start
unfolding handle_behind_word
handle_open start s look grown c b first other more =
    let read = b.read in
    let long = ap length b.text in
    let some : (length b.word == 0) ≡ false = grind (arith, nat_tests, long, more) in
    let test : (slice_index look.rest 0 == exclamation_mark) ≡ false = grind (arith, nat_tests, read, other) in
    behind_mark start s look grown c b first
    ∙ rw (test, some) (λ i. refuse_open (is_z (sym read i)) fault.TagDirectiveHandleEndExpected start)
