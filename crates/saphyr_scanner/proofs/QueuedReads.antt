-- Scalars that are read right where the queue keeps their texts.
use Rattle.std.proofs.Common.{◌≡◌, ◌-◌, ◌<◌, ◌≤◌, append_assoc, ℕ, List, [], ◌∷◌, ◌++◌, Ok, Err, inl, inr, IsTrue, encode_utf8_all, take, refl, drop, length, sym, ap, subst, arith, ◌∙◌}
use Rattle.std.specs.Prelude.{Option, Result, IsUtf8, codes, slice_index, nat_lt, true, Bool}
use Rattle.std.proofs.Math.Seq.{drop-append_seam, take-append_seam}
use Rattle.std.proofs.lemmas.Bool.Decides.{nat_tests}
use Rattle.std.proofs.lemmas.List.{drop-append-le, length-append, length-drop, length-take-le, take-append-drop}
use Rattle.std.proofs.lemmas.Str.{IsCharBoundary-from_take, IsUtf8-append, IsUtf8-drop, IsUtf8-encode, IsUtf8-nil}
use Rattle.std.specs.Char.{IsScalar}
use Rattle.saphyr_input.specs.Classes.{is_alpha}
use Rattle.saphyr_scalar.specs.Spelling.Tag.{AreIn, IsHandleText, IsTagText}
use Rattle.saphyr_scalar.specs.Steps.Tag.{TagBehind, TagRead, tag, with_tag}
use Rattle.saphyr_scalar.proofs.Properties.TagsSpelled.{spells_tag}
use Rattle.saphyr_scalar.proofs.Steps.{ok_same}
use Rattle.saphyr_input.specs.Indicators.{exclamation_mark}
use Rattle.saphyr_scalar.specs.declared.scalar.fault.Refusal.{Refusal}
use Rattle.saphyr_scalar.specs.declared.scalar.position.Marker.{Marker}
use Rattle.saphyr_scalar.specs.Steps.Plain.{PlainScalarRead, with_text}
use Rattle.saphyr_scalar.specs.Views.Cursor.{Cursor}
use Rattle.saphyr_scanner.specs.Grammar.Tokens.{Kind}
use Rattle.saphyr_scanner.specs.declared.queue.Queue.{Queue}
use Rattle.saphyr_scanner.specs.declared.queue.place.Place.{Place}
use Rattle.saphyr_scanner.specs.declared.queue.texts.Extent.{Extent}
use Rattle.saphyr_scanner.specs.Views.Places.{AddsBehind, Fit, places_at}
use Rattle.saphyr_scanner.specs.Views.Reads.{PlacesToken, TokenRead, queue_with_token, read_piece, spanning_piece}
use Rattle.saphyr_scanner.specs.Views.Queue.{first_number, queue}
use Rattle.saphyr_scanner.proofs.QueuedPlaces.{put_behind}
use Rattle.saphyr_scanner.proofs.Queues.{queue_at}
use Rattle.saphyr_scanner.specs.Views.Texts.{Texts, IsTextOf, with_last_text}

abbrev pub value_or : {X : Type 0} → X → Result X Refusal → X
value_or d (Ok x) = x
value_or d (Err e) = d

-- what contracts see of texts, of which so many bytes were handed out
abbrev pub seen_texts : ℕ → List ℕ → List Extent → Texts
seen_texts spent bytes es = record { bytes = drop spent bytes; extents = es }

-- what is read behind a text, and the text that it was read behind
pub read_behind : (before grown : List ℕ) (read : PlainScalarRead) (end : Marker) (comment : Option Marker) (s : Cursor)
    → with_text before read ≡ Ok (grown, end, comment, s)
    → (read ≡ Ok (drop (length before) grown, end, comment, s)) × (grown ≡ before ++ drop (length before) grown)
read_behind before grown (Err e) end comment s is = absurd (cc)
read_behind before grown (Ok x) end comment s is =
    let parts = ap (value_or x) is in
    let text = sym (drop-append_seam before x.0) ∙ ap (λ y. drop (length before) y.0) parts in (
      (λ i. Ok (text i, (parts i).1, (parts i).2, (parts i).3)),
      sym (ap (λ y. y.0) parts) ∙ ap (λ t. before ++ t) text,
    )

-- What is behind a text in a text is one.
pub text_behind : (before text : List ℕ) → IsUtf8 before → IsUtf8 (before ++ text) → IsUtf8 text
text_behind before text h k =
    let count = length-append before text in
    subst IsUtf8 (drop-append_seam before text)
    (IsUtf8-drop (before ++ text) (length before) k
    (IsCharBoundary-from_take (before ++ text) (length before) k (omega (arith, count))
    (subst IsUtf8 (sym (take-append_seam before text)) h)))

-- What came behind other texts, of which some were handed out, is a text of so many bytes.
pub text_added : (n k spent : ℕ) (before grown : List ℕ) (es : List Extent) → n ≡ length grown → k ≡ length before
    → spent ≤ length before
    → grown ≡ before ++ drop (length before) grown → IsUtf8 before → IsUtf8 grown
    → (seen_texts spent grown es ≡ with_last_text (drop (length before) grown) (seen_texts spent before es))
    × IsTextOf (n - k) (drop (length before) grown)
text_added n k spent before grown es e d within is old new =
    let text = drop (length before) grown in
    let count = ap length is ∙ length-append before text in
    let bytes = ap (drop spent) is ∙ drop-append-le spent before text within in (
      λ i. record { bytes = bytes i; extents = es },
      (omega (arith, count, e, d), ∣ text_behind before text old (subst IsUtf8 is new) ∣₁),
    )

-- The same of the bytes that were added to those not handed out.
pub is_text_added : (n k spent : ℕ) (before grown : List ℕ) → n ≡ length grown → k ≡ length before
    → spent ≤ length before
    → grown ≡ before ++ drop (length before) grown → IsUtf8 before → IsUtf8 grown
    → IsTextOf (n - k) (drop (length (drop spent before)) (drop spent grown))
is_text_added n k spent before grown e d within is old new =
    let same : drop (length (drop spent before)) (drop spent grown) ≡ drop (length before) grown =
    grind (arith, drop-append-le, drop-append_seam) in
    subst (IsTextOf (n - k)) (sym same) (text_added n k spent before grown [] e d within is old new).1

-- ## Tags

ascii_text : (w more : List ℕ) → AreIn is_alpha w → IsUtf8 (encode_utf8_all more) → IsUtf8 (encode_utf8_all (w ++ more))
ascii_text [] more are h = h
ascii_text (c ∷ cs) more (is, are) h =
    IsUtf8-append _ _ (IsUtf8-encode c (alpha_scalar c is)) (ascii_text cs more are h)
  where
    alpha_low : (c : ℕ) → IsTrue (is_alpha c) → c < 128
    alpha_low c is = grind (arith, nat_tests)

    alpha_scalar : (c : ℕ) → IsTrue (is_alpha c) → IsScalar c
    alpha_scalar c is =
        let low = alpha_low c is in
        let test : nat_lt c 55296 ≡ true = grind (arith, nat_tests, low) in rw test refl

mark_text : (more : List ℕ) → IsUtf8 (encode_utf8_all more) → IsUtf8 (encode_utf8_all (codes "!" ++ more))
mark_text more h = IsUtf8-append _ _ (IsUtf8-encode 33 refl) h

named_text : (handle : List ℕ) → IsHandleText handle → IsUtf8 (encode_utf8_all handle)
named_text handle (inl e) = subst (λ t. IsUtf8 (encode_utf8_all t)) (sym e) (mark_text [] IsUtf8-nil)
named_text handle (inr (word, are, e)) =
    subst (λ t. IsUtf8 (encode_utf8_all t)) (sym e)
    (mark_text (word ++ codes "!") (ascii_text word (codes "!") are (mark_text [] IsUtf8-nil)))

handle_text : (t handle suffix : List ℕ) → IsTagText t handle suffix → IsUtf8 (encode_utf8_all handle)
handle_text t handle suffix (inl h) = subst (λ u. IsUtf8 (encode_utf8_all u)) (sym h.1) IsUtf8-nil
handle_text t handle suffix (inr (inl h)) = subst (λ u. IsUtf8 (encode_utf8_all u)) (sym h.2) IsUtf8-nil
handle_text t handle suffix (inr (inr h)) = named_text handle h.1

-- what is read of a tag behind a text, and the text that it was read behind
pub tag_behind : (before grown : List ℕ) (handle : ℕ) (read : Result TagRead Refusal) (s : Cursor)
    → with_tag before read ≡ Ok (handle, grown, s)
    → (read ≡ Ok (take handle (drop (length before) grown), drop handle (drop (length before) grown), s))
    × (grown ≡ before ++ drop (length before) grown) × (handle ≤ length (drop (length before) grown))
tag_behind before grown handle (Err e) s is = absurd (cc)
tag_behind before grown handle (Ok x) s is =
    let parts = ok_same {A = TagBehind} (length x.0, (before ++ x.0) ++ x.1, x.2) (handle, grown, s) is in
    let whole : grown ≡ before ++ (x.0 ++ x.1) =
    sym (ap (λ (y : TagBehind). y.1) parts) ∙ append_assoc before x.0 x.1 in
    let added : drop (length before) grown ≡ x.0 ++ x.1 =
    ap (drop (length before)) whole ∙ drop-append_seam before (x.0 ++ x.1) in
    let count : handle ≡ length x.0 = sym (ap (λ (y : TagBehind). y.0) parts) in
    let front : take handle (drop (length before) grown) ≡ x.0 =
    (λ i. take (count i) (added i)) ∙ take-append_seam x.0 x.1 in
    let back : drop handle (drop (length before) grown) ≡ x.1 =
    (λ i. drop (count i) (added i)) ∙ drop-append_seam x.0 x.1 in
    let both = ap length added ∙ length-append x.0 x.1 in (
      λ i. Ok (sym front i, sym back i, (ap (λ (y : TagBehind). y.2) parts) i),
      whole ∙ ap (λ t. before ++ t) (sym added),
      omega (arith, count, both),
    )

-- What came behind other texts is two texts, one behind the other.
pub texts_added : (handle n k spent : ℕ) (before grown : List ℕ) (es : List Extent) → n ≡ length grown
    → k ≡ length before → spent ≤ length before
    → grown ≡ before ++ drop (length before) grown → IsUtf8 before → IsUtf8 grown
    → handle ≤ length (drop (length before) grown) → IsUtf8 (take handle (drop (length before) grown))
    → (seen_texts spent grown es ≡ with_last_text (drop handle (drop (length before) grown))
    (with_last_text (take handle (drop (length before) grown)) (seen_texts spent before es)))
    × IsTextOf handle (take handle (drop (length before) grown))
    × IsTextOf (n - k - handle) (drop handle (drop (length before) grown))
texts_added handle n k spent before grown es e d within is old new most front =
    let text = drop (length before) grown in
    let whole = text_added n k spent before grown es e d within is old new in
    let parts = take-append-drop handle text in
    let bytes = append_assoc (drop spent before) (take handle text) (drop handle text)
    ∙ ap (λ t. drop spent before ++ t) parts in
    let utf8 = text_behind before text old (subst IsUtf8 is new) in
    let second = length-drop handle text in (
      whole.0 ∙ (λ i. record { bytes = sym bytes i; extents = es }),
      (sym (length-take-le handle text most), ∣ front ∣₁),
      (
        omega (arith, whole.1.0, second),
        ∣ text_behind (take handle text) (drop handle text) front (subst IsUtf8 (sym parts) utf8) ∣₁,
      ),
    )

-- the handle of a tag is a text
pub tag_text : (in_flow : Bool) (s t : Cursor) (handle suffix : List ℕ) → slice_index s.rest 0 ≡ exclamation_mark
    → tag in_flow s ≡ Ok (handle, suffix, t) → IsUtf8 handle
tag_text in_flow s t handle suffix begins is =
    let spelled = spells_tag in_flow s t handle suffix begins is in
    subst IsUtf8 spelled.7 (handle_text spelled.0 spelled.1 spelled.2 spelled.4)

-- ## The token of what was read is put behind others

-- The place of a token that was put behind texts is that of the token that was read.
pub token_placed : {A X : Type 0} {start a end b : Marker} {old seen new : Texts} {s : Cursor} {p : Place} {known : X}
    {x : A} {k : Kind} {f : TokenRead A X} (kind : A → Kind) → a ≡ start → b ≡ end → k ≡ kind x → seen ≡ old
    → f ≡ Ok (x, end, known, s) → AddsBehind (spanning_piece a b k) p seen new
    → PlacesToken kind start old new s (Ok (p, known)) f
token_placed {start = start} {a} {end} {b} {old} {seen} {new} {s} {p} {known} {x} {k} kind begins ends says same is
    adds =
    let here = subst (λ m. AddsBehind (spanning_piece m b k) p seen new) begins adds in
    let there = subst (λ m. AddsBehind (spanning_piece start m k) p seen new) ends here in
    let piece = subst (λ l. AddsBehind (spanning_piece start end l) p seen new) says there in
    subst (λ r. PlacesToken kind start old new s (Ok (p, known)) r) (sym is)
    (refl, refl, subst (λ o. AddsBehind (spanning_piece start end (kind x)) p o new) same piece)

pub token_put : {A X : Type 0} (q : Queue) (qs : List Place) (p : Place) (kind : A → Kind) (start : Marker)
    (new : Texts) (s : Cursor) (known : X) (f : TokenRead A X) → qs ≡ q.places.items ++ p ∷ []
    → PlacesToken kind start q.texts new s (Ok (p, known)) f
    → Fit (drop q.spent qs) new
    × (queue_with_token kind (queue q) start f
    ≡ Ok (queue_at (places_at (drop q.spent qs) new) (first_number q), known, s))
token_put q qs p kind start new s known (Err e) is h = absurd h
token_put q qs p kind start new s known (Ok x) is h =
    let both = put_behind q qs p (read_piece kind start x) new is h.2 in
    (both.0, λ i. Ok (sym both.1 i, sym h.0 i, sym h.1 i))
