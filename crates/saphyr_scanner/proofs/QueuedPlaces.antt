-- Places of a queue, over their texts.
use Rattle.std.proofs.Common.{◌≡◌, ◌+◌, ◌-◌, ◌≤◌, ◌<◌, List, [], ◌∷◌, ◌++◌, length, drop, take, refl, sym, ap, subst, arith, ◌∙◌, ℕ, suc, true, false, Bool, nat_lt, append-nil, append_assoc}
use Rattle.std.specs.Prelude.{IsUtf8}
use Rattle.std.specs.List.{copy_within}
use Rattle.std.proofs.Math.Dec.{eqb, eqb-suc-zero}
use Rattle.std.proofs.Math.ListN.{drop_of_length-le}
use Rattle.std.proofs.Math.Seq.{take-length, drop-length, take-append_seam, drop-append_seam}
use Rattle.std.proofs.lemmas.List.{drop-drop, length-append, length-drop, take-append-le, drop-append-le, take_rest}
use Rattle.std.proofs.lemmas.List.Edits.{take-paste}
use Rattle.std.proofs.lemmas.Bool.Decides.{nat_tests}
use Rattle.std.proofs.lemmas.Str.{IsUtf8-had}
use Rattle.saphyr_scalar.specs.declared.scalar.position.Span.{Span}
use Rattle.saphyr_scanner.specs.declared.queue.place.Place.{Place}
use Rattle.saphyr_scanner.specs.declared.queue.texts.Extent.{Extent}
use Rattle.saphyr_scanner.specs.declared.queue.Queue.{Queue}
use Rattle.saphyr_scanner.specs.declared.queue.Opening.TheVariants as opening
use Rattle.saphyr_scanner.specs.declared.token.TokenKind.{TokenKind}
use Rattle.saphyr_scanner.specs.Grammar.Tokens.{Kind}
use Rattle.saphyr_scanner.specs.Steps.Queue as seen
use Rattle.saphyr_scanner.specs.Steps.Queue.{bare_place, is_empty_list}
use Rattle.saphyr_scanner.specs.Views.Texts.{Texts, BeginsWithText, BeginsWithTexts, IsTextOf, behind_text, first_extent, nothing, with_last_extent, with_last_text}
use Rattle.saphyr_scanner.specs.Views.Places.{AddsBehind, Fit, HasTexts, HasTextsOf, extent_at, extent_of, handle_length, is_apart, coded_opening, near_span, parts_at, place_at, places_at, texts_behind, texts_behind_of, token_with}
use Rattle.saphyr_scanner.specs.Views.Queue.{first_number, queue, queue_places}
use Rattle.saphyr_scanner.specs.Views.Tokens.{Parts, Piece, kind_with, piece_with, texts_alone, token_kind}
use Rattle.saphyr_scanner.proofs.Queues.{queue_at}

-- ## Places that are moved to the front

pub moved_down : {X : Type 0} (xs : List X) (i : ℕ) → i ≤ length xs
    → take (length xs - i) (copy_within xs i (length xs) 0) ≡ drop i xs
moved_down xs i h =
    let rest = length-drop i xs in
    let count : ℕ = length xs - i in
    let same : count ≡ 0 + count = omega arith in
    ap (λ n. take n (copy_within xs i (length xs) 0)) same
    ∙ take-paste xs 0 (drop i xs) count (omega arith) (omega (arith, rest, h)) ∙ take_rest xs i

-- ## Kinds and parts

pub kind_kept : (k : TokenKind) (x : Parts) → token_kind (kind_with k x) ≡ k
kind_kept k x = grind arith

pub kind_parts : (kind : Kind) (k : TokenKind) (x : Parts) → kind ≡ kind_with k x
    → kind ≡ kind_with (token_kind kind) x
kind_parts kind k x e = e ∙ ap (λ j. kind_with j x) (sym (ap token_kind e ∙ kind_kept k x))

-- ## More texts come behind

-- what finds a text among the others
pub ruleset text_found = (drop-drop, IsUtf8-had)

-- what shows that two texts are among them
pub ruleset texts_there = (drop-drop, length-drop)

abbrev joined : Texts → Texts → Texts
joined s t = record { bytes = s.bytes ++ t.bytes; extents = s.extents ++ t.extents }

first_stays : (es gs : List Extent) → 1 ≤ length es → first_extent (es ++ gs) ≡ first_extent es
first_stays [] gs h = absurd (omega (arith, h))
first_stays (e ∷ es) gs h = refl

text_more : (k : ℕ) (s t : Texts) → BeginsWithText k s → BeginsWithText k (joined s t)
text_more k s t h =
    let count = length-append s.bytes t.bytes in
    let within = h.0 in
    (omega (arith, count, within), subst (λ bs. ∥ IsUtf8 bs ∥₁) (sym (take-append-le k s.bytes t.bytes h.0)) h.1)

texts_more : (n m : ℕ) (s t : Texts) → BeginsWithTexts n m s
    → BeginsWithTexts n m (joined s t)
    × (behind_text m (behind_text n (joined s t)) ≡ joined (behind_text m (behind_text n s)) t)
texts_more n m s t h =
    let first = drop-append-le n s.bytes t.bytes h.0.0 in
    let second = drop-append-le m (drop n s.bytes) t.bytes h.1.0 in (
      (
        text_more n s t h.0,
        subst (λ bs. BeginsWithText m (record { bytes = bs; extents = s.extents ++ t.extents })) (sym first)
            (text_more m (behind_text n s) t h.1),
      ),
      ap (λ bs. record { bytes = drop m bs; extents = s.extents ++ t.extents }) first
          ∙ ap (λ bs. record { bytes = bs; extents = s.extents ++ t.extents }) second,
    )

has_more : (apart : Bool) (handle count : ℕ) (s t : Texts) → HasTextsOf apart handle count s
    → HasTextsOf apart handle count (joined s t)
has_more false handle count s t h = (h.0, (texts_more handle (count - handle) s t h.1).0)
has_more true handle count s t h =
    let both = length-append s.extents t.extents in
    let some = h.0 in
    let e = first_extent s.extents in
    rw (first_stays s.extents t.extents h.0) (omega (arith, both, some), (texts_more e.handle e.text s t h.1).0)

-- all bytes of both texts
pub all_within : (handle count : ℕ) (s : Texts) → handle ≤ count → BeginsWithTexts handle (count - handle) s
    → count ≤ length s.bytes
all_within handle count s most h =
    let first = h.0.0 in
    let second = h.1.0 in
    let left = length-drop handle s.bytes in omega (arith, most, first, second, left)

behind_more : (apart : Bool) (handle count : ℕ) (s t : Texts) → HasTextsOf apart handle count s
    → texts_behind_of apart count (joined s t) ≡ joined (texts_behind_of apart count s) t
behind_more false handle count s t h =
    ap (λ bs. record { bytes = bs; extents = s.extents ++ t.extents })
    (drop-append-le count s.bytes t.bytes (all_within handle count s h.0 h.1))
behind_more true handle count s t h =
    let e = first_extent s.extents in
    let both = (texts_more e.handle e.text s t h.1).1 in
    let rest = drop-append-le 1 s.extents t.extents h.0 in
    rw (first_stays s.extents t.extents h.0) (λ i. record { bytes = (both i).bytes; extents = rest i })

-- the texts of a token
pub has_parts : (apart : Bool) (span : Span) (handle count : ℕ) (s : Texts) → HasTextsOf apart handle count s
    → BeginsWithTexts (extent_of apart span handle count s).handle (extent_of apart span handle count s).text s
has_parts true span handle count s h = h.1
has_parts false span handle count s h = h.1

pub has_texts : (p : Place) (s : Texts) → (p.count ≡ 255 → ⊥) → HasTexts p s
    → (handle_length p.front ≤ p.count) × BeginsWithTexts (handle_length p.front) (p.count - handle_length p.front) s
has_texts p s here h =
    let is : is_apart p ≡ false = grind (arith, nat_tests) in
    subst (λ apart. HasTextsOf apart (handle_length p.front) p.count s) is h

extent_stays : (apart : Bool) (span : Span) (handle count : ℕ) (s t : Texts) → HasTextsOf apart handle count s
    → extent_of apart span handle count (joined s t) ≡ extent_of apart span handle count s
extent_stays true span handle count s t h = first_stays s.extents t.extents h.0
extent_stays false span handle count s t h = refl

token_stays : (p : Place) (s t : Texts) → HasTexts p s → place_at p (joined s t) ≡ place_at p s
token_stays p s t h =
    let e = extent_at p s in
    let has = has_parts (is_apart p) (near_span p.start p.length) (handle_length p.front) p.count s h in
    let handle = take-append-le e.handle s.bytes t.bytes has.0.0 in
    let first = drop-append-le e.handle s.bytes t.bytes has.0.0 in
    let text = take-append-le e.text (drop e.handle s.bytes) t.bytes has.1.0 in
    rw (extent_stays (is_apart p) (near_span p.start p.length) (handle_length p.front) p.count s t h)
    (cc (handle, first, text))

fit_more : (ps qs : List Place) (s t : Texts) → Fit ps s → Fit qs t
    → Fit (ps ++ qs) (joined s t) × (places_at (ps ++ qs) (joined s t) ≡ places_at ps s ++ places_at qs t)
fit_more [] qs s t h k =
    subst (λ r. Fit qs (joined r t) × (places_at qs (joined r t) ≡ places_at qs t)) (sym h) (k, refl)
fit_more (p ∷ ps) qs s t h k =
    let later = fit_more ps qs (texts_behind p s) t h.1 k in
    let same = behind_more (is_apart p) (handle_length p.front) p.count s t h.0 in (
      (has_more (is_apart p) (handle_length p.front) p.count s t h.0, subst (Fit (ps ++ qs)) (sym same) later.0),
      (λ i. token_stays p s t h.0 i ∷ places_at (ps ++ qs) (same i)) ∙ ap (λ rs. place_at p s ∷ rs) later.1,
    )

-- a place that stands alone over the texts that are put there with it
abbrev AddsAlone : Piece → Place → Texts → Type 0
AddsAlone t p s = Fit (p ∷ []) s × (places_at (p ∷ []) s ≡ bare_place t ∷ [])

adds : (t : Piece) (p : Place) (old more new : Texts) → AddsAlone t p more → joined old more ≡ new
    → AddsBehind t p old new
adds t p old more new alone is =
    subst (AddsBehind t p old) is (λ ps h.
    let both = fit_more ps (p ∷ []) old more h alone.0 in
    (both.0, both.1 ∙ ap (λ qs. places_at ps old ++ qs) alone.1))

alone : (p : Place) (apart : Bool) (s : Texts) → is_apart p ≡ apart → coded_opening p.front ≡ opening.Nothing
    → HasTextsOf apart (handle_length p.front) p.count s → texts_behind_of apart p.count s ≡ nothing
    → AddsAlone (token_with (extent_of apart (near_span p.start p.length) (handle_length p.front) p.count s)
    p.kind s.bytes) p s
alone p apart s is bare has left = (
  (
    subst (λ w. HasTextsOf w (handle_length p.front) p.count s) (sym is) has,
    ap (λ w. texts_behind_of w p.count s) is ∙ left,
  ),
  λ i. record {
    opening = bare i;
    piece = token_with (extent_of (is i) (near_span p.start p.length) (handle_length p.front) p.count s) p.kind s.bytes;
  } ∷ [],
)

-- all bytes of a text, and those after it
all_bytes : (k : ℕ) (text : List ℕ) → k ≡ length text → (take k text ≡ text) × (drop k text ≡ [])
all_bytes k text h = (ap (λ n. take n text) h ∙ take-length text, ap (λ n. drop n text) h ∙ drop-length text)

-- two texts alone, one behind the other
record Both (n m : ℕ) (a b : List ℕ) : Type 0 where
  pub front : take n (a ++ b) ≡ a
  pub back : drop n (a ++ b) ≡ b
  pub has : (extents : List Extent) → BeginsWithTexts n m (record { bytes = a ++ b; extents = extents })
  pub text : take m (drop n (a ++ b)) ≡ b
  pub left : drop m (drop n (a ++ b)) ≡ []

both_texts : (n m : ℕ) (a b : List ℕ) → IsTextOf n a → IsTextOf m b → Both n m a b
both_texts n m a b h k =
    let front : take n (a ++ b) ≡ a = ap (λ i. take i (a ++ b)) h.0 ∙ take-append_seam a b in
    let back : drop n (a ++ b) ≡ b = ap (λ i. drop i (a ++ b)) h.0 ∙ drop-append_seam a b in
    let whole = all_bytes m b k.0 in
    let count = length-append a b in
    let first = h.0 in
    let second = k.0 in
    record {
      front = front;
      back = back;
      has = λ extents. (
        (omega (arith, count, first), subst (λ bs. ∥ IsUtf8 bs ∥₁) (sym front) h.1),
        (
          rw back (omega (arith, second)),
          subst (λ bs. ∥ IsUtf8 (take m bs) ∥₁) (sym back) (subst (λ bs. ∥ IsUtf8 bs ∥₁) (sym whole.0) k.1),
        ),
      );
      text = ap (take m) back ∙ whole.0;
      left = ap (drop m) back ∙ whole.1;
    }

-- the token of this extent, which has no numbers
pub texts_piece : (e : Extent) (span : Span) (kind : TokenKind) (n m : ℕ) (a b : List ℕ)
    → e ≡ record { span = span; handle = n; text = m; major = 0; minor = 0 } → IsTextOf n a → IsTextOf m b
    → piece_with e.span kind (parts_at e (a ++ b)) ≡ piece_with span kind (texts_alone a b)
texts_piece e span kind n m a b is h k =
    let both = both_texts n m a b h k in
    ap (λ (x : Extent). piece_with x.span kind (parts_at x (a ++ b))) is
    ∙ λ i. piece_with span kind (texts_alone (both.front i) (both.text i))

pub adds_here : (p : Place) (handle text : List ℕ) (s : Texts) → p.count < 255 → p.front < 64 → p.front ≤ p.count
    → IsTextOf p.front handle → IsTextOf (p.count - p.front) text
    → AddsBehind (piece_with (near_span p.start p.length) p.kind (texts_alone handle text)) p s
    (with_last_text text (with_last_text handle s))
adds_here p handle text s short low most h k =
    let more : Texts = record { bytes = handle ++ text; extents = [] } in
    let same : handle_length p.front ≡ p.front = omega (arith, low) in
    let both = both_texts (handle_length p.front) (p.count - handle_length p.front) handle text
    (subst (λ n. IsTextOf n handle) (sym same) h) (subst (λ n. IsTextOf (p.count - n) text) (sym same) k) in
    let here : is_apart p ≡ false = grind (arith, nat_tests, short) in
    let bare : coded_opening p.front ≡ opening.Nothing = rw (low_front p.front low) refl in
    let first = h.0 in
    let second = k.0 in
    let whole = length-append handle text in
    adds (piece_with (near_span p.start p.length) p.kind (texts_alone handle text)) p s more
    (with_last_text text (with_last_text handle s))
    (subst (λ x. AddsAlone (piece_with (near_span p.start p.length) p.kind x) p more)
    (λ i. texts_alone (both.front i) (both.text i))
    (alone p false more here bare (omega (arith, same, most), both.has [])
    (ap (λ bs. record { bytes = bs; extents = [] })
    (all_bytes p.count (handle ++ text) (omega (arith, first, second, whole, most))).1)))
    (λ i. record { bytes = sym (append_assoc s.bytes handle text) i; extents = append-nil s.extents i })
  where
    low_front : (n : ℕ) → n < 64 → nat_lt n 64 ≡ true
    low_front n h = grind (arith, nat_tests)

pub adds_apart : (p : Place) (e : Extent) (handle text : List ℕ) (s : Texts) → p.count ≡ 255
    → p.front ≡ 0 → IsTextOf e.handle handle → IsTextOf e.text text
    → AddsBehind (piece_with e.span p.kind (parts_at e (handle ++ text))) p s
    (with_last_extent e (with_last_text text (with_last_text handle s)))
adds_apart p e handle text s far bare h k =
    let more : Texts = record { bytes = handle ++ text; extents = e ∷ [] } in
    let both = both_texts e.handle e.text handle text h k in
    let apart : is_apart p ≡ true = grind (arith, nat_tests, far) in
    adds (piece_with e.span p.kind (parts_at e (handle ++ text))) p s more
    (with_last_extent e (with_last_text text (with_last_text handle s)))
    (alone p true more apart (ap coded_opening bare) (omega arith, both.has (e ∷ []))
    (ap (λ bs. record { bytes = bs; extents = [] }) both.left))
    (λ i. record { bytes = sym (append_assoc s.bytes handle text) i; extents = s.extents ++ e ∷ [] })

-- The token of a place that is put behind the others comes behind theirs.
pub put_behind : (q : Queue) (qs : List Place) (p : Place) (t : Piece) (new : Texts) → qs ≡ q.places.items ++ p ∷ []
    → AddsBehind t p q.texts new
    → Fit (drop q.spent qs) new
    × (queue_at (places_at (drop q.spent qs) new) (first_number q) ≡ seen.with_piece t (queue q))
unfolding queue_places
put_behind q qs p t new is adds =
    let both = adds (drop q.spent q.places.items) q.fit in
    let same = ap (drop q.spent) is ∙ drop-append-le q.spent q.places.items (p ∷ []) q.within in
    subst (λ rs. Fit rs new × (queue_at (places_at rs new) (first_number q) ≡ seen.with_piece t (queue q))) (sym same)
    (both.0, ap (λ ps. queue_at ps (first_number q)) both.1)

-- ## How many there are

places_length : (ps : List Place) (s : Texts) → length (places_at ps s) ≡ length ps
places_length [] s = refl
places_length (p ∷ ps) s = ap suc (places_length ps (texts_behind p s))

pub queued_length : (q : Queue) → length (queue_places q) ≡ length q.places.items - q.spent
unfolding queue_places
queued_length q =
    places_length (drop q.spent q.places.items) q.texts ∙ length-drop q.spent q.places.items

pub is_none : (ps : List seen.Place) → eqb (length ps) 0 ≡ is_empty_list ps
is_none [] = refl
is_none (p ∷ ps) = eqb-suc-zero (length ps)

-- Where all places were handed out there are no texts.
pub nothing_queued : (q : Queue) → length q.places.items ≤ q.spent → (q.texts ≡ nothing) × (queue_places q ≡ [])
unfolding queue_places
nothing_queued q h =
    let none = drop_of_length-le q.places.items h in
    (subst (λ ps. Fit ps q.texts) none q.fit, ap (λ ps. places_at ps q.texts) none)
