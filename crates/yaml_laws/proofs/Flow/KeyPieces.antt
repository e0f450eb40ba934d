-- Pieces of a text in flow style, of a key on one line or of another text, and their parts.
use Rattle.yaml_laws.proofs.Common.{AreIn, Bool, false, inl, inr, is_blank, List, Option, None, clash, is_block, true, ap, append_assoc, arith, length, length-append, refl, sym, ℕ, ◌++◌, ◌+◌, ◌∙◌, ◌∷◌, ◌≡◌, ◌≤◌, Some, nat_tests, Marker, Cursor, along, Candidate, Context, IsSeparation, is_too_far}
use Rattle.yaml_laws.proofs.InFlow.States.{Around, Kept, kept_inside, kept_near, unrequired}
use Rattle.yaml_laws.proofs.InBlock.Crossings.{holds_in_flow}
use Rattle.yaml_laws.proofs.InFlow.OnLine.{front_on_line, back_on_line, blanks_on_line}
use Rattle.yaml_laws.proofs.Flow.States.{moved, past, IsClear, Fits, fits_free, fits_key, FitsAround, FitsKey, Holds, IsBehindBlanks, IsContentStart}
use Rattle.yaml_laws.proofs.Flow.Places.{moved_along, moved_index, moved_count, clear_front, clear_back}
use Rattle.yaml_laws.proofs.Flow.GapSteps.{past_content}
use Rattle.yaml_laws.proofs.Flow.Fillers.{blanks_past}
use Rattle.yaml_laws.proofs.Flow.Separates.{blanks_moved}
use Rattle.yaml_laws.proofs.Flow.ContentStarts.{Begins, StartsContent}
use Rattle.yaml_laws.proofs.Flow.Pieces.{fits_before, fits_front, fits_back}

pub unheld_so : {j : Option Candidate} (k : Candidate) → j ≡ None → j ≡ Some k → ⊥
unheld_so k none held = absurd (cc)

pub fits_clear : {around : Around} {x : Context} {m : Marker} {p o : List ℕ} → Fits around x m p o → IsClear m p o
fits_clear (fits_free h f) = f.clear
fits_clear (fits_key block k held f) = f.clear

pub fits_below : {around : Around} {x : Context} {m : Marker} {p o : List ℕ} → Fits around x m p o
    → m.index + length (p ++ o) ≤ around.limit
fits_below (fits_free h f) = f.below
fits_below (fits_key block k held f) = f.below

-- a piece ends right of the block collections
pub fits_reach : {around : Around} {x : Context} (m : Marker) (p o : List ℕ) → Begins p
    → (around.indent ≤ m.col → around.indent ≤ (moved m p).col) → Fits around x m p o
    → around.indent ≤ (moved m p).col
fits_reach m p o begins right (fits_free h f) = right f.right
fits_reach {around} m p o begins right (fits_key block k held f) =
    let some = ap length begins.is in
    let low = f.low in
    rw (moved_along m p f.on_line) (omega (arith, some, low))

-- ## Parts

-- A part of a piece fits as the piece does. Of a key's piece it has to be told again what is behind the part and on its
-- line: the separation w, which is blanks there, and the content of b. The lengths add up to the piece's.
pub cut_front : {around : Around} {x : Context} (m : Marker) (a w b o : List ℕ) → StartsContent b
    → IsSeparation around.indent w
    → Fits around x m (a ++ (w ++ b)) o → Fits around x m a (w ++ (b ++ o))
cut_front m a w b o begins parts (fits_free h f) =
    fits_free h (fits_before m a ((w ++ b) ++ o) (w ++ (b ++ o)) (append_assoc w b o) (fits_front m a (w ++ b) o f))
cut_front {around} m a w b o begins parts (fits_key block k held f) =
    let whole = a ++ (w ++ b) in
    let behind = back_on_line a (w ++ b) whole refl f.on_line in
    let near = f.near in
    let size_a = length-append a w in
    let size_w = length-append w b in
    let size_b = length-append a (w ++ b) in
    let size = length-append whole f.white in
    fits_key block k held (record {
      line = f.line;
      on_line = front_on_line a (w ++ b) whole refl f.on_line;
      low = f.low;
      clear = rw (append_assoc w b o) at (clear_front m a (w ++ b) o f.clear);
      below = rw (append_assoc a (w ++ b) o, append_assoc w b o) at f.below;
      white = w;
      are_white = blanks_on_line around.indent w parts (front_on_line w b (w ++ b) refl behind);
      first = begins.first;
      others = begins.others ++ o;
      is = ap (λ (t : List ℕ). w ++ (t ++ o)) begins.is;
      content = begins.content;
      near = omega (arith, near, size_a, size_w, size_b, size);
    })

-- Of a key's piece what is behind the back part stays, and the place moves along the line by the front part's length.
pub cut_back : {around : Around} {x : Context} (m : Marker) (a b o : List ℕ) → around.indent ≤ (moved m a).col
    → Fits around x m (a ++ b) o → Fits around x (moved m a) b o
cut_back m a b o right (fits_free h f) = fits_free h (fits_back m a b o right f)
cut_back {around} m a b o right (fits_key block k held f) =
    let there = moved_along m a (front_on_line a b (a ++ b) refl f.on_line) in
    let whole : m.index + length (a ++ (b ++ o)) ≤ around.limit = rw (append_assoc a b o) at f.below in
    let count = moved_count m a (b ++ o) in
    let index = moved_index m a in
    let near = f.near in
    let size_a = length-append a b in
    let size_b = length-append b f.white in
    let size = length-append (a ++ b) f.white in
    fits_key block k held (record {
      line = ap (λ (n : Marker). n.line) there ∙ f.line;
      on_line = back_on_line a b (a ++ b) refl f.on_line;
      low = omega (arith, right);
      clear = clear_back m a b o f.clear;
      below = omega (arith, whole, count);
      white = f.white;
      are_white = f.are_white;
      first = f.first;
      others = f.others;
      is = f.is;
      content = f.content;
      near = omega (arith, near, index, size_a, size_b, size);
    })

-- a part inside brackets
pub fits_around : {around : Around} {x : Context} (m : Marker) (a b o : List ℕ) → around.indent ≤ m.col
    → Fits around x m (a ++ b) o → FitsAround around m a (b ++ o)
fits_around m a b o right f =
    record {
      clear = clear_front m a b o (fits_clear f);
      below = rw (append_assoc a b o) at (fits_below f);
      right = right;
    }

-- a key is on one line
pub key_line : {around : Around} {x : Context} (m : Marker) (p o : List ℕ) → Fits around x m p o → is_block x ≡ true
    → (k : Candidate) → around.held ≡ Some k → m.line ≡ (moved m p).line
key_line {x = x} m p o (fits_free (inl flow) f) block k held = absurd (clash (is_block x) block flow)
key_line m p o (fits_free (inr h) f) block k held = absurd (unheld_so k h.1 held)
key_line m p o (fits_key b j other f) block k held = ap (λ (n : Marker). n.line) (sym (moved_along m p f.on_line))

-- ## Near the start of the key

-- a place on the line of a key, at most 1,024 characters after its start
pub record IsNear (k : Candidate) (m : Marker) : Type 0 where
  pub line : m.line ≡ k.mark.line
  pub index : m.index ≤ k.mark.index + 1024

pub not_far : (k : Candidate) (m : Marker) → IsNear k m → is_too_far (Some k) m ≡ false
not_far k m h = grind (arith, nat_tests)

pub begin_near : {around : Around} (k : Candidate) (m : Marker) (p o : List ℕ) → FitsKey around k m p o
    → is_too_far (Some k) m ≡ false
begin_near k m p o f =
    let near = f.near in not_far k m (record { line = f.line; index = omega (arith, near) })

-- blanks behind a piece, before the next token
pub blanks_near : {around : Around} (k : Candidate) (m : Marker) (p o : List ℕ) → (f : FitsKey around k m p o)
    → (there : Cursor) (y : List ℕ) → IsBehindBlanks around.indent there (moved (moved m p) f.white) y
    → is_too_far (Some k) there.mark ≡ false
blanks_near k m p o f there y b =
    let same : along there.mark (length b.white) ≡ along (along m (length p)) (length f.white) =
    sym (blanks_moved there.mark b.white b.are) ∙ b.mark ∙ blanks_moved (moved m p) f.white f.are_white
    ∙ ap (λ (n : Marker). along n (length f.white)) (moved_along m p f.on_line) in
    let index : there.mark.index + length b.white ≡ m.index + length p + length f.white =
    ap (λ (n : Marker). n.index) same in
    let near = f.near in
    let size = length-append p f.white in
    not_far k there.mark (record {
      line = ap (λ (n : Marker). n.line) same ∙ f.line;
      index = omega (arith, index, near, size);
    })

-- blanks are passed, up to a token
pub blanks_lands : (indent : ℕ) (m : Marker) (o w : List ℕ) (c : ℕ) (cs : List ℕ) → o ≡ w ++ (c ∷ cs)
    → AreIn is_blank w → IsContentStart c → indent ≤ m.col → past indent m o ≡ (moved m w, c ∷ cs)
blanks_lands indent m o w c cs is are content right =
    ap (past indent m) is ∙ (blanks_past indent w are m right).is (c ∷ cs)
    ∙ past_content indent (moved m w) c cs content

-- What is kept behind a piece, where the scanner is: outside flow the key, if one is held. By how the piece fits. Only
-- a piece of a key has something to show: the blanks behind it end at a token near the key's start, so the key is not
-- too far away where the scanner is.
pub held_behind : {around : Around} {x : Context} (m : Marker) (p o : List ℕ) → Fits around x m p o
    → around.indent ≤ (moved m p).col → (j : Option Candidate) (there : Cursor) (allowed : Bool)
    → ((k : Candidate) → around.held ≡ Some k → is_block x ≡ true → j ≡ Some k)
    → (is_block x ≡ true → (w : List ℕ) (c : ℕ) (cs : List ℕ) → o ≡ w ++ (c ∷ cs) → AreIn is_blank w → IsContentStart c
    → around.indent ≤ (moved m p).col
    → (allowed ≡ false) × IsBehindBlanks around.indent there (moved (moved m p) w) (c ∷ cs))
    → Kept around x j there.mark × ((key : Option Candidate) → (is_too_far j there.mark ≡ false → key ≡ j)
    → Holds around x key allowed there (moved m p) o)
held_behind m p o (fits_free (inl flow) f) right j there allowed kept line =
    (kept_inside flow, λ key stays. holds_in_flow flow)
held_behind m p o (fits_free (inr h) f) right j there allowed kept line =
    (unrequired h.0, λ key stays. record { so = λ k held. absurd (unheld_so k h.1 held) })
held_behind {around} m p o (fits_key block k held f) right j there allowed kept line =
    let l = line block f.white f.first f.others f.is f.are_white f.content right in
    let near : is_too_far j there.mark ≡ false =
    rw (kept k held block) (blanks_near k m p o f there (f.first ∷ f.others) l.1) in (
      kept_near near,
      λ key stays. record {
        so = λ i other e. record {
          is = stays near ∙ kept k held block ∙ sym held ∙ other;
          closed = l.0;
          line = rw (blanks_lands around.indent (moved m p) o f.white f.first f.others f.is f.are_white f.content right)
              l.1;
        };
      },
    )
