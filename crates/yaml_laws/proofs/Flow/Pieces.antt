-- Pieces of a text in flow style in parts, and what comes after them.
use Rattle.std.proofs.Common.{◌≡◌, ◌≢◌, ℕ, ◌+◌, ◌≤◌, List, [], ◌∷◌, ◌++◌, length, slice_index, refl, ap, arith, append_assoc, IsTrue, ◌⊎◌}
use Rattle.yaml_laws.proofs.Common.{comma, right_brace, right_bracket, Marker, IsSeparation, Node}
use Rattle.yaml_laws.proofs.InFlow.States.{Around}
use Rattle.yaml_laws.proofs.Flow.States.{moved, IsContentStart, IsBehind, IsParted, ends_colon, IsBehindNode, FitsAround}
use Rattle.yaml_laws.proofs.Flow.Places.{moved_count, clear_front, clear_back}
use Rattle.yaml_laws.proofs.Flow.Ends.{ends_behind_separation}
use Rattle.yaml_laws.proofs.Flow.ContentStarts.{StartsContent}

-- ## A piece in parts

pub fits_front : {around : Around} (m : Marker) (a b o : List ℕ) → FitsAround around m (a ++ b) o
    → FitsAround around m a (b ++ o)
fits_front {around} m a b o h =
    record {
      clear = clear_front m a b o h.clear;
      below = rw (append_assoc a b o) at h.below;
      right = h.right;
    }

pub fits_back : {around : Around} (m : Marker) (a b o : List ℕ) → around.indent ≤ (moved m a).col
    → FitsAround around m (a ++ b) o → FitsAround around (moved m a) b o
fits_back {around} m a b o right h =
    let whole : m.index + length (a ++ (b ++ o)) ≤ around.limit = rw (append_assoc a b o) at h.below in
    let count = moved_count m a (b ++ o) in
    record { clear = clear_back m a b o h.clear; below = omega (arith, whole, count); right = right }

pub fits_so : {around : Around} (m : Marker) (p q o : List ℕ) → p ≡ q → FitsAround around m p o
    → FitsAround around m q o
fits_so {around} m p q o e h = rw e at h

pub fits_before : {around : Around} (m : Marker) (p o q : List ℕ) → o ≡ q → FitsAround around m p o
    → FitsAround around m p q
fits_before {around} m p o q e h = rw e at h

-- ## What comes after

-- a comma or a closing bracket
abbrev pub EndsEntry : ℕ → Type 0
EndsEntry c = (c ≡ comma) ⊎ ((c ≡ right_bracket) ⊎ (c ≡ right_brace))

-- separation, and what ends an entry
abbrev pub IsBehindEntry : ℕ → List ℕ → Type 0
IsBehindEntry indent o = IsBehind indent (λ w c cs. EndsEntry c) o

-- what comes after, told otherwise
pub behind_so : {indent : ℕ} {P Q : List ℕ → ℕ → List ℕ → Type 0} {o : List ℕ}
    → ((w : List ℕ) (c : ℕ) (cs : List ℕ) → P w c cs → Q w c cs) → IsBehind indent P o → IsBehind indent Q o
behind_so f h = grind (arith)

pub end_is_content : (c : ℕ) → EndsEntry c → IsContentStart c
end_is_content c h = grind arith

pub entry_behind : (indent : ℕ) (node : Node) (o : List ℕ) → IsBehindEntry indent o → IsBehindNode indent node o
entry_behind indent node o h = grind (arith, behind_so)

pub entry_parted : (indent : ℕ) (o : List ℕ) → IsBehindEntry indent o → IsParted indent o
entry_parted indent o h = behind_so (λ w c cs e. end_is_content c e) h

-- more separation before what ends an entry
pub wider_entry : (indent : ℕ) (w others : List ℕ) (c : ℕ) → IsSeparation indent w → EndsEntry c
    → IsBehindEntry indent (w ++ (c ∷ others))
wider_entry indent w others c parts ends = grind arith

-- separation before some content
abbrev pub parted_by : (indent : ℕ) (w t : List ℕ) → IsSeparation indent w → StartsContent t → IsParted indent (w ++ t)
parted_by indent w t parts b =
    record {
      separation = w;
      first = b.first;
      others = b.others;
      is = ap (λ (x : List ℕ). w ++ x) b.is;
      parts = parts;
      ends = b.content;
    }

-- after separation that is not empty
pub white_ends_colon : (indent : ℕ) (w y : List ℕ) → IsSeparation indent w → w ≢ []
    → IsTrue (ends_colon (slice_index (w ++ y) 0))
white_ends_colon indent w y parts some = rw (ends_behind_separation indent w y parts some) refl

-- where nothing comes after a colon
pub entry_ends_colon : (indent : ℕ) (o : List ℕ) → IsBehindEntry indent o → IsTrue (ends_colon (slice_index o 0))
entry_ends_colon indent o h = rw h.is (by_separation h.separation h.parts)
  where
    end : (c : ℕ) → EndsEntry c → IsTrue (ends_colon c)
    end c h = grind arith

    some : (c : ℕ) (cs : List ℕ) → (c ∷ cs) ≢ []
    some c cs e = cc

    by_separation : (w : List ℕ) → IsSeparation indent w
        → IsTrue (ends_colon (slice_index (w ++ (h.first ∷ h.others)) 0))
    by_separation [] parts = end h.first h.ends
    by_separation (c ∷ cs) parts = white_ends_colon indent (c ∷ cs) (h.first ∷ h.others) parts (some c cs)
