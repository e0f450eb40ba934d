-- Candidates for keys: each is a token that the scanner holds, from which the tokens lead as deep as brackets enclose.
use Rattle.saphyr_scanner.proofs.Common.{◌≡◌, ℕ, suc, ◌+◌, ◌≤◌, ◌<◌, Bool, true, false, List, [], ◌∷◌, ◌++◌, length, ◌⊎◌, Option, Some, None, arith, inr, append_assoc, IsTrue, ◌&&◌, slice_index, is_z, Piece}
use Rattle.saphyr_scanner.specs.Steps.Queue.{Place, Queue, is_empty_list, bare_place, with_piece}
use Rattle.saphyr_scanner.specs.Steps.Core.{Core, in_block, is_too_far, least_column}
use Rattle.saphyr_scanner.specs.Steps.Level.{Candidate, Level, is_block}
use Rattle.saphyr_scanner.specs.TokensInPlace.{Enclosures, is_of_flow_node}
use Rattle.saphyr_scanner.proofs.Leads.{flat}
use Rattle.saphyr_scanner.proofs.Taken.InPlace.{all_behind, deeper, AreInside, inside_append}
use Rattle.saphyr_scanner.proofs.Taken.KeysInPlace.{IsPast}
use Rattle.saphyr_scanner.proofs.Taken.Later.{top}
use Rattle.saphyr_scanner.proofs.Taken.Parts.{is_quiet, AreQuiet, quiet_append, Begins}
use Rattle.saphyr_scanner.proofs.Queues.{flat_append}

-- ## Candidates

-- A candidate is a token of the queue, from which the tokens lead as deep as its level is enclosed by others. No block
-- collection began or ended since, and no block scalar came. Properties right before it end on an earlier line.
pub record Key (all : Enclosures) (d b : ℕ) (q : Queue) (block : Bool) (i : ℕ) (k : Candidate) : Type 0 where
  pub front : List Place
  pub back : List Place
  pub token : Piece
  pub places : q.places ≡ front ++ bare_place token ∷ back
  pub at : k.place ≡ q.handed + length front
  pub below : k.place < b
  pub marked : token.span.start ≡ k.mark
  pub begins : Begins token
  pub quiet : AreQuiet (token ∷ flat back)
  pub deep : block ≡ true → i ≤ k.mark.col + 1
  pub inside : AreInside 0 (token ∷ flat back) d
  pub past : IsPast (all_behind (flat front) all).begun block k.mark.line

abbrev pub KeyOf : Enclosures → ℕ → ℕ → Queue → Bool → ℕ → Option Candidate → Type 0
KeyOf all d b q block i None = Unit {0}
KeyOf all d b q block i (Some k) = Key all d b q block i k

abbrev pub lower : ℕ → Option Candidate → ℕ
lower b None = b
lower b (Some k) = k.place

-- the outermost level alone is no flow collection
abbrev pub IsNested : Level → List Level → Type 0
IsNested l ls = is_block l.context ≡ is_empty_list ls

-- candidates further out are further in front, and deeper lead the tokens after them
abbrev pub KeysFrom : Enclosures → ℕ → ℕ → Queue → ℕ → List Level → Type 0
KeysFrom all d b q i [] = Unit {0}
KeysFrom all d b q i (l ∷ ls) = IsNested l ls × KeyOf all d b q (is_block l.context) i l.key
    × KeysFrom all (suc d) (lower b l.key) q i ls

abbrev pub Keys : Enclosures → ℕ → Queue → ℕ → List Level → Type 0
Keys all b q i ls = KeysFrom all 0 b q i ls

key_weaken : (all : Enclosures) (d a b : ℕ) (q : Queue) (block : Bool) (i : ℕ) (k : Option Candidate) → a ≤ b
    → KeyOf all d a q block i k → KeyOf all d b q block i k
key_weaken all d a b q block i u0 h x = grind arith

pub keys_weaken : (all : Enclosures) (d a b : ℕ) (q : Queue) (i : ℕ) (ls : List Level) → a ≤ b → KeysFrom all d a q i ls
    → KeysFrom all d b q i ls
keys_weaken all d a b q i [] h x = tt
keys_weaken all d a b q i (l ∷ ls) h x = (
  x.0,
  key_weaken all d a b q (is_block l.context) i l.key h x.1,
  rest l.key x.2
      (λ z. keys_weaken all (suc d) a b q i ls h z),
)
  where
    rest : (k : Option Candidate) → KeysFrom all (suc d) (lower a k) q i ls
        → (KeysFrom all (suc d) a q i ls → KeysFrom all (suc d) b q i ls) → KeysFrom all (suc d) (lower b k) q i ls
    rest None z go = go z
    rest (Some k) z go = z

-- ## A token is put after candidates

-- after each candidate the token leads from the depth of its level to another
abbrev pub ForKey : Option Candidate → Type 0 → Type 0
ForKey None P = Unit {0}
ForKey (Some k) P = P

abbrev pub LeadsDeeper : Piece → List Level → ℕ → ℕ → Type 0
LeadsDeeper t [] d e = Unit {0}
LeadsDeeper t (l ∷ ls) d e = ForKey l.key (AreInside d (t ∷ []) e) × LeadsDeeper t ls (suc d) (suc e)

for_key : (k : Option Candidate) (P : Type 0) → P → ForKey k P
for_key None P p = tt
for_key (Some k) P p = p

-- the token keeps the depth
abbrev pub KeepsDepth : Piece → Type 0
KeepsDepth t = (d : ℕ) → deeper t.kind t.span d ≡ d

keeps_outer : (t : Piece) (ls : List Level) (d : ℕ) → KeepsDepth t → LeadsDeeper t ls (suc d) (suc d)
keeps_outer t [] d n = tt
keeps_outer t (l ∷ ls) d n = (for_key l.key _ (n (suc d)), keeps_outer t ls (suc d) n)

-- no token but those of a node comes after a candidate of its own level
abbrev pub IsFreeOr : Piece → Option Candidate → Type 0
IsFreeOr t k = (k ≡ None) ⊎ IsTrue (is_of_flow_node t.kind t.span)

own_depth : (t : Piece) (k : Option Candidate) (d e : ℕ) → IsFreeOr t k → deeper t.kind t.span d ≡ e
    → ForKey k (AreInside d (t ∷ []) e)
own_depth t u0 d e f n = grind arith

pub keeps_depth : (t : Piece) (l : Level) (ls : List Level) → IsFreeOr t l.key → KeepsDepth t
    → LeadsDeeper t (l ∷ ls) 0 0
keeps_depth t l ls f n = (own_depth t l.key 0 0 f (n 0), keeps_outer t ls 0 n)

-- a bracket begins
pub leads_in : (t : Piece) (ls : List Level) (d : ℕ) → IsTrue (is_of_flow_node t.kind t.span)
    → ((e : ℕ) → deeper t.kind t.span e ≡ suc e) → LeadsDeeper t ls d (suc d)
leads_in t [] d f n = tt
leads_in t (l ∷ ls) d f n = (own_depth t l.key d (suc d) (inr f) (n d), leads_in t ls (suc d) f n)

-- a bracket ends
pub leads_out : (t : Piece) (ls : List Level) (d : ℕ) → ((e : ℕ) → deeper t.kind t.span (suc e) ≡ e)
    → LeadsDeeper t ls (suc d) d
leads_out t [] d n = tt
leads_out t (l ∷ ls) d n = (for_key l.key _ (n d), leads_out t ls (suc d) n)

key_put : (all : Enclosures) (d e b : ℕ) (q : Queue) (block : Bool) (i : ℕ) (k : Option Candidate) (t : Piece)
    → is_quiet t.kind ≡ true
    → ForKey k (AreInside d (t ∷ []) e) → KeyOf all d b q block i k → KeyOf all e b (with_piece t q) block i k
key_put all d e b q block i u0 t f g x = grind (arith, flat, flat_append, append_assoc, quiet_append, inside_append)

pub keys_put : (all : Enclosures) (d e b : ℕ) (q : Queue) (i : ℕ) (ls : List Level) (t : Piece) → is_quiet t.kind ≡ true
    → LeadsDeeper t ls d e → KeysFrom all d b q i ls → KeysFrom all e b (with_piece t q) i ls
keys_put all d e b q i [] t f g x = tt
keys_put all d e b q i (l ∷ ls) t f g x = (
  x.0,
  key_put all d e b q (is_block l.context) i l.key t f g.0 x.1,
  keys_put all (suc d) (suc e) (lower b l.key) q i ls t f g.1 x.2,
)

-- ## Where the next token begins

-- not too far after the candidate outside flow
abbrev pub IsNear : Core → Type 0
IsNear c = (in_block c && is_too_far c.level.key c.cursor.mark) ≡ false

-- and at the column of the innermost block collection, or right of it
abbrev pub IsDeep : Core → Type 0
IsDeep c = in_block c ≡ true → c.indent ≤ c.cursor.mark.col + 1

-- a line that counts
abbrev pub IsSmall : Core → Type 0
IsSmall c = c.cursor.mark.line < top

-- not left of the candidate outside flow
abbrev pub IsBehindKey : Core → Type 0
IsBehindKey c = in_block c ≡ true → (k : Candidate) → c.level.key ≡ Some k → k.mark.col ≤ c.cursor.mark.col

-- nor of the column that content has to reach, and before the end
abbrev pub IsArrival : Core → Type 0
IsArrival c = IsDeep c × IsNear c × IsSmall c × (least_column c ≤ c.cursor.mark.col) × IsBehindKey c
    × (is_z (slice_index c.cursor.rest 0) ≡ false)
