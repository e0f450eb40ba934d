-- Which tokens of flow nodes are right of their collection's column: all that are held, or where a key has to be one,
-- those before it.
use Rattle.saphyr_scanner.proofs.Common.{◌≡◌, ℕ, ◌+◌, ◌≤◌, ◌<◌, ◌⊎◌, Bool, true, false, List, [], ◌∷◌, ◌++◌, length, drop, Option, Some, None, refl, sym, ap, ◌∙◌, arith, subst, inl, inr, append_assoc, IsTrue, ◌==◌, slice_index, is_z, is_blank_or_breakz, colon, Cursor, Piece}
use Rattle.saphyr_scanner.specs.Steps.Queue.{Place, Queue, with_piece, is_empty_list}
use Rattle.saphyr_scanner.specs.Steps.Core.{Core, in_block}
use Rattle.saphyr_scanner.specs.Steps.Level.{Candidate, Level}
use Rattle.saphyr_scanner.specs.TokensTaken.{AreApart}
use Rattle.saphyr_scanner.specs.TokensInPlace.{Enclosures, is_of_flow_node, is_indented, AreIndented}
use Rattle.saphyr_scanner.proofs.Leads.{flat, place_pieces}
use Rattle.saphyr_scanner.proofs.Queues.{flat_append}
use Rattle.saphyr_scanner.proofs.Taken.InPlace.{all_behind, each_append, each_parts}
use Rattle.saphyr_scanner.proofs.Taken.Later.{top, text_stays, end_stays}

-- ## Where no key may begin outside flow

-- no node begins here: the text ends, or a colon stands that is no part of a word
abbrev pub BeginsNoNode : List ℕ → Type 0
BeginsNoNode t = (is_z (slice_index t 0) ≡ true)
    ⊎ ((slice_index t 0 ≡ colon) × (is_blank_or_breakz (slice_index t 1) ≡ true))

-- where none begins nothing is passed
pub stays_no_node : (s t : Cursor) → AreApart s t → BeginsNoNode s.rest → BeginsNoNode t.rest
stays_no_node s t p u0 = grind (arith, end_stays, text_stays)

-- no colon stands here that is no part of a word
abbrev pub HasNoColon : List ℕ → Type 0
HasNoColon t = slice_index t 0 ≡ colon → is_blank_or_breakz (slice_index t 1) ≡ true → ⊥

pub other_than_colon : (x : ℕ) (t : List ℕ) → (x == colon) ≡ false → slice_index t 0 ≡ x → HasNoColon t
other_than_colon x t other e colon blank = absurd (let same = ap (λ y. y == 58) (sym e ∙ colon) in cc)

-- Where no key may begin the text goes on right of the column of the innermost block collection, or with no node.
abbrev pub IsRight : Core → Type 0
IsRight c = in_block c ≡ true → c.key_allowed ≡ false → c.cursor.mark.line < top
    → (c.indent ≤ c.cursor.mark.col) ⊎ BeginsNoNode c.cursor.rest

-- Where a key may begin again the text goes on after a line, or has ended.
abbrev pub IsPastLine : ℕ → Core → Type 0
IsPastLine n c = in_block c ≡ true → c.key_allowed ≡ true → c.cursor.mark.line < top
    → (n < c.cursor.mark.line) ⊎ (is_z (slice_index c.cursor.rest 0) ≡ true)

pub past_before : (m n : ℕ) (c : Core) → m ≤ n → IsPastLine n c → IsPastLine m c
past_before m n c l past b a s = elim (past b a s) [ inl x ↦ inl (omega (arith, l, x)) | inr z ↦ inr z ]

-- ## A key that has to be one

-- the token that may be a key outside flow
abbrev pub root_key : List Level → Option Candidate
root_key [] = None
root_key (l ∷ []) = l.key
root_key (l ∷ m ∷ ls) = root_key (m ∷ ls)

abbrev pub own_root : Core → Option Candidate
own_root c = root_key (c.level ∷ c.outer)

-- inside flow it is of a level further out
pub root_inner : (l : Level) (ls : List Level) → is_empty_list ls ≡ false → root_key (l ∷ ls) ≡ root_key ls
root_inner l [] e = absurd (cc)
root_inner l (m ∷ ls) e = refl

pub root_outer : (l m : Level) (ls ms : List Level) → ms ≡ ls → is_empty_list ls ≡ false
    → root_key (m ∷ ms) ≡ root_key (l ∷ ls)
root_outer l m ls ms e f = ap (λ x. root_key (m ∷ x)) e ∙ root_inner m ls f ∙ sym (root_inner l ls f)

-- the tokens before it are right of their collection's column, and another may begin on a later line alone
pub record Waits (all : Enclosures) (c : Core) (q : Queue) : Type 0 where
  pub key : Candidate
  pub is : own_root c ≡ Some key
  pub front : List Place
  pub back : List Place
  pub places : q.places ≡ front ++ back
  pub at : key.place ≡ q.handed + length front
  pub indented : AreIndented all (flat front)
  pub line : key.mark.line ≤ c.cursor.mark.line
  pub past : IsPastLine key.mark.line c

pub record Indented (all : Enclosures) (c : Core) (q : Queue) : Type 0 where
  pub free : c.required ≡ false → AreIndented all (flat q.places)
  pub waits : c.required ≡ true → Waits all c q

-- where no key can be required all are
pub never_waits : (all : Enclosures) (c : Core) (q : Queue) → (c.required ≡ true → own_root c ≡ None)
    → Indented all c q → AreIndented all (flat q.places)
never_waits all c q none h = grind arith

-- ## What is known changes

-- a key that has to be one is so still
pub record KeepsRequired (c d : Core) : Type 0 where
  pub required : d.required ≡ c.required
  pub root : c.required ≡ true → own_root d ≡ own_root c
  pub block : in_block d ≡ in_block c

pub indented_further : (all : Enclosures) (c d : Core) (q : Queue) → KeepsRequired c d
    → c.cursor.mark.line ≤ d.cursor.mark.line
    → (d.key_allowed ≡ true → (c.key_allowed ≡ true) ⊎ (c.cursor.mark.line < d.cursor.mark.line))
    → (is_z (slice_index c.cursor.rest 0) ≡ true → is_z (slice_index d.cursor.rest 0) ≡ true)
    → Indented all c q → Indented all d q
indented_further all c d q k l allows ends h = grind arith

-- ## A token is put

-- the token is right of its collection's column, where one has to be
abbrev pub FitsIndented : Enclosures → Queue → Piece → Type 0
FitsIndented all q t = IsTrue (is_indented (all_behind (flat q.places) all) t.kind t.span)

pub no_node_fits : (all : Enclosures) (q : Queue) (t : Piece) → is_of_flow_node t.kind t.span ≡ false
    → FitsIndented all q t
no_node_fits all q t e = rw e refl

pub indented_then : (all : Enclosures) (q : Queue) (t : Piece) → FitsIndented all q t → AreIndented all (flat q.places)
    → AreIndented all (flat (with_piece t q).places)
indented_then all q t f h = grind (arith, flat_append, each_append, flat)

pub waits_then : (all : Enclosures) (c d : Core) (q : Queue) (t : Piece) → own_root d ≡ own_root c
    → c.cursor.mark.line ≤ d.cursor.mark.line → (w : Waits all c q) → IsPastLine w.key.mark.line d
    → Waits all d (with_piece t q)
waits_then all c d q t root l w past = grind (arith, append_assoc)

-- a token of no flow node
pub indented_put : (all : Enclosures) (c d : Core) (q : Queue) (t : Piece) → FitsIndented all q t → KeepsRequired c d
    → ((w : Waits all c q) → IsPastLine w.key.mark.line d) → c.cursor.mark.line ≤ d.cursor.mark.line
    → Indented all c q → Indented all d (with_piece t q)
indented_put all c d q t f k past l h = record {
  free = λ e. indented_then all q t f (h.free (sym k.required ∙ e));
  waits = λ e.
      let r = sym k.required ∙ e in
      let w = h.waits r in waits_then all c d q t (k.root r) l w (past w);
}

-- where no key can be required
pub indented_alone : (all : Enclosures) (c d : Core) (q : Queue) (t : Piece) → FitsIndented all q t
    → (c.required ≡ true → own_root c ≡ None) → (d.required ≡ true → c.required ≡ true) → Indented all c q
    → Indented all d (with_piece t q)
indented_alone all c d q t f none back h = grind (arith, indented_then, never_waits)

-- ## Places in front

-- of two fronts of the same places the shorter is that of the longer
longer_front : (a b x y : List Place) → a ++ x ≡ b ++ y → length a ≤ length b
    → (mid : List Place) × (b ≡ a ++ mid) × (x ≡ mid ++ y)
longer_front [] b x y e l = (b, refl, e)
longer_front (p ∷ a) [] x y e l = absurd (omega (arith, l))
longer_front (p ∷ a) (r ∷ b) x y e l =
    let m = longer_front a b x y (ap (drop 1) e) (omega (arith, l)) in
    let same : r ≡ p = sym (ap (λ ps. elim ps [ [] ↦ p | z ∷ zs ↦ z ]) e) in (m.0, cc (m.1), m.2)

-- the first places are right of their collections' columns, where no key that has to be one is among them
pub front_indented : (all : Enclosures) (c : Core) (q : Queue) (front back : List Place) → q.places ≡ front ++ back
    → ((r : Candidate) → own_root c ≡ Some r → q.handed + length front ≤ r.place) → Indented all c q
    → AreIndented all (flat front)
front_indented all c q front back is before h = by c.required refl
  where
    first : (ps others : List Place) → ps ≡ front ++ others → AreIndented all (flat ps) → AreIndented all (flat front)
    first ps others e k =
        (each_parts is_indented (flat front) (flat others) all
        (subst (λ l. AreIndented all l) (ap flat e ∙ flat_append front others) k)).0

    by : (b : Bool) → c.required ≡ b → AreIndented all (flat front)
    by false e = first q.places back is (h.free e)
    by true e =
        let w = h.waits e in
        let n = before w.key w.is in
        let m = longer_front front w.front back w.back (sym is ∙ w.places) (omega (arith, n, w.at)) in
        first w.front m.0 m.1 w.indented

-- ## A candidate turns out to be a key

-- it is the one outside flow, and none has to be one after it; or it is after that one
abbrev pub OpensKey : Core → Core → Candidate → Type 0
OpensKey c d k = ((own_root c ≡ Some k) × (d.required ≡ false))
    ⊎ ((in_block c ≡ false) × KeepsRequired c d × ((r : Candidate) → own_root c ≡ Some r → r.place ≤ k.place))

-- A place of the queue is filled, and all that was indented is indented still. If the key was the one outside
-- brackets, then all tokens in front of its place are (`front_indented`). Else a required key still waits, in front
-- of that place, and only what is behind it changes (`longer_front`).
pub indented_open : (all : Enclosures) (c d : Core) (q r : Queue) (k : Candidate) (front back : List Place)
    (p now : Place) → q.places ≡ front ++ p ∷ back → r.places ≡ front ++ now ∷ back → r.handed ≡ q.handed
    → k.place ≡ q.handed + length front → (AreIndented all (flat front) → AreIndented all (flat r.places))
    → c.cursor.mark.line ≤ d.cursor.mark.line → OpensKey c d k → Indented all c q → Indented all d r
indented_open all c d q r k front back p now was is handed at opens l (inl o) h = record {
  free = λ _. opens (front_indented all c q front (p ∷ back) was (λ x e.
      let same : k.place ≡ x.place = ap (λ y. elim y [ None ↦ 0 | Some z ↦ z.place ]) (sym o.0 ∙ e) in
      omega (arith, at, same)) h);
  waits = λ e. absurd (let no = o.1 in cc);
}
indented_open all c d q r k front back p now was is handed at opens l (inr o) h = record {
  free = λ e. opens ((each_parts is_indented (flat front) (flat (p ∷ back)) all
      (subst (λ ps. AreIndented all ps) (ap flat was ∙ flat_append front (p ∷ back))
      (h.free (sym o.1.required ∙ e)))).0);
  waits = λ e. by (sym o.1.required ∙ e) (h.waits (sym o.1.required ∙ e));
}
  where
    by : c.required ≡ true → Waits all c q → Waits all d r
    by f w =
        let n = o.2 w.key w.is in
        let m = longer_front w.front front w.back (p ∷ back) (sym w.places ∙ was) (omega (arith, at, w.at, n)) in
        record {
          key = w.key;
          is = o.1.root f ∙ w.is;
          front = w.front;
          back = m.0 ++ now ∷ back;
          places = is ∙ ap (λ ps. ps ++ now ∷ back) m.1 ∙ append_assoc w.front m.0 (now ∷ back);
          at = w.at ∙ ap (λ n. n + length w.front) (sym handed);
          indented = w.indented;
          line = omega (arith, l, w.line);
          past = λ b _ _. absurd (let no = sym o.1.block ∙ b in let f = o.0 in cc);
        }

-- ## A place is handed out

-- what is left, where the first place has no key that has to be one
pub indented_handed : (all : Enclosures) (c : Core) (n : ℕ) (p : Place) (ps : List Place)
    → (c.required ≡ true → (r : Candidate) → own_root c ≡ Some r → r.place ≡ n → ⊥)
    → Indented all c (record { places = p ∷ ps; handed = n })
    → AreIndented all (place_pieces p.opening p.piece)
    × Indented (all_behind (place_pieces p.opening p.piece) all) c (record { places = ps; handed = n + 1 })
indented_handed all c n p ps other h = by c.required refl
  where
    parts : (others : List Place) → AreIndented all (place_pieces p.opening p.piece ++ flat others)
        → AreIndented all (place_pieces p.opening p.piece)
        × AreIndented (all_behind (place_pieces p.opening p.piece) all) (flat others)
    parts others k = each_parts is_indented (place_pieces p.opening p.piece) (flat others) all k

    Left : Type 0
    Left = AreIndented all (place_pieces p.opening p.piece)
        × Indented (all_behind (place_pieces p.opening p.piece) all) c (record { places = ps; handed = n + 1 })

    behind : c.required ≡ true → (w : Waits all c (record { places = p ∷ ps; handed = n })) → (front : List Place)
        → p ∷ ps ≡ front ++ w.back → w.key.place ≡ n + length front → AreIndented all (flat front) → Left
    behind e w [] is at k = absurd (other e w.key w.is (omega (arith, at)))
    behind e w (f ∷ front) is at k =
        let same : f ≡ p = sym (ap (λ l. elim l [ [] ↦ p | y ∷ ys ↦ y ]) is) in
        let two = parts front (subst (λ x. AreIndented all (place_pieces x.opening x.piece ++ flat front)) same k) in (
          two.0,
          record {
            free = λ no. absurd (cc);
            waits = λ _. record {
              key = w.key;
              is = w.is;
              front = front;
              back = w.back;
              places = ap (drop 1) is;
              at = omega (arith, at);
              indented = two.1;
              line = w.line;
              past = w.past;
            };
          },
        )

    by : (b : Bool) → c.required ≡ b → Left
    by false e =
        let two = parts ps (h.free e) in (two.0, record { free = λ _. two.1; waits = λ yes. absurd (cc) })
    by true e = let w = h.waits e in behind e w w.front w.places w.at w.indented
