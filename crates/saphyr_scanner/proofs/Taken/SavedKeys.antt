-- What is held stays so where a key is saved, and where a candidate turns out to be a key.
use Rattle.saphyr_scanner.proofs.Common.{◌≡◌, ℕ, zero, suc, ◌+◌, ◌-◌, ◌≤◌, ◌<◌, ◌⊎◌, Bool, true, false, List, [], ◌∷◌, length, Option, Some, refl, sym, ap, ◌∙◌, arith, subst, inl, inr, IsTrue, ◌==◌, ◌&&◌, not, if◌then◌else◌, or-true, le-leb, nat_tests, Marker, Context, Cursor, Opening, Piece}
use Rattle.saphyr_scanner.specs.declared.queue.Opening.TheVariants as opening
use Rattle.saphyr_scanner.specs.Steps.Queue.{Place, Queue, is_empty_list, bare_place, with_piece, places_with_opening, with_opening, next}
use Rattle.saphyr_scanner.specs.Steps.Core.{Core, in_block, forget_key, is_further, is_too_far, enter_block}
use Rattle.saphyr_scanner.specs.Steps.Level.{Candidate, Level, is_block}
use Rattle.saphyr_scanner.specs.TokensTaken as taken
use Rattle.saphyr_scanner.specs.TokensTaken.{Collections, AreApart, least_column_in}
use Rattle.saphyr_scanner.specs.TokensInPlace.{Enclosure, Enclosures, may_begin_key, is_in_brackets, is_of_flow_node, is_indented}
use Rattle.saphyr_scanner.proofs.Taken.InPlace.{deeper, all_behind}
use Rattle.saphyr_scanner.proofs.Taken.KeysInPlace.{awaited, MayOpen, Outside, free, IsPast}
use Rattle.saphyr_scanner.proofs.Taken.Parts.{is_quiet, Begins, opens_block, column_of, EndsOnLine}
use Rattle.saphyr_scanner.proofs.Taken.Held.{enclosure_of, columns_of, enclosures_of, Setting, PutsIndented}
use Rattle.saphyr_scanner.proofs.Taken.Indented.{BeginsNoNode, HasNoColon, IsPastLine, root_key, own_root, root_inner, root_outer, Waits, Indented, never_waits, FitsIndented, past_before, indented_then, waits_then, OpensKey}
use Rattle.saphyr_scanner.proofs.Leads.{flat}
use Rattle.saphyr_scanner.proofs.Taken.Keys.{Key, KeyOf, lower, KeysFrom, Keys, keys_weaken, LeadsDeeper, keys_put, IsArrival}
use Rattle.saphyr_scanner.proofs.Taken.OpenedKeys.{taken_open, keys_open, below_key, root_below}
use Rattle.saphyr_scanner.proofs.Taken.Cores.{HoldsWithin, HoldsTaken, outermost, own_key, no_keys, next_put, some_outer}

-- ## A key is saved

-- whether the next token has to be a key, if it may be one
abbrev pub has_to_be_key : Core → Bool
has_to_be_key c = if in_block c then not c.deeper && (c.indent == c.cursor.mark.col + 1) else c.required

-- a level, and whether a key has to be one, where the next token was saved if it may be a key
abbrev pub IsSaved : ℕ → Core → Level → Bool → Type 0
IsSaved n c l r = ((l ≡ c.level) × (c.key_allowed ≡ false) × (r ≡ c.required))
    ⊎ (
    (l ≡ record { context = c.level.context; key = Some (record { mark = c.cursor.mark; place = n }) })
    × (c.key_allowed ≡ true) × (r ≡ has_to_be_key c)
    )

pub record Saved (n : ℕ) (c d : Core) : Type 0 where
  pub level : IsSaved n c d.level d.required
  pub cursor : d.cursor ≡ c.cursor
  pub outer : d.outer ≡ c.outer
  pub indent : d.indent ≡ c.indent
  pub outer_indents : d.outer_indents ≡ c.outer_indents

pub apart_same : (s t : Cursor) → t ≡ s → AreApart s t
apart_same s t e = let P : Cursor → Type 0 = λ u. AreApart s u in subst P (sym e) (taken.nothing s.mark s.rest)

pub saved_enclosures : (n : ℕ) (c d : Core) → Saved n c d → enclosures_of d ≡ enclosures_of c
saved_enclosures n c d s = grind arith

pub line_near : (k : Candidate) (m : Marker) → is_too_far (Some k) m ≡ false → m.line ≤ k.mark.line
line_near k m e = grind arith

-- outside flow no key has to be one where another is saved, which is not too far after it
none_required : (all : Enclosures) (c : Core) (q : Queue) → c.outer ≡ [] → in_block c ≡ true → c.key_allowed ≡ true
    → IsArrival c → Waits all c q → ⊥
none_required all c q none b allowed arrival w = grind arith

-- what has not to be a key is right of the column of its collection
may_be_right : (b deeper r : Bool) (i m : ℕ) → b ≡ true → (if b then not deeper && (i == m + 1) else r) ≡ false
    → (if deeper then i else i - 1) ≤ m → i ≤ m + 1 → i ≤ m
may_be_right false deeper r i m e f g h = absurd (cc)
may_be_right true true r i m e f g h = g
may_be_right true false r i m e f g h = grind (arith, nat_tests)

least_of : (i : ℕ) (is : List ℕ) → least_column_in (columns_of i is) ≡ i
least_of u0 is = grind arith

-- a token within what encloses a level is right of its collection's column, if it is right of the scanner's
within_indented : (c : Core) (t : Piece) (node : Bool) → is_of_flow_node t.kind t.span ≡ node
    → (in_block c ≡ true → node ≡ true → c.indent ≤ t.span.start.col)
    → IsTrue (is_indented (enclosures_of c) t.kind t.span)
within_indented c t false e f = rw e refl
within_indented c t true e f = by (in_block c) refl
  where
    bracketed : (x : Context) → is_block x ≡ false → is_in_brackets (enclosure_of x) ≡ true
    bracketed x e = grind arith

    by : (b : Bool) → in_block c ≡ b → IsTrue (is_indented (enclosures_of c) t.kind t.span)
    by false b = rw (e, bracketed c.level.context b) refl
    by true b =
        let l = le-leb (least_column_in (columns_of c.indent c.outer_indents)) t.span.start.col
        (let i = least_of c.indent c.outer_indents in omega (arith, i, f b refl)) in
        rw (e, l) (or-true (is_in_brackets (enclosure_of c.level.context)))

-- a token is put that may be a key, where r is known after it
pub saved_indented : (opened : Setting) (from : Cursor) (c d r : Core) (q : Queue) (t : Piece) → Saved (next q) c d
    → own_root r ≡ own_root d → r.required ≡ d.required → IsArrival c
    → (IsTrue (is_of_flow_node t.kind t.span) → (t.span.start ≡ c.cursor.mark) × HasNoColon c.cursor.rest)
    → IsPastLine c.cursor.mark.line r → HoldsTaken opened from c q → PutsIndented opened c r q t
saved_indented opened from c d r q t s root same arrival starts past h line k = by s.level
  where
    all : Enclosures
    all = opened.enclosures

    none : in_block c ≡ true → c.outer ≡ []
    none b = outermost (enclosures_of c) opened from c q h b

    fits : (in_block c ≡ true → IsTrue (is_of_flow_node t.kind t.span) → c.indent ≤ c.cursor.mark.col)
        → FitsIndented all q t
    fits f =
        let P : Enclosures → Type 0 = λ x. IsTrue (is_indented x t.kind t.span) in
        subst P (sym h.taken.encloses) (within_indented c t (is_of_flow_node t.kind t.span) refl (λ b n.
        let i = f b n in let col = ap (λ (m : Marker). m.col) (starts n).0 in omega (arith, i, col)))

    kept : own_root d ≡ own_root c → d.required ≡ c.required
        → (in_block c ≡ true → IsTrue (is_of_flow_node t.kind t.span) → c.indent ≤ c.cursor.mark.col)
        → Indented all r (with_piece t q)
    kept e f g = record {
      free = λ no. indented_then all q t (fits g) (k.free (sym f ∙ sym same ∙ no));
      waits = λ yes.
          let w = k.waits (sym f ∙ sym same ∙ yes) in
          waits_then all c r q t (root ∙ e) line w (past_before w.key.mark.line c.cursor.mark.line r w.line past);
    }

    anew : (b : Bool) → in_block c ≡ b
        → d.level ≡ record { context = c.level.context; key = Some (record { mark = c.cursor.mark; place = next q }) }
        → c.key_allowed ≡ true → d.required ≡ has_to_be_key c → Indented all r (with_piece t q)
    anew false b level allowed required =
        kept (root_outer c.level d.level c.outer d.outer s.outer (sym h.keys.0 ∙ b))
        (required ∙ ap (λ x. if x then not c.deeper && (c.indent == c.cursor.mark.col + 1) else c.required) b)
        (λ e _. absurd (cc))
    anew true b level allowed required =
        let others = never_waits all c q (λ e. absurd (none_required all c q (none b) b allowed arrival (k.waits e))) k
        in record {
          free = λ no. indented_then all q t (fits (λ _ _. may_be_right (in_block c) c.deeper c.required c.indent
              c.cursor.mark.col b (sym required ∙ sym same ∙ no) arrival.3 (arrival.0 b))) others;
          waits = λ _. record {
            key = record { mark = c.cursor.mark; place = next q };
            is = root ∙ own_key d (s.outer ∙ none b) ∙ ap (λ (l : Level). l.key) level;
            front = q.places;
            back = bare_place t ∷ [];
            places = refl;
            at = refl;
            indented = others;
            line = line;
            past = past;
          };
        }

    by : IsSaved (next q) c d.level d.required → Indented all r (with_piece t q)
    by (inl (level, allowed, required)) =
        kept (ap (λ m. root_key (m ∷ d.outer)) level ∙ ap (λ ls. root_key (c.level ∷ ls)) s.outer) required (λ b n.
        elim (h.taken.right b allowed arrival.2) [
          | inl i ↦ i
          | inr (inl z) ↦ absurd (let some = arrival.5 in cc)
          | inr (inr other) ↦ absurd ((starts n).1 other.0 other.1)
        ])
    by (inr (level, allowed, required)) = anew (in_block c) refl level allowed required

-- A token that may be a key: from its level to a depth, which its own level's candidate is told of.
pub saved_keys : (all : Enclosures) (e : ℕ) (c : Core) (q : Queue) (t : Piece) (d : Core) → is_quiet t.kind ≡ true
    → IsTrue (is_of_flow_node t.kind t.span) → deeper t.kind t.span 0 ≡ e → LeadsDeeper t (c.level ∷ c.outer) 0 e
    → Begins t → t.span.start ≡ c.cursor.mark → (in_block c ≡ true → c.indent ≤ c.cursor.mark.col + 1)
    → Saved (next q) c d → (c.key_allowed ≡ true
    → IsPast (all_behind (flat q.places) all).begun (in_block c) c.cursor.mark.line)
    → Keys all (next q) q c.indent (c.level ∷ c.outer)
    → KeysFrom all e (next (with_piece t q)) (with_piece t q) d.indent (d.level ∷ d.outer)
saved_keys all e c q t d quiet node depth leads b m deep s past h = by s.level
  where
    more : next (with_piece t q) ≡ next q + 1
    more = next_put t q

    r : Queue
    r = with_piece t q

    of : (l : Level) → d.level ≡ l → KeysFrom all e (next r) r c.indent (l ∷ c.outer)
        → KeysFrom all e (next r) r d.indent (d.level ∷ d.outer)
    of l f k =
        let P : ℕ → Type 0 = λ x. KeysFrom all e (next r) r x (d.level ∷ d.outer) in
        let Q : Level → Type 0 = λ x. KeysFrom all e (next r) r c.indent (x ∷ d.outer) in
        let R : List Level → Type 0 = λ x. KeysFrom all e (next r) r c.indent (l ∷ x) in
        subst P (sym s.indent) (subst Q (sym f) (subst R (sym s.outer) k))

    by : IsSaved (next q) c d.level d.required → KeysFrom all e (next r) r d.indent (d.level ∷ d.outer)
    by (inl (f, _, _)) = of c.level f
        (keys_weaken all e (next q) (next r) r c.indent (c.level ∷ c.outer) (omega (arith, more))
        (keys_put all 0 e (next q) q c.indent (c.level ∷ c.outer) t quiet leads h))
    by (inr (f, allowed, _)) =
        let outers = keys_weaken all 1 (lower (next q) c.level.key) (next q) q c.indent c.outer
        (below_key all 0 (next q) q (is_block c.level.context) c.indent c.level.key h.1) h.2 in
        let own : Key all e (next r) r (is_block c.level.context) c.indent
        (record { mark = c.cursor.mark; place = next q }) = record {
          front = q.places;
          back = [];
          token = t;
          places = refl;
          at = refl;
          below = omega (arith, more);
          marked = m;
          begins = b;
          quiet = (quiet, tt);
          deep = deep;
          inside = (node, depth);
          past = past allowed;
        } in
        of (record { context = c.level.context; key = Some (record { mark = c.cursor.mark; place = next q }) }) f
        (h.0, own, keys_put all 1 (suc e) (next q) q c.indent c.outer t quiet leads.1 outers)

-- ## A candidate turns out to be a key

with_opening_length : (n : ℕ) (o : Opening) (ps : List Place) → length (places_with_opening n o ps) ≡ length ps
with_opening_length n o [] = refl
with_opening_length zero o (p ∷ ps) = refl
with_opening_length (suc n) o (p ∷ ps) = ap suc (with_opening_length n o ps)

next_open : (n : ℕ) (o : Opening) (q : Queue) → next (with_opening n o q) ≡ next q
next_open n o q = ap (λ l. q.handed + l) (with_opening_length (n - q.handed) o q.places)

quiet_column : (o : Opening) (column : ℕ) (opened : Collections) → opens_block o ≡ false
    → column_of o column opened ≡ opened
quiet_column o column opened e = grind arith

pub key_known : (all : Enclosures) (b : ℕ) (q : Queue) (block : Bool) (i : ℕ) (o : Option Candidate) (k : Candidate)
    (ls : List Level) → o ≡ Some k → KeyOf all 0 b q block i o → KeysFrom all 1 (lower b o) q i ls
    → Key all 0 b q block i k × KeysFrom all 1 k.place q i ls
key_known all b q block i o k ls e x y = grind arith

-- a key alone, or in flow with its mapping
pub open_quiet : (e : Enclosure) (outside : Outside) (opened : Setting) (from : Cursor) (c : Core) (q : Queue)
    (k : Candidate) (o : Opening)
    → opens_block o ≡ false → (o ≡ opening.FlowMappingAndKey → in_block c ≡ false) → MayOpen o e
    → (in_block c ≡ true → k.mark.col < c.indent) → c.level.key ≡ Some k
    → HoldsWithin (free e outside) opened from c q
    → HoldsWithin (awaited o k.mark (free e outside)) opened from (forget_key c) (with_opening k.place o q)
open_quiet e outside opened from c q k o f flow m left is h =
    let known = key_known opened.enclosures (next q) q (is_block c.level.context) c.indent c.level.key k c.outer is
    h.keys.1 h.keys.2 in
    let key = known.0 in
    let n = next_open k.place o q in
    let r = with_opening k.place o q in
    record {
      taken = taken_open e outside c (forget_key c) k o key (λ g. absurd (cc)) (λ _ g. left g) flow
          (λ g. some_outer c.outer (sym h.keys.0 ∙ g)) m
          (record { cursor = refl; allowed = refl; levels = refl; adjacent = refl; block = refl })
          (λ l s. rw (quiet_column o k.mark.col l f) s) (λ right. right)
          (by (in_block c) refl known.1) h.taken;
      keys = (
        h.keys.0,
        tt,
        keys_weaken opened.enclosures 1 k.place (next r) r c.indent c.outer (omega (arith, n, key.below))
            (keys_open opened.enclosures 0 (next q) q (is_block c.level.context) c.indent k key 1 k.place c.indent
            c.outer o f
            (omega arith) (omega arith) known.1),
      );
    }
  where
    by : (b : Bool) → in_block c ≡ b → KeysFrom opened.enclosures 1 k.place q c.indent c.outer
        → OpensKey c (forget_key c) k
    by true b outers = inl (own_key c (outermost (free e outside) opened from c q h b) ∙ is, rw b refl)
    by false b outers =
        let some : is_empty_list c.outer ≡ false = sym h.keys.0 ∙ b in inr (
          b,
          record {
            required = rw b refl;
            root = λ _. root_outer c.level (forget_key c).level c.outer c.outer refl some;
            block = refl;
          },
          λ r x. let below = root_below opened.enclosures 1 k.place q c.indent c.outer r outers
              (sym (root_inner c.level c.outer some) ∙ x) in omega (arith, below),
        )

-- a block mapping and a key
pub open_loud : (e : Enclosure) (outside : Outside) (opened : Setting) (from : Cursor) (c : Core) (q : Queue)
    (k : Candidate) → in_block c ≡ true → IsTrue (may_begin_key e) → EndsOnLine k.mark c.cursor
    → c.indent ≤ k.mark.col → BeginsNoNode c.cursor.rest → c.level.key ≡ Some k
    → HoldsWithin (free e outside) opened from c q
    → HoldsWithin (awaited opening.BlockMappingAndKey k.mark (free e outside)) opened from
    (forget_key (enter_block k.mark.col c))
    (with_opening k.place opening.BlockMappingAndKey q)
open_loud e outside opened from c q k b may near right other is h =
    let known = key_known opened.enclosures (next q) q (is_block c.level.context) c.indent c.level.key k c.outer is
    h.keys.1 h.keys.2 in
    let d : Core = forget_key (enter_block k.mark.col c) in
    let r = with_opening k.place opening.BlockMappingAndKey q in
    record {
      taken = taken_open e outside c d k opening.BlockMappingAndKey known.0 (λ _. (b, near, right))
          (λ f. absurd (cc)) (λ f. absurd (cc)) (λ f. absurd (cc)) may
          (record { cursor = refl; allowed = refl; levels = refl; adjacent = refl; block = refl })
          (λ l s. ((refl, s.0), s.1)) (λ _ _ _ _. inr other)
          (inl (own_key c (outermost (free e outside) opened from c q h b) ∙ is, rw b refl)) h.taken;
      keys = no_keys opened.enclosures (next r) r d.indent d.level d.outer refl
          (outermost (free e outside) opened from c q h b) b;
    }

pub further_block : (column : ℕ) (c : Core) → is_further column c ≡ true → in_block c ≡ true
further_block column c e = grind arith

pub further_right : (column : ℕ) (c : Core) → is_further column c ≡ true → c.indent ≤ column
further_right column c e = grind arith
