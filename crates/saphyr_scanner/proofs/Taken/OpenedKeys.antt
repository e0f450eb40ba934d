-- Candidates stay so where something comes before a token.
use Rattle.saphyr_scanner.proofs.Common.{◌≡◌, ℕ, zero, suc, ◌+◌, ◌-◌, ◌≤◌, ◌<◌, Bool, true, false, List, [], ◌∷◌, ◌++◌, length, drop, Option, Some, None, refl, sym, ap, ◌∙◌, arith, subst, nat_lt, Marker, Cursor, Opening, Piece, ltb-false}
use Rattle.saphyr_scanner.specs.declared.queue.Opening.TheVariants as opening
use Rattle.saphyr_scanner.specs.Steps.Queue.{Place, Queue, bare_place, places_with_opening, with_opening}
use Rattle.saphyr_scanner.specs.Steps.Core.{Core, in_block}
use Rattle.saphyr_scanner.specs.Steps.Level.{Candidate, Level, is_block}
use Rattle.saphyr_scanner.specs.TokensInPlace.{Enclosure, Enclosures, may_stand, AreInPlace, is_indented, AreIndented, Begun, with_begun, OtherFront, AreBare}
use Rattle.saphyr_scanner.specs.TokensTaken.{Collections, AreApart, AreTokens, least_column_in, IsAtColumn}
use Rattle.saphyr_scanner.proofs.Leads.{flat, place_pieces}
use Rattle.saphyr_scanner.proofs.Taken.InPlace.{all_behind, behind_append, each_append, each_parts, AreInside, inside_append, inside_parts, inside_shift, node_carried, node_taken}
use Rattle.saphyr_scanner.proofs.Taken.KeysInPlace.{awaited, MayOpen, Outside, free, opened_in_place, calm, IsPast, EndsOn}
use Rattle.saphyr_scanner.proofs.Taken.Indented.{IsRight, root_key, OpensKey, indented_open}
use Rattle.saphyr_scanner.proofs.Taken.Bare.{fronts, fronts_append, bare_append, bare_parts, bare_opened, agrees_all, IsEntry}
use Rattle.saphyr_scanner.proofs.Taken.Later.{top, apart_later}
use Rattle.saphyr_scanner.proofs.Taken.Parts.{open_all, open_append, AreQuiet, quiet_columns, same_brackets, with_opening_there, with_opening_behind, opens_block, column_of, place_tokens, place_open, EndsOnLine}
use Rattle.saphyr_scanner.proofs.Queues.{flat_append, place_with_front}
use Rattle.saphyr_scanner.proofs.Taken.Held.{stack_indent, Stands, Setting, KeepsPlace, keeps_further, TakenWithin}
use Rattle.saphyr_scanner.proofs.Taken.Keys.{Key, KeyOf, lower, KeysFrom}

-- ## What comes before a token

quiet_opened : (n : ℕ) (o : Opening) (ps : List Place) → opens_block o ≡ false → AreQuiet (flat ps)
    → AreQuiet (flat (places_with_opening n o ps))
quiet_opened n o [] e h = tt
quiet_opened zero o (p ∷ ps) e h = now o e (own p.opening h)
  where
    own : (w : Opening) → AreQuiet (place_pieces w p.piece ++ flat ps) → AreQuiet (p.piece ∷ flat ps)
    own w x = grind arith

    now : (w : Opening) → opens_block w ≡ false → AreQuiet (p.piece ∷ flat ps)
        → AreQuiet (place_pieces w p.piece ++ flat ps)
    now w f x = grind arith
quiet_opened (suc n) o (p ∷ ps) e h = further p.opening h (λ x. quiet_opened n o ps e x)
  where
    further : (w : Opening) → AreQuiet (place_pieces w p.piece ++ flat ps)
        → (AreQuiet (flat ps) → AreQuiet (flat (places_with_opening n o ps)))
        → AreQuiet (place_pieces w p.piece ++ flat (places_with_opening n o ps))
    further w x go = grind arith

-- the places after one that is further in front than another
behind_front : (front other : List Place) (p r : Place) (back rest : List Place)
    → other ++ r ∷ rest ≡ front ++ p ∷ back → length other < length front
    → (mid : List Place) × (rest ≡ mid ++ p ∷ back) × (length front ≡ length other + suc (length mid))
behind_front [] other p r back rest e l = absurd (omega (arith, l))
behind_front (f ∷ front) [] p r back rest e l = (front, ap (drop 1) e, omega arith)
behind_front (f ∷ front) (g ∷ other) p r back rest e l =
    let m = behind_front front other p r back rest (ap (drop 1) e) (omega (arith, l)) in
    (m.0, m.1, omega (arith, m.2))

-- a candidate of an inner level turns out to be a key
key_open : (all : Enclosures) (d a : ℕ) (q : Queue) (block : Bool) (i : ℕ) (k : Candidate) → Key all d a q block i k
    → (e b : ℕ) (outside : Bool) (j : ℕ) (o : Option Candidate) (w : Opening) → opens_block w ≡ false
    → b ≤ k.place → d < e → KeyOf all e b q outside j o → KeyOf all e b (with_opening k.place w q) outside j o
key_open all d a q block i k z e b outside j None w f h deep x = tt
key_open all d a q block i k z e b outside j (Some o) w f h deep x =
    let r = behind_front z.front x.front (bare_place z.token) (bare_place x.token) z.back x.back
    (sym x.places ∙ z.places) (omega (arith, x.at, z.at, x.below, h)) in
    let mid = r.0 in
    let there : places_with_opening (length mid) w x.back ≡ mid ++ place_with_front w z.token ∷ z.back =
    ap (λ l. places_with_opening (length mid) w l) r.1 ∙ with_opening_there w mid (bare_place z.token) z.back in
    let P : List Piece → Type 0 = λ l. AreInside 0 (x.token ∷ l) e in
    let front = flat mid in
    let before = subst P (ap flat r.1 ∙ flat_append mid (bare_place z.token ∷ z.back)) x.inside in
    let parts = inside_parts (x.token ∷ front) (z.token ∷ flat z.back) 0 e before in
    let some : e ≡ parts.0 + d = inside_shift (z.token ∷ flat z.back) parts.0 0 d e z.inside
    (at_depth (parts.0) (z.token ∷ flat z.back) e parts.2) in
    record {
      front = x.front;
      back = places_with_opening (length mid) w x.back;
      token = x.token;
      places = ap (λ n. places_with_opening n w q.places) (omega (arith, z.at, r.2))
          ∙ ap (places_with_opening (length x.front + suc (length mid)) w) x.places
          ∙ with_opening_behind w x.front (length mid) (bare_place x.token) x.back;
      at = x.at;
      below = x.below;
      marked = x.marked;
      begins = x.begins;
      quiet = (x.quiet.0, quiet_opened (length mid) w x.back f x.quiet.1);
      deep = x.deep;
      past = x.past;
      inside = subst P (sym (ap flat there ∙ flat_append mid (place_with_front w z.token ∷ z.back)))
          (inside_append (x.token ∷ front) (place_pieces w z.token ++ flat z.back) 0 parts.0 e parts.1
          (opened_at parts.0 (omega (arith, some, deep)) parts.2));
    }
  where
    at_depth : (m : ℕ) (ps : List Piece) (c : ℕ) → AreInside m ps c → AreInside (m + 0) ps c
    at_depth m ps c y =
        let same : m + 0 ≡ m = omega arith in subst (λ n. AreInside n ps c) (sym same) y

    opened_at : (m : ℕ) → 0 < m → AreInside m (z.token ∷ flat z.back) e
        → AreInside m (place_pieces w z.token ++ flat z.back) e
    opened_at m l y = grind arith

pub below_key : (all : Enclosures) (d b : ℕ) (q : Queue) (block : Bool) (i : ℕ) (k : Option Candidate)
    → KeyOf all d b q block i k → lower b k ≤ b
below_key all d b q block i k x = grind arith

pub keys_open : (all : Enclosures) (d a : ℕ) (q : Queue) (block : Bool) (i : ℕ) (k : Candidate)
    → Key all d a q block i k → (e b j : ℕ) (ls : List Level) (w : Opening) → opens_block w ≡ false → b ≤ k.place
    → d < e → KeysFrom all e b q j ls → KeysFrom all e b (with_opening k.place w q) j ls
keys_open all d a q block i k z e b j [] w f h deep x = tt
keys_open all d a q block i k z e b j (l ∷ ls) w f h deep x =
    let n = below_key all e b q (is_block l.context) j l.key x.1 in (
      x.0,
      key_open all d a q block i k z e b (is_block l.context) j l.key w f h deep x.1,
      keys_open all d a q block i k z (suc e) (lower b l.key) j ls w f (omega (arith, n, h)) (omega (arith, deep)) x.2,
    )

-- the candidate outside flow is before those inside
pub root_below : (all : Enclosures) (d b : ℕ) (q : Queue) (i : ℕ) (ls : List Level) (r : Candidate)
    → KeysFrom all d b q i ls → root_key ls ≡ Some r → r.place < b
root_below all d b q i [] r x e = absurd (cc)
root_below all d b q i (l ∷ []) r x e = let k = rw e at x.1 in k.below
root_below all d b q i (l ∷ m ∷ ls) r x e =
    let low = below_key all d b q (is_block l.context) i l.key x.1 in
    let first = root_below all (suc d) (lower b l.key) q i (m ∷ ls) r x.2 e in omega (arith, low, first)

-- The tokens after a candidate of the innermost level leave its enclosures as they are, and those after the key's
-- start await its colon.
record InPlaceOpened (e : Enclosure) (outside : Outside) (all : Enclosures) (o : Opening) (front : List Place)
    (t : Piece) (back : List Place) : Type 0 where
  in_place : AreInPlace all (flat (front ++ place_with_front o t ∷ back))
  behind : calm (all_behind (flat (front ++ place_with_front o t ∷ back)) all) ≡ awaited o t.span.start (free e outside)
  begun : (all_behind (flat (front ++ place_with_front o t ∷ back)) all).begun
      ≡ (all_behind (flat (front ++ bare_place t ∷ back)) all).begun
  indented : AreIndented all (flat front) → AreIndented all (flat (front ++ place_with_front o t ∷ back))

calm_awaited : (o : Opening) (m : Marker) (e : Enclosure) (outside : Outside) (last : Begun)
    → calm (with_begun last (free e outside)) ≡ free e outside
    → calm (with_begun last (awaited o m (free e outside))) ≡ awaited o m (free e outside)
calm_awaited o m e outside last h = grind arith

-- A candidate's place is filled in the middle of the queue. The queue is cut in three: the tokens in front, which
-- don't change; the candidate's own, of which `opened_in_place` says all; and those behind it. Then the parts are put
-- together again (`each_append`, `behind_append`).
place_in_place : (e : Enclosure) (outside : Outside) (all : Enclosures) (o : Opening) (front : List Place)
    (t : Piece) (back : List Place) → MayOpen o e
    → (o ≡ opening.BlockMappingAndKey → IsPast (all_behind (flat front) all).begun true t.span.start.line)
    → AreQuiet (t ∷ flat back) → AreInside 0 (t ∷ flat back) 0 → AreInPlace all (flat (front ++ bare_place t ∷ back))
    → calm (all_behind (flat (front ++ bare_place t ∷ back)) all) ≡ free e outside
    → InPlaceOpened e outside all o front t back
place_in_place e outside all o front t back m past quiet inside h i =
    let P : List Piece → Type 0 = λ l. AreInPlace all l in
    let mid = all_behind (flat front) all in
    let parts = each_parts may_stand (flat front) (t ∷ flat back) all
    (subst P (flat_append front (bare_place t ∷ back)) h) in
    let takes = node_taken t (flat back) 0 mid inside parts.1 in
    let stays = node_carried t (flat back) mid.begun mid.begun mid mid takes quiet inside parts.1 in
    let here : mid ≡ with_begun mid.begun (free e outside) = ap (with_begun mid.begun)
    (sym (ap calm (ap (λ l. all_behind l all) (flat_append front (bare_place t ∷ back))
    ∙ behind_append (flat front) (t ∷ flat back) all ∙ stays.before)) ∙ i) in
    let Q : Enclosures → Type 0 = λ x. AreInPlace x (t ∷ flat back) in
    let now = opened_in_place o t (flat back) mid.begun e outside m takes past quiet inside (subst Q here parts.1) in
    let same = flat_append front (place_with_front o t ∷ back) in
    let ends : all_behind (flat (front ++ bare_place t ∷ back)) all ≡ with_begun now.last (free e outside) =
    ap (λ l. all_behind l all) (flat_append front (bare_place t ∷ back))
    ∙ behind_append (flat front) (t ∷ flat back) all ∙ ap (all_behind (t ∷ flat back)) here ∙ now.before in
    let then : all_behind (flat (front ++ place_with_front o t ∷ back)) all
    ≡ with_begun now.last (awaited o t.span.start (free e outside)) =
    ap (λ l. all_behind l all) same ∙ behind_append (flat front) (place_pieces o t ++ flat back) all
    ∙ ap (all_behind (place_pieces o t ++ flat back)) here ∙ now.behind in
    record {
      in_place = subst P (sym same) (each_append may_stand (flat front) (place_pieces o t ++ flat back) all parts.0
          (subst (λ x. AreInPlace x (place_pieces o t ++ flat back)) (sym here) now.in_place));
      behind = ap calm then ∙ calm_awaited o t.span.start e outside now.last (sym (ap calm ends) ∙ i);
      begun = ap (λ (x : Enclosures). x.begun) then ∙ sym (ap (λ (x : Enclosures). x.begun) ends);
      indented = λ k. subst (λ l. AreIndented all l) (sym same)
          (each_append is_indented (flat front) (place_pieces o t ++ flat back) all k
          (subst (λ x. AreIndented x (place_pieces o t ++ flat back)) (sym here) now.indented));
    }

no_nothing : (o : Opening) (e : Enclosure) → o ≡ opening.Nothing → MayOpen o e → ⊥
no_nothing o e g m = grind arith

column_ends_json : (o : Opening) (column : ℕ) (opened : Collections)
    → (column_of o column opened).ends_json ≡ opened.ends_json
column_ends_json o column opened = grind arith

-- nothing is passed, and no flow collection is entered or left
pub record Unmoved (c d : Core) : Type 0 where
  pub cursor : d.cursor ≡ c.cursor
  pub allowed : d.key_allowed ≡ c.key_allowed
  pub levels : length d.outer ≡ length c.outer
  pub adjacent : d.adjacent ≡ c.adjacent
  pub block : in_block d ≡ in_block c

-- the tokens, where a candidate of the innermost level turns out to be a key
pub taken_open : {opened : Setting} {from : Cursor} {q : Queue} {b : ℕ} (e : Enclosure) (outside : Outside)
    (c d : Core) (k : Candidate) (o : Opening) → Key opened.enclosures 0 b q (in_block c) c.indent k
    → (opens_block o ≡ true → (in_block c ≡ true) × EndsOnLine k.mark c.cursor × (c.indent ≤ k.mark.col))
    → (opens_block o ≡ false → in_block c ≡ true → k.mark.col < c.indent)
    → (o ≡ opening.FlowMappingAndKey → in_block c ≡ false) → (in_block c ≡ false → 0 < length c.outer)
    → MayOpen o e → Unmoved c d
    → ((open_now : Collections) → Stands open_now c → Stands (column_of o k.mark.col open_now) d)
    → (IsRight c → IsRight d) → OpensKey c d k → TakenWithin (free e outside) opened from c q
    → TakenWithin (awaited o k.mark (free e outside)) opened from d (with_opening k.place o q)
taken_open {opened} {from} {q} e outside c d k o x block left flow outer m unmoved s on opens h =
    let n : k.place - q.handed ≡ length x.front = omega (arith, x.at) in
    let now : (with_opening k.place o q).places ≡ x.front ++ place_with_front o x.token ∷ x.back =
    cc (with_opening_there o x.front (bare_place x.token) x.back) in
    let quiet : opens_block o ≡ true → AreQuiet (x.token ∷ flat x.back) = λ _. x.quiet in
    let P : List Place → Type 0 = λ l. AreTokens opened.collections (flat l) from h.last in
    let Q : List Place → Type 0 = λ l. Stands (open_all (flat l) opened.collections) d in
    let S : List Place → Type 0 = λ l. Stands (open_all (flat l) opened.collections) c in
    let column : x.token.span.start.col ≡ k.mark.col = ap (λ (m : Marker). m.col) x.marked in
    let now_open = open_all (flat x.front) opened.collections in
    let same : open_all (flat q.places) opened.collections ≡ open_all (x.token ∷ flat x.back) now_open =
    ap (λ l. open_all (flat l) opened.collections) x.places
    ∙ ap (λ l. open_all l opened.collections) (flat_append x.front (bare_place x.token ∷ x.back))
    ∙ open_append (flat x.front) (x.token ∷ flat x.back) opened.collections in
    let indent : in_block c ≡ true → least_column_in now_open.columns ≡ c.indent =
    λ g. ap least_column_in (sym (quiet_columns (x.token ∷ flat x.back) now_open x.quiet)
    ∙ ap (λ (y : Collections). y.columns) (sym same))
    ∙ stack_indent (open_all (flat q.places) opened.collections).columns c.indent c.outer_indents h.stands.0 in
    let further : opens_block o ≡ true → least_column_in now_open.columns ≤ x.token.span.start.col =
    λ g. let i = indent (block g).0 in let r = (block g).2 in omega (arith, i, r, column) in
    let brackets : now_open.brackets ≡ length c.outer =
    let b = same_brackets (x.token ∷ flat x.back) now_open 0 0 (omega arith) x.inside in
    let n = ap (λ (y : Collections). y.brackets) same in
    omega (arith, b, n, h.stands.1) in
    let by : (b : Bool) → in_block c ≡ b → opens_block o ≡ false → nat_lt 0 now_open.brackets ≡ false
    → IsAtColumn (least_column_in now_open.columns) x.token.span.start = λ b g. elim b as
    (λ y. in_block c ≡ y → opens_block o ≡ false → nat_lt 0 now_open.brackets ≡ false
    → IsAtColumn (least_column_in now_open.columns) x.token.span.start) [
      | true ↦ λ e n z. let i = indent e in let l = left n e in let w = x.deep e in omega (arith, i, l, w, column)
      | false ↦ λ e n z. absurd (let some = outer e in let none = ltb-false 0 now_open.brackets z in
          omega (arith, some, none, brackets))
    ] g in
    let on_line : opens_block o ≡ true → EndsOnLine x.token.span.start h.last = λ g.
    let last = (apart_later h.last.mark h.last.rest c.cursor.mark c.cursor.rest h.apart).kept (block g).1.1 in
    let start = ap (λ (m : Marker). m.line) x.marked in (
      omega (arith, last, start, (block g).1.0),
      omega (arith, last, (block g).1.1),
    ) in
    let all = place_tokens opened.collections o x.front x.token x.back from h.last x.begins quiet
    on_line further x.inside (by (in_block c) refl) (subst P x.places h.tokens) in
    let stands_now = s (open_all (flat (x.front ++ bare_place x.token ∷ x.back)) opened.collections)
    (subst S x.places h.stands) in
    let is : open_all (flat (x.front ++ place_with_front o x.token ∷ x.back)) opened.collections
    ≡ column_of o k.mark.col (open_all (flat (x.front ++ bare_place x.token ∷ x.back)) opened.collections) =
    place_open opened.collections o x.front x.token x.back quiet
    ∙ ap (λ j. column_of o j (open_all (flat (x.front ++ bare_place x.token ∷ x.back)) opened.collections)) column in
    let now_begun = (all_behind (flat x.front) opened.enclosures).begun in
    let past : (y : Bool) → in_block c ≡ y → IsPast now_begun y x.token.span.start.line = λ y g.
    subst (λ z. IsPast now_begun z x.token.span.start.line) g
    (subst (λ (j : Marker). IsPast now_begun (in_block c) j.line) (sym x.marked) x.past) in
    let bare_before = bare_parts (flat x.front) (x.token ∷ flat x.back) opened.front
    (subst (AreBare opened.front) (ap flat x.places ∙ flat_append x.front (bare_place x.token ∷ x.back)) h.bare) in
    let bare_now = bare_opened o x.token (flat x.back) (fronts (flat x.front) opened.front) now_begun
    x.token.span.start.line (λ g. no_nothing o e g m) (λ g. past false (flow g))
    (agrees_all (flat x.front) opened.front opened.enclosures h.agrees) x.inside bare_before.1 in
    let pieces : flat (with_opening k.place o q).places ≡ flat x.front ++ (place_pieces o x.token ++ flat x.back) =
    ap flat now ∙ flat_append x.front (place_with_front o x.token ∷ x.back) in
    let front : fronts (flat (with_opening k.place o q).places) opened.front ≡ OtherFront =
    ap (λ l. fronts l opened.front) pieces
    ∙ fronts_append (flat x.front) (place_pieces o x.token ++ flat x.back) opened.front ∙ bare_now.ends in
    let places = place_in_place e outside opened.enclosures o x.front x.token x.back m
    (λ g. past true (block (ap opens_block g)).0) x.quiet x.inside
    (subst (λ l. AreInPlace opened.enclosures (flat l)) x.places h.in_place)
    (ap (λ l. calm (all_behind (flat l) opened.enclosures)) (sym x.places) ∙ h.encloses) in
    let begun : (all_behind (flat (with_opening k.place o q).places) opened.enclosures).begun
    ≡ (all_behind (flat q.places) opened.enclosures).begun =
    ap (λ l. (all_behind (flat l) opened.enclosures).begun) now ∙ places.begun
    ∙ ap (λ l. (all_behind (flat l) opened.enclosures).begun) (sym x.places) in
    let R : Cursor → Type 0 = λ u. AreApart h.last u in
    record {
      last = h.last;
      tokens = subst P (sym now) all;
      apart = subst R (sym unmoved.cursor) h.apart;
      stands = subst Q (sym now) (subst (λ (l : Collections). Stands l d) (sym is) stands_now);
      in_place = subst (λ l. AreInPlace opened.enclosures (flat l)) (sym now) places.in_place;
      encloses = ap (λ l. calm (all_behind (flat l) opened.enclosures)) now ∙ places.behind
          ∙ ap (λ i. awaited o i (free e outside)) x.marked;
      place = subst (λ b. KeepsPlace b d) (ap (λ l. (open_all (flat l) opened.collections).ends_json) x.places
          ∙ sym (column_ends_json o k.mark.col (open_all (flat (x.front ++ bare_place x.token ∷ x.back))
          opened.collections)) ∙ ap (λ (y : Collections). y.ends_json) (sym is)
          ∙ ap (λ l. (open_all (flat l) opened.collections).ends_json) (sym now))
          (keeps_further (open_all (flat q.places) opened.collections).ends_json c d
          (omega (arith, ap (λ (u : Cursor). u.mark.index) unmoved.cursor)) unmoved.adjacent unmoved.levels
          h.place);
      small = h.small;
      indented = indented_open opened.enclosures c d q (with_opening k.place o q) k x.front x.back
          (bare_place x.token) (place_with_front o x.token) x.places now refl x.at
          (λ l. subst (λ ps. AreIndented opened.enclosures (flat ps)) (sym now) (places.indented l))
          (let line = ap (λ (u : Cursor). u.mark.line) unmoved.cursor in omega (arith, line)) opens h.indented;
      right = on h.right;
      ends = subst (λ g. EndsOn g h.last.mark.line) (sym begun) h.ends;
      past = λ i small. subst (λ g. IsPast g (in_block d) d.cursor.mark.line) (sym begun) (subst
          (λ (u : Cursor). IsPast (all_behind (flat q.places) opened.enclosures).begun (in_block d) u.mark.line)
          (sym unmoved.cursor) (subst
          (λ z. IsPast (all_behind (flat q.places) opened.enclosures).begun z c.cursor.mark.line)
          (sym unmoved.block)
          (h.past (sym unmoved.allowed ∙ i) (subst (λ (u : Cursor). u.mark.line < top) unmoved.cursor small))));
      bare = subst (AreBare opened.front) (sym pieces) (bare_append (flat x.front)
          (place_pieces o x.token ++ flat x.back) opened.front bare_before.0 bare_now.bare);
      agrees = h.agrees;
      entry = subst (λ y. IsEntry y d) (sym front) tt;
    }
