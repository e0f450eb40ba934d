-- What a colon does.
use Rattle.saphyr_scanner.proofs.Common.{◌≡◌, ℕ, ◌+◌, Bool, true, false, List, [], ◌∷◌, ◌++◌, Option, Some, None, refl, sym, ap, ◌∙◌, arith, inl, inr, ◌≤◌, ◌<◌, ◌⊎◌, colon, is_alpha, is_blank_or_breakz, has_valid_yaml_ws, Marker, Cursor, pass, Context, Opening, by_test, second_is, not-false, not-true}
use Rattle.std.specs.Prelude.{◌-◌, ◌&&◌, ◌||◌, ◌==◌, slice_index, not, nat_lt, nat_le, if◌then◌else◌, IsTrue}
use Rattle.saphyr_scanner.specs.declared.engine.level.Context.TheVariants as context
use Rattle.saphyr_scanner.specs.declared.queue.Opening.TheVariants as opening
use Rattle.saphyr_scanner.specs.Grammar.Tokens as tokens
use Rattle.saphyr_scanner.specs.Steps.Queue.{empty_piece}
use Rattle.saphyr_scanner.specs.Steps.Core.{Core, Action, Step, Open, at_mark, in_block, is_too_far, forget_key, with_key, go_deeper, is_further, enter_block, with_context}
use Rattle.saphyr_scanner.specs.Steps.Level.{Candidate, Level, is_block, begins_pair, behind_colon}
use Rattle.saphyr_scanner.specs.Steps.Passing.{separate, pass_on}
use Rattle.saphyr_scanner.specs.Steps.Value as value
use Rattle.saphyr_scanner.specs.Steps.Fetch as fetching
use Rattle.saphyr_scanner.specs.TokensTaken as taken
use Rattle.saphyr_scanner.specs.TokensTaken.{AreApart, Collections, parts_colon}
use Rattle.saphyr_scanner.specs.TokensInPlace as place
use Rattle.saphyr_scanner.specs.TokensInPlace.{Enclosure, Enclosures, turned_to, behind_pair_colon, may_begin_pair, may_begin_key, with_begun, is_in_brackets, is_at_column, is_near}
use Rattle.saphyr_scanner.proofs.Effects.Moves.{DoesWithin, encloses, and_then, Around, Same, same, same_around, lesser, still_within, right_before}
use Rattle.saphyr_scanner.proofs.Effects.Puts.{empty_reading, IndicatorStands, passes, indicated, quiet_within, block_begins, key_opens, mapping_starts, mapping_opens}
use Rattle.saphyr_scanner.proofs.Effects.Blocks.{allowed_in}
use Rattle.saphyr_scanner.proofs.Effects.Walked.{Premises, Walked, walked_then, walked_map, at_most, Doing, at_reach, separate_walked}
use Rattle.saphyr_scanner.proofs.Reached.{apart_reached}
use Rattle.saphyr_scanner.proofs.Taken.Cores.{by_bool}
use Rattle.saphyr_scanner.proofs.Taken.SavedKeys.{further_block, apart_same}
use Rattle.saphyr_scanner.proofs.Taken.Keys.{IsDeep, IsBehindKey, IsArrival}
use Rattle.saphyr_scanner.proofs.Taken.Bare.{plain_fronts, pair_fronts, entry_same, entry_turned, colon_pair}
use Rattle.saphyr_scanner.proofs.Taken.Indented.{IsRight}
use Rattle.saphyr_scanner.proofs.Taken.Held.{enclosure_of, columns_of, outside_of, enclosures_of, FitsWithin}
use Rattle.saphyr_scanner.proofs.Taken.KeysInPlace.{no_text, Outside, free, in_key}
use Rattle.saphyr_scanner.proofs.Taken.Later.{apart_later, top}
use Rattle.saphyr_scanner.proofs.Taken.Parts.{pair_starts}
use Rattle.saphyr_scanner.proofs.Taken.Places.{Reaches, reaches_reaches, at_here}

-- after the colon, where what is known stays
abbrev Behind : Core → Core → Type 0
Behind c d = Same c d × AreApart (pass 1 c.cursor) d.cursor × (d.key_allowed ≡ c.key_allowed)
    × (c.cursor.mark.col + 1 ≤ d.cursor.mark.col)

tab_walked : (b c : Core) → Reaches c.cursor (pass 1 c.cursor)
    → Walked (Premises b) (Behind c) c.cursor (value.check_tab (pass_on 1 c))
unfolding value.check_tab
tab_walked b c a =
    let P = Walked (Premises b) (Behind c) c.cursor in
    by_test (slice_index (pass 1 c.cursor).rest 0 == 9) _ _ P
    (λ _. walked_then (Premises b) _ (Behind c) c.cursor (separate (pass_on 1 c)) value.refuse_lone_tab
    (separate_walked b c.cursor (pass_on 1 c) (λ _. a))
    (λ x g. by_test (in_block x.1 && not (has_valid_yaml_ws x.0)
    && ((slice_index x.1.cursor.rest 0 == 45) || is_alpha (slice_index x.1.cursor.rest 0))) _ _ P
    (λ _ _. at_reach c.cursor x.1.cursor (reaches_reaches c.cursor (pass 1 c.cursor) x.1.cursor a
    (apart_reached (pass 1 c.cursor).mark (pass 1 c.cursor).rest x.1.cursor.mark x.1.cursor.rest g.1.apart)))
    (λ _. (g.0, g.1.apart, g.2, (let col = ap (λ (m : Marker). m.col) g.1.on_line.4 in omega (arith, col))))))
    (λ _. (same c, taken.nothing (pass 1 c.cursor).mark (pass 1 c.cursor).rest, refl, omega arith))

-- ## What stays alike

same_forgotten : (c d : Core) → Same c d → Same (forget_key c) (forget_key d)
same_forgotten c d s = grind arith

same_blocks : (column : ℕ) (c d : Core) → Same c d → Same (enter_block column c) (enter_block column d)
same_blocks column c d s = grind arith

no_key : (l : Level) → l.key ≡ None → l ≡ record { context = l.context; key = None }
no_key l e = ap (λ k. let m : Level = record { context = l.context; key = k } in m) e

block_same : (c d : Core) → Same c d → in_block d ≡ true → in_block c ≡ true
block_same c d s e = ap (λ (l : Level). is_block l.context) (sym s.0) ∙ e

left_same : (column : ℕ) (c d : Core) → Same c d → is_further column d ≡ false → in_block c ≡ true → column < c.indent
left_same column c d s e b = grind arith

right_same : (column : ℕ) (c d : Core) → Same c d → is_further column d ≡ true → c.indent ≤ column
right_same column c d s e = grind arith

key_same : (c d : Core) (o : Option Candidate) → Same c d → d.level.key ≡ o → c.level.key ≡ o
key_same c d o s e = ap (λ (l : Level). l.key) (sym s.0) ∙ e

-- ## The colon

-- what encloses the tokens after a colon
abbrev behind_value : Enclosures → Enclosures
behind_value all = turned_to (behind_pair_colon all.inner.enclosure) all

-- a blank, a break, NUL or the end follows the colon, or inside flow a flow indicator, or the place for it is kept
abbrev pub IsParted : Core → Type 0
IsParted c = (in_block c ≡ true → is_blank_or_breakz (slice_index c.cursor.rest 1) ≡ true) × (in_block c ≡ false
    → (c.cursor.mark.index ≡ c.adjacent) ⊎ IsTrue (parts_colon (slice_index c.cursor.rest 1)))

-- from e, which comes before the colon, where no key is a candidate
colon_does : {A : Type 0} (within : Enclosures) (e d : Core) (u : Cursor) → slice_index e.cursor.rest 0 ≡ colon
    → IsParted e → AreApart (pass 1 e.cursor) u → Same e d → d.cursor ≡ u → e.level.key ≡ None → (A → IsRight d)
    → (A → FitsWithin within (empty_piece e.cursor.mark tokens.Value))
    → DoesWithin A within (behind_value within) None 1 1 e d (at_mark e.cursor.mark tokens.Value ∷ [])
colon_does within e d u first parted a s there none right fit =
    let later = apart_later (pass 1 e.cursor).mark (pass 1 e.cursor).rest u.mark u.rest a in
    let t = empty_piece e.cursor.mark tokens.Value in
    let r : Core = record e { cursor = u; key_allowed = d.key_allowed } in
    and_then (λ n. n) (quiet_within within 1 e t u e.level d.key_allowed refl none
    (record { quiet = refl; brackets = λ x. refl; depth = λ x. refl; no_node = refl }) none fit
    (λ i. absurd (cc)) refl (plain_fronts t e r refl) (λ p. right_before e d u s there (right p))
    (indicated 58 e u t (record { some = refl; unbroken = refl; is = first }) a
    (omega arith) (omega arith) (omega (arith, later.index)) (λ t b given. (
      t,
      λ f. ap is_blank_or_breakz (second_is e.cursor.rest) ∙ parted.0 (not-false (in_block e) f),
      refl,
      refl,
      λ f. let flows = not-true (in_block e) f in
          elim (parted.1 flows) [
            | inl at ↦ inl (given at flows)
            | inr parts ↦ inr (ap parts_colon (second_is e.cursor.rest) ∙ parts)
          ],
    ))))
    (still_within (behind_value within) r d s there (λ p. (
      (λ a. inl a),
      (λ _. right p),
      entry_same r d s.0 (λ a. a) (apart_same u d.cursor there),
    )))

-- where a key is open the colon is near it
near_colon : (x : Context) (k : Candidate) (m : Marker) → (is_block x && is_too_far (Some k) m) ≡ false
    → begins_pair x ≡ false → IsTrue (is_near (enclosure_of x) k.mark m)
near_colon context.Block k m far e =
    near (nat_lt k.mark.line m.line) (nat_lt 1024 (m.index - k.mark.index)) refl refl far
  where
    near : (a b : Bool) → nat_lt k.mark.line m.line ≡ a → nat_lt 1024 (m.index - k.mark.index) ≡ b
        → (if a then true else b) ≡ false → (nat_le m.line k.mark.line && nat_le m.index (k.mark.index + 1024)) ≡ true
    near a b f g h = grind arith
near_colon context.FlowSequence k m far e = absurd (cc)
near_colon context.FlowPair k m far e = absurd (cc)
near_colon _ k m far e = refl

near_line : (x : Context) (k : Candidate) (m : Marker) → is_block x ≡ true
    → (is_block x && is_too_far (Some k) m) ≡ false → m.line ≤ k.mark.line
near_line x k m b far = grind arith

pair_near : (begins : Bool) (k m : Marker) → (begins && nat_lt k.line m.line) ≡ false → begins ≡ true
    → IsTrue (nat_le m.line k.line)
pair_near begins k m e b = grind arith

-- what encloses the tokens after the colon
behind_alone : (x : Context) → begins_pair x ≡ false
    → enclosure_of (behind_colon x) ≡ behind_pair_colon (enclosure_of x)
behind_alone x e = grind arith

behind_pair : (x : Context) → begins_pair x ≡ true → enclosure_of (behind_colon x) ≡ place.PairValue
behind_pair x e = grind arith

alone_may_begin : (x : Context) → begins_pair x ≡ false → IsTrue (may_begin_key (enclosure_of x))
alone_may_begin x e = grind arith

pair_may_begin : (x : Context) → begins_pair x ≡ true → IsTrue (may_begin_pair (enclosure_of x))
pair_may_begin x e = grind arith

-- What a colon does from c, where it turned the context to that after the colon, and x enclosed the tokens before.
abbrev Valued : Core → Context → Core → Step → Type 0
Valued b x c y =
    DoesWithin (IsArrival b) (free (enclosure_of x) (outside_of c)) (enclosures_of y.core) None 1 5 c y.core y.actions

colon_block : (x : Context) → is_block (behind_colon x) ≡ is_block x
colon_block x = grind arith

-- d is after the colon
record Turned (b : Core) (x : Context) (c d : Core) : Type 0 where
  first : slice_index c.cursor.rest 0 ≡ colon
  parted : IsParted c
  behind : Behind c d
  context : c.level.context ≡ behind_colon x
  near : IsArrival b → (is_block x && is_too_far c.level.key c.cursor.mark) ≡ false
  deep : IsArrival b → IsDeep c
  flows : begins_pair x ≡ true → in_block d ≡ false
  small : IsArrival b → c.cursor.mark.line < top
  key : IsArrival b → IsBehindKey c

turned_encloses : (b : Core) (x : Context) (c d : Core) (e : Enclosure) → Turned b x c d
    → enclosure_of (behind_colon x) ≡ e → enclosures_of d ≡ free e (outside_of c)
turned_encloses b x c d e t f = cc (same_around c d t.behind.0)

-- where a block collection began before
turned_in_block : (b : Core) (x : Context) (c d : Core) (e : Enclosure) (column : ℕ) → Turned b x c d
    → enclosure_of (behind_colon x) ≡ e
    → enclosures_of (enter_block column d) ≡ free e (outside_of (enter_block column c))
turned_in_block b x c d e column t f = grind arith

-- A colon behind a candidate key. The opening of the candidate's place becomes a key, alone or behind a mapping's
-- start: a block mapping begins where the key is right of the indentation (`is_further`), a flow mapping where the key
-- is an entry of a flow sequence (`begins_pair`). Then the colon's token is put (`colon_does`).
key_does : (b c d : Core) (x : Context) (k : Candidate) → Turned b x c d → d.level.key ≡ Some k
    → Walked (Premises b) (Valued b x c) c.cursor (value.value_of_key k (begins_pair x) c.cursor.mark d)
unfolding value.value_of_key
key_does b c d x k t is =
    let s = c.cursor in
    let u = d.cursor in
    let g = t.behind in
    let begins = begins_pair x in
    let own = enclosure_of x in
    let outside = outside_of c in
    let known = key_same c d (Some k) g.0 is in
    let near : begins ≡ false → IsArrival b → IsTrue (is_near own k.mark s.mark) =
    λ e a. near_colon x k s.mark (ap (λ o. is_block x && is_too_far o s.mark) (sym known) ∙ t.near a) e in
    let block_x : in_block c ≡ true → is_block x ≡ true = λ e. sym (colon_block x) ∙ ap is_block (sym t.context) ∙ e in
    let Into : Bool → Core = λ f. record (forget_key (go_deeper (if f then enter_block k.mark.col d else d))) {
      key_allowed = false;
    } in
    let right : IsArrival b → IsRight (Into false) = λ a e _ _.
    let deep = t.deep a (block_same c d g.0 e) in
    let indent = ap (λ (x : Around). x.indent) g.0.1 in inl (omega (arith, deep, indent, g.3)) in
    let right_of_key : IsArrival b → IsRight (Into true) = λ a e _ _.
    let column = t.key a (block_same c d g.0 e) k known in inl (omega (arith, column, g.3)) in
    let From : Bool → Opening → Type 0 = λ f o. DoesWithin (IsArrival b) (free own outside) (enclosures_of (Into f))
    None 1 5 c (Into f) (Open k.place o ∷ at_mark s.mark tokens.Value ∷ []) in
    by_test (begins && nat_lt k.mark.line s.mark.line) _ _ (Walked (Premises b) (Valued b x c) s)
    (λ _ _. at_here s)
    (λ line. by_bool (is_further k.mark.col d)
    (λ f. From f (if begins then opening.FlowMappingAndKey else if f then opening.BlockMappingAndKey else opening.Key))
    (λ f. let inside = further_block k.mark.col d f in
    by_test begins opening.FlowMappingAndKey opening.BlockMappingAndKey (From true)
    (λ e. absurd (let no = t.flows e in cc))
    (λ e. encloses (turned_in_block b x c d (behind_pair_colon own) k.mark.col t (behind_alone x e))
    (and_then (λ n. n) (mapping_opens own c k (block_same c d g.0 inside) (alone_may_begin x e)
    (λ a. (
      near_line x k s.mark (block_x (block_same c d g.0 inside))
          (ap (λ o. is_block x && is_too_far o s.mark) (sym known) ∙ t.near a),
      t.small a,
    ))
    (right_same k.mark.col c d g.0 f) (inr (t.first, t.parted.0 (block_same c d g.0 inside))) known)
    (colon_does (in_key k.mark (free own (outside_of (enter_block k.mark.col c))))
    (forget_key (enter_block k.mark.col c)) (Into true) u t.first t.parted g.1
    (same_forgotten (enter_block k.mark.col c) (enter_block k.mark.col d) (same_blocks k.mark.col c d g.0)) refl refl
    right_of_key (near e)))))
    (λ f. let left = left_same k.mark.col c d g.0 f in
    by_test begins opening.FlowMappingAndKey opening.Key (From false)
    (λ e. encloses (turned_encloses b x c d place.PairValue t (behind_pair x e))
    (at_most (omega arith) (and_then (λ n. n)
    (key_opens own outside c k opening.FlowMappingAndKey refl
    (λ _. ap (λ (l : Level). is_block l.context) (sym g.0.0) ∙ t.flows e) (pair_may_begin x e) left known)
    (colon_does (in_key k.mark (free place.PairKey outside)) (forget_key c) (Into false) u t.first t.parted g.1
    (same_forgotten c d g.0) refl refl right (λ _. pair_near begins k.mark s.mark line e)))))
    (λ e. encloses (turned_encloses b x c d (behind_pair_colon own) t (behind_alone x e))
    (at_most (omega arith) (and_then (λ n. n)
    (key_opens own outside c k opening.Key refl (λ i. absurd (cc)) (alone_may_begin x e) left known)
    (colon_does (in_key k.mark (free own outside)) (forget_key c) (Into false) u t.first t.parted g.1
    (same_forgotten c d g.0) refl refl right (near e)))))))

-- ## Without a key

flow_brackets : (x : Context) → is_block x ≡ false → IsTrue (is_in_brackets (enclosure_of x))
flow_brackets x e = grind arith

or_right : (a b : Bool) → b ≡ true → IsTrue (a || b)
or_right a b e = grind arith

-- the innermost of the open block collections has the column left of the indentation
innermost_column : (column i : ℕ) (is : List ℕ) → i ≡ column + 1 → is_at_column column (columns_of i is) ≡ true
innermost_column column i is e = grind arith

-- where no block collection begins outside brackets the colon is at the column of the innermost
alone_fits : (b : Core) (x : Context) (c d : Core) (e : Enclosure) → Turned b x c d
    → (is_block x ≡ false → IsTrue (is_in_brackets e)) → is_further c.cursor.mark.col d ≡ false → IsDeep c
    → IsTrue (is_in_brackets e || is_at_column c.cursor.mark.col (outside_of c).columns)
alone_fits b x c d e t bracketed f deep = grind arith

-- A colon without a key before it. `value` puts its token, behind the start of a block mapping where the colon is
-- right of the indentation. In a flow sequence the start of a pair comes first (`pair_begins`).
alone_does : (b c d : Core) (x : Context) → Turned b x c d → d.level.key ≡ None
    → Walked (Premises b) (Valued b x c) c.cursor (value.value_alone (begins_pair x) c.cursor.mark d)
unfolding value.value_alone value.opening_actions
alone_does b c d x t none =
    let s = c.cursor in
    let u = d.cursor in
    let g = t.behind in
    let own = enclosure_of x in
    let outside = outside_of c in
    let column = s.mark.col in
    let Into : Bool → Core = λ f. record (go_deeper (if f then enter_block column d else d)) {
      key_allowed = in_block d;
    } in
    let Starts : Bool → List Action = λ f. (if f then at_mark s.mark tokens.BlockMappingStart ∷ [] else [])
    ++ at_mark s.mark tokens.Value ∷ [] in
    let further = is_further column d in
    let free_key : c.level.key ≡ None = key_same c d None g.0 none in
    let value : (in_block d && not d.key_allowed) ≡ false → (e : Enclosure)
    → enclosure_of (behind_colon x) ≡ behind_pair_colon e → (is_block x ≡ false → IsTrue (is_in_brackets e))
    → DoesWithin (IsArrival b) (free e outside) (enclosures_of (Into further)) None 1 4 c (Into further)
    (Starts further) = λ w e same bracketed. by_bool further
    (λ f. DoesWithin (IsArrival b) (free e outside) (enclosures_of (Into f)) None 1 4 c (Into f) (Starts f))
    (λ f. let r = same_blocks column c d g.0 in
    let allowed = sym g.2 ∙ allowed_in (in_block d) d.key_allowed w (further_block column d f) in
    encloses (turned_in_block b x c d (behind_pair_colon e) column t same) (and_then (λ n. n)
    (block_begins e c c.required tokens.BlockMappingStart place.BlockMapping mapping_starts allowed t.small
    (λ _. free_key) (λ r. r) (block_same c d g.0 (further_block column d f)) (right_same column c d g.0 f)
    (ap taken.begins_text t.first))
    (colon_does (with_begun place.BlockMapping (free e (outside_of (enter_block column c))))
    (with_key None (enter_block column c)) (Into true) u t.first t.parted g.1 (
      no_key d.level none ∙ ap (λ (l : Level). record { context = l.context; key = None }) g.0.0,
      r.1,
      r.2,
      r.3,
    ) refl refl (λ _ b f. absurd (cc))
    (λ _. or_right (is_in_brackets e) (is_at_column column (outside_of (enter_block column c)).columns)
    (innermost_column column (column + 1) (c.indent ∷ c.outer_indents) refl)))))
    (λ f. encloses (turned_encloses b x c d (behind_pair_colon e) t same) (at_most (omega arith)
    (colon_does (free e outside) c (Into false) u t.first t.parted g.1 g.0 refl free_key (λ _ b f. absurd (cc))
    (λ a. alone_fits b x c d e t bracketed f (t.deep a))))) in
    by_test (in_block d && not d.key_allowed) _ _ (Walked (Premises b) (Valued b x c) s) (λ _ _. at_here s)
    (λ w. by_bool (begins_pair x)
    (λ f. DoesWithin (IsArrival b) (free own outside) (enclosures_of (Into further)) None 1 5 c (Into further)
    ((if f then at_mark s.mark tokens.FlowMappingStart ∷ [] else []) ++ Starts further))
    (λ e. and_then (λ n. n)
    (pair_begins own outside c free_key (ap (λ (l : Level). is_block l.context) (sym g.0.0) ∙ t.flows e)
    (pair_may_begin x e) (ap begins_pair t.context ∙ colon_pair x ∙ e) t.first)
    (value w place.PairKey (behind_pair x e) (λ _. refl)))
    (λ e. at_most (omega arith) (value w own (behind_alone x e) (flow_brackets x))))
  where
    pair_begins : (e : Enclosure) (outside : Outside) (c : Core) → c.level.key ≡ None → in_block c ≡ false
        → IsTrue (may_begin_pair e) → begins_pair c.level.context ≡ true → slice_index c.cursor.rest 0 ≡ colon
        → DoesWithin (IsArrival b) (free e outside) (free place.PairKey outside) None 0 1 c c
        (at_mark c.cursor.mark tokens.FlowMappingStart ∷ [])
    pair_begins e outside c none flows may pair first =
        let t = empty_piece c.cursor.mark tokens.FlowMappingStart in
        let no = no_text c.cursor.mark.index in
        and_then (λ n. n) (encloses (rw no refl)
        (quiet_within (free e outside) 0 c t c.cursor c.level c.key_allowed refl none (record {
          quiet = refl;
          brackets = λ x. ap (λ (y : Collections). y.brackets) (pair_starts c.cursor.mark x);
          depth = λ x. rw no refl;
          no_node = no;
        }) none (λ _. rw no may) (λ i. absurd (cc)) refl (pair_fronts t.span c c (pair, none) first)
        (λ _ b. absurd (let no = flows in cc))
        (empty_reading c tokens.FlowMappingStart (λ _. inr (refl, inl refl, refl)))))
        (still_within (free place.PairKey outside) c c (same c) refl (λ _. ((λ a. inl a), (λ h. h), λ front h. h)))

either_does : (b c d : Core) (x : Context) (o : Option Candidate) → d.level.key ≡ o → Turned b x c d
    → Walked (Premises b) (Valued b x c) c.cursor (value.behind_key o (begins_pair x) c.cursor.mark d)
unfolding value.behind_key
either_does b c d x (Some k) e t = key_does b c d x k t e
either_does b c d x None e t = alone_does b c d x t e

pair_flows : (x : Context) → begins_pair x ≡ true → is_block (behind_colon x) ≡ false
pair_flows x e = grind arith

-- What a colon does. The setting turns to what is behind a colon, a tab may be refused there, and then it depends on
-- the candidate: behind a key its tokens are filled in, else the colon stands alone (`either_does`). The turned
-- setting encloses what the one before does (`lesser`), so what is shown of it holds of the colon's own.
pub value_does : (c : Core) → slice_index c.cursor.rest 0 ≡ colon → IsParted c
    → Walked (Premises c) (Doing None c) c.cursor (value.value_steps c)
unfolding value.value_steps
value_does c first parted =
    let x = c.level.context in
    let v : Core = with_context (behind_colon x) c in
    let stands : IndicatorStands 58 c.cursor = record { some = refl; unbroken = refl; is = first } in
    walked_then (Premises c) (Behind v) (Doing None c) c.cursor (value.check_tab (pass_on 1 v)) _
    (tab_walked c v (passes 58 c.cursor stands)) (λ d g.
    walked_map (Premises c) (Valued c x v) (Doing None c) c.cursor _
    (λ y k. and_then (λ n. n)
    (lesser (enclosures_of c) c v (record { block = colon_block x; key = inl refl }) refl (λ n. n)
    (taken.nothing c.cursor.mark c.cursor.rest) (λ _. (
      (λ a. inl a),
      (λ h b. h (sym (colon_block x) ∙ b)),
      entry_turned c v (λ b. sym (colon_pair x) ∙ b) refl (λ a. a) (taken.nothing c.cursor.mark c.cursor.rest),
    ))
    (record { required = refl; key = λ _ _. refl })) k)
    (either_does c v d x d.level.key refl (record {
      first = first;
      parted = ((λ e. parted.0 (sym (colon_block x) ∙ e)), λ e. parted.1 (sym (colon_block x) ∙ e));
      behind = g;
      context = refl;
      near = λ a. a.1;
      deep = λ a e. a.0 (sym (colon_block x) ∙ e);
      flows = λ e. ap (λ (l : Level). is_block l.context) g.0.0 ∙ pair_flows x e;
      small = λ a. a.2;
      key = λ a e. a.4 (sym (colon_block x) ∙ e);
    })))

pub flow_value_does : (second : ℕ) (c : Core) → slice_index c.cursor.rest 0 ≡ colon → IsParted c
    → Walked (Premises c) (Doing None c) c.cursor (fetching.flow_value_steps second c)
unfolding fetching.flow_value_steps
flow_value_does second c first parted =
    by_test (not (c.cursor.mark.index == c.adjacent) && ((second == 91) || (second == 123))) _ _
    (Walked (Premises c) (Doing None c) c.cursor) (λ _ _. at_here c.cursor) (λ _. value_does c first parted)
