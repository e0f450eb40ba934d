-- What is passed up to where the next token begins is separation, or the text's end.
use Rattle.saphyr_scanner.proofs.Common.{◌≡◌, ℕ, ◌+◌, ◌-◌, ◌^◌, ◌≤◌, ◌<◌, ◌⊎◌, Bool, true, false, List, ◌∷◌, length, Option, Some, None, Result, Ok, Err, refl, sym, ap, ◌∙◌, arith, subst, inl, inr, IsTrue, ◌&&◌, slice_index, not, is_z, Refusal, Cursor, start_cursor, ◌>>=◌, by_test, and_false, Given, not-true, le-ltb}
use Rattle.saphyr_scanner.specs.Steps.Queue.{Queue, next}
use Rattle.saphyr_scanner.specs.Steps.Core.{Core, in_block, is_too_far, forget_key, drop_far_key}
use Rattle.saphyr_scanner.specs.Steps.Level.{Candidate, Level, is_block}
use Rattle.saphyr_scanner.specs.Steps.Gap as gaps
use Rattle.saphyr_scanner.specs.Steps.Passing.{pass_gap, check_comment, behind_gap}
use Rattle.saphyr_scanner.specs.Steps.State.{State, on_core, with_core}
use Rattle.saphyr_scanner.specs.Steps.Unrolling.{unroll, end_blocks, is_right_of, go_less_deep}
use Rattle.saphyr_scanner.specs.Steps.Fetch.{arrive}
use Rattle.saphyr_scanner.specs.TokensTaken as taken
use Rattle.saphyr_scanner.specs.TokensTaken.{AreApart, begins_text}
use Rattle.saphyr_scanner.specs.TokensInPlace.{Enclosures}
use Rattle.saphyr_scanner.proofs.Blocks.{none_ends, unrolled_cursor, blocks_cursor, go_less_deep_cursor}
use Rattle.saphyr_scanner.proofs.Taken.Separated.{gap_apart, gap_begins, Breaks, gap_breaks}
use Rattle.saphyr_scanner.proofs.Taken.Later.{top, LaterThan, later_later, apart_later}
use Rattle.saphyr_scanner.proofs.Taken.Bare.{entry_same, entry_closed, block_no_pair}
use Rattle.saphyr_scanner.proofs.Taken.Held.{enclosures_of, Setting, Taken, taken_within, AllowsKey, taken_further}
use Rattle.saphyr_scanner.proofs.Taken.Indented.{BeginsNoNode, stays_no_node, IsRight, root_key}
use Rattle.saphyr_scanner.proofs.Taken.Keys.{Keys, IsNear, IsBehindKey}
use Rattle.saphyr_scanner.proofs.Taken.Cores.{Alike, alike_enclosures, keys_lesser, no_keys, outermost_level}
use Rattle.saphyr_scanner.proofs.Taken.SavedKeys.{line_near, key_known}
use Rattle.saphyr_scanner.proofs.Taken.States.{line_small, taken_later, key_stands, Live, TakenState, unroll_taken, blocks_levels}

-- ## What is passed

-- A key may begin only where one might before, or after a break, which ends a line. Where none may no line has ended.
pub record AllowsBehind (c d : Core) : Type 0 where
  pub begins : d.key_allowed ≡ true → (c.key_allowed ≡ true) ⊎ ((in_block d ≡ true)
      × (c.cursor.mark.line ≤ top → d.cursor.mark.line < top → c.cursor.mark.line < d.cursor.mark.line))
  pub keeps : c.key_allowed ≡ true → d.key_allowed ≡ true
  pub ends : in_block d ≡ true → d.key_allowed ≡ false → c.cursor.mark.line ≤ top
      → (c.key_allowed ≡ false) × (d.cursor.mark.line ≡ c.cursor.mark.line)

pub gap_allows : (c : Core) (g : gaps.GapEnd) → Breaks c.cursor.mark false g → AllowsBehind c (behind_gap c g)
gap_allows c g h = grind arith

behind_gap_of : {X : Type 0} → (P : X → Type 0) (c : Core) (f : Core → Result X Refusal)
    → ((d : Core) → Alike c d → AreApart c.cursor d.cursor → IsTrue (begins_text (slice_index d.cursor.rest 0))
    → AllowsBehind c d → Given P (f d)) → Given P (pass_gap c >>= f)
unfolding pass_gap check_comment
behind_gap_of u0 c f go = grind (arith, gap_apart, gap_begins, gap_breaks, by_test, gap_allows)

-- on the line the text goes on as far right, or there is no node still
pub line_right : (c d : Core) → AreApart c.cursor d.cursor → d.indent ≡ c.indent → c.cursor.mark.line ≤ top
    → d.cursor.mark.line ≡ c.cursor.mark.line → d.cursor.mark.line < top
    → (c.indent ≤ c.cursor.mark.col) ⊎ BeginsNoNode c.cursor.rest
    → (d.indent ≤ d.cursor.mark.col) ⊎ BeginsNoNode d.cursor.rest
line_right c d p i low same small h = grind (arith, apart_later, stays_no_node)

behind_right : (c d : Core) → AreApart c.cursor d.cursor → d.indent ≡ c.indent → in_block d ≡ in_block c
    → AllowsBehind c d → c.cursor.mark.line ≤ top → IsRight c → IsRight d
behind_right c d p i block k low h b f small = grind (arith, line_right)

-- ## To where the next token begins

further_live : (all : Enclosures) (c d : Core) (q : Queue) → Alike c d → AreApart c.cursor d.cursor → Live all c q
    → Live all d q
further_live all c d q a p h nz = grind arith

record Near (opened : Setting) (from : Cursor) (q : Queue) (c : Core) : Type 0 where
  taken : Taken opened from c q
  live : Live opened.enclosures c q
  near : IsNear c
  begins : IsTrue (begins_text (slice_index c.cursor.rest 0))

pub forgotten_live : (all : Enclosures) (c : Core) (q : Queue) → Live all c q → Live all (forget_key c) q
forgotten_live all c q h nz =
    keys_lesser all (next q) q c.indent c.level (forget_key c).level c.outer (record { block = refl; key = inr refl })
    (h nz)

-- outside flow a candidate is too far
pub far_block : (block far : Bool) → not (block && far) ≡ false → block ≡ true
far_block block far e = grind arith

pub forgotten_taken : (opened : Setting) (from : Cursor) (c : Core) (q : Queue) → c.required ≡ false
    → in_block c ≡ true → Taken opened from c q → Taken opened from (forget_key c) q
forgotten_taken opened from c q free block h =
    taken_further (enclosures_of c) opened from c (forget_key c) q (taken.nothing _ _) refl refl refl refl
    ((λ a. inl a), (λ r. r), entry_closed c (forget_key c) (block_no_pair c.level.context block)) (record {
      required = rw free (and_false (not (in_block c)));
      root = λ yes. absurd (let no = free in cc);
      block = refl;
    }) h

dropped_near : (opened : Setting) (from : Cursor) (q : Queue) (c : Core)
    → IsTrue (begins_text (slice_index c.cursor.rest 0)) → Taken opened from c q
    → Live opened.enclosures c q → Given (Near opened from q) (drop_far_key c)
unfolding drop_far_key
dropped_near opened from q c b h l =
    by_test (not (in_block c && is_too_far c.level.key c.cursor.mark)) _ _ (Given (Near opened from q))
    (λ e. record {
      taken = h;
      live = l;
      near = not-true (in_block c && is_too_far c.level.key c.cursor.mark) e;
      begins = b;
    })
    (λ far. by_test c.required _ _ (Given (Near opened from q)) (λ _. tt)
    (λ free. record {
      taken = forgotten_taken opened from c q free
          (far_block (in_block c) (is_too_far c.level.key c.cursor.mark) far) h;
      live = forgotten_live opened.enclosures c q l;
      near = and_false (in_block c);
      begins = b;
    }))

-- Behind the gap before a token all that was taken is taken still, and a candidate that is too far is dropped.
-- Indexes and lines stay small (`line_small`), since all places are the text's. The gap changes only the place and
-- whether a key is allowed, so the tokens are those from before (`taken_further`).
gapped : (text : List ℕ) → length text < 2 ^ 63 → (opened : Setting) (from : Cursor) (q : Queue) (c : Core)
    → LaterThan (start_cursor text) from → Taken opened from c q → Live opened.enclosures c q
    → Given (Near opened from q) (pass_gap c >>= drop_far_key)
gapped text small opened from q c l h k =
    let here = later_later (start_cursor text).mark text from.mark from.rest c.cursor.mark c.cursor.rest l
    (taken_later opened from c q h) in
    let low = line_small text c.cursor small here in
    behind_gap_of (Near opened from q) c drop_far_key (λ d a p b allows.
    let there = later_later (start_cursor text).mark text c.cursor.mark c.cursor.rest d.cursor.mark d.cursor.rest here
    (apart_later c.cursor.mark c.cursor.rest d.cursor.mark d.cursor.rest p) in
    let block = ap (λ (l : Level). is_block l.context) a.level in
    let lines : AllowsKey c d = (
      (λ e. elim (allows.begins e) [
        | inl f ↦ inl f
        | inr f ↦ inr (f.0, f.1 (omega (arith, low)) (line_small text d.cursor small there))
      ]),
      behind_right c d p a.indent block allows (omega (arith, low)),
      entry_same c d a.level allows.keeps p,
    ) in
    dropped_near opened from q d b
    (taken_within (enclosures_of c) (enclosures_of d) opened from d q (alike_enclosures c d a)
    (taken_further (enclosures_of c) opened from c d q p a.indent a.outer_indents (ap length a.outer) a.adjacent
    lines (record {
      required = a.required;
      root = λ _. ap (λ m. root_key (m ∷ d.outer)) a.level ∙ ap (λ ls. root_key (c.level ∷ ls)) a.outer;
      block = block;
    }) h)) (further_live opened.enclosures c d q a p k))

-- a candidate that is not too far is on the line, and not right of what is here
pub key_column : (text : List ℕ) → length text < 2 ^ 63 → (opened : Setting) (from : Cursor) (q : Queue) (c : Core)
    → LaterThan (start_cursor text) from → Taken opened from c q
    → Keys opened.enclosures (next q) q c.indent (c.level ∷ c.outer) → IsNear c → IsBehindKey c
key_column text small opened from q c l h keys near b k i =
    let known = key_known opened.enclosures (next q) q (is_block c.level.context) c.indent c.level.key k c.outer i
    keys.1 keys.2 in
    let from_small : from.mark.line ≤ top = (l.lines (omega arith)).1 in
    let stands = key_stands opened from c q (next q) (is_block c.level.context) c.indent k from_small h known.0 in
    let here = later_later (start_cursor text).mark text from.mark from.rest c.cursor.mark c.cursor.rest l
    (taken_later opened from c q h) in
    let far : is_too_far (Some k) c.cursor.mark ≡ false = cc in
    stands.later.columns stands.small (line_small text c.cursor small here) (line_near k c.cursor.mark far)

-- where a key is a candidate no block collection ends
unrolled_keys : (text : List ℕ) → length text < 2 ^ 63 → (opened : Setting) (from : Cursor) (q : Queue) (c : Core)
    → LaterThan (start_cursor text) from → Near opened from q c → let t =
    unroll (Some c.cursor.mark.col) c.cursor.mark (record { core = c; queue = q }) in
    Live opened.enclosures t.core t.queue
unfolding unroll
unrolled_keys text small opened from q c l h nz =
    let m = c.cursor.mark in
    let s : State = record { core = c; queue = q } in
    let keys = h.live (ap (λ (u : Cursor). is_z (slice_index u.rest 0))
    (sym (unrolled_cursor (Some m.col) m s)) ∙ nz) in
    by_test (in_block c) (end_blocks (Some m.col) m c.outer_indents (with_core (go_less_deep (Some m.col) c) s)) s
    (λ t. Keys opened.enclosures (next t.queue) t.queue t.core.indent
    (t.core.level ∷ t.core.outer)) (λ e. by c.level.key refl e keys) (λ _. keys)
  where
    by : (o : Option Candidate) → c.level.key ≡ o → in_block c ≡ true
        → Keys opened.enclosures (next q) q c.indent (c.level ∷ c.outer)
        → let t = end_blocks (Some c.cursor.mark.col) c.cursor.mark c.outer_indents
        (with_core (go_less_deep (Some c.cursor.mark.col) c) (record { core = c; queue = q })) in
        Keys opened.enclosures (next t.queue) t.queue t.core.indent (t.core.level ∷ t.core.outer)
    by None i e keys =
        let t : State = end_blocks (Some c.cursor.mark.col) c.cursor.mark c.outer_indents
        (with_core (go_less_deep (Some c.cursor.mark.col) c) (record { core = c; queue = q })) in
        let v = blocks_levels (Some c.cursor.mark.col) c.cursor.mark c.outer_indents
        (with_core (go_less_deep (Some c.cursor.mark.col) c) (record { core = c; queue = q })) in
        no_keys opened.enclosures (next t.queue) t.queue t.core.indent t.core.level t.core.outer
        (ap (λ (y : Level). y.key) v.level ∙ i)
        (v.outer ∙ outermost_level opened.enclosures (next q) q c.indent c.level c.outer keys e)
        (ap (λ (y : Level). is_block y.context) v.level ∙ e)
    by (Some k) i e keys =
        let m = c.cursor.mark in
        let s : State = with_core (go_less_deep (Some m.col) c) (record { core = c; queue = q }) in
        let known = key_known opened.enclosures (next q) q (is_block c.level.context) c.indent c.level.key k c.outer i
        keys.1 keys.2 in
        let column = key_column text small opened from q c l h.taken keys h.near e k i in
        let deep : c.indent ≤ k.mark.col + 1 = known.0.deep e in
        let not_right : is_right_of (Some m.col) c.indent ≡ false = le-ltb m.col (c.indent - 1)
        (omega (arith, column, deep)) in
        let Q : State → Type 0 = λ t. Keys opened.enclosures (next t.queue) t.queue t.core.indent
        (t.core.level ∷ t.core.outer) in
        subst Q (sym (none_ends (Some m.col) m c.outer_indents s not_right)) keys

pub record Arrived (opened : Setting) (from : Cursor) (t : State) : Type 0 where
  pub taken : TakenState opened from t
  pub live : Live opened.enclosures t.core t.queue
  pub near : IsNear t.core

-- where block collections end the candidate and the place stay
unrolled_near : (c : Core) (q : Queue) → IsNear c
    → IsNear (unroll (Some c.cursor.mark.col) c.cursor.mark (record { core = c; queue = q })).core
unfolding unroll
unrolled_near c q h = grind (arith, blocks_cursor, go_less_deep_cursor, by_test, blocks_levels)

pub arrived : (text : List ℕ) → length text < 2 ^ 63 → (opened : Setting) (from : Cursor) (s : State)
    → LaterThan (start_cursor text) from → TakenState opened from s → Live opened.enclosures s.core s.queue
    → Given (Arrived opened from) (arrive s)
unfolding arrive
arrived text small opened from s l h k = by (pass_gap s.core >>= drop_far_key)
    (gapped text small opened from s.queue s.core l h k)
  where
    by : (r : Result Core Refusal) → Given (Near opened from s.queue) r
        → Given (Arrived opened from)
        (on_core r s.queue >>= λ t. Ok (unroll (Some t.core.cursor.mark.col) t.core.cursor.mark t))
    by (Ok d) n =
        record {
          taken = unroll_taken opened from (Some d.cursor.mark.col) d.cursor.mark
              (record { core = d; queue = s.queue }) (inl refl, n.begins, refl) n.taken;
          live = unrolled_keys text small opened from s.queue d l n;
          near = unrolled_near d s.queue n.near;
        }
    by (Err e) n = tt
