-- What steps do to a scanner, with the block collections that end before them.
use Rattle.saphyr_scanner.proofs.Common.{◌≡◌, ℕ, zero, suc, ◌+◌, ◌-◌, ◌*◌, ◌≤◌, true, List, [], ◌∷◌, length, Result, Ok, Err, refl, sym, ap, ◌∙◌, arith, Marker, Refusal, Cursor, by_test, Given}
use Rattle.std.specs.Prelude.{nat_lt, Option, Some, None}
use Rattle.saphyr_scanner.specs.Grammar.Tokens as tokens
use Rattle.saphyr_scanner.specs.Steps.Queue.{empty_piece}
use Rattle.saphyr_scanner.specs.Steps.Core.{Core, StepResult, at_mark, in_block}
use Rattle.saphyr_scanner.specs.Steps.State.{State, on_core, with_core, with_action, after_step}
use Rattle.saphyr_scanner.specs.Steps.Unrolling.{unroll, end_blocks, end_block, is_right_of, with_outer_indent, go_less_deep}
use Rattle.saphyr_scanner.proofs.Blocks.{block_cursor, go_less_deep_cursor}
use Rattle.saphyr_scanner.proofs.Ordered.Queue.{GrowsInOrder, core_grows, performed, put_grows}
use Rattle.saphyr_scanner.proofs.Added.Queue.{PlacesGoOn, place_goes_on, at_most_one, one_at_most, open_blocks, due, performed_goes_on, tokens_put, tokens_performed}
use Rattle.saphyr_scanner.proofs.Effects.Readers.{Readers, ReaderEnds}
use Rattle.saphyr_scanner.proofs.Effects.Steps.{EffectAt, Goes, goes_none}

-- ## Tokens are fetched

-- from s to t k tokens are fetched: each takes a character off at least, and makes five tokens due at most
pub record FetchesTokens (k : ℕ) (s t : State) : Type 0 where
  pub less : Readers → length t.core.cursor.rest + k ≤ length s.core.cursor.rest
  pub grows : ReaderEnds → GrowsInOrder s t
  pub started : t.core.started ≡ s.core.started
  pub ended : t.core.ended ≡ s.core.ended
  pub goes_on : PlacesGoOn s.queue.places → PlacesGoOn t.queue.places
  pub few : due t ≤ due s + 5 * k

pub advances_advances : (k l : ℕ) (s t u : State) → FetchesTokens k s t → FetchesTokens l t u
    → FetchesTokens (k + l) s u
advances_advances k l s t u a b = grind arith

-- the queue stays as it is
pub on_core_fetches : (s : State) (r : Result Core Refusal) → Given (Goes 0 s.core.cursor s.core) r
    → Given (FetchesTokens 0 s) (on_core r s.queue)
on_core_fetches s (Ok d) g = record {
  less = λ _. omega (arith, g.0.later, g.0.counted);
  grows = λ _. core_grows s (with_core d s) g.0 refl;
  started = g.1.0;
  ended = g.1.1;
  goes_on = λ h. h;
  few = let x = g.1.2 in omega (arith, x);
}
on_core_fetches s (Err e) g = tt

advances_none : (s : State) → FetchesTokens 0 s s
advances_none s = on_core_fetches s (Ok s.core) (goes_none s.core)

pub after_step_fetches : (n : ℕ) (s : State) (r : StepResult) → Given (EffectAt n s.core) r
    → Given (FetchesTokens 1 s) (after_step r s.queue)
after_step_fetches n s u0 h = grind (arith, performed, performed_goes_on, tokens_performed)

-- ## Block collections end

-- one that is open has an indentation
is_open : (column : Option ℕ) (n : ℕ) → is_right_of column n ≡ true → at_most_one n ≡ 1
is_open None zero e = absurd (cc)
is_open (Some column) zero e = absurd (right column e)
  where
    right : (k : ℕ) → nat_lt k (0 - 1) ≡ true → ⊥
    right k e = grind (arith, e)
is_open column (suc n) e = refl

-- the token of its end was due
end_advances : (m : Marker) (s : State) (d : Core) → m.index ≡ s.core.cursor.mark.index → d.cursor ≡ s.core.cursor
    → d.started ≡ s.core.started → d.ended ≡ s.core.ended → open_blocks d + 1 ≤ open_blocks s.core
    → FetchesTokens 0 s (with_action (at_mark m tokens.BlockEnd) (with_core d s))
end_advances m s d i e b f fewer = record {
  less = λ _. let l = ap (λ (c : Cursor). length c.rest) e in omega (arith, l);
  grows = λ _. put_grows s m tokens.BlockEnd d e i;
  started = b;
  ended = f;
  goes_on = λ h. place_goes_on s.queue.places (empty_piece m tokens.BlockEnd) h (λ q. absurd (cc));
  few = let x = tokens_put s.queue.places (empty_piece m tokens.BlockEnd) in omega (arith, x, fewer);
}

block_advances : (m : Marker) (s : State) → m.index ≡ s.core.cursor.mark.index → at_most_one s.core.indent ≡ 1
    → FetchesTokens 0 s (end_block m s)
block_advances m s i e = at s.core.outer_indents refl
  where
    at : (is : List ℕ) → s.core.outer_indents ≡ is
        → FetchesTokens 0 s (with_core (with_outer_indent is s.core) (with_action (at_mark m tokens.BlockEnd) s))
    at [] l = end_advances m s (with_outer_indent [] s.core) i refl refl refl (omega (arith, e))
    at (x ∷ is) l = end_advances m s (with_outer_indent (x ∷ is) s.core) i refl refl refl
        (let k = one_at_most x in let n = ap length l in omega (arith, e, k, n))

pub same_index : (m : Marker) (s t : Cursor) → t ≡ s → m.index ≡ s.mark.index → m.index ≡ t.mark.index
same_index m s t e i = i ∙ ap (λ (c : Cursor). c.mark.index) (sym e)

blocks_advance : (column : Option ℕ) (m : Marker) (is : List ℕ) (s : State) → m.index ≡ s.core.cursor.mark.index
    → FetchesTokens 0 s (end_blocks column m is s)
blocks_advance column m [] s i = by_test (is_right_of column s.core.indent) _ _ (FetchesTokens 0 s)
    (λ e. block_advances m s i (is_open column s.core.indent e)) (λ _. advances_none s)
blocks_advance column m (x ∷ is) s i = by_test (is_right_of column s.core.indent) _ _ (FetchesTokens 0 s)
    (λ e. advances_advances 0 0 s (end_block m s) _ (block_advances m s i (is_open column s.core.indent e))
    (blocks_advance column m is (end_block m s)
    (same_index m s.core.cursor (end_block m s).core.cursor (block_cursor m s) i))) (λ _. advances_none s)

go_less_deep_goes : (column : Option ℕ) (c : Core) → Goes 0 c.cursor c (go_less_deep column c)
go_less_deep_goes None c = goes_none c
go_less_deep_goes (Some column) c = goes_none c

pub unroll_advances : (column : Option ℕ) (m : Marker) (s : State) → m.index ≡ s.core.cursor.mark.index
    → FetchesTokens 0 s (unroll column m s)
unfolding unroll
unroll_advances column m s i =
    let t : State = with_core (go_less_deep column s.core) s in
    by_test (in_block s.core) _ _ (FetchesTokens 0 s)
    (λ _. advances_advances 0 0 s t _ (on_core_fetches s (Ok (go_less_deep column s.core))
    (go_less_deep_goes column s.core)) (blocks_advance column m s.core.outer_indents t
    (same_index m s.core.cursor t.core.cursor (go_less_deep_cursor column s.core) i))) (λ _. advances_none s)
