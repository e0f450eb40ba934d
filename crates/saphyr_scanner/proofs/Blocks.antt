-- No block collection ends where the innermost does not, and where it does the others end as before.
use Rattle.std.proofs.Common.{◌≡◌, ◌+◌, ◌<◌, ◌≤◌, ℕ, Bool, true, false, List, [], ◌∷◌, length, Option, Some, None, refl, sym, ◌∙◌, subst, arith, nat_lt}
use Rattle.std.specs.Prelude.{if◌then◌else◌}
use Rattle.std.proofs.lemmas.Bool.Decides.{nat_tests}
use Rattle.saphyr_scalar.specs.declared.scalar.position.Marker.{Marker}
use Rattle.saphyr_scanner.specs.Steps.Queue.{Queue}
use Rattle.saphyr_scanner.specs.Steps.State.{State, with_core}
use Rattle.saphyr_scanner.specs.Steps.Core.{Core, in_block}
use Rattle.saphyr_scanner.specs.Steps.Unrolling.{end_blocks, end_block, is_right_of, with_outer_indent, go_less_deep, unroll}
use Rattle.saphyr_scanner.specs.Views.Queue.{with_block_ends}
use Rattle.saphyr_input.proofs.Basics.Booleans.{by_test}

pub none_ends : (column : Option ℕ) (m : Marker) (is : List ℕ) (s : State) → is_right_of column s.core.indent ≡ false
    → end_blocks column m is s ≡ s
none_ends column m [] s e = rw e refl
none_ends column m (i ∷ is) s e = rw e refl

-- a state after so many block collections ended at a place
abbrev pub with_ends : ℕ → Marker → State → State
with_ends n m s = record { core = s.core; queue = with_block_ends n m s.queue }

-- a state with this queue
abbrev pub holds : Core → Queue → State
holds c q = record { core = c; queue = q }

-- the innermost block collection is left, and its end not yet put into the queue
abbrev pub left : State → State
left s = with_core (with_outer_indent s.core.outer_indents s.core) s

-- one more is left, and the others end as before
pub others_end : (column : Option ℕ) (m : Marker) (n : ℕ) (s t all : State) → is_right_of column s.core.indent ≡ true
    → t ≡ left s → end_blocks column m s.core.outer_indents (with_ends n m s) ≡ all
    → end_blocks column m t.core.outer_indents (with_ends (n + 1) m t) ≡ all
others_end column m n s t all right is known = grind arith

-- how many end at most
abbrev pub most_ends : Option ℕ → State → ℕ
most_ends column s = length s.core.outer_indents + (if is_right_of column s.core.indent then 1 else 0)

-- they are one more at most than the indentations that are kept
pub few_ends : (column : Option ℕ) (s : State) → most_ends column s ≤ length s.core.outer_indents + 1
few_ends column s = grind arith

one_fewer : (column : Option ℕ) (m : Marker) (is : List ℕ) (s : State) → is_right_of column s.core.indent ≡ true
    → s.core.outer_indents ≡ is → most_ends column (end_block m s) < most_ends column s
one_fewer None m [] s right outer = rw (right, outer) (omega arith)
one_fewer (Some k) m [] s right outer =
    let none : nat_lt k 0 ≡ false = grind (arith, nat_tests) in rw (right, outer, none) (omega arith)
one_fewer column m (i ∷ is) s right outer = rw (right, outer) (at_most_one (is_right_of column i))
  where
    at_most_one : (b : Bool) → length is + (if b then 1 else 0) < length (i ∷ is) + 1
    at_most_one b = grind arith

pub fewer_end : (column : Option ℕ) (s t : State) → is_right_of column s.core.indent ≡ true
    → t ≡ left s → most_ends column t < most_ends column s
fewer_end column s t right is =
    subst (λ (u : State). most_ends column u < most_ends column s) (sym is)
    (one_fewer column s.core.cursor.mark s.core.outer_indents s right refl)

-- The text stays as it is.
outer_indent_cursor : (is : List ℕ) (c : Core) → (with_outer_indent is c).cursor ≡ c.cursor
outer_indent_cursor is c = grind arith

pub block_cursor : (m : Marker) (s : State) → (end_block m s).core.cursor ≡ s.core.cursor
block_cursor m s = outer_indent_cursor s.core.outer_indents s.core

pub blocks_cursor : (column : Option ℕ) (m : Marker) (is : List ℕ) (s : State)
    → (end_blocks column m is s).core.cursor ≡ s.core.cursor
blocks_cursor column m [] s =
    by_test (is_right_of column s.core.indent) _ _ (λ (t : State). t.core.cursor ≡ s.core.cursor)
    (λ _. block_cursor m s) (λ _. refl)
blocks_cursor column m (i ∷ is) s =
    by_test (is_right_of column s.core.indent) _ _ (λ (t : State). t.core.cursor ≡ s.core.cursor)
    (λ _. blocks_cursor column m is (end_block m s) ∙ block_cursor m s) (λ _. refl)

pub go_less_deep_cursor : (column : Option ℕ) (c : Core) → (go_less_deep column c).cursor ≡ c.cursor
go_less_deep_cursor column c = grind arith

pub unrolled_cursor : (column : Option ℕ) (m : Marker) (s : State) → (unroll column m s).core.cursor ≡ s.core.cursor
unfolding unroll
unrolled_cursor column m s = by_test (in_block s.core) _ _ (λ (t : State). t.core.cursor ≡ s.core.cursor)
    (λ _. blocks_cursor column m s.core.outer_indents _ ∙ go_less_deep_cursor column s.core) (λ _. refl)

-- ## No comment comes

outer_indent_comment : (is : List ℕ) (c : Core) → (with_outer_indent is c).comment ≡ c.comment
outer_indent_comment is c = grind arith

blocks_comment : (column : Option ℕ) (m : Marker) (is : List ℕ) (s : State)
    → (end_blocks column m is s).core.comment ≡ s.core.comment
blocks_comment column m [] s =
    by_test (is_right_of column s.core.indent) _ _ (λ (t : State). t.core.comment ≡ s.core.comment)
    (λ _. outer_indent_comment s.core.outer_indents s.core) (λ _. refl)
blocks_comment column m (i ∷ is) s =
    by_test (is_right_of column s.core.indent) _ _ (λ (t : State). t.core.comment ≡ s.core.comment)
    (λ _. blocks_comment column m is (end_block m s) ∙ outer_indent_comment s.core.outer_indents s.core) (λ _. refl)

go_less_deep_comment : (column : Option ℕ) (c : Core) → (go_less_deep column c).comment ≡ c.comment
go_less_deep_comment column c = grind arith

pub unrolled_comment : (column : Option ℕ) (m : Marker) (s : State) → (unroll column m s).core.comment ≡ s.core.comment
unfolding unroll
unrolled_comment column m s = by_test (in_block s.core) _ _ (λ (t : State). t.core.comment ≡ s.core.comment)
    (λ _. blocks_comment column m s.core.outer_indents _ ∙ go_less_deep_comment column s.core) (λ _. refl)
