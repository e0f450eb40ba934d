-- Where the next token begins right here, nothing is passed and nothing ends before it.
use Rattle.std.proofs.Common.{◌≡◌, ℕ, Bool, true, false, List, Some, None, Ok, refl, arith, nat_lt, slice_index}
use Rattle.std.specs.Prelude.{◌&&◌, ◌||◌, ◌==◌}
use Rattle.saphyr_input.specs.Classes.{is_bom, is_z}
use Rattle.saphyr_input.specs.Indicators.{full_stop, hyphen, percent_sign}
use Rattle.saphyr_input.specs.Places.{is_document_end, is_document_start}
use Rattle.saphyr_scanner.specs.Steps.Core.{Core, in_block, is_too_far, least_column, drop_far_key}
use Rattle.saphyr_scanner.specs.Steps.Fetch.{arrive, fetch_here}
use Rattle.saphyr_scanner.specs.Steps.Passing.{check_comment, pass_gap}
use Rattle.saphyr_scanner.specs.Steps.State.{State}
use Rattle.saphyr_scanner.specs.Steps.Unrolling.{unroll}
use Rattle.saphyr_scanner.specs.Views.Ahead.{may_begin, may_begin_mark, with_content}
use Rattle.saphyr_scanner.proofs.Blocks.{none_ends}
use Rattle.saphyr_scanner.proofs.Gaps.{nothing_passed}

pub no_gap : (c : Core) → may_begin (slice_index c.cursor.rest 0) ≡ true → c.comment ≡ None → pass_gap c ≡ Ok c
unfolding pass_gap check_comment
no_gap c begins none = grind (arith, nothing_passed)

kept_key : (c : Core) → (in_block c && is_too_far c.level.key c.cursor.mark) ≡ false → drop_far_key c ≡ Ok c
unfolding drop_far_key
kept_key c near = rw near refl

-- no block collection is right of the column
none_unrolled : (s : State) → nat_lt s.core.cursor.mark.col (least_column s.core) ≡ false
    → unroll (Some s.core.cursor.mark.col) s.core.cursor.mark s ≡ s
unfolding unroll
none_unrolled s e = grind (arith, none_ends)

-- nothing is passed, dropped or ended before the next token
pub arrived : (s : State) → may_begin (slice_index s.core.cursor.rest 0) ≡ true → s.core.comment ≡ None
    → nat_lt s.core.cursor.mark.col (least_column s.core) ≡ false
    → (in_block s.core && is_too_far s.core.level.key s.core.cursor.mark) ≡ false → arrive s ≡ Ok s
unfolding arrive
arrived s begins none right near = rw (no_gap s.core begins none, kept_key s.core near, none_unrolled s right) refl

pub neither : (a b : Bool) → b ≡ false → (a && b) ≡ false
neither a b e = grind arith

-- no directive and no marker is at the start of a line
no_mark : (start : Bool) (t : List ℕ) → (start && may_begin_mark (slice_index t 0) (slice_index t 1)) ≡ false
    → ((start && (slice_index t 0 == percent_sign)) ≡ false) × ((start && is_document_start t) ≡ false)
    × ((start && is_document_end t) ≡ false)
no_mark false t e = (refl, refl, refl)
no_mark true t e =
    let none = none_of (slice_index t 0 == percent_sign) (slice_index t 0 == full_stop) (slice_index t 0 == hyphen)
    (slice_index t 1 == hyphen) e in
    (none.0, no_dashes (slice_index t 0 == hyphen) (slice_index t 1 == hyphen) _ _ none.2, rw none.1 refl)
  where
    none_of : (a b c d : Bool) → (a || b || (c && d)) ≡ false → (a ≡ false) × (b ≡ false) × ((c && d) ≡ false)
    none_of a b c d e = grind arith

    no_dashes : (a b c d : Bool) → (a && b) ≡ false → ((a && b && c) && d) ≡ false
    no_dashes a b c d e = grind arith

-- the next token is what the first character begins
pub holds_here : (s : State) → is_z (slice_index s.core.cursor.rest 0) ≡ false
    → is_bom (slice_index s.core.cursor.rest 0) ≡ false
    → nat_lt s.core.cursor.mark.col (least_column s.core) ≡ false
    → ((s.core.cursor.mark.col == 0)
    && may_begin_mark (slice_index s.core.cursor.rest 0) (slice_index s.core.cursor.rest 1)) ≡ false
    → fetch_here s ≡ with_content s
unfolding fetch_here
holds_here s some text right inner =
    let no = no_mark (s.core.cursor.mark.col == 0) s.core.cursor.rest inner in
    rw (some, text, no.0, no.1, no.2, right) refl
