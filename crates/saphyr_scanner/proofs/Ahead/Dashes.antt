-- What mostly follows a `-`: a line feed, or a space and then content.
use Rattle.std.proofs.Common.{◌≡◌, ℕ, ◌+◌, true, false, List, [], ◌∷◌, slice_index, Ok, refl, ◌∙◌, arith}
use Rattle.std.specs.Prelude.{◌==◌, ◌&&◌, nat_lt}
use Rattle.saphyr_input.proofs.Basics.Booleans.{and_false}
use Rattle.std.proofs.lemmas.Bool.Decides.{nat_tests}
use Rattle.std.proofs.lemmas.Grind.{get_or_after_one}
use Rattle.saphyr_input.specs.Classes.{is_blank, is_bom, is_break, is_flow}
use Rattle.saphyr_input.specs.Indicators.{number_sign}
use Rattle.saphyr_scalar.specs.Views.Cursor.{Cursor, pass, pass_blanks, separation, behind_separation}
use Rattle.saphyr_scalar.proofs.NoSeparation.{nothing_separates}
use Rattle.saphyr_scanner.specs.Steps.Block.{pass_dash}
use Rattle.saphyr_scanner.specs.Steps.Core.{Core, go_deeper, roll}
use Rattle.saphyr_scanner.specs.Steps.Passing.{pass_on, with_cursor}
use Rattle.saphyr_scanner.specs.Steps.State.{State, on_core, with_core}
use Rattle.saphyr_scanner.specs.Views.Ahead.{may_begin_entry}

-- content is on a later line
pub fed : (c : Core) → slice_index c.cursor.rest 0 ≡ 10 → pass_dash c ≡ Ok (go_deeper c)
unfolding pass_dash
fed c e = grind (arith, nothing_separates)

-- what begins an entry's text
first_character : (x : ℕ) → may_begin_entry x ≡ true → (is_blank x ≡ false) × (is_break x ≡ false)
    × (is_flow x ≡ false) × ((x == number_sign) ≡ false) × (is_bom x ≡ false)
first_character x e = grind (arith, nat_tests)

-- content is behind a space
pub spaced : (c : Core) → slice_index c.cursor.rest 0 ≡ 32 → may_begin_entry (slice_index c.cursor.rest 1) ≡ true
    → pass_dash c ≡ Ok (with_cursor (pass_blanks 1 c.cursor) c)
unfolding pass_dash separation behind_separation
spaced c e begins = go c.cursor.rest e begins
  where
    go : (t : List ℕ) → slice_index t 0 ≡ 32 → may_begin_entry (slice_index t 1) ≡ true
        → let s : Cursor = record c.cursor { rest = t } in
        pass_dash (with_cursor s c) ≡ Ok (with_cursor (pass_blanks 1 s) c)
    go [] f b = absurd (cc)
    go (x ∷ []) f b = absurd (cc)
    go (x ∷ y ∷ ys) f b =
        let is = first_character y b in
        rw (f, is.0, is.3, is.4, and_false (nat_lt 0 (c.cursor.mark.col + 1))) (rw (is.1, is.2) refl)

-- ## From the `-` on, where a sequence may begin at its column

rolled : (column : ℕ) (s : Cursor) (c : Core) → roll column (with_cursor s c) ≡ with_cursor s (roll column c)
rolled column s c = grind arith

twice : (s : Cursor) → pass_blanks 1 (pass 1 s) ≡ pass 2 s
twice s = grind arith

pub entry_fed : (column : ℕ) (c : Core) → slice_index c.cursor.rest 1 ≡ 10
    → pass_dash (roll column (pass_on 1 c)) ≡ Ok (go_deeper (roll column (pass_on 1 c)))
entry_fed column c e =
    let s : Cursor = pass 1 c.cursor in
    rw (rolled column s c) (fed (with_cursor s (roll column c)) (get_or_after_one c.cursor.rest 0 0 ∙ e))

entry_spaced : (column : ℕ) (c : Core) → slice_index c.cursor.rest 1 ≡ 32
    → may_begin_entry (slice_index c.cursor.rest 2) ≡ true
    → pass_dash (roll column (pass_on 1 c)) ≡ Ok (roll column (pass_on 2 c))
entry_spaced column c e begins = search (get_or_after_one, rolled, spaced, twice)

-- the same on the whole state, where the two characters were passed before
pub entered_spaced : (column : ℕ) (s t : State) → ((slice_index s.core.cursor.rest 1 == 32)
    && may_begin_entry (slice_index s.core.cursor.rest 2)) ≡ true → t ≡ with_core (pass_on 2 s.core) s
    → on_core (Ok (roll column t.core)) t.queue ≡ on_core (pass_dash (roll column (pass_on 1 s.core))) s.queue
entered_spaced column s t known passed = grind (arith, entry_spaced)
