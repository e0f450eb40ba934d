use Rattle.std.proofs.Common.{◌≡◌, false, arith, refl, rules, tests, slice_index, nat_lt}
use Rattle.std.proofs.lemmas.Bool.Decides.{nat_tests}
use Rattle.std.specs.Prelude.{◌==◌}
use Rattle.saphyr_input.specs.Classes.{is_bom, is_z}
use Rattle.saphyr_scanner.specs.Steps.Core.{least_column}
use Rattle.saphyr_scanner.specs.Views.Ahead.{may_begin_mark}
use Rattle.saphyr_scanner.specs.Views.Engine.{state}
use Rattle.saphyr_input.proofs.Basics.Lists.{shows_character}
use Rattle.saphyr_scanner.proofs.Ahead.RightHere.{neither, holds_here}
use Rattle.saphyr_scanner.proofs.engine.Engine.is_content.Goals as goal

pub returns-then-column-gt0 : goal.returns-then-column-gt0
returns-then-column-gt0 g c inside =
    let s = state c.args.self.now in let t = s.core.cursor.rest in
    let some : is_z (slice_index t 0) ≡ false = search rules in
    let text : is_bom (slice_index t 0) ≡ false = search rules in
    let column : nat_lt s.core.cursor.mark.col (least_column s.core) ≡ false = search (rules, tests) in
    let inner : (s.core.cursor.mark.col == 0) ≡ false = grind (arith, nat_tests) in
    (holds_here s some text column (rw inner refl), shows_character t is_z false some (λ k. absurd (cc)))

pub returns-else-column-gt0 : goal.returns-else-column-gt0
returns-else-column-gt0 g c unmarked =
    let s = state c.args.self.now in let t = s.core.cursor.rest in
    let some : is_z (slice_index t 0) ≡ false = search rules in
    let text : is_bom (slice_index t 0) ≡ false = search rules in
    let column : nat_lt s.core.cursor.mark.col (least_column s.core) ≡ false = search (rules, tests) in
    let no : may_begin_mark (slice_index t 0) (slice_index t 1) ≡ false = search rules in
    (holds_here s some text column (neither _ _ no), shows_character t is_z false some (λ k. absurd (cc)))
