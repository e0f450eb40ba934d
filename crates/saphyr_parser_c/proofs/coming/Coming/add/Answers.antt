-- Where none wait, the bytes alone are taken in.
use Rattle.std.proofs.Common.{◌∙◌, arith, length, sym}
use Rattle.std.proofs.lemmas.Bool.{eqb-false, eqb-true}
use Rattle.std.proofs.lemmas.List.{nil_from_length}
use denote.Enum.Bare.{same_false}
use Rattle.saphyr_parser_c.specs.contracts.coming.Extent.{the_type}
use Rattle.saphyr_parser_c.specs.declared.coming.Extent.TheVariants as extent
use Rattle.saphyr_parser_c.proofs.Adding.{first_are_added}
use Rattle.saphyr_parser_c.proofs.coming.Coming.add.Goals as goal

pub returns-then-is_empty-2 : goal.returns-then-is_empty-2
returns-then-is_empty-2 c =
    let old = c.args.self.now in
    let bytes = c.args.bytes.now in
    let none = eqb-true old.waiting.len 0 (sym c.if-is_empty-2.ensures) in
    first_are_added bytes old c.take_in.new.self c.take_in.result
    (same_false the_type old.extent extent.All (sym c.eq.ensures ∙ c.if-eq.false))
    (omega (arith, eqb-false (length bytes) 0 (sym c.if-is_empty.ensures)))
    (nil_from_length old.waiting.items (omega (arith, none))) c.take_in.ensures
