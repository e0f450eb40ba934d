-- The error's place is that of the longest front in UTF-8.
use Rattle.std.proofs.Common.{arith, subst, sym}
use Rattle.std.specs.Str.{IsValidUpTo}
use Rattle.saphyr_parser_c.proofs.encoding.utf8_front.Goals as goal

pub returns-in-Err : goal.returns-in-Err
returns-in-Err c =
    let valid : IsValidUpTo c.args.text.now c.valid_up_to.result =
    subst (IsValidUpTo c.args.text.now) (sym c.valid_up_to.ensures) c.in-Err.ensures.cases.1 in
    record {
      within = omega (arith, valid.short);
      front = valid.front;
      longest = λ m more within utf8. valid.longest m more utf8;
    }
