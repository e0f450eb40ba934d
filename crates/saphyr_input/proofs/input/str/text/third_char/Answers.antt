use Rattle.std.proofs.Common.{◌<◌, ◌∙◌, ap, sym, get_or, length, List, ℕ}
use Rattle.saphyr_input.proofs.Ascii.{third_is}
use Rattle.saphyr_input.proofs.input.str.text.third_char.Goals as goal

pub returns-then-bytes-lt128-3 : goal.returns-then-bytes-lt128-3
returns-then-bytes-lt128-3 c =
    let e = c.as_bytes-bytes.ensures.value in
    let long : 2 < length c.args.text.now = rw e at c.if-bytes-gt2.true in
    let first : get_or c.args.text.now 0 0 < 128 = rw e at c.if-bytes-lt128.true in
    let second : get_or c.args.text.now 1 0 < 128 = rw e at c.if-bytes-lt128-2.true in
    let third : get_or c.args.text.now 2 0 < 128 = rw e at c.if-bytes-lt128-3.true in
    ap (λ (bs : List ℕ). get_or bs 2 0) e ∙ sym (third_is c.args.text.now c.utf8.text long first second third)
