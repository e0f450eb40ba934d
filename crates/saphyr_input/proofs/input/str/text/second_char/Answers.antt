use Rattle.std.proofs.Common.{◌<◌, ◌∙◌, ap, sym, get_or, length, List, ℕ}
use Rattle.saphyr_input.proofs.Ascii.{second_is}
use Rattle.saphyr_input.proofs.input.str.text.second_char.Goals as goal

pub returns-then-bytes-lt128-2 : goal.returns-then-bytes-lt128-2
returns-then-bytes-lt128-2 c =
    let e = c.as_bytes-bytes.ensures.value in
    let long : 1 < length c.args.text.now = rw e at c.if-bytes-gt1.true in
    let first : get_or c.args.text.now 0 0 < 128 = rw e at c.if-bytes-lt128.true in
    let second : get_or c.args.text.now 1 0 < 128 = rw e at c.if-bytes-lt128-2.true in
    ap (λ (bs : List ℕ). get_or bs 1 0) e ∙ sym (second_is c.args.text.now c.utf8.text long first second)
