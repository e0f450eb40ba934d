use Rattle.std.proofs.Common.{◌≡◌, ◌<◌, get_or, arith, rules}
use Rattle.saphyr_input.proofs.Ascii.{no_ascii_run}
use Rattle.saphyr_input.proofs.input.str.wide.strip_wide.Goals as goal

pub returns-then-byte-lt128-clause-none : goal.returns-then-byte-lt128-clause-none
returns-then-byte-lt128-clause-none g c =
    let bs = c.args.text.now in
    let byte : c.unwrap_or-byte.result ≡ get_or bs 0 0 = search rules in
    let less : get_or bs 0 0 < 128 = omega (arith, byte, c.if-byte-lt128.true) in
    λ h. no_ascii_run g.C.CharSet.test bs c.utf8.text h less
