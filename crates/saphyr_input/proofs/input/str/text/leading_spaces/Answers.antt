use Rattle.std.specs.Prelude.{◌==◌}
use Rattle.saphyr_input.proofs.AsciiLen.{counts_on}
use Rattle.saphyr_input.proofs.Runs.{one_within}
use Rattle.saphyr_input.proofs.Sets.{is_char}
use Rattle.saphyr_input.proofs.input.str.text.leading_spaces.Goals as goal

pub loop-count-preserved : goal.loop-count-preserved
loop-count-preserved c =
    let now = c.loop-count.invariant in
    let more = counts_on (λ x. x == 32) c.args.bytes.now c.loop-count.count
    (record { within = now.within; run = now.run }) c.if-count-bytes.true
    ((is_char _ 32).1 c.if-bytes-count-eq32.true) in
    record { within = more.within; limit = one_within _ _ c.loop-count-test.true; run = more.run }
