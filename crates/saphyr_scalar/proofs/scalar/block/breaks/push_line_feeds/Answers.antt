use Rattle.saphyr_scalar.proofs.Common.{◌++◌, ap, ◌∙◌, string_bytes, encode_utf8_all, append_assoc, encode_utf8}
use Rattle.saphyr_scalar.specs.Values.Folding.{line_feeds}
use Rattle.saphyr_scalar.proofs.Block.Lines.{feed_last}
use Rattle.saphyr_scalar.proofs.scalar.block.breaks.push_line_feeds.Goals as goal

pub loop-preserved : goal.loop-preserved
loop-preserved c =
    let text = string_bytes c.args.text.now in
    c.in_ok-push.ensures.bytes ∙ ap (λ b. b ++ encode_utf8 10) c.loop.invariant
    ∙ append_assoc text (encode_utf8_all (line_feeds c.loop.counter)) (encode_utf8 10)
    ∙ ap (λ b. text ++ b) (feed_last c.loop.counter)
