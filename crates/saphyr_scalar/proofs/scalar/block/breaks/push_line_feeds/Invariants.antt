use Rattle.std.proofs.Common.{◌≡◌, ◌++◌, string_bytes, encode_utf8_all}
use Rattle.saphyr_scalar.specs.Values.Folding.{line_feeds}
use Rattle.saphyr_scalar.proofs.scalar.block.breaks.push_line_feeds.Given as goal

abbrev pub invariant-loop : goal.invariant-loop
invariant-loop l = string_bytes l.text ≡ string_bytes l.fn.text ++ encode_utf8_all (line_feeds l.counter)
