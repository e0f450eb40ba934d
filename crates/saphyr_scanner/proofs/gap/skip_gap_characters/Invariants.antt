use Rattle.std.proofs.Common.{◌≡◌, length, true, false}
use Rattle.saphyr_scalar.specs.Views.Reader.{cursor_of}
use Rattle.saphyr_scanner.specs.Steps.Gap as spec
use Rattle.saphyr_scanner.proofs.gap.skip_gap_characters.Given as goal

abbrev pub invariant-loop-c : goal.invariant-loop-c
invariant-loop-c g l =
    spec.gap_at true l.least l.broke l.tabbed (cursor_of l.reader)
    ≡ spec.gap_at true l.least false false (cursor_of l.fn.reader)

abbrev pub decreases-loop-c : goal.decreases-loop-c
decreases-loop-c g l = length (cursor_of l.reader).rest
