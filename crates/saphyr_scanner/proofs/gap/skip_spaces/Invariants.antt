use Rattle.std.proofs.Common.{◌≡◌, length, false}
use Rattle.saphyr_scalar.specs.Views.Reader.{cursor_of}
use Rattle.saphyr_scanner.specs.Steps.Gap as spec
use Rattle.saphyr_scanner.proofs.gap.skip_spaces.Given as goal

abbrev pub invariant-loop-space : goal.invariant-loop-space
invariant-loop-space g l =
    spec.gap_at false 0 l.space false (cursor_of l.reader) ≡ spec.gap_at false 0 false false (cursor_of l.fn.reader)

abbrev pub decreases-loop-space : goal.decreases-loop-space
decreases-loop-space g l = length (cursor_of l.reader).rest
