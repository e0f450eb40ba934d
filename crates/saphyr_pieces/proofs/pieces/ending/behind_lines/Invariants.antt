use Rattle.std.proofs.Common.{length}
use Rattle.saphyr_pieces.proofs.pieces.ending.behind_lines.Given as goal

abbrev pub decreases-loop-line : goal.decreases-loop-line
decreases-loop-line l = length l.lines
