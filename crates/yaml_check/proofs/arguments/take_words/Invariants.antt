use Rattle.std.proofs.Common.{length, ◌-◌}
use Rattle.yaml_check.proofs.arguments.take_words.Given as goal

abbrev pub decreases-loop-at : goal.decreases-loop-at
decreases-loop-at l = length l.words - l.at
