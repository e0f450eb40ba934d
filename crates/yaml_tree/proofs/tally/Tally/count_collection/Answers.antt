use Rattle.std.proofs.Common.{rules}
use Rattle.yaml_tree.proofs.tally.Tally.count_collection.Goals as goal

pub returns : goal.returns
returns c = search rules
