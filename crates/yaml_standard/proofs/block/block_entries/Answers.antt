use Rattle.yaml_standard.proofs.BlockNodes.{more_entries, no_entries}
use Rattle.yaml_standard.proofs.block.block_entries.Goals as goal

pub returns-then-is_end : goal.returns-then-is_end
returns-then-is_end c = no_entries c.args.kind c.args.column _

pub returns : goal.returns
returns c = λ x end entry others. more_entries c.args.kind c.args.column _ _ x end c.in_ok-rest.ensures entry others
