use Rattle.yaml_standard.proofs.Leaves.{key_blanks, key_separation}
use Rattle.yaml_standard.proofs.leaf.behind_key_separation.Goals as goal

pub returns-then-on_line : goal.returns-then-on_line
returns-then-on_line c = key_blanks _ _ _ _ c.behind_blanks.ensures

pub returns : goal.returns
returns c = key_separation _ _ _ _ c.if-on_line.false c.behind_separation.ensures
