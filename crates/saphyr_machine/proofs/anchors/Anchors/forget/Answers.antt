use Rattle.std.proofs.Common.{rules}
use Rattle.saphyr_machine.proofs.anchors.Anchors.forget.Goals as goal

pub returns : goal.returns
returns c = search rules
