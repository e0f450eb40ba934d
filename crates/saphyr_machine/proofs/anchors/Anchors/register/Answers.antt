use Rattle.std.proofs.Common.{rules}
use Rattle.saphyr_machine.proofs.Names.{registered}
use Rattle.saphyr_machine.proofs.anchors.Anchors.register.Goals as goal

pub returns : goal.returns
returns c = search (rules, registered)
