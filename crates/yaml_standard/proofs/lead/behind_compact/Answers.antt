use Rattle.std.proofs.Common.{arith}
use Rattle.yaml_standard.proofs.Leads.{compact}
use Rattle.yaml_standard.proofs.lead.behind_compact.Goals as goal

pub returns : goal.returns
returns c = compact _ _ _ _ _ c.split_spaces-count.ensures.1 c.if-count-eq0.false (omega arith)
