use Rattle.yaml_standard.proofs.FlowPairs.{lone_mark, marked_pair, unmarked_pair}
use Rattle.yaml_standard.proofs.flow.pair.Goals as goal

pub returns-in_default : goal.returns-in_default
returns-in_default c = λ end s. unmarked_pair _ _ _ _ s

pub returns-then-ends_entry : goal.returns-then-ends_entry
returns-then-ends_entry c = lone_mark _ _ _ _ c.in-Some.ensures (c.ends_entry.ensures c.if-ends_entry.true)

pub returns : goal.returns
returns c = λ end s. marked_pair _ _ _ _ _ c.in-Some.ensures s
