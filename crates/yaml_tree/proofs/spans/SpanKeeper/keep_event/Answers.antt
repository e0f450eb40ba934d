use Rattle.std.proofs.Common.{rules}
use Rattle.yaml_tree.proofs.spans.SpanKeeper.keep_event.Goals as goal

pub returns-in-SequenceEnd : goal.returns-in-SequenceEnd
returns-in-SequenceEnd c = search rules
