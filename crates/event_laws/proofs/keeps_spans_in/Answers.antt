use Rattle.event_laws.proofs.Promises.KeepsSpans.{keeps_spans}
use Rattle.event_laws.proofs.keeps_spans_in.Goals as goal

pub returns : goal.returns
returns c = keeps_spans
