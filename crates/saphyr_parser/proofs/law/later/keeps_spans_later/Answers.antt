use Rattle.saphyr_parser.proofs.Later as later
use Rattle.saphyr_parser.proofs.law.later.keeps_spans_later.Goals as goal

pub returns : goal.returns
returns c = later.keeps_spans_later
