use Rattle.saphyr_parser_c.proofs.NextDocument.{text_stays}
use Rattle.saphyr_parser_c.proofs.inner.Inner.begin.Goals as goal

pub returns-in-Some-clause-text : goal.returns-in-Some-clause-text
returns-in-Some-clause-text c = text_stays c.args.self.now.source
