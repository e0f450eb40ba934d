use Rattle.std.proofs.Common.{arith}
use Rattle.saphyr_parser.proofs.cursor.Parser.new.Goals as goal

pub returns-clause-taken : goal.returns-clause-taken
returns-clause-taken g c = c.with_limit.ensures.taken (omega arith)

pub returns-clause-yaml : goal.returns-clause-yaml
returns-clause-yaml g c = c.with_limit.ensures.yaml (omega arith)

pub returns-clause-closed : goal.returns-clause-closed
returns-clause-closed g c = c.with_limit.ensures.closed (omega arith)

pub returns-clause-decided : goal.returns-clause-decided
returns-clause-decided g c = c.with_limit.ensures.decided

pub returns-clause-json : goal.returns-clause-json
returns-clause-json g c = c.with_limit.ensures.json
