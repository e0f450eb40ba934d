use Rattle.std.proofs.Common.{true, rules}
use Rattle.std.specs.Prelude.{codes}
use Rattle.saphyr_input.proofs.Sets.{decided}
use Rattle.saphyr_input.proofs.char_traits.is_flow.Goals as goal

pub returns-in-44-clause-set : goal.returns-in-44-clause-set
returns-in-44-clause-set c = decided true (codes ",[]{}") c.args.c (search rules)
