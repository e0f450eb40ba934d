use Rattle.std.proofs.Common.{rules}
use Rattle.saphyr_scanner.specs.Views.Scanning.{tokens_in, tokens_over}
use Rattle.saphyr_scanner.proofs.scanner.Scanner.new.Goals as goal

pub returns-clause-taken : goal.returns-clause-taken
returns-clause-taken g c = c.takes_all_tokens.ensures.taken c.args.limit
    (g.T.Input.rest c.args.input) c.new.ensures.countable

pub returns-clause-tokens : goal.returns-clause-tokens
unfolding tokens_over tokens_in
returns-clause-tokens g c = search rules

pub returns-clause-spans : goal.returns-clause-spans
returns-clause-spans g c = search rules
