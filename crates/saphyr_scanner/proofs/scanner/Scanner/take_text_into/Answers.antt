-- The text of the first token is taken.
use Rattle.std.proofs.Common.{rules}
use Rattle.saphyr_scanner.specs.Views.Engine.{state}
use Rattle.saphyr_scanner.specs.Views.Queue.{queue}
use Rattle.saphyr_scanner.proofs.Handing.Turns.{first_in}
use Rattle.saphyr_scanner.proofs.scanner.Scanner.take_text_into.Goals as goal

pub returns-clause-text : goal.returns-clause-text
returns-clause-text g c more t left text is of =
    let taken = c.take_text_into-taken.ensures.text t text (first_in c.self.view_is c.requires more t left is).0 of in
    search (rules, taken)

pub returns-clause-left : goal.returns-clause-left
returns-clause-left g c more t left is =
    let after = (first_in c.self.view_is c.requires more t left is).1
    (record (state c.self.inside.engine) { queue = queue c.take_text_into-taken.new.self }) c.keep.new.stop in
    search (rules, after)
