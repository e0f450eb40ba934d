-- The first token is taken.
use Rattle.saphyr_scanner.specs.Views.Engine.{state}
use Rattle.saphyr_scanner.specs.Views.Queue.{queue}
use Rattle.saphyr_scanner.proofs.Handing.Turns.{first_in}
use Rattle.saphyr_scanner.proofs.scanner.Scanner.skip_into.Goals as goal

pub returns-clause-span : goal.returns-clause-span
returns-clause-span g c more t left is =
    c.skip_into.ensures.span t (first_in c.self.view_is c.requires more t left is).0

pub returns-clause-left : goal.returns-clause-left
returns-clause-left g c more t left is =
    (first_in c.self.view_is c.requires more t left is).1
    (record (state c.self.inside.engine) { queue = queue c.skip_into.new.self }) c.self.inside.engine.stop
    (λ i. record (state c.self.inside.engine) { queue = c.skip_into.ensures.left i })
