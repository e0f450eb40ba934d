-- The parts of the first token are taken.
use Rattle.std.proofs.Common.{rules}
use Rattle.saphyr_scanner.specs.Views.Engine.{state}
use Rattle.saphyr_scanner.specs.Views.Queue.{queue}
use Rattle.saphyr_scanner.proofs.Handing.Turns.{first_in}
use Rattle.saphyr_scanner.proofs.scanner.Scanner.take_parts.Goals as goal

pub returns-clause-parts : goal.returns-clause-parts
returns-clause-parts g c more t left is =
    let taken = c.take_parts-taken.ensures.parts t (first_in c.self.view_is c.requires more t left is).0 in
    search (rules, taken)

pub returns-clause-left : goal.returns-clause-left
returns-clause-left g c more t left is =
    let after = (first_in c.self.view_is c.requires more t left is).1
    (record (state c.self.inside.engine) { queue = queue c.take_parts-taken.new.self }) c.keep.new.stop in
    search (rules, after)
