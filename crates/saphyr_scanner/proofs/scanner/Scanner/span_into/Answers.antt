-- The span of the first token.
use Rattle.saphyr_scanner.proofs.Handing.Turns.{first_in}
use Rattle.saphyr_scanner.proofs.scanner.Scanner.span_into.Goals as goal

pub returns : goal.returns
returns g c more t left is = c.span_into.ensures t (first_in c.self.view_is c.requires more t left is).0
