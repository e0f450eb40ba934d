use Rattle.saphyr_scanner.proofs.Added.StreamEnds.{scan_ends}
use Rattle.saphyr_scanner.proofs.law.ends_with_the_stream.Goals as goal

pub returns : goal.returns
returns c =
    scan_ends c.takes_characters_off.ensures
