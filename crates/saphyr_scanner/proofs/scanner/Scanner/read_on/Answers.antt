-- What is read of a whole text is so.
use Rattle.std.proofs.Common.{◌≡◌, false, rules, refl}
use Rattle.saphyr_scanner.specs.Views.Scanning.{is_growing}
use Rattle.saphyr_scanner.proofs.Handing.Grown.{fills_whole}
use Rattle.saphyr_scanner.proofs.Handing.Turns.{readies}
use Rattle.saphyr_scanner.proofs.scanner.Scanner.read_on.Goals as goal

pub returns-clause-read : goal.returns-clause-read
returns-clause-read g c =
    let whole : is_growing c.self.inside.growth ≡ false = search rules in
    readies c.takes_characters_off.ensures c.self.view_is refl
    (fills_whole _ _ _ whole refl c.read_tokens.ensures)
