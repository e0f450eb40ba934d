use Rattle.std.proofs.Common.{[]}
use Rattle.saphyr_scanner.proofs.WhatCame.Fetches.{token_came}
use Rattle.saphyr_scanner.proofs.WhatCame.Scans.{goes_on, ends_so}
use Rattle.saphyr_scanner.proofs.WhatCame.HandedTokens.{all_tokens}
use Rattle.saphyr_scanner.proofs.law.came.steps_by_what_came.Goals as goal

pub returns : goal.returns
returns c = record {
  step = λ limit s t more e known. (token_came more limit s).same t e known;
  later = λ limit s t e. (token_came [] limit s).later t e;
  seen = λ limit s e more is seen. (token_came more limit s).reported e is seen;
  goes_on = goes_on;
  tokens = all_tokens c.takes_characters_off.ensures;
  refused = ends_so c.takes_characters_off.ensures;
}
