use Rattle.saphyr_scalar.proofs.WhatCame.Rests.{some}
use Rattle.saphyr_scalar.proofs.WhatCame.Names.{anchor_came, tag_came}
use Rattle.saphyr_scalar.proofs.WhatCame.Plain.{plain_came}
use Rattle.saphyr_scalar.proofs.WhatCame.Quoted.{quoted_came}
use Rattle.saphyr_scalar.proofs.WhatCame.Directives.{directive_came}
use Rattle.saphyr_scalar.proofs.WhatCame.Blocks.{block_came}
use Rattle.saphyr_scalar.proofs.WhatCame.Runs.{separation_came}
use Rattle.saphyr_scalar.proofs.scalar.came.reads_what_came.Goals as goal

pub returns : goal.returns
returns c = record {
  name = λ s t x more e known. (anchor_came more s).same (x, t) e (some t.rest known);
  tag = λ in_flow s t handle suffix more e known. (tag_came more in_flow s).same (handle, suffix, t) e (some t.rest
      known);
  plain = λ f i s t text end comment more e known. (plain_came more f i s).same (text, end, comment, t) e known;
  quoted = λ quote indent s t text more e known. (quoted_came more quote indent s).same (text, t) e (some t.rest known);
  block = λ style indent s t text span more e known. (block_came more style indent s).same (text, span, t) e known;
  directive = λ s t d end more e known. (directive_came more s).same (d, end, t) e (some t.rest known);
  separation = λ tabs found s t more e known. (separation_came more tabs s).same (found, t) e (some t.rest known);
}
