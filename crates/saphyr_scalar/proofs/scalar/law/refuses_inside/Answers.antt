use Rattle.saphyr_scalar.proofs.Common.{◌≡◌, separation}
use Rattle.saphyr_scalar.proofs.Directives.Refused.{separation_refused, directive_refused}
use Rattle.saphyr_scalar.proofs.Given.{refused_of}
use Rattle.saphyr_scalar.proofs.Properties.Refused.{anchor_refused, tag_refused}
use Rattle.saphyr_scalar.specs.Steps.Anchor.{anchor}
use Rattle.saphyr_scalar.proofs.Block.Refused.{block_scalar_refused}
use Rattle.saphyr_scalar.specs.Steps.Block.{block_scalar}
use Rattle.saphyr_scalar.specs.Steps.Directive.{directive}
use Rattle.saphyr_scalar.proofs.Plain.Refused.{plain_refused}
use Rattle.saphyr_scalar.specs.Steps.Plain.{plain}
use Rattle.saphyr_scalar.proofs.Quoted.Refused.{quoted_refused}
use Rattle.saphyr_scalar.specs.Steps.Quoted.{quoted}
use Rattle.saphyr_scalar.specs.RefusedInside.{IsRefusedInside}
use Rattle.saphyr_scalar.specs.Steps.Tag.{tag}
use Rattle.saphyr_scalar.proofs.scalar.law.refuses_inside.Goals as goal

pub returns-clause-anchor : goal.returns-clause-anchor
returns-clause-anchor c = λ s e is. refused_of (λ d. d.mark ≡ s.mark) (anchor s) e (anchor_refused s) is

pub returns-clause-tag : goal.returns-clause-tag
returns-clause-tag c = λ in_flow s e is. refused_of (λ d. d.mark ≡ s.mark) (tag in_flow s) e (tag_refused in_flow s) is

pub returns-clause-separation : goal.returns-clause-separation
returns-clause-separation c =
    λ tabs s e is. refused_of (IsRefusedInside s) (separation tabs s) e (separation_refused tabs s) is

pub returns-clause-directive : goal.returns-clause-directive
returns-clause-directive c =
    λ s e begins is. refused_of (IsRefusedInside s) (directive s) e (directive_refused s begins) is

pub returns-clause-block_scalar : goal.returns-clause-block_scalar
returns-clause-block_scalar c =
    λ style indent s e b some is. refused_of (IsRefusedInside s) (block_scalar style indent s) e
    (block_scalar_refused style indent s b some) is

pub returns-clause-plain : goal.returns-clause-plain
returns-clause-plain c =
    λ in_flow indent s e is. refused_of (IsRefusedInside s) (plain in_flow indent s) e (plain_refused in_flow indent s)
    is

pub returns-clause-quoted : goal.returns-clause-quoted
returns-clause-quoted c =
    λ quote indent s e begins is. refused_of (IsRefusedInside s) (quoted quote indent s) e
    (quoted_refused quote indent s begins) is
