use Rattle.std.proofs.Common.{◌∙◌}
use Rattle.saphyr_machine.specs.Names.{with_listed}
use Rattle.saphyr_machine.proofs.anchors.Anchors.try_clone.Goals as goal

pub returns : goal.returns
returns c =
    (λ i. record {
      ids = with_listed (c.in_ok-try_clone-2.ensures i) (c.in_ok-try_clone.ensures i);
      last = c.self.inside.last;
    })
    ∙ c.self.view_is
