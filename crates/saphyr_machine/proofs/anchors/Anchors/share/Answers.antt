use Rattle.std.proofs.Common.{◌∙◌}
use Rattle.saphyr_machine.proofs.anchors.Anchors.share.Goals as goal

pub returns : goal.returns
returns c = (λ i. record { ids = c.share.ensures i; last = c.self.inside.last }) ∙ c.self.view_is
