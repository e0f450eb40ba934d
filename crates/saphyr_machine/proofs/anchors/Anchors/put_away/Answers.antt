use Rattle.std.proofs.Common.{◌∙◌}
use Rattle.saphyr_machine.proofs.anchors.Anchors.put_away.Goals as goal

pub returns : goal.returns
returns c = (λ i. record { ids = c.take_in.ensures.same i; last = c.self.inside.last }) ∙ c.self.view_is
