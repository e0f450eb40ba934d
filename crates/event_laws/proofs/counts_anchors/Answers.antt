use Rattle.event_laws.proofs.AnchorCount.{forest_count}
use Rattle.event_laws.proofs.counts_anchors.Goals as goal

pub returns : goal.returns
returns c = forest_count
