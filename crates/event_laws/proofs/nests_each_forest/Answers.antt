use Rattle.event_laws.proofs.Nesting.{forest_nests, whole_before}
use Rattle.event_laws.proofs.nests_each_forest.Goals as goal

pub returns : goal.returns
returns c = record { whole = forest_nests; cut = whole_before }
