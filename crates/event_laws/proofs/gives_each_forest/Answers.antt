use Rattle.event_laws.proofs.Promises.Forests.{each_gives, each_parsed}
use Rattle.event_laws.proofs.gives_each_forest.Goals as goal

pub returns : goal.returns
returns c = record { machine = each_gives; parser = each_parsed }
