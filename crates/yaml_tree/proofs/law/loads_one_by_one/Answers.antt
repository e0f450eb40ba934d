use Rattle.std.proofs.Common.{Bool, List, ℕ}
use Rattle.saphyr_parser.specs.Answer.{Answer}
use Rattle.saphyr_parser.specs.EventsTaken.{AreTaken}
use Rattle.yaml_tree.specs.DocumentSeen.{nest_in_stream}
use Rattle.yaml_tree.proofs.OneByOne.{Begun, goes_on_between, gives_all}
use Rattle.yaml_tree.proofs.law.loads_one_by_one.Goals as goal

pub returns : goal.returns
returns c =
    let begun : (keep : Bool) (text : List ℕ) (all : Answer) → AreTaken keep text all → Begun all =
    λ keep text all taken. record {
      missing = taken.1.begins.missing;
      cut = taken.1.begins.all_given;
      complete = c.nests_each_forest.ensures.whole taken.0 keep _ taken.1.begins.are_events;
      start = c.nests_events.ensures.starts keep text all taken;
      nested = c.nests_events.ensures.nests keep text all taken;
      whole = λ f hs. c.nests_each_forest.ensures.cut f hs taken.1.begins.missing nest_in_stream;
    } in record {
      fresh = λ keep text limits documents all left behind taken.
          goes_on_between limits documents all left behind (begun keep text all taken);
      whole = λ keep text limits documents all left behind taken.
          gives_all limits documents all left behind (begun keep text all taken);
    }
