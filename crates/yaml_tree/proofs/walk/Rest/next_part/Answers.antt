use Rattle.std.proofs.Common.{refl}
use Rattle.saphyr_parser.specs.Events.{SequenceEnd, MappingEnd}
use Rattle.yaml_tree.proofs.Walks.{no_item, no_pair, next_item, next_key}
use Rattle.yaml_tree.proofs.Leads.{begins_item, begins_key, begins_value}
use Rattle.yaml_tree.proofs.walk.Rest.next_part.Goals as goal

pub returns-in-None : goal.returns-in-None
returns-in-None c =
    rw c.in-Items.is (SequenceEnd, tt, no_item c.in-Items.all c.in-Items.left c.in-None.ensures.cases)

pub returns-in-Some : goal.returns-in-Some
returns-in-Some c =
    let all = c.in-Items.all in
    let left = c.in-Items.left in
    let others = c.in-Some.others in
    let split = c.in-Some.ensures.cases.0 in
    rw c.in-Items.is (
      next_item all left others c.in-Some.node.now split,
      λ node of. begins_item all left others node c.in-Some.node.now of split,
    )

pub returns-in-None-split_first : goal.returns-in-None-split_first
returns-in-None-split_first c =
    rw c.in-Pairs.is (MappingEnd, tt, no_pair c.in-Pairs.all c.in-Pairs.left c.in-None-split_first.ensures.cases)

pub returns-in-Some-split_first : goal.returns-in-Some-split_first
returns-in-Some-split_first c =
    let all = c.in-Pairs.all in
    let left = c.in-Pairs.left in
    let others = c.in-Some-split_first.others in
    let pair = c.in-Some-split_first.pair.now in
    let split = c.in-Some-split_first.ensures.cases.0 in
    rw c.in-Pairs.is (
      next_key all left others pair split,
      λ node of. begins_key all left others _ node pair of split refl,
    )

pub returns-in-Value : goal.returns-in-Value
returns-in-Value c = rw c.in-Value.is (refl, begins_value c.in-Value.all c.in-Value.others c.in-Value.value)
