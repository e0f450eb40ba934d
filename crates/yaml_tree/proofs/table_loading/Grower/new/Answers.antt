use Rattle.yaml_tree.proofs.table_loading.Grower.new.Goals as goal

pub returns : goal.returns
returns c = record {
  same_limits = c.new-tally.ensures.limits;
  counted = c.new-tally.ensures.counts;
  within = tt;
  grown = c.new-growth.ensures;
}
