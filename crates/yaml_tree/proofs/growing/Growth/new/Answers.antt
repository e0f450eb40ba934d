use Rattle.yaml_tree.proofs.Growths.{grows_none}
use Rattle.yaml_tree.proofs.growing.Growth.new.Goals as goal

pub returns : goal.returns
returns c = grows_none _ (record { levels = c.new-levels.ensures.items; waiting = c.new-waiting.ensures.items })
    c.new-table.ensures c.new-counter.ensures
