use Rattle.yaml_tree.proofs.Growths.{grown_table}
use Rattle.yaml_tree.proofs.table_loading.Grower.into_table.Goals as goal

pub returns : goal.returns
returns c = λ limits es h none. grown_table es _ none.levels h.grown
