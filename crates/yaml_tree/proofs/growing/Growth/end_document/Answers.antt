use Rattle.yaml_tree.proofs.Growths.{document_grows, ends_between}
use Rattle.yaml_tree.proofs.Stores.{ok_map}
use Rattle.yaml_tree.proofs.growing.Growth.end_document.Goals as goal

pub returns-clause-adds : goal.returns-clause-adds
returns-clause-adds c = ok_map _ c.pop_root.ensures (document_grows _ _)

pub returns-clause-between : goal.returns-clause-between
returns-clause-between c = ok_map _ c.pop_root.ensures (ends_between _ _)
