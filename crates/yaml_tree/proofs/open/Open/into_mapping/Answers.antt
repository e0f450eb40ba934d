use Rattle.std.proofs.Common.{refl}
use Rattle.yaml_tree.proofs.Unloads.{ends_mapping}
use Rattle.yaml_tree.proofs.open.Open.into_mapping.Goals as goal

pub returns-in-Mapping-default-default-default-None : goal.returns-in-Mapping-default-default-default-None
returns-in-Mapping-default-default-default-None c =
    rw (c.in-Mapping-default-default-default-None.is, c.in-Mapping-default-default-default-None.field-3-is)
    (ends_mapping _ _ _, refl)
