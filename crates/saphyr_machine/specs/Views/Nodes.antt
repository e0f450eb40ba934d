-- What contracts see of a node's properties.
use Rattle.std.specs.Prelude.{option_map}
use Rattle.saphyr_machine.specs.declared.property.Properties as declared
use Rattle.saphyr_machine.specs.Steps.Nodes.{NodeProperties}
use Rattle.saphyr_machine.specs.Views.Machines.{resolved_tag}

abbrev pub properties : declared.Properties → NodeProperties
properties p = record { start = p.start; behind = p.behind; anchor = p.anchor; tag = option_map resolved_tag p.tag }
