-- What contracts see of the collections that are open.
use Rattle.std.specs.Prelude.{reverse}
use Rattle.yaml_check.specs.declared.open.Open.{Open}
use Rattle.yaml_check.specs.Opened.{OpenStarts}

abbrev pub open_of : Open → OpenStarts
open_of o = record { starts = reverse o.starts.items; behind = o.behind }
