use Rattle.saphyr_parser.proofs.Printed.Written.{takes_first, takes_next}
use Rattle.yaml_check.proofs.run.write_bytes.Goals as goal

pub loop-rest-init : goal.loop-rest-init
loop-rest-init g c = takes_first _ _

pub loop-rest-preserved : goal.loop-rest-preserved
loop-rest-preserved g c = takes_next _ _ _ _ _ _ c.loop-rest.invariant c.in-Ok.ensures.bytes
