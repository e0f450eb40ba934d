use Rattle.saphyr_parser.proofs.Printed.Running.{finished}
use Rattle.saphyr_parser.proofs.printing.run.print_text.Goals as goal

pub returns : goal.returns
returns g c = finished _ _ _ _ _ _ c.dump_text-dumped.ensures c.finish.ensures.becomes c.finish.ensures.keeps
