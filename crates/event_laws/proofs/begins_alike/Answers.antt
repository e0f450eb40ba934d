use Rattle.saphyr_machine.specs.Cursor.{at_start, keeping_tags}
use Rattle.event_laws.proofs.Promises.CommonBeginnings.{same_step, begins_as}
use Rattle.event_laws.proofs.begins_alike.Goals as goal

pub returns : goal.returns
returns c = record {
  step = same_step;
  machine = begins_as;
  parser = λ tokens more refusal keep. begins_as (keeping_tags keep (at_start tokens)).machine more refusal;
}
