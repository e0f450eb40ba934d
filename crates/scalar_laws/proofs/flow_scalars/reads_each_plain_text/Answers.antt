use Rattle.scalar_laws.proofs.Plain.Texts.{plain_text_read}
use Rattle.scalar_laws.proofs.flow_scalars.reads_each_plain_text.Goals as goal

pub returns : goal.returns
returns c = plain_text_read
