use Rattle.saphyr_scalar.proofs.Plain.Sound.{plain_lines, plain_non_space, plain_reads}
use Rattle.saphyr_scalar.proofs.scalar.law.reads_plain_values.Goals as goal

pub returns : goal.returns
returns c = record { value = plain_reads; lines = plain_lines; first = plain_non_space }
