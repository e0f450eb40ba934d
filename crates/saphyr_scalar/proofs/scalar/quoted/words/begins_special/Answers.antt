use Rattle.saphyr_scalar.proofs.Quoted.Parts.{not_doubled, not_escaped}
use Rattle.saphyr_scalar.proofs.scalar.quoted.words.begins_special.Goals as goal

pub returns-in-Single-clause-none : goal.returns-in-Single-clause-none
returns-in-Single-clause-none c = λ other start s read. rw c.in-Single.is (not_doubled start s c.args.c other read)

pub returns-in-Double-clause-none : goal.returns-in-Double-clause-none
returns-in-Double-clause-none c = λ other start s read. rw c.in-Double.is (not_escaped start s c.args.c other read)
