use Rattle.scalar_laws.specs.Spelling.Block.{strip, clip, keep}
use Rattle.yaml_standard.proofs.header.chomping.Goals as goal

pub returns-in-Some : goal.returns-in-Some
returns-in-Some c = rw c.in-Some.ensures (strip _)

pub returns-in-Some-strip : goal.returns-in-Some-strip
returns-in-Some-strip c = rw c.in-Some-strip.ensures (keep _)

pub returns : goal.returns
returns c = clip _
