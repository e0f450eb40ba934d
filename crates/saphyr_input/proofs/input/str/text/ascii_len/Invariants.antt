use Rattle.std.proofs.Common.{length, ◌-◌}
use Rattle.saphyr_input.specs.Fronts.{ascii_in}
use Rattle.saphyr_input.proofs.AsciiLen.{Counted}
use Rattle.saphyr_input.proofs.input.str.text.ascii_len.Given as goal

abbrev pub invariant-fours : goal.invariant-fours
invariant-fours g l = Counted (ascii_in g.C.CharSet.test) l.bytes l.len

abbrev pub decreases-fours : goal.decreases-fours
decreases-fours g l = length l.bytes - l.len

abbrev pub invariant-ones : goal.invariant-ones
invariant-ones g l = Counted (ascii_in g.C.CharSet.test) l.bytes l.len

abbrev pub decreases-ones : goal.decreases-ones
decreases-ones g l = length l.bytes - l.len
