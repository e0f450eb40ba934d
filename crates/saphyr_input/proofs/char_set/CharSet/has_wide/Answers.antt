use Rattle.std.proofs.lemmas.Bool.{false≢true}
use Rattle.saphyr_input.proofs.char_set.CharSet.has_wide.Goals as goal

pub returns : goal.returns
returns g c = λ never other first. absurd (false≢true never)
