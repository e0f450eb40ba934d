use Rattle.std.proofs.Common.{refl}
use Rattle.saphyr_input.proofs.input.str.StrInput.new.Goals as goal

pub returns-clause-loaded : goal.returns-clause-loaded
returns-clause-loaded c = refl
