use Rattle.std.proofs.lemmas.Bool.{ltb-true}
use Rattle.yaml_standard.proofs.Pieces.{something_before}
use Rattle.yaml_standard.proofs.front.is_past.Goals as goal

pub returns : goal.returns
returns c = λ h n e. something_before _ _ n c.utf8.text c.utf8.rest (ltb-true _ _ h) e
