use Rattle.std.proofs.Common.{◌∙◌, sym}
use Rattle.saphyr_machine.proofs.Names.{texts_empty}
use Rattle.saphyr_machine.proofs.prefixes.Prefixes.is_empty.Goals as goal

pub returns : goal.returns
returns c = λ e. sym c.self.view_is ∙ texts_empty c.self.inside.declared (c.is_empty.ensures.0 e)
