use Rattle.yaml_standard.proofs.BlockBodies.{given_if, found_at}
use Rattle.yaml_standard.proofs.block_body.indentation.Goals as goal

pub returns-then-digit-gt0 : goal.returns-then-digit-gt0
returns-then-digit-gt0 c =
    given_if _ _ _ c.checked_add.result c.if-digit-gt0.true c.saturating_sub.ensures c.checked_add.ensures

pub returns-else-digit-gt0 : goal.returns-else-digit-gt0
returns-else-digit-gt0 c = found_at _ _ _ c.if-digit-gt0.false c.found_indentation.ensures
