use Rattle.std.proofs.Common.{subst}
use Rattle.yaml_standard.specs.Verdicts.{IsVerdictOn}
use Rattle.saphyr_parser_c.proofs.standard.write_verdict.Goals as goal

pub returns-in-Refused-clause-tells : goal.returns-in-Refused-clause-tells
returns-in-Refused-clause-tells c =
    λ text is. (c.in-Refused.error, subst (IsVerdictOn text) c.in-Refused.is is, c.only_place.ensures)
