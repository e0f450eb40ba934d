use Rattle.std.proofs.Common.{subst}
use Rattle.saphyr_parser.specs.Runs.{answer_of_text}
use Rattle.yaml_standard.specs.Verdicts.{EndsWithFault}
use Rattle.yaml_standard.proofs.Places.{place_here}
use Rattle.yaml_standard.proofs.verdict.verdict_at.Goals as goal

pub returns-in-None : goal.returns-in-None
returns-in-None c = (
  subst (EndsWithFault (answer_of_text c.args.text.now)) c.in-None.is c.in_ok-error.ensures,
  place_here _ _ _ (c.behind.ensures.here _ c.new.ensures),
)
