use Rattle.std.proofs.Common.{rules}
use Rattle.saphyr_parser.specs.Runs.{answer_of_text}
use Rattle.yaml_check.proofs.FoundIn.{names_fault, names_findings}
use Rattle.yaml_check.proofs.checking.check_text.Goals as goal

pub returns-clause-fault : goal.returns-clause-fault
returns-clause-fault c =
    names_fault _ _ (answer_of_text c.args.text.now) (search rules) c.findings-found.ensures.fault

pub returns-clause-findings : goal.returns-clause-findings
returns-clause-findings c =
    names_findings _ _ _ _ _ _ _ _ _ (search rules) (search rules) (search rules) c.findings-found.ensures.told
