use Rattle.std.proofs.Common.{rules}
use Rattle.std.proofs.lemmas.List.{append_assoc}
use Rattle.std.proofs.lemmas.Result.{IfOk-equal}
use Rattle.yaml_check.proofs.json.push_front.Goals as goal

pub returns : goal.returns
returns c = search (rules, IfOk-equal, append_assoc)
