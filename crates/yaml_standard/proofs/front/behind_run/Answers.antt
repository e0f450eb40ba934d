use Rattle.std.proofs.Common.{sym}
use Rattle.yaml_standard.proofs.Pieces.{run_taken}
use Rattle.yaml_standard.proofs.front.behind_run.Goals as goal

pub returns : goal.returns
returns g c =
    let start = c.new-input.ensures.rest in
    let run = run_taken g.C.CharSet.test _ _ c.skip_while.result c.skip_while.ensures.count c.skip_while.ensures.rest in
    rw (sym start, c.as_str.ensures) run
