use Rattle.yaml_check.proofs.Judging.{lines_cut, passes_fault, passes_want, told_cut, told_verdict}
use Rattle.std.proofs.Common.{refl}
use Rattle.yaml_check.proofs.run.judge.Goals as goal

pub returns-in_err-found : goal.returns-in_err-found
returns-in_err-found g c = passes_want _ _ _ _ _ c.from_residual.ensures.1

pub returns-in_err-write_events : goal.returns-in_err-write_events
returns-in_err-write_events g c = passes_fault _ _ _ _ _ _ _ c.from_residual-in_err-write_events.ensures.1
    (lines_cut _ c.args.name.now c.args.options c.args.text.now _ _ c.in_err-write_events.ensures)

pub returns-in_err-told : goal.returns-in_err-told
returns-in_err-told g c = passes_want _ _ _ _ _ c.from_residual-in_err-told.ensures.1

pub returns-in-Err : goal.returns-in-Err
returns-in-Err g c =
    lines_cut c.in-Err.fault c.args.name.now c.args.options c.args.text.now _ _ c.in-Err.ensures

pub returns-in_err-written-in-Ok : goal.returns-in_err-written-in-Ok
returns-in_err-written-in-Ok g c =
    passes_fault _ _ _ _ _ _ _ c.from_residual-in_err-written-in-Ok.ensures.1
    (told_cut _ c.args.name.now c.args.options c.args.text.now c.as_str.result.now _ _ _ c.in_ok-found.found
    (record { fault = c.in_ok-found.ensures.fault; findings = c.in_ok-found.ensures.findings })
    (rw c.as_str.ensures.value c.in_ok-told.ensures) c.in-Ok.ensures c.in_err-written-in-Ok.ensures)

pub returns-in_ok-written-in-Ok : goal.returns-in_ok-written-in-Ok
returns-in_ok-written-in-Ok g c = told_verdict _ _ _ _ _ _ (record {
  found = c.in_ok-found.found;
  is_found = record { fault = c.in_ok-found.ensures.fault; findings = c.in_ok-found.ensures.findings };
  verdict = refl;
  told = c.as_str.result.now;
  report = rw c.as_str.ensures.value c.in_ok-told.ensures;
  middle = g.W.Write.contents c.write_events-2.new.out;
  events = c.in-Ok.ensures;
  written = c.in_ok-written-in-Ok.ensures;
}) (c.is_right.ensures.no c.if-is_right.false)
