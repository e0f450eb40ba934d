use Rattle.std.proofs.Common.{refl}
use Rattle.yaml_check.proofs.Judging.{other_cut, other_fault, other_want}
use Rattle.yaml_check.proofs.run.tell_not_utf8.Goals as goal

pub returns-in_err-found : goal.returns-in_err-found
returns-in_err-found g c = other_want _ _ _ _ _ c.from_residual.ensures.1

pub returns-in_err-told : goal.returns-in_err-told
returns-in_err-told g c = other_want _ _ _ _ _ c.from_residual-in_err-told.ensures.1

pub returns-in_err-written : goal.returns-in_err-written
returns-in_err-written g c = other_fault _ _ _ _ _ _ _ c.from_residual-in_err-written.ensures.1
    (other_cut _ c.args.name.now c.args.options c.args.bytes.now c.as_str.result.now _ _
    (record {
      found = c.in_ok-found.found;
      is_found = c.in_ok-found.ensures;
      report = rw (c.as_str.ensures.value, ← c.text_before.ensures) c.in_ok-told.ensures;
    }) c.in_err-written.ensures)

pub returns : goal.returns
returns g c = (
  refl,
  (
    c.as_str.result.now,
    record {
      found = c.in_ok-found.found;
      is_found = c.in_ok-found.ensures;
      report = rw (c.as_str.ensures.value, ← c.text_before.ensures) c.in_ok-told.ensures;
    },
    c.in_ok-written.ensures,
  ),
)
