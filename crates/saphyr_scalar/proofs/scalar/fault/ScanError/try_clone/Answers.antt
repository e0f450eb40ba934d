use Rattle.std.proofs.Common.{string_bytes, ap, ◌∙◌}
use Rattle.saphyr_scalar.proofs.scalar.fault.ScanError.try_clone.Goals as goal

pub returns : goal.returns
returns c = record {
  place = c.new.ensures.mark;
  text = ap string_bytes c.new.ensures.info ∙ c.in_ok-info.ensures.cases;
}
