use Rattle.std.specs.Prelude.{false}
use Rattle.saphyr_scanner.specs.Steps.Gap as gaps
use Rattle.saphyr_scanner.proofs.Taken.Separated.{gap_apart, spaces_apart}
use Rattle.saphyr_input.specs.declared.input.SkipTabs.TheVariants.{Yes}
use Rattle.saphyr_scalar.specs.Views.Cursor.{separation}
use Rattle.saphyr_scanner.proofs.LineTails.{separation_passes}
use Rattle.saphyr_scanner.proofs.law.passes_separation.Goals as goal
use Rattle.saphyr_scalar.proofs.Given.{given_of}

pub returns : goal.returns
returns c = record {
  gap = λ least s g e. given_of _ (gaps.whole_gap least s) g (gap_apart least s) e;
  line = λ s x e. let h = given_of _ (separation Yes s) x (separation_passes s) e in (h.apart, h.on_line);
  spaces = λ s. spaces_apart false s;
}
