use Rattle.saphyr_scalar.proofs.Lengths.{place_fits, place_left, column_left}
use Rattle.saphyr_scalar.proofs.SpaceRuns.{within_spaces}
use Rattle.saphyr_scalar.proofs.scalar.reader.Reader.skip_indentation.Goals as goal

pub along-self-requires-clause-index : goal.along-self-requires-clause-index
along-self-requires-clause-index g c =
    place_fits _ _ _ c.args.self.now.fits (within_spaces c.args.most _ _ c.skip_spaces-count.ensures.count)

pub along-self-requires-clause-col : goal.along-self-requires-clause-col
along-self-requires-clause-col g c = c.args.self.now.column

pub invariant_of-self : goal.invariant_of-self
invariant_of-self g c = record {
  fits = place_left _ _ c.args.self.now.mark _ _ c.args.self.now.fits
      (within_spaces c.args.most _ _ c.skip_spaces-count.ensures.count) c.skip_spaces-count.ensures.rest
      c.along-self.ensures;
  column = column_left c.args.self.now.mark _ _ c.args.self.now.column c.along-self.ensures;
}
