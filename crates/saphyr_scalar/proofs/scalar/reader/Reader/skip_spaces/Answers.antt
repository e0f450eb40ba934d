use Rattle.saphyr_scalar.proofs.Lengths.{place_fits, place_left, column_left}
use Rattle.saphyr_scalar.proofs.SpaceRuns.{within_spaces}
use Rattle.saphyr_scalar.proofs.scalar.reader.Reader.skip_spaces.Goals as goal

pub along-self-requires-clause-index : goal.along-self-requires-clause-index
along-self-requires-clause-index g c =
    place_fits _ _ _ c.look.new.self.fits (within_spaces c.args.most _ _ c.skip_spaces-count.ensures.count)

pub along-self-requires-clause-col : goal.along-self-requires-clause-col
along-self-requires-clause-col g c = c.look.new.self.column

pub invariant_of-self : goal.invariant_of-self
invariant_of-self g c = record {
  fits = place_left _ _ c.look.new.self.mark _ _ c.look.new.self.fits
      (within_spaces c.args.most _ _ c.skip_spaces-count.ensures.count) c.skip_spaces-count.ensures.rest
      c.along-self.ensures;
  column = column_left c.look.new.self.mark _ _ c.look.new.self.column c.along-self.ensures;
}
