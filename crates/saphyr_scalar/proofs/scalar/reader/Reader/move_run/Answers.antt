use Rattle.saphyr_scalar.proofs.Lengths.{within_run, place_fits, place_left, column_left, part_left}
use Rattle.saphyr_scalar.proofs.scalar.reader.Reader.move_run.Goals as goal

pub invariant_of-self : goal.invariant_of-self
invariant_of-self g c = record {
  fits = part_left _ _ _ _ c.args.self.now.fits c.in_err-count.ensures.err.transfers.taken;
  column = c.args.self.now.column;
}

pub along-self-requires-clause-index : goal.along-self-requires-clause-index
along-self-requires-clause-index g c =
    place_fits _ _ _ c.args.self.now.fits (within_run g.C.CharSet.test _ _ c.in_ok-count.ensures.ok.count)

pub along-self-requires-clause-col : goal.along-self-requires-clause-col
along-self-requires-clause-col g c = c.args.self.now.column

pub invariant_of-self-2 : goal.invariant_of-self-2
invariant_of-self-2 g c = record {
  fits = place_left _ _ c.args.self.now.mark _ _ c.args.self.now.fits
      (within_run g.C.CharSet.test _ _ c.in_ok-count.ensures.ok.count)
      c.in_ok-count.ensures.ok.transfers.taken c.along-self.ensures;
  column = column_left c.args.self.now.mark _ _ c.args.self.now.column c.along-self.ensures;
}
