use Rattle.saphyr_scalar.specs.Views.Reader.{cursor_of}
use Rattle.saphyr_scalar.proofs.Lengths.{within_separation, place_fits, place_left, column_left}
use Rattle.saphyr_scalar.proofs.NoSeparation.{nothing_separates}
use Rattle.saphyr_scalar.proofs.scalar.reader.Reader.skip_ws_to_eol.Goals as goal

pub returns-then-begins_no_separation : goal.returns-then-begins_no_separation
returns-then-begins_no_separation g c =
    let test = c.begins_no_separation.ensures in
    nothing_separates c.args.skip_tabs (cursor_of c.args.self.now) (cursor_of c.look.new.self) c.look.result
    c.look.ensures.value c.look.ensures.same (test.skipped c.if-begins_no_separation.true c.args.skip_tabs)
    (test.comment c.if-begins_no_separation.true) (test.mark c.if-begins_no_separation.true)

pub along-self-requires-clause-index : goal.along-self-requires-clause-index
along-self-requires-clause-index g c =
    place_fits _ _ _ c.look.new.self.fits
    (within_separation c.args.skip_tabs _ _ c.skip_ws_to_eol-count.ensures.count)

pub along-self-requires-clause-col : goal.along-self-requires-clause-col
along-self-requires-clause-col g c = c.look.new.self.column

pub invariant_of-self : goal.invariant_of-self
invariant_of-self g c = record {
  fits = place_left _ _ c.look.new.self.mark _ _ c.look.new.self.fits
      (within_separation c.args.skip_tabs _ _ c.skip_ws_to_eol-count.ensures.count)
      c.skip_ws_to_eol-count.ensures.rest c.along-self.ensures;
  column = column_left c.look.new.self.mark _ _ c.look.new.self.column c.along-self.ensures;
}
