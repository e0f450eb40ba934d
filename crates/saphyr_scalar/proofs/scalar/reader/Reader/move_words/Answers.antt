use Rattle.saphyr_scalar.proofs.Common.{arith, words_within, cursor_of}
use Rattle.saphyr_scalar.proofs.scalar.reader.Reader.move_words.Goals as goal

pub along-self-requires-clause-index : goal.along-self-requires-clause-index
along-self-requires-clause-index g c =
    omega (
      arith,
      c.args.self.now.fits,
      words_within g.C.CharSet.test g.C.WordSet.joint (cursor_of c.args.self.now).rest,
      c.in_ok-count.ensures.ok.count,
    )
