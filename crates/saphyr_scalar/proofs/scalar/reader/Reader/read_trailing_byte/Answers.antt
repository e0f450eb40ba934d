use Rattle.saphyr_scalar.proofs.Common.{arith, cursor_of}
use Rattle.saphyr_scalar.proofs.Properties.ByteSteps.{byte_grows, grown_small}
use Rattle.saphyr_scalar.proofs.scalar.reader.Reader.read_trailing_byte.Goals as goal

pub returns-in-128-to-191-clause-value : goal.returns-in-128-to-191-clause-value
returns-in-128-to-191-clause-value g c =
    byte_grows c.args.start c.args.value c.in_ok-byte.byte (cursor_of c.args.self.now)
    (cursor_of c.read_escaped_byte.new.self) c.in_ok-byte.ensures.value (omega arith)
    (omega arith)

pub returns-in-128-to-191-clause-small : goal.returns-in-128-to-191-clause-small
returns-in-128-to-191-clause-small g c = grown_small c.args.value c.in_ok-byte.byte (omega arith)
