-- A quoted scalar is put behind the tokens of the queue.
use Rattle.saphyr_scalar.specs.Views.Reader.{cursor_of}
use Rattle.saphyr_scanner.specs.Views.Reads.{quote_kind, quoted_whole}
use Rattle.saphyr_scanner.proofs.QueuedReads.{token_put}
use Rattle.saphyr_scanner.proofs.queue.Queue.put_quoted.Goals as goal

pub invariant_of-self-clause-fit : goal.invariant_of-self-clause-fit
invariant_of-self-clause-fit g c =
    (token_put c.make_room.new.self c.push_reserved.new.self.items c.in-Ok.place (quote_kind c.args.quote)
    c.args.reader.now.mark c.read_quoted.new.self (cursor_of c.read_quoted.new.reader) c.in-Ok.is_at_end
    (quoted_whole c.args.in_block c.args.quote c.args.indent (cursor_of c.args.reader.now))
    c.push_reserved.ensures.items c.in-Ok.ensures).0
