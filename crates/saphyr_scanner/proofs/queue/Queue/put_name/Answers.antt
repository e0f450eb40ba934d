-- A name is put behind the tokens of the queue.
use Rattle.saphyr_scalar.specs.Views.Reader.{cursor_of}
use Rattle.saphyr_scanner.specs.Views.Reads.{name_kind, name_whole}
use Rattle.saphyr_scanner.proofs.QueuedReads.{token_put}
use Rattle.saphyr_scanner.proofs.queue.Queue.put_name.Goals as goal

pub invariant_of-self-clause-fit : goal.invariant_of-self-clause-fit
invariant_of-self-clause-fit g c =
    (token_put c.make_room.new.self c.push_reserved.new.self.items c.in-Ok.place (name_kind c.args.kind)
    c.args.reader.now.mark c.read_name.new.self (cursor_of c.read_name.new.reader) tt
    (name_whole (cursor_of c.args.reader.now)) c.push_reserved.ensures.items c.in-Ok.ensures).0
