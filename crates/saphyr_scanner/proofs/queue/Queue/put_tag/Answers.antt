-- A tag is put behind the tokens of the queue.
use Rattle.saphyr_scalar.specs.Views.Reader.{cursor_of}
use Rattle.saphyr_scanner.specs.Views.Reads.{tag_kind, tag_whole}
use Rattle.saphyr_scanner.proofs.QueuedReads.{token_put}
use Rattle.saphyr_scanner.proofs.queue.Queue.put_tag.Goals as goal

pub invariant_of-self-clause-fit : goal.invariant_of-self-clause-fit
invariant_of-self-clause-fit g c =
    (token_put c.make_room.new.self c.push_reserved.new.self.items c.in-Ok.place tag_kind c.args.reader.now.mark
    c.read_tag.new.self (cursor_of c.read_tag.new.reader) tt
    (tag_whole c.args.in_flow (cursor_of c.args.reader.now)) c.push_reserved.ensures.items c.in-Ok.ensures).0
