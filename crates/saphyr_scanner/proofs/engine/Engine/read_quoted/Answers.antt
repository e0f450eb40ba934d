-- A quoted scalar is read right where the queue keeps its text.
use Rattle.std.proofs.Common.{refl, rules}
use Rattle.saphyr_scalar.specs.Views.Reader.{cursor_of}
use Rattle.saphyr_scanner.specs.Steps.Core.{in_block}
use Rattle.saphyr_scanner.specs.Views.Engine.{core}
use Rattle.saphyr_scanner.specs.Views.Queue.{queue}
use Rattle.saphyr_scanner.proofs.Ahead.QuotedEnds.{quoted_read, found_end}
use Rattle.saphyr_scanner.proofs.engine.Engine.read_quoted.Goals as goal

pub pass_gap_to-requires : goal.pass_gap_to-requires
pass_gap_to-requires g c is =
    let old = c.args.self.now in
    found_end c.in_block-in_block.result c.args.quote c.least_column-least.result (cursor_of old.reader) (queue
    old.queue)
    (queue c.put_quoted-is_at_end.new.self) old.reader.mark c.in_ok-is_at_end.is_at_end
    (cursor_of c.put_quoted-is_at_end.new.reader) (rw c.in_ok-is_at_end.ensures at c.put_quoted-is_at_end.ensures) is

pub returns-in_err-is_at_end : goal.returns-in_err-is_at_end
returns-in_err-is_at_end g c =
    let old = c.args.self.now in
    let read = quoted_read (in_block (core old)) c.args.quote (core old) (queue old.queue) refl in
    search (rules, read)

pub returns-in_err-pass_gap_to : goal.returns-in_err-pass_gap_to
returns-in_err-pass_gap_to g c =
    let old = c.args.self.now in
    let read = quoted_read (in_block (core old)) c.args.quote (core old) (queue old.queue) refl in
    search (rules, read)

pub returns : goal.returns
returns g c =
    let old = c.args.self.now in
    let read = quoted_read (in_block (core old)) c.args.quote (core old) (queue old.queue) refl in
    search (rules, read)
