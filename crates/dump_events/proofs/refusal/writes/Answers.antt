use Rattle.std.proofs.Common.{take, drop, sym, take-append-drop}
use Rattle.dump_events.proofs.refusal.writes.Goals as goal

pub returns-clause-beginning : goal.returns-clause-beginning
returns-clause-beginning g c =
    let n = c.write_out.result in
    let bytes = c.args.bytes.now in record {
      front = take n bytes;
      back = drop n bytes;
      split = sym (take-append-drop n bytes);
      taken = c.write_out.ensures.bytes;
    }
