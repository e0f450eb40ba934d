use Rattle.std.specs.Prelude.{length}
use Rattle.std.proofs.Math.Nat.{min-le_left}
use Rattle.saphyr_scanner.proofs.ReadersCounted.{reader_ends}
use Rattle.saphyr_scanner.proofs.Ordered.Run.{scan_in_order}
use Rattle.saphyr_scanner.proofs.law.orders_spans.Goals as goal

pub returns : goal.returns
returns c limit text = scan_in_order
    (reader_ends c.reads_plain_values.ensures.value c.spells_each_quoted.ensures.spelled
    c.reads_block_texts.ensures.counted
    c.spells_each_property.ensures.anchor c.spells_each_property.ensures.tag c.spells_each_directive.ensures)
    (length text) limit text (min-le_left (length text) limit)
