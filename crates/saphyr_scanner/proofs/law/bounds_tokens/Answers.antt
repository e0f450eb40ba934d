use Rattle.saphyr_scanner.proofs.ReadersCounted.{reader_ends}
use Rattle.saphyr_scanner.proofs.Added.Bound.{scan_few}
use Rattle.saphyr_scanner.proofs.law.bounds_tokens.Goals as goal

pub returns : goal.returns
returns c =
    scan_few c.takes_characters_off.ensures
    (reader_ends c.reads_plain_values.ensures.value c.spells_each_quoted.ensures.spelled
    c.reads_block_texts.ensures.counted c.spells_each_property.ensures.anchor c.spells_each_property.ensures.tag
    c.spells_each_directive.ensures)
