use Rattle.saphyr_scanner.proofs.ReadersCounted.{reader_ends}
use Rattle.saphyr_parser.proofs.Long.{answer_refused}
use Rattle.saphyr_parser.proofs.law.refusing.refuses_long_texts.Goals as goal

pub returns : goal.returns
returns c = λ limit text few long small. answer_refused
    (reader_ends c.reads_plain_values.ensures.value c.spells_each_quoted.ensures.spelled
    c.reads_block_texts.ensures.counted c.spells_each_property.ensures.anchor c.spells_each_property.ensures.tag
    c.spells_each_directive.ensures)
    limit text few long (c.takes_all_tokens.ensures.taken limit text small)
    (c.ends_with_the_stream.ensures limit text) (c.bounds_tokens.ensures limit text)
