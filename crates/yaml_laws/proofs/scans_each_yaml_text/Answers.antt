use Rattle.std.proofs.Common.{arith, length}
use Rattle.yaml_laws.proofs.Flow.States.{ReaderPromises}
use Rattle.yaml_laws.proofs.InBlock.ScalarTexts.{ReadsBlocks}
use Rattle.yaml_laws.proofs.InBlock.YamlTexts.{yaml_scans}
use Rattle.yaml_laws.proofs.scans_each_yaml_text.Goals as goal

pub returns : goal.returns
returns c limit forest text yaml short small =
    let reads : ReaderPromises = record {
      plain = c.reads_each_plain_text.ensures;
      quoted = c.reads_each_quoted.ensures;
      place = c.passes_to_one_place.ensures;
      anchor = c.reads_each_anchor.ensures;
      tag = c.reads_each_tag.ensures;
      directive = c.reads_each_directive.ensures;
      reserved = c.reads_each_reserved_directive.ensures;
    } in
    let blocks : ReadsBlocks = record {
      reads = c.reads_each_block_scalar.ensures;
      passes = λ style indent s t text span e f g.
          (c.reads_block_texts.ensures.placed style indent s t text span e f g).0;
      place = c.passes_to_one_place.ensures;
    } in
    let same = c.scans_breaks_alike.ensures limit (length text) text small short (omega arith) in
    yaml_scans c.takes_characters_off.ensures reads blocks limit (length text) small forest text same yaml
    (omega arith)
