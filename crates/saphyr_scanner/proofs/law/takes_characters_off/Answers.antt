use Rattle.saphyr_scanner.proofs.law.takes_characters_off.Goals as goal

pub returns : goal.returns
returns c = record {
  plain = c.takes_characters.ensures.plain;
  quoted_scalar = c.takes_characters.ensures.quoted;
  block_scalar = c.takes_characters.ensures.block_scalar;
  name = c.takes_characters.ensures.anchor;
  tag = c.takes_characters.ensures.tag;
  directive = c.takes_characters.ensures.directive;
}
