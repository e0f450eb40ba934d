-- The parser that is made has the promises of `Parser::new_from_str`.
use Rattle.std.proofs.Common.{rules}
use Rattle.saphyr_parser_c.proofs.inner.Inner.over_text.Goals as goal

pub returns : goal.returns
returns c =
    let made = c.new_from_str.ensures in
    record {
      utf8 = c.requires;
      fresh = c.new_from_str.result;
      promises = record {
        decided = made.decided;
        json = made.json;
        yaml = made.yaml;
        closed = made.closed;
        spans = made.spans;
        taken = made.taken;
      };
      parser = search rules;
      event = search rules;
    }
