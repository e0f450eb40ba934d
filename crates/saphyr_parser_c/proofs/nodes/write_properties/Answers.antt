use Rattle.std.proofs.Common.{pos}
use Rattle.saphyr_parser_c.proofs.TreeFields.{tag_texts}
use Rattle.saphyr_parser_c.proofs.nodes.write_properties.Goals as goal

pub returns-in-Some-clause-tag : goal.returns-in-Some-clause-tag
returns-in-Some-clause-tag c = λ id tag has none.
    tag_texts c.args.table.now.texts.items c.in-Some.tag tag c.text.result.now c.text-in-Some.result.now
    (record c.args.out.now {
      has_tag = pos 1;
      anchor = c.anchor-out.result;
      tag_handle = c.lent_bytes-out.result;
      tag_suffix = c.lent_bytes-out-in-Some.result;
    })
    (c.in-Some.ensures id tag has) c.text.ensures c.text-in-Some.ensures c.lent_bytes-out.ensures
    c.lent_bytes-out-in-Some.ensures
