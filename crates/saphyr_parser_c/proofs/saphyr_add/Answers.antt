use Rattle.saphyr_parser_c.specs.Inner.{AddsToC}
use Rattle.saphyr_parser_c.proofs.Codes.{put_back}
use Rattle.saphyr_parser_c.proofs.saphyr_add.Goals as goal

pub returns : goal.returns
returns c = rw c.in-Some.ensures.taken (put_back (AddsToC c.args.bytes.now) _ _ _ _ _ _
    c.deref_mut.ensures.value c.put_back.ensures c.code-2.ensures c.add-status.ensures)
