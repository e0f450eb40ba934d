use Rattle.saphyr_parser_c.specs.Inner.{ShowsToC}
use Rattle.saphyr_parser_c.proofs.Codes.{put_back}
use Rattle.saphyr_parser_c.proofs.saphyr_peek.Goals as goal

pub returns-in-Some : goal.returns-in-Some
returns-in-Some c = rw c.in-Some.ensures.taken (put_back (λ old s new. ShowsToC old s c.look.new.out new) _ _ _ _ _ _
    c.deref_mut.ensures.value c.put_back.ensures c.code-code.ensures c.look.ensures)
