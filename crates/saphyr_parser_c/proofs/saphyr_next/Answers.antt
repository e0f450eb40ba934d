use Rattle.saphyr_parser_c.specs.Inner.{HandsToC}
use Rattle.saphyr_parser_c.proofs.Codes.{put_back}
use Rattle.saphyr_parser_c.proofs.saphyr_next.Goals as goal

pub returns-in-Some : goal.returns-in-Some
returns-in-Some c = rw c.in-Some.ensures.taken (put_back (λ old s new. HandsToC old s c.step.new.out new) _ _ _ _ _ _
    c.deref_mut.ensures.value c.put_back.ensures c.code-code.ensures c.step.ensures)
