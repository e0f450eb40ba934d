use Rattle.std.proofs.Common.{subst, IsUtf8}
use Rattle.saphyr_pieces.proofs.Behind.{Left, left_of_text}
use Rattle.saphyr_pieces.proofs.owned.start_of.Goals as goal
use Rattle.saphyr_pieces.proofs.owned.start_of.Goals.{After-as_bytes}

left : (c : After-as_bytes) → Left c.args.text.now c.args.left.now
left c = left_of_text c.args.text.now c.args.left.now c.args.start
    (subst IsUtf8 c.as_bytes.ensures.value c.as_bytes.ensures.utf8) c.utf8.left c.requires.from c.requires.later

pub overflow_sub-result : goal.overflow_sub-result
overflow_sub-result c = (left (goal.at.overflow_sub-result c).After-as_bytes).fits

pub returns-clause-boundary : goal.returns-clause-boundary
returns-clause-boundary c = (left (goal.at.returns-clause-boundary c).After-as_bytes).boundary

pub returns-clause-left : goal.returns-clause-left
returns-clause-left c = (left (goal.at.returns-clause-left c).After-as_bytes).left
