use Rattle.std.proofs.Common.{rules}
use Rattle.yaml_standard.proofs.Pieces.{none_of_many, one_of_many}
use Rattle.yaml_standard.proofs.PlainScalars.{word_shorter}
use Rattle.yaml_standard.proofs.plain.behind_further_words.Goals as goal

pub loop-word-init : goal.loop-word-init
loop-word-init c = record { text = search rules; taken = none_of_many _ _ }

pub loop-word-preserved : goal.loop-word-preserved
loop-word-preserved c =
    record { text = search rules; taken = one_of_many _ _ _ _ c.loop-word.invariant.taken c.in-Some.ensures }

pub loop-word-smaller : goal.loop-word-smaller
loop-word-smaller c = word_shorter _ _ _ _ c.in-Some.ensures
