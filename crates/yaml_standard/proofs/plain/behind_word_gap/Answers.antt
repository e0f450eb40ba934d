use Rattle.std.proofs.lemmas.Option.{IfSome_then}
use Rattle.std.proofs.Common.{inl, inr}
use Rattle.yaml_standard.proofs.Pieces.{taken_so}
use Rattle.yaml_standard.proofs.plain.behind_word_gap.Goals as goal

pub returns-in-None : goal.returns-in-None
returns-in-None c =
    IfSome_then c.behind_some_blanks.result c.behind_some_blanks.ensures (λ x t. taken_so (λ p k. inl k) t)

pub returns-in-Some : goal.returns-in-Some
returns-in-Some c = taken_so (λ p k. inr k) c.in-Some.ensures
