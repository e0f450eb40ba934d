use Rattle.yaml_standard.proofs.Verdicts.{text_standard}
use Rattle.yaml_standard.proofs.verdict.judge.Goals as goal

pub returns-then-is_strict : goal.returns-then-is_strict
returns-then-is_strict c =
    text_standard _ _ c.requires (c.in_ok-stuck.ensures c.in_default-stuck.is) (c.is_strict.ensures c.if-is_strict.true)
