use Rattle.std.proofs.Common.{sym, ◌∙◌}
use Rattle.yaml_standard.proofs.PlainWords.{part_taken}
use Rattle.yaml_standard.proofs.words.behind_safe_part.Goals as goal

pub returns-then-is_plain_safe : goal.returns-then-is_plain_safe
returns-then-is_plain_safe c = part_taken _ _ _ _ _ c.behind_colons-rest.ensures c.in_ok-c.ensures.some
    (sym c.is_plain_safe.ensures ∙ c.if-is_plain_safe.true) c.if-c-eq58.false
