use Rattle.std.proofs.lemmas.Option.{IfSome_then}
use Rattle.yaml_standard.proofs.BlockPairs.{colon_taken}
use Rattle.yaml_standard.proofs.walk.behind_colon.Goals as goal

pub returns-then-is_short_line : goal.returns-then-is_short_line
returns-then-is_short_line c =
    IfSome_then c.strip.result c.strip.ensures
    (λ x e. colon_taken _ _ _ _ c.behind_blanks-colon.ensures (c.is_short_line.ensures c.if-is_short_line.true) e)
