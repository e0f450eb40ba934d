use Rattle.std.proofs.lemmas.Option.{IfSome_then}
use Rattle.yaml_standard.proofs.Separation.{ends_with_break, ends_with_text}
use Rattle.yaml_standard.proofs.spaces.behind_eol.Goals as goal

pub returns-then-is_end : goal.returns-then-is_end
returns-then-is_end c = ends_with_text _ _ c.behind_line_rest-rest.ensures (c.is_end.ensures c.if-is_end.true)

pub returns : goal.returns
returns c = IfSome_then c.strip.result c.strip.ensures (λ x e. ends_with_break _ _ _ c.behind_line_rest-rest.ensures e)
