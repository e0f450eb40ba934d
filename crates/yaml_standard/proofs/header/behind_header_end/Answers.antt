use Rattle.std.proofs.lemmas.Option.{IfSome_then}
use Rattle.yaml_standard.proofs.Headers.{header_line, header_at_end}
use Rattle.yaml_standard.proofs.header.behind_header_end.Goals as goal

pub returns-then-is_end : goal.returns-then-is_end
returns-then-is_end c = header_at_end _ _ c.behind_line_rest-rest.ensures (c.is_end.ensures c.if-is_end.true)

pub returns : goal.returns
returns c = IfSome_then c.strip.result c.strip.ensures (λ x e. header_line _ _ _ c.behind_line_rest-rest.ensures e)
