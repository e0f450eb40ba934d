use Rattle.std.proofs.Common.{ℕ, List, arith, rules, subst}
use Rattle.saphyr_parser_c.specs.declared.standard.CDeviation.{CDeviation}
use Rattle.saphyr_parser_c.specs.declared.status.Status.{Status}
use Rattle.saphyr_parser_c.specs.Standard.{Tells, TellsOfText}
use Rattle.saphyr_parser_c.proofs.standard.saphyr_check_standard.Goals as goal

-- what is told of a text is told of its bytes
of_bytes : (bytes : List ℕ) (s : Status) (c : CDeviation) → TellsOfText bytes s c → Tells bytes s c
of_bytes bytes u0 c h = grind arith

pub returns-in-Ok-clause-tells : goal.returns-in-Ok-clause-tells
returns-in-Ok-clause-tells c = (
  c.judge.result,
  search rules,
  of_bytes c.args.text.now c.judge.result c.judge.new.out
      (subst (λ (bytes : List ℕ). TellsOfText bytes c.judge.result c.judge.new.out) c.in-Ok.ensures.cases.0
      c.judge.ensures.tells),
)
