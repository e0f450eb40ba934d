use Rattle.std.proofs.Common.{rules}
use Rattle.yaml_standard.proofs.Declarations.{no_directives, one_more_directive, directives_taken}
use Rattle.yaml_standard.proofs.LineDirectives.{line_shorter}
use Rattle.yaml_standard.proofs.directive.behind_directives.Goals as goal

pub loop-kind-init : goal.loop-kind-init
loop-kind-init c = record { text = search rules; taken = no_directives _ _ }

pub loop-kind-preserved : goal.loop-kind-preserved
loop-kind-preserved c = record {
  text = search rules;
  taken = one_more_directive _ _ _ _ _ _ (c.in_ok-add.ensures c.if-not-branch.false)
      c.loop-kind.invariant.taken c.in-Some.ensures;
}

pub loop-kind-smaller : goal.loop-kind-smaller
loop-kind-smaller c = line_shorter _ _ _ c.in-Some.ensures

pub returns : goal.returns
returns c = directives_taken _ _ _ c.loop-kind.invariant.taken
