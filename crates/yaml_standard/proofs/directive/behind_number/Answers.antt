use Rattle.std.proofs.Common.{arith, rules}
use Rattle.yaml_standard.proofs.LineDirectives.{one_digit, one_more_digit, number_taken}
use Rattle.yaml_standard.proofs.directive.behind_number.Goals as goal

pub loop-init : goal.loop-init
loop-init c = record { text = search rules; taken = one_digit _ _ c.in_ok-rest.ensures }

pub loop-preserved : goal.loop-preserved
loop-preserved c =
    record { text = search rules; taken = one_more_digit _ _ _ _ c.loop.invariant.taken c.in-Some.ensures }

pub returns-in-None : goal.returns-in-None
returns-in-None c = number_taken c.loop.counter _ _ (omega (arith, c.loop-test.true)) c.loop.invariant.taken

pub returns : goal.returns
returns c = number_taken c.loop.counter _ _ (omega (arith, c.loop.auto.counter-end)) c.loop.invariant.taken
