use Rattle.std.proofs.Common.{◌≡◌, ◌++◌, replicate, string_bytes}
use Rattle.yaml_check.proofs.view.push_spaces.Given as goal

abbrev pub invariant-loop-space : goal.invariant-loop-space
invariant-loop-space l = string_bytes l.out ≡ string_bytes l.fn.out ++ replicate l._space 32
