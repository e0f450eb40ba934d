use Rattle.std.proofs.Common.{◌≡◌, ◌++◌, take, string_bytes}
use Rattle.yaml_check.specs.Shown.{visible}
use Rattle.yaml_check.proofs.view.push_visible.Given as goal

abbrev pub invariant-loop-c : goal.invariant-loop-c
invariant-loop-c l = string_bytes l.out ≡ string_bytes l.fn.out ++ visible (take l.c-index l.characters)
