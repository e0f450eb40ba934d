use Rattle.std.proofs.Common.{◌≡◌, ℕ, ◌<◌, List, false, length, subst, arith}
use Rattle.std.specs.Prelude.{nat_lt, slice_index}
use Rattle.std.proofs.lemmas.Bool.Decides.{nat_tests}
use Rattle.saphyr_input.specs.Fronts.{StandsFor}
use Rattle.saphyr_input.proofs.WordRuns.{joint_known, no_joint}
use Rattle.saphyr_input.proofs.input.str.text.begins_joint.Goals as goal

pub returns-then-bytes-gt1-clause-value : goal.returns-then-bytes-gt1-clause-value
returns-then-bytes-gt1-clause-value g c =
    joint_known g.C.WordSet.joint c.args.text.now c.joins.result c.utf8.text (grind (arith, nat_tests))
    (subst (λ (bs : List ℕ). (x y : ℕ) → StandsFor (slice_index bs 0) x
    → (slice_index bs 0 < 128 → StandsFor (slice_index bs 1) y) → c.joins.result ≡ g.C.WordSet.joint x y)
    c.as_bytes-bytes.ensures.value c.joins.ensures.value)

pub returns-else-bytes-gt1-clause-value : goal.returns-else-bytes-gt1-clause-value
returns-else-bytes-gt1-clause-value g c =
    let short : nat_lt 1 (length c.as_bytes-bytes.result.now) ≡ false = grind (arith, nat_tests) in
    rw short (no_joint g.C.WordSet.joint c.args.text.now c.utf8.text (grind (arith, nat_tests))
    g.met.C.WordSet.without_end)
