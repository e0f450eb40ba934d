use Rattle.std.proofs.Common.{ℕ, ◌<◌, sym, subst, arith}
use Rattle.yaml_check.specs.Helps.{BeginsContent}
use Rattle.yaml_check.proofs.LineLemmas.{content_earlier}
use Rattle.yaml_check.proofs.lines.text_line.Goals as goal
use Rattle.yaml_check.proofs.lines.text_line.Goals.{then-column, else-column}

pub loop-found-preserved : goal.loop-found-preserved
loop-found-preserved c =
    let begins : ℕ → Type 0 = BeginsContent c.args.text.now c.args.end in
    let kept = c.loop-found.invariant in
    record {
      found_before = elim c.if-column.branch [
        | then-column w ↦ subst (λ (n : ℕ). n < c.args.end) (sym w.found-is) kept.at_before
        | else-column w ↦ subst (λ (n : ℕ). n < c.args.end) (sym w.found-is) kept.found_before
      ];
      found = elim c.if-column.branch [
        | then-column w ↦ subst begins (sym w.found-is) kept.at
        | else-column w ↦ subst begins (sym w.found-is) kept.found
      ];
      at_before = omega (arith, c.in-Some.ensures.before, kept.at_before);
      at = content_earlier _ _ _ _ (omega (arith, kept.at_before)) c.in-Some.ensures.begins;
    }

pub returns-in_default-clause-begins : goal.returns-in_default-clause-begins
returns-in_default-clause-begins c =
    let begins : ℕ → Type 0 = BeginsContent c.args.text.now c.args.end in
    elim c.if-column.branch [
      | then-column w ↦ subst begins (sym w.found-is) c.loop-found.invariant.at
      | else-column w ↦ subst begins (sym w.found-is) c.loop-found.invariant.found
    ]
