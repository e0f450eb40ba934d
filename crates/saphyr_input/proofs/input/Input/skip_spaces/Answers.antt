use Rattle.std.proofs.Common.{◌≡◌, ℕ, true, false, drop, refl, ap, ◌∙◌, arith}
use Rattle.std.specs.Prelude.{◌==◌}
use Rattle.std.proofs.lemmas.Bool.Decides.{nat_tests}
use Rattle.saphyr_input.proofs.Runs.{ran_more, first_shorter, one_within, most_ran, all_ran}
use Rattle.saphyr_input.proofs.input.Input.skip_spaces.Goals as goal

is_space : (c x : ℕ) → c ≡ x → c ≡ 32 → (x == 32) ≡ true
is_space c x read is = grind (arith, nat_tests)

no_space : (c x : ℕ) → c ≡ x → (c ≡ 32 → ⊥) → (x == 32) ≡ false
no_space c x read other = grind (arith, nat_tests)

pub loop-count-smaller : goal.loop-count-smaller
loop-count-smaller g c =
    first_shorter (λ x. x == 32) (g.Self.Input.rest c.loop-count.self) _ _ refl
    (is_space _ _ c.look_ch.ensures.value c.if-look_ch-ne32.false) c.look_ch.ensures.rest c.skip.ensures.rest

pub loop-count-preserved : goal.loop-count-preserved
loop-count-preserved g c = record {
  ran = ran_more (λ x. x == 32) _ (g.Self.Input.rest c.loop-count.self) _ c.loop-count.count refl
      (is_space _ _ c.look_ch.ensures.value c.if-look_ch-ne32.false)
      (c.skip.ensures.rest ∙ ap (drop 1) c.look_ch.ensures.rest) c.loop-count.invariant.ran;
  limit = one_within c.loop-count.count c.args.most c.loop-count-test.true;
}

pub returns-after-loop-count-clause-count : goal.returns-after-loop-count-clause-count
returns-after-loop-count-clause-count g c =
    most_ran (λ x. x == 32) _ _ c.loop-count.count c.args.most c.loop-count.invariant.ran c.loop-count.invariant.limit
    c.loop-count-test.false

pub returns-after-loop-count-clause-rest : goal.returns-after-loop-count-clause-rest
returns-after-loop-count-clause-rest g c = c.loop-count.invariant.ran.left

pub returns-then-look_ch-ne32-clause-count : goal.returns-then-look_ch-ne32-clause-count
returns-then-look_ch-ne32-clause-count g c =
    all_ran (λ x. x == 32) _ (g.Self.Input.rest c.loop-count.self) c.loop-count.count c.args.most
    c.loop-count.invariant.ran c.loop-count.invariant.limit
    (no_space _ _ c.look_ch.ensures.value c.if-look_ch-ne32.true)

pub returns-then-look_ch-ne32-clause-rest : goal.returns-then-look_ch-ne32-clause-rest
returns-then-look_ch-ne32-clause-rest g c = c.look_ch.ensures.rest ∙ c.loop-count.invariant.ran.left
