use Rattle.std.proofs.Common.{◌<◌, get_or, inl, inr, sym, ◌∙◌, IsUtf8, arith, rules}
use Rattle.std.proofs.lemmas.Bool.{cases_lt, false≢true}
use Rattle.saphyr_input.proofs.Ascii.{no_ascii_run}
use Rattle.saphyr_input.proofs.Texts.{run_fits}
use Rattle.saphyr_input.proofs.input.str.text.run_here.Goals as goal

pub returns-then-not-begins_wide-clause-count : goal.returns-then-not-begins_wide-clause-count
returns-then-not-begins_wide-clause-count g c =
    let rest = c.ascii_run-ascii.result.1.now in
    let less : get_or rest 0 0 < 128 = elim (cases_lt (get_or rest 0 0) 128) [
      | inl lt ↦ lt
      | inr ge ↦ absurd (false≢true (sym c.if-not-begins_wide.true ∙ c.begins_wide.ensures.1 ge))
    ] in
    let text : IsUtf8 rest = search rules in
    let none = no_ascii_run g.C.CharSet.test rest text c.ascii_run-ascii.ensures.stops less in
    omega (arith, none, c.ascii_run-ascii.ensures.part)

pub overflow_add-result : goal.overflow_add-result
overflow_add-result g c =
    omega (
      arith,
      c.ascii_run-ascii.ensures.part,
      c.run-more.ensures.count,
      run_fits g.C.CharSet.test c.args.text.now c.utf8.text,
    )
