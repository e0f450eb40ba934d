use Rattle.std.proofs.Common.{◌≡◌, ◌<◌, false, inl, inr, refl, sym, ◌∙◌, arith}
use Rattle.std.specs.Prelude.{slice_index}
use Rattle.std.specs.List.{prefix_len}
use Rattle.std.specs.Str.{chars}
use Rattle.std.proofs.lemmas.Bool.{cases_lt, false≢true}
use Rattle.std.proofs.lemmas.Bool.Decides.{nat_tests}
use Rattle.saphyr_input.proofs.Ascii.{first_stands, not_in}
use Rattle.saphyr_input.proofs.Runs.{run_stops}
use Rattle.saphyr_input.proofs.WordRuns.{one_past, joint_first, neither, words_past, run_ends}
use Rattle.saphyr_input.proofs.input.str.text.strip_piece.Goals as goal

pub range_from-requires : goal.range_from-requires
range_from-requires g c =
    let h = c.if-begins_joint.ensures.ascii refl in
    λ _. (one_past c.args.text.now c.utf8.text h.0 h.1).boundary

pub returns-then-begins_joint-clause-part : goal.returns-then-begins_joint-clause-part
returns-then-begins_joint-clause-part g c =
    let h = c.if-begins_joint.ensures.ascii refl in
    rw c.range_from.ensures.value (joint_first g.C.CharSet.test g.C.WordSet.joint c.args.text.now c.utf8.text h.0 h.1
    (sym c.begins_joint.ensures.value ∙ c.if-begins_joint.true))

pub returns-then-begins_joint-clause-rest : goal.returns-then-begins_joint-clause-rest
returns-then-begins_joint-clause-rest g c =
    let h = c.if-begins_joint.ensures.ascii refl in
    rw c.range_from.ensures.value (one_past c.args.text.now c.utf8.text h.0 h.1).rest

pub returns-then-not-begins_wide-clause-none : goal.returns-then-not-begins_wide-clause-none
returns-then-not-begins_wide-clause-none g c = λ stops.
    let text = c.args.text.now in
    let less : slice_index text 0 < 128 = elim (cases_lt (slice_index text 0) 128) [
      | inl lt ↦ lt
      | inr ge ↦ absurd (false≢true (sym c.if-not-begins_wide.true ∙ c.begins_wide.ensures.1 ge))
    ] in
    neither g.C.CharSet.test g.C.WordSet.joint (chars text)
    (not_in g.C.CharSet.test (slice_index text 0) (slice_index (chars text) 0) (first_stands text c.utf8.text) stops
    less)
    (sym c.begins_joint.ensures.value ∙ c.if-begins_joint.false)

pub returns-then-count-gt0-clause-part : goal.returns-then-count-gt0-clause-part
returns-then-count-gt0-clause-part g c =
    let p = g.C.CharSet.test in
    let text = chars c.args.text.now in
    let none : prefix_len p (chars c.run-count.result.1.now) ≡ 0 = rw (
      c.run-count.ensures.rest,
      c.run-count.ensures.count,
    )
    (run_stops p _ (run_ends p text g.met.C.CharSet.without_nul)) in
    words_past p g.C.WordSet.joint c.run-count.result.0 text _ (omega (arith, none, c.run-count.ensures.count))
    c.run-count.ensures.rest

pub returns-else-count-gt0-clause-none : goal.returns-else-count-gt0-clause-none
returns-else-count-gt0-clause-none g c = λ _.
    let p = g.C.CharSet.test in
    let text = chars c.args.text.now in
    let none : c.run-count.result.0 ≡ 0 = grind (arith, nat_tests) in
    let stops : p (slice_index text 0) ≡ false = rw (sym c.run-count.ensures.count ∙ none)
    at (run_ends p text g.met.C.CharSet.without_nul) in
    neither p g.C.WordSet.joint text stops (sym c.begins_joint.ensures.value ∙ c.if-begins_joint.false)
