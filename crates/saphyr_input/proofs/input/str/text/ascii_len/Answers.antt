use Rattle.std.proofs.Common.{◌∙◌, sym}
use Rattle.saphyr_input.proofs.AsciiLen.{counts_on, counts_1, counts_2, counts_3, counts_4, stops_at, first_of_4, second_of_4, third_of_4, fourth_of_4, four_fewer}
use Rattle.saphyr_input.proofs.input.str.text.ascii_len.Goals as goal

pub returns-then-not-has_ascii : goal.returns-then-not-has_ascii
returns-then-not-has_ascii g c =
    stops_at _ _ _ c.fours.invariant (sym c.has_ascii.ensures ∙ c.if-not-has_ascii.true)

pub returns-then-not-has_ascii-2 : goal.returns-then-not-has_ascii-2
returns-then-not-has_ascii-2 g c =
    stops_at _ _ _
    (counts_1 _ _ c.fours.len c.fours-test.true c.fours.invariant
    (sym c.has_ascii.ensures ∙ c.if-not-has_ascii.false))
    (sym c.has_ascii-in-fours.ensures ∙ c.if-not-has_ascii-2.true)

pub returns-then-not-has_ascii-3 : goal.returns-then-not-has_ascii-3
returns-then-not-has_ascii-3 g c =
    stops_at _ _ _
    (counts_2 _ _ c.fours.len c.fours-test.true c.fours.invariant
    (sym c.has_ascii.ensures ∙ c.if-not-has_ascii.false)
    (sym c.has_ascii-in-fours.ensures ∙ c.if-not-has_ascii-2.false))
    (sym c.has_ascii-in-fours-2.ensures ∙ c.if-not-has_ascii-3.true)

pub returns-then-not-has_ascii-4 : goal.returns-then-not-has_ascii-4
returns-then-not-has_ascii-4 g c =
    stops_at _ _ _
    (counts_3 _ _ c.fours.len c.fours-test.true c.fours.invariant
    (sym c.has_ascii.ensures ∙ c.if-not-has_ascii.false)
    (sym c.has_ascii-in-fours.ensures ∙ c.if-not-has_ascii-2.false)
    (sym c.has_ascii-in-fours-2.ensures ∙ c.if-not-has_ascii-3.false))
    (sym c.has_ascii-in-fours-3.ensures ∙ c.if-not-has_ascii-4.true)

pub bounds-bytes-len : goal.bounds-bytes-len
bounds-bytes-len g c = first_of_4 c.fours.len _ c.fours-test.true

pub bounds-bytes-len-in-fours : goal.bounds-bytes-len-in-fours
bounds-bytes-len-in-fours g c = second_of_4 c.fours.len _ c.fours-test.true

pub bounds-bytes-len-in-fours-2 : goal.bounds-bytes-len-in-fours-2
bounds-bytes-len-in-fours-2 g c = third_of_4 c.fours.len _ c.fours-test.true

pub bounds-bytes-len-in-fours-3 : goal.bounds-bytes-len-in-fours-3
bounds-bytes-len-in-fours-3 g c = fourth_of_4 c.fours.len _ c.fours-test.true

pub fours-smaller : goal.fours-smaller
fours-smaller g c = four_fewer c.fours.len _ c.fours-test.true

pub fours-preserved : goal.fours-preserved
fours-preserved g c =
    counts_4 _ _ c.fours.len c.fours-test.true c.fours.invariant
    (sym c.has_ascii.ensures ∙ c.if-not-has_ascii.false)
    (sym c.has_ascii-in-fours.ensures ∙ c.if-not-has_ascii-2.false)
    (sym c.has_ascii-in-fours-2.ensures ∙ c.if-not-has_ascii-3.false)
    (sym c.has_ascii-in-fours-3.ensures ∙ c.if-not-has_ascii-4.false)

pub ones-preserved : goal.ones-preserved
ones-preserved g c =
    counts_on _ _ _ c.ones.invariant c.ones-test.true (sym c.has_ascii-in-ones.ensures ∙ c.if-has_ascii.true)

pub returns-else-has_ascii : goal.returns-else-has_ascii
returns-else-has_ascii g c = stops_at _ _ _ c.ones.invariant (sym c.has_ascii-in-ones.ensures ∙ c.if-has_ascii.false)
