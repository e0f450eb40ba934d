use Rattle.std.proofs.Common.{◌≡◌, true, [], ◌∷◌, ◌++◌, ◌∙◌, ap, sym, rules, arith}
use Rattle.saphyr_parser.specs.Printed.{printed_bytes}
use Rattle.saphyr_parser.proofs.Printed.Written.{takes_same}
use Rattle.saphyr_parser.proofs.Printed.Lines.{line_filled}
use Rattle.saphyr_parser.proofs.printing.line.write_few.Goals as goal

pub overflow_add-end : goal.overflow_add-end
overflow_add-end g c = omega (arith, c.requires)

pub slice_bounds-line-end : goal.slice_bounds-line-end
slice_bounds-line-end g c = omega (arith, c.requires)

pub slice_bounds-line-start : goal.slice_bounds-line-start
slice_bounds-line-start g c = omega (arith, c.requires)

pub bounds-line-end : goal.bounds-line-end
bounds-line-end g c = omega (arith, c.requires)

pub overflow_add-line : goal.overflow_add-line
overflow_add-line g c = omega (arith, c.requires)

pub returns : goal.returns
returns g c =
    let front = c.args.front.now in
    let text = c.args.text.now in
    let looked : c.copies_plain.result ≡ true = search rules in
    let filled = line_filled front text _ _ _ c.copy_from_slice.ensures.after (c.copies_plain.ensures.copied looked)
    c.requires in
    let plain : printed_bytes text ≡ text = c.copies_plain.ensures.plain looked in
    takes_same _ _ _ _ _ (filled ∙ ap (λ xs. front ++ (xs ++ (10 ∷ []))) (sym plain)) c.write_all.ensures
