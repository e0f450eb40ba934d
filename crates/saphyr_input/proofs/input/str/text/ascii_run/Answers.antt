use Rattle.std.proofs.Common.{◌≡◌, rules}
use Rattle.std.specs.List.{prefix_len}
use Rattle.saphyr_input.specs.Fronts.{ascii_in}
use Rattle.saphyr_input.proofs.Ascii.{ascii_run_is}
use Rattle.saphyr_input.proofs.WordRuns.{run_ends}
use Rattle.saphyr_input.proofs.input.str.text.ascii_run.Goals as goal

pub range_from-requires : goal.range_from-requires
range_from-requires g c =
    let h = ascii_run_is g.C.CharSet.test c.args.text.now c.ascii_len-count.result c.utf8.text (search rules) in
    λ _. h.past.boundary

pub returns-clause-part : goal.returns-clause-part
returns-clause-part g c =
    let h = ascii_run_is g.C.CharSet.test c.args.text.now c.ascii_len-count.result c.utf8.text (search rules) in
    rw c.range_from.ensures.value h.goes_on

pub returns-clause-whole : goal.returns-clause-whole
returns-clause-whole g c =
    let h = ascii_run_is g.C.CharSet.test c.args.text.now c.ascii_len-count.result c.utf8.text (search rules) in h.ends

pub returns-clause-rest : goal.returns-clause-rest
returns-clause-rest g c =
    let h = ascii_run_is g.C.CharSet.test c.args.text.now c.ascii_len-count.result c.utf8.text (search rules) in
    rw c.range_from.ensures.value h.past.rest

pub returns-clause-stops : goal.returns-clause-stops
returns-clause-stops g c =
    let len : c.ascii_len-count.result ≡ prefix_len (ascii_in g.C.CharSet.test) c.args.text.now = search rules in
    rw (c.range_from.ensures.value, len)
    (run_ends (ascii_in g.C.CharSet.test) c.args.text.now g.met.C.CharSet.without_nul)
