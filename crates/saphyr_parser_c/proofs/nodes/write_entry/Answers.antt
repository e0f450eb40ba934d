use Rattle.std.proofs.Common.{subst, sym, List, ℕ, Some, pos}
use Rattle.saphyr_scalar.specs.declared.scalar.position.Marker.{Marker}
use Rattle.saphyr_parser.specs.Events.{Happening}
use Rattle.yaml_tree.specs.declared.table.Content.{Content}
use Rattle.yaml_tree.specs.Tables.{TellsFirst, marker_of, store_of}
use Rattle.saphyr_parser_c.specs.Shown.{HasFields, HasNumbers, HasText, fields_of_event, fields_of_kind}
use Rattle.saphyr_parser_c.proofs.TreeFields.{scalar_fields}
use Rattle.saphyr_parser_c.proofs.nodes.write_entry.Goals as goal

pub returns-in-Scalar : goal.returns-in-Scalar
returns-in-Scalar c = λ h tells.
    let told = subst (λ (x : Content). TellsFirst (store_of c.args.table.now) x h) c.in-Scalar.is tells in
    let start = marker_of c.args.entry.start in
    let end = marker_of c.args.entry.end in
    let bare = c.bare-in-Scalar in
    let put = c.write_properties in
    subst (λ (h : Happening). HasFields (fields_of_event h) start end put.new.out) (sym told.3)
    (scalar_fields bare.result put.new.out start end told.0 c.in-Scalar.style told.1 told.2 c.lent_bytes-out.result
    c.style_code-out.result
    (subst (λ (m : Marker). HasNumbers (fields_of_kind (pos 6)) m end bare.result) c.marker-start.ensures
    (subst (λ (m : Marker). HasNumbers (fields_of_kind (pos 6)) c.marker-start.result m bare.result) c.marker-end.ensures
    bare.ensures.numbers))
    put.ensures.same c.style_code-out.ensures
    (subst (λ (text : List ℕ). HasText (Some text) c.lent_bytes-out.result) (c.text.ensures told.0 told.4)
    c.lent_bytes-out.ensures)
    (put.ensures.anchor told.1 told.2 told.5)
    (put.ensures.tag told.1 told.2 told.5 (bare.ensures.numbers.has_tag, bare.ensures.texts.1)))
