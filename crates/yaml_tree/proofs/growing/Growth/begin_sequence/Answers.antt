use Rattle.std.proofs.Common.{refl, option_map}
use Rattle.saphyr_parser.specs.Events.{Happening, SequenceStart}
use Rattle.saphyr_parser.specs.Views.Events.{resolved_tag}
use Rattle.yaml_tree.specs.declared.table.Content.{Content}
use Rattle.yaml_tree.specs.declared.table.Content.TheVariants as content
use Rattle.yaml_tree.proofs.Growths.{collection_grows}
use Rattle.yaml_tree.proofs.Stores.{ok_map}
use Rattle.yaml_tree.proofs.growing.Growth.begin_sequence.Goals as goal

pub returns : goal.returns
returns c =
    let h : Happening = SequenceStart c.args.id (option_map resolved_tag c.args.tag.now) in
    let what : Content = content.Sequence (record { first = 0; count = 0 }) c.in_ok-properties.properties in
    ok_map _ c.begin.ensures (collection_grows _ _ _ _ what h c.in_ok-properties.ensures.stores refl tt
    (c.args.id, _, refl, c.in_ok-properties.ensures.properties))
