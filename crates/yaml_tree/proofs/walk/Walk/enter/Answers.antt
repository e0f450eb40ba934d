use Rattle.std.proofs.Common.{◌++◌, [], ◌∷◌, refl, ap, arith}
use Rattle.std.specs.List.{flat_map}
use Rattle.saphyr_parser.specs.Events.{SequenceEnd, MappingEnd}
use Rattle.yaml_tree.specs.Unloading.{node_events, pair_events}
use Rattle.yaml_tree.specs.Walking.{frames_events}
use Rattle.yaml_tree.proofs.Walks.{begins_alias, begins_scalar, begins_sequence, begins_mapping}
use Rattle.yaml_tree.proofs.Leads.{stands_below, sequence_below, mapping_below, sequence_path, mapping_path}
use Rattle.yaml_tree.proofs.walk.Walk.enter.Goals as goal

pub returns-in-Alias-clause-turns : goal.returns-in-Alias-clause-turns
returns-in-Alias-clause-turns c =
    let begins = begins_alias c.args.node.now _ (frames_events c.args.self.now.levels.items) c.in-Alias.is in
    (refl, omega (arith, c.args.self.now.levels.ok.0), begins.0, begins.1)

pub returns-in-Scalar-clause-turns : goal.returns-in-Scalar-clause-turns
returns-in-Scalar-clause-turns c =
    let begins = begins_scalar c.args.node.now _ _ _ _
    (frames_events c.args.self.now.levels.items) c.in-Scalar.is in
    (refl, omega (arith, c.args.self.now.levels.ok.0), begins.0, begins.1)

pub returns-in_ok-push-in-Seq-clause-turns : goal.returns-in_ok-push-in-Seq-clause-turns
returns-in_ok-push-in-Seq-clause-turns c =
    let same = ap (λ nodes. flat_map node_events nodes ++ SequenceEnd ∷ []) c.as_slice-all.ensures.value in
    let begins = begins_sequence c.args.node.now _ _ _ c.args.self.now.levels.items _ _ c.in-Seq.is same
    c.in_ok-push-in-Seq.ensures.items in
    (refl, omega (arith, c.args.self.now.levels.ok.0), begins.0, begins.1)

pub returns-in_ok-push-in-Map-clause-turns : goal.returns-in_ok-push-in-Map-clause-turns
returns-in_ok-push-in-Map-clause-turns c =
    let same = ap (λ pairs. flat_map pair_events pairs ++ MappingEnd ∷ []) c.as_slice-all-in-Map.ensures.value in
    let begins = begins_mapping c.args.node.now _ _ _ c.args.self.now.levels.items _ _ c.in-Map.is same
    c.in_ok-push-in-Map.ensures.items in
    (refl, omega (arith, c.args.self.now.levels.ok.0), begins.0, begins.1)

pub returns-in_ok-push-in-Seq-clause-below : goal.returns-in_ok-push-in-Seq-clause-below
returns-in_ok-push-in-Seq-clause-below c = sequence_below c.args.node.now _ _ _ c.as_slice-all.result
    c.args.self.now.levels.items _ c.in-Seq.is c.as_slice-all.ensures.value c.in_ok-push-in-Seq.ensures.items

pub returns-in_ok-push-in-Seq-clause-path : goal.returns-in_ok-push-in-Seq-clause-path
returns-in_ok-push-in-Seq-clause-path c =
    sequence_path c.as_slice-all.result c.args.self.now.levels.items _ c.in_ok-push-in-Seq.ensures.items

pub returns-in_ok-push-in-Map-clause-below : goal.returns-in_ok-push-in-Map-clause-below
returns-in_ok-push-in-Map-clause-below c = mapping_below c.args.node.now _ _ _ c.as_slice-all-in-Map.result
    c.args.self.now.levels.items _ c.in-Map.is c.as_slice-all-in-Map.ensures.value
    c.in_ok-push-in-Map.ensures.items

pub returns-in_ok-push-in-Map-clause-path : goal.returns-in_ok-push-in-Map-clause-path
returns-in_ok-push-in-Map-clause-path c =
    mapping_path c.as_slice-all-in-Map.result c.args.self.now.levels.items _ c.in_ok-push-in-Map.ensures.items

pub returns-in-Alias-clause-below : goal.returns-in-Alias-clause-below
returns-in-Alias-clause-below c root leads = stands_below c.args.self.now.levels.items root c.args.node.now leads

pub returns-in-Scalar-clause-below : goal.returns-in-Scalar-clause-below
returns-in-Scalar-clause-below c root leads = stands_below c.args.self.now.levels.items root c.args.node.now leads
