use Rattle.std.proofs.Common.{rules}
use Rattle.yaml_standard.proofs.Documents.{nothing_before, part_before, part_shorter, prefix_taken}
use Rattle.yaml_standard.proofs.document.behind_document_prefix.Goals as goal

pub loop-behind-init : goal.loop-behind-init
loop-behind-init c = record { text = search rules; passed = nothing_before _ }

pub loop-behind-preserved : goal.loop-behind-preserved
loop-behind-preserved c =
    record { text = search rules; passed = part_before _ _ _ c.loop-behind.invariant.passed c.in-Some.ensures }

pub loop-behind-smaller : goal.loop-behind-smaller
loop-behind-smaller c = part_shorter _ _ c.in-Some.ensures

pub returns : goal.returns
returns c = prefix_taken _ _ c.loop-behind.invariant.passed
