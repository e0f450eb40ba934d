-- Each text of YAML's grammar gives tokens of its forest.
use Rattle.yaml_laws.proofs.Common.{List, ap, arith, false, length, ℕ, ◌<◌, ◌^◌, ◌≤◌, normalized, Forest, most_open, Remaining, Kind, IsYamlText, Scans, scan, Yields, handed_out, Readers, HaveSameKinds}
use Rattle.yaml_laws.proofs.Breaks.Normal.{no_return_left, scans_too, beside, normal_shorter}
use Rattle.yaml_laws.proofs.Flow.ContentStarts.{node_content, plain_key_node_content}
use Rattle.yaml_laws.proofs.Flow.NoDashes.{node_no_dash}
use Rattle.yaml_laws.proofs.Flow.States.{ReaderPromises}
use Rattle.yaml_laws.proofs.InBlock.FlowNodes.{reads_flow, reads_key}
use Rattle.yaml_laws.proofs.InBlock.Properties.{reads_head, reads_properties}
use Rattle.yaml_laws.proofs.InBlock.ScalarTexts.{ReadsBlocks, block_content, scalar_ends}
use Rattle.yaml_laws.proofs.InBlock.Scalars as scalars
use Rattle.yaml_laws.proofs.InBlock.Statements.{ReadsLeaves}
use Rattle.yaml_laws.proofs.InBlock.Streams.{yaml_leads}

pub leaves : ReaderPromises → ReadsBlocks → (limit : ℕ) → limit < 2 ^ 63 → ReadsLeaves limit
leaves reads blocks limit short = record {
  flow = reads_flow reads limit short;
  block_scalar = scalars.reads_block_scalars blocks short (reads_head reads limit short);
  key = reads_key reads limit;
  properties = reads_properties reads limit short;
  key_content = λ node indent t. plain_key_node_content false indent node t;
  flow_content = λ node room indent in_flow t. node_content indent room node in_flow t;
  flow_dash = λ node room indent in_flow t o. node_no_dash indent room node in_flow t o;
  block_content = block_content;
  scalar_ends = scalar_ends;
}

-- Each text of YAML's grammar gives tokens of its forest. The normalized text is scanned with a limit of its own.
pub yaml_scans : Readers → ReaderPromises → ReadsBlocks → (limit other : ℕ) → other < 2 ^ 63
    → (forest : Forest) (text : List ℕ) → HaveSameKinds (scan limit text) (scan other (normalized text))
    → IsYamlText most_open forest text → length text ≤ other
    → (ts : List Kind) × Yields forest ts × Scans ts (scan limit text)
yaml_scans readers reads blocks limit other low forest text same yaml short =
    let n = normalized text in
    let clean = no_return_left (beside text) in
    let l = normal_shorter text in
    let run = yaml_leads reads other (leaves reads blocks other low) forest n clean yaml (omega (arith, l, short)) in
    let all = handed_out readers other n run.0 run.1 run.2 in (
      run.3.0,
      run.3.1,
      scans_too run.3.0 (scan limit text) (scan other n) same (ap (λ (r : Remaining). r.refusal) all, cc),
    )
