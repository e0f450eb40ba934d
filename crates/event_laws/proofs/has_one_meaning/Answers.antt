use Rattle.event_laws.proofs.Common.{refl, arith, most_open, scan, IsYamlText, IsShallowJson, at_start}
use Rattle.event_laws.proofs.Promises.OneMeaning.{mean_the_same}
use Rattle.event_laws.proofs.Promises.ReadsJson.{reads_each_json}
use Rattle.event_laws.proofs.Promises.ReadsYaml.{reads_yaml}
use Rattle.event_laws.proofs.has_one_meaning.Goals as goal

pub returns : goal.returns
returns c = record {
  yaml = λ text short.
      let parser = at_start (scan 4294967295 text) in
      let reads = reads_yaml c.scans_each_yaml_text.ensures 4294967295 text (omega arith)
      (c.bounds_tokens.ensures _ text) parser refl in
      mean_the_same (IsYamlText most_open) (IsYamlText most_open) 4294967295 text parser short reads reads;
  json = λ text short.
      let parser = at_start (scan 4294967295 text) in
      let reads = reads_each_json c.is_yaml_text.ensures c.scans_each_yaml_text.ensures 4294967295 text
      (omega (arith, short)) parser refl in
      mean_the_same (IsShallowJson most_open) (IsShallowJson most_open) 4294967295 text parser short reads reads;
  both = λ text short.
      let parser = at_start (scan 4294967295 text) in
      let json = reads_each_json c.is_yaml_text.ensures c.scans_each_yaml_text.ensures 4294967295 text
      (omega (arith, short)) parser refl in
      let yaml = reads_yaml c.scans_each_yaml_text.ensures 4294967295 text (omega arith)
      (c.bounds_tokens.ensures _ text) parser refl in
      mean_the_same (IsShallowJson most_open) (IsYamlText most_open) 4294967295 text parser short json yaml;
}
