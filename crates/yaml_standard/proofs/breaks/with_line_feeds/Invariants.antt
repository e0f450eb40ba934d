use Rattle.std.proofs.Common.{◌≡◌, ◌++◌, length, encode_utf8_all, string_bytes}
use Rattle.std.specs.Str.{chars}
use denote.Shadow.{shadow}
use denote.Text.{Utf8}
use Rattle.saphyr_input.specs.Breaks.{normalized}
use Rattle.yaml_standard.proofs.breaks.with_line_feeds.Given as goal

abbrev pub invariant-loop-c : goal.invariant-loop-c
invariant-loop-c l = record {
  text : shadow (Utf8 l.rest);
  written : string_bytes l.copy ++ encode_utf8_all (normalized (chars l.rest))
      ≡ encode_utf8_all (normalized (chars l.fn.text));
}

abbrev pub decreases-loop-c : goal.decreases-loop-c
decreases-loop-c l = length (chars l.rest)
