-- Each reader of anchors, tags and directives takes something off the text.
use Rattle.saphyr_scalar.proofs.Common.{◌≡◌, ℕ, ◌<◌, ◌≤◌, Bool, List, length, Ok, arith, exclamation_mark, percent_sign, Marker, Cursor, pass_break}
use Rattle.std.specs.Prelude.{slice_index}
use Rattle.std.proofs.lemmas.List.{length-append}
use Rattle.saphyr_scalar.specs.Steps.Anchor.{anchor}
use Rattle.saphyr_scalar.specs.Steps.Tag.{tag}
use Rattle.saphyr_scalar.specs.Spelling.Tag.{IsTagText}
use Rattle.saphyr_scalar.specs.Steps.Directive.{directive}
use Rattle.saphyr_scalar.specs.Spelling.Directive.{ReadDirective}
use Rattle.saphyr_scalar.proofs.Properties.AnchorsRead.{spells_anchor}
use Rattle.saphyr_scalar.proofs.Properties.TagsSpelled.{spells_tag}
use Rattle.saphyr_scalar.proofs.Directives.Spelled.{spells_directive}

pub anchor_takes : (s t : Cursor) (text : List ℕ) → 0 < length s.rest → anchor s ≡ Ok (text, t)
    → length t.rest < length s.rest
anchor_takes s t text some e = grind (arith, spells_anchor, length-append)

pub tag_some : (t handle suffix : List ℕ) → IsTagText t handle suffix → 0 < length t
tag_some t handle suffix h = grind arith

pub tag_takes : (in_flow : Bool) (s t : Cursor) (handle suffix : List ℕ) → slice_index s.rest 0 ≡ exclamation_mark
    → tag in_flow s ≡ Ok (handle, suffix, t) → length t.rest < length s.rest
tag_takes in_flow s t handle suffix opening e = grind (arith, spells_tag, tag_some, length-append)

break_shorter : (s : Cursor) → length (pass_break s).rest ≤ length s.rest
break_shorter s = grind arith

pub directive_takes : (s t : Cursor) (d : ReadDirective) (end : Marker) → slice_index s.rest 0 ≡ percent_sign
    → directive s ≡ Ok (d, end, t) → length t.rest < length s.rest
directive_takes s t d end opening e = grind (arith, spells_directive, length-append, break_shorter)
