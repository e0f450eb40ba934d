use Rattle.std.proofs.Common.{◌≡◌, false}
use Rattle.std.specs.Prelude.{slice_index}
use Rattle.std.specs.Str.{chars}
use denote.Shadow.{shadow}
use denote.Text.{Utf8}
use Rattle.saphyr_input.specs.Fronts.{ascii_in}
use Rattle.saphyr_input.specs.Places.{words_len}
use Rattle.saphyr_input.proofs.WordRuns.{WordsPast}
use Rattle.saphyr_input.proofs.input.str.text.words.Given as goal

abbrev pub invariant-loop-piece : goal.invariant-loop-piece
invariant-loop-piece g l = record {
  text : shadow (Utf8 l.rest);
  past : WordsPast g.C.CharSet.test g.C.WordSet.joint (chars l.fn.text) (chars l.rest) l.count;
  stops : ascii_in g.C.CharSet.test (slice_index l.rest 0) ≡ false;
}

abbrev pub decreases-loop-piece : goal.decreases-loop-piece
decreases-loop-piece g l = words_len g.C.CharSet.test g.C.WordSet.joint (chars l.rest)
