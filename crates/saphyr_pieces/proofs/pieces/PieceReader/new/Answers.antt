use Rattle.std.proofs.Common.{List, [], ℕ, ap, ◌++◌, ◌∙◌}
use Rattle.std.proofs.lemmas.Str.{chars-nil}
use Rattle.std.specs.Prelude.{string_bytes}
use Rattle.std.specs.Str.{chars}
use Rattle.saphyr_machine.specs.Cursor.{EventCursor}
use Rattle.saphyr_machine.specs.Views.Readers.{cursor_in}
use Rattle.saphyr_pieces.proofs.pieces.PieceReader.new.Goals as goal

pub returns-clause-start : goal.returns-clause-start
returns-clause-start c text =
    ap (λ (more : List ℕ). cursor_in (more ++ text) c.empty_reader.result) (ap chars c.new.ensures.bytes ∙ chars-nil)
    ∙ c.empty_reader.ensures.start text

pub returns-clause-waits : goal.returns-clause-waits
returns-clause-waits c =
    ap (λ (rest : List ℕ). rest ++ chars (string_bytes c.new.result)) c.empty_reader.ensures.rest
    ∙ ap chars c.new.ensures.bytes ∙ chars-nil

pub returns-clause-sound : goal.returns-clause-sound
returns-clause-sound c = record {
  source = (ap (λ (v : EventCursor). v.kept) (c.empty_reader.ensures.start []), tt);
  current = ap (λ (v : EventCursor). v.current) (c.empty_reader.ensures.start []);
  idle = tt;
}
